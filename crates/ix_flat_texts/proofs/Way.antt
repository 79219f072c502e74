-- The names of the instances on a way, from their numbers.
use Rattle.std.proofs.Common.{◌≡◌, ◌+◌, ap, refl, sym, ◌∙◌, ℕ, zero, suc, List, [], ◌∷◌}
use Rattle.std.proofs.Common.{◌++◌, slice_get, slice_index_or, Option, Some, None, codes, map}
use Rattle.std.proofs.Common.{take, unwrap_or, nat_eq, append-nil}
use Rattle.std.proofs.lemmas.Option.{none-some, same_Some, slice_get_within, get_or_from_slice_get}
use Rattle.std.proofs.Math.Dec.{eqb-suc-zero}
use Rattle.std.proofs.lemmas.List.{map_more}
use Rattle.ix_message.specs.Shape.{Text}
use Rattle.ix_rec.specs.declared.netlist.CellInstance.{CellInstance}
use Rattle.ix_rec.specs.declared.netlist.NetlistRec.{NetlistRec}
use Rattle.ix_hierarchy.specs.Hierarchy.{Path, flat_name, joined, names_along}
use Rattle.ix_flat_texts.specs.Ways.{IsWayTo, behind}
use Rattle.ix_flat_texts.proofs.Joins.{joined_more}

abbrev pub name_of : List Text → Option CellInstance → Text
name_of names None = []
name_of names (Some inst) = slice_index_or names inst.name []

-- by the number in the netlist's list
abbrev pub name_in : List Text → NetlistRec → ℕ → Text
name_in names design number = name_of names (slice_get design.inst_list number)

-- all numbers on a way are there
pub there : (design : NetlistRec) (path : Path) (way : List ℕ) (i number : ℕ)
    → IsWayTo design path way → slice_get way i ≡ Some number
    → (inst : CellInstance) × (slice_get design.inst_list number ≡ Some inst)
there design path way i number is at = by way is.insts i is.numbers at
  where
    by : (ns : List ℕ) (insts : List CellInstance) (k : ℕ)
        → map (slice_get design.inst_list) ns ≡ map (λ inst. Some inst) insts
        → slice_get ns k ≡ Some number
        → (inst : CellInstance) × (slice_get design.inst_list number ≡ Some inst)
    by [] insts k e h = absurd (none-some number h)
    by (n ∷ ns) [] k e h = absurd (cc)
    by (n ∷ ns) (inst ∷ insts) zero e h =
        let here : slice_get design.inst_list n ≡ Some inst = cc in
        (inst, ap (slice_get design.inst_list) (sym (same_Some n number h)) ∙ here)
    by (n ∷ ns) (inst ∷ insts) (suc k) e h =
        let rest : map (slice_get design.inst_list) ns ≡ map (λ i. Some i) insts = cc in
        by ns insts k rest h

pub all_named : (names : List Text) (design : NetlistRec) (path : Path) (way : List ℕ)
    → IsWayTo design path way
    → joined (map (name_in names design) way) ≡ flat_name names design path []
all_named names design path way is =
    ap joined (by way is.insts is.numbers
    ∙ ap (λ o. map (λ (inst : CellInstance). slice_index_or names inst.name []) (unwrap_or o []))
    (sym is.are_along) ∙ sym (append-nil (names_along names design path)))
  where
    by : (ns : List ℕ) (insts : List CellInstance)
        → map (slice_get design.inst_list) ns ≡ map (λ inst. Some inst) insts
        → map (name_in names design) ns ≡ map (λ inst. slice_index_or names inst.name []) insts
    by [] [] e = refl
    by [] (inst ∷ insts) e = absurd (cc)
    by (n ∷ ns) [] e = absurd (cc)
    by (n ∷ ns) (inst ∷ insts) e =
        let here : slice_get design.inst_list n ≡ Some inst = cc in
        let rest : map (slice_get design.inst_list) ns ≡ map (λ i. Some i) insts = cc in
        ap (λ o. name_of names o ∷ map (name_in names design) ns) here
        ∙ ap (λ ts. slice_index_or names inst.name [] ∷ ts) (by ns insts rest)

-- one more name
pub way_next : (names : List Text) (design : NetlistRec) (way : List ℕ) (i number : ℕ)
    (inst : CellInstance) → slice_get way i ≡ Some number
    → slice_get design.inst_list number ≡ Some inst
    → joined (map (name_in names design) (take (i + 1) way))
    ≡ (behind (nat_eq i 0) (joined (map (name_in names design) (take i way)))
    (slice_index_or names inst.name []))
way_next names design [] i number inst at is = absurd (none-some number at)
way_next names design (n ∷ ns) zero number inst at is =
    ap (name_in names design) (same_Some n number at) ∙ ap (name_of names) is
way_next names design (n ∷ ns) (suc k) number inst at is =
    let f : ℕ → Text = name_in names design in
    let more : map f (take (suc k + 1) (n ∷ ns)) ≡ map f (take (suc k) (n ∷ ns)) ++ f number ∷ [] =
    map_more f (n ∷ ns) (suc k) number (slice_get_within (n ∷ ns) (suc k) number at)
    ∙ ap (λ m. map f (take (suc k) (n ∷ ns)) ++ f m ∷ [])
    (get_or_from_slice_get (n ∷ ns) (suc k) number number at) in
    ap joined more ∙ joined_more (f n) (map f (take k ns)) (f number)
    ∙ ap (λ o. joined (map f (take (suc k) (n ∷ ns))) ++ codes "/" ++ name_of names o) is
    ∙ ap (λ b. behind b (joined (map f (take (suc k) (n ∷ ns)))) (slice_index_or names inst.name []))
    (sym (eqb-suc-zero k))
