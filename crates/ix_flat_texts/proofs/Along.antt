-- Paths with one more step.
use Rattle.std.proofs.Common.{◌≡◌, ap, refl, sym, ◌∙◌, ℕ, List, [], ◌∷◌, ◌++◌, map}
use Rattle.std.proofs.Common.{slice_get, slice_index_or, unwrap_or, Option, Some, None}
use Rattle.std.specs.Option.{option_and_then, option_map}
use Rattle.std.proofs.lemmas.Option.{none-some, same_Some, option_and_then_some}
use Rattle.std.proofs.lemmas.List.{map-append}
use Rattle.ix_message.specs.Shape.{Text}
use Rattle.ix_rec.specs.declared.netlist.Cell.{Cell}
use Rattle.ix_rec.specs.declared.netlist.CellInstance.{CellInstance}
use Rattle.ix_rec.specs.declared.netlist.NetlistRec.{NetlistRec}
use Rattle.ix_hierarchy.specs.Hierarchy.{Path, along, reached, child, child_of, inside, inside_at}
use Rattle.ix_hierarchy.specs.Hierarchy.{instance_at, names_along}

-- what is reached, and what stands on the way
pub record IsAlong (design : NetlistRec) (from : CellInstance) (path : Path)
    (insts : List CellInstance) (at : CellInstance) : Type 0 where
  pub are : along design from path ≡ Some insts
  pub is : reached design from path ≡ Some at

-- what is reached has a way
pub has_way : (design : NetlistRec) (from : CellInstance) (path : Path) (at : CellInstance)
    → reached design from path ≡ Some at
    → (insts : List CellInstance) × (along design from path ≡ Some insts)
unfolding along reached
has_way design from [] at h = ([], refl)
has_way design from (place ∷ path) at h = by (child design from place) h (λ next. has_way design next path)
  where
    by : (o : Option CellInstance)
        → option_and_then (λ inst. reached design inst path) o ≡ Some at
        → ((next end : CellInstance) → reached design next path ≡ Some end
        → (insts : List CellInstance) × (along design next path ≡ Some insts))
        → (insts : List CellInstance) × (option_and_then
        (λ inst. option_map (λ rest. inst ∷ rest) (along design inst path)) o ≡ Some insts)
    by None e again = absurd (none-some at e)
    by (Some inst) e again =
        let rest = again inst at e in
        (inst ∷ rest.0, ap (option_map (λ rest. inst ∷ rest)) rest.1)

mapped : {A B : Type 0} (f : A → B) (o : Option A) (y : B) → option_map f o ≡ Some y
    → (x : A) × (o ≡ Some x) × (f x ≡ y)
mapped f None y e = absurd (none-some y e)
mapped f (Some x) y e = (x, refl, same_Some (f x) y e)

pub one_step : (design : NetlistRec) (from : CellInstance) (path : Path) (place : ℕ)
    (insts : List CellInstance) (at inst : CellInstance) → IsAlong design from path insts at
    → child design at place ≡ Some inst
    → IsAlong design from (path ++ place ∷ []) (insts ++ inst ∷ []) inst
unfolding along reached
one_step design from [] place insts at inst h c =
    let same : from ≡ at = same_Some from at h.is in
    let none : [] ≡ insts = same_Some [] insts h.are in
    let here : child design from place ≡ Some inst = ap (λ f. child design f place) same ∙ c in
    record {
      are = ap (option_and_then (λ i. option_map (λ rest. i ∷ rest) (along design i []))) here
          ∙ ap (λ is. Some (is ++ inst ∷ [])) none;
      is = ap (option_and_then (λ i. reached design i [])) here;
    }
one_step design from (step ∷ path) place insts at inst h c =
    let both = by (child design from step) h.are h.is
    (λ next. one_step design next path place) in
    record { are = both.0; is = both.1 }
  where
    by : (o : Option CellInstance)
        → option_and_then (λ i. option_map (λ rest. i ∷ rest) (along design i path)) o ≡ Some insts
        → option_and_then (λ i. reached design i path) o ≡ Some at
        → ((next : CellInstance) (is : List CellInstance) (a e : CellInstance)
        → IsAlong design next path is a → child design a place ≡ Some e
        → IsAlong design next (path ++ place ∷ []) (is ++ e ∷ []) e)
        → (option_and_then (λ i. option_map (λ rest. i ∷ rest)
        (along design i (path ++ place ∷ []))) o ≡ Some (insts ++ inst ∷ []))
        × (option_and_then (λ i. reached design i (path ++ place ∷ [])) o ≡ Some inst)
    by None e r again = absurd (none-some insts e)
    by (Some next) e r again =
        let m = mapped (λ (rest : List CellInstance). next ∷ rest) (along design next path)
        insts e in
        let more = again next m.0 at inst (record { are = m.1; is = r }) c in (
          ap (option_map (λ rest. next ∷ rest)) more.are ∙ ap (λ is. Some (is ++ inst ∷ [])) m.2,
          more.is,
        )

-- the names on a path with one more step
pub names_next : (names : List Text) (design : NetlistRec) (parent : Path) (place : ℕ)
    (cell : Cell) (number : ℕ) (inst : CellInstance) → inside_at design parent ≡ Some cell
    → slice_get cell.insts place ≡ Some number → slice_get design.inst_list number ≡ Some inst
    → names_along names design (parent ++ place ∷ [])
    ≡ names_along names design parent ++ slice_index_or names inst.name [] ∷ []
names_next names design parent place cell number inst i n e =
    option_and_then_some (λ (at : CellInstance). inside design at.cell) (instance_at design parent)
    cell i (λ at r within.
    let way = has_way design design.top_inst parent at r in
    let here : child design at place ≡ Some inst =
    ap (option_and_then (λ c. child_of design c place)) within
    ∙ ap (option_and_then (slice_get design.inst_list)) n ∙ e in
    let next = one_step design design.top_inst parent place way.0 at inst
    (record { are = way.1; is = r }) here in
    ap (λ o. map (λ (one : CellInstance). slice_index_or names one.name []) (unwrap_or o []))
    next.are
    ∙ map-append (λ (one : CellInstance). slice_index_or names one.name []) way.0 (inst ∷ [])
    ∙ ap (λ o. map (λ (one : CellInstance). slice_index_or names one.name []) (unwrap_or o [])
    ++ slice_index_or names inst.name [] ∷ []) (sym way.1))
