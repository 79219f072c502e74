-- Where the walk goes next.
use Rattle.std.proofs.Common.{◌≡◌, ◌<◌, ◌≤◌, ◌+◌, ◌∙◌, ℕ, suc, zero, List, [], ◌∷◌, ◌++◌, length}
use Rattle.std.proofs.Common.{Option, Some, None, slice_get, sym, ap, subst, refl, inl, inr, arith}
use Rattle.std.proofs.Common.{Contains}
use Rattle.std.specs.Prelude.{option_and_then}
use Rattle.std.proofs.lemmas.Bool.{cases_lt}
use Rattle.std.proofs.lemmas.List.{length_push}
use Rattle.std.proofs.lemmas.List.Elements.{Contains-append_left, Contains-push}
use Rattle.std.proofs.lemmas.Option.{slice_get_within, same_Some, slice_get_past, none-some}
use Rattle.ix_rec.specs.declared.netlist.Cell.{Cell}
use Rattle.ix_rec.specs.declared.netlist.CellInstance.{CellInstance}
use Rattle.ix_rec.specs.declared.netlist.NetlistRec.{NetlistRec}
use Rattle.ix_hierarchy.specs.declared.instance.Instance.{Instance}
use Rattle.ix_hierarchy.specs.Hierarchy.{Path, inside, child, child_of, reached, instance_at}
use Rattle.ix_hierarchy.specs.Walk.{IsLess}
use Rattle.ix_hierarchy.specs.Lists.{AreInstances, IsOf}
use Rattle.ix_instances.specs.Walked.{AreListed, IsPoint, HasNoPlace}
use Rattle.ix_instances.proofs.Gets.{gets_last, gets_cases, at_contains}
use Rattle.ix_instances.proofs.Ways.{less_irrefl, less_trans, less_on, less_behind, before_first}
use Rattle.ix_instances.proofs.Ways.{before_behind, before_instances}
use Rattle.ix_instances.proofs.Reached.{reached_append, is_at}

-- into an instance that is listed
pub point_in : (design : NetlistRec) (paths : List Path) (instance place count : ℕ)
    → length paths ≡ count → (P : IsPoint design paths instance place)
    → IsPoint design (paths ++ (P.at ++ place ∷ []) ∷ []) count 0
point_in design paths instance place count many P =
    let q : Path = P.at ++ place ∷ [] in
    let n : length (paths ++ q ∷ []) ≡ length paths + 1 = length_push paths q in
    record {
      at = q;
      at_is = ap (slice_get (paths ++ q ∷ [])) (sym many) ∙ gets_last paths q;
      few = omega arith;
      before = λ i path h. elim (gets_cases paths q i path h) [
        | inl w ↦ less_trans path q (q ++ 0 ∷ []) (P.before i path w) (less_on q 0)
        | inr w ↦ subst (λ (p : Path). IsLess p (q ++ 0 ∷ [])) w.1 (less_on q 0)
      ];
      every = λ path inst is less. elim (before_first path q less) [
        | inl e ↦ subst (λ (p : Path). Contains (paths ++ q ∷ []) p) (sym e)
            (Contains-push paths q)
        | inr w ↦ Contains-append_left paths (q ∷ []) path (P.every path inst is w)
      ];
    }

pub point_top : (design : NetlistRec) → IsPoint design ([] ∷ []) 0 0
point_top design = record {
  at = [];
  at_is = refl;
  few = omega arith;
  before = λ i path h. first i path h;
  every = λ path inst is less. elim (before_first path [] less) [
    | inl e ↦ subst (λ (p : Path). Contains ([] ∷ []) p) (sym e) (at_contains ([] ∷ []) [] 0 refl)
    | inr w ↦ absurd (nothing path w)
  ];
}
  where
    first : (i : ℕ) (path : Path) → slice_get ([] ∷ []) i ≡ Some path → IsLess path (0 ∷ [])
    first zero path h = subst (λ (p : Path). IsLess p (0 ∷ [])) (same_Some _ _ h) tt
    first (suc i) path h = absurd cc

    nothing : (path : Path) → IsLess path [] → ⊥
    nothing [] h = h
    nothing (x ∷ path) h = h

child_none : (design : NetlistRec) (inst : CellInstance) (place c : ℕ)
    → HasNoPlace design inst.cell place → place ≤ c → child design inst c ≡ None
child_none design inst place c none from = by (inside design inst.cell) refl
  where
    by : (o : Option Cell) → inside design inst.cell ≡ o → child design inst c ≡ None
    by None e = ap (option_and_then (λ cell. child_of design cell c)) e
    by (Some cell) e =
        let few : length cell.insts ≤ place = none cell e in
        ap (option_and_then (λ cell. child_of design cell c)) e
        ∙ ap (option_and_then (slice_get design.inst_list))
        (slice_get_past cell.insts c (omega arith))

reached_none : (design : NetlistRec) (inst : CellInstance) (c : ℕ) (rest : Path)
    → child design inst c ≡ None → reached design inst (c ∷ rest) ≡ None
unfolding reached
reached_none design inst c rest e = ap (option_and_then (λ i. reached design i rest)) e

-- from a place that isn't there on nothing is in the instance
no_instance : (design : NetlistRec) (at : Path) (inst : CellInstance) (place c : ℕ) (rest : Path)
    (other : CellInstance) → instance_at design at ≡ Some inst → HasNoPlace design inst.cell place
    → place ≤ c → instance_at design (at ++ c ∷ rest) ≡ Some other → ⊥
no_instance design at inst place c rest other is none from h =
    none-some other (sym (reached_append design design.top_inst at (c ∷ rest)
    ∙ ap (option_and_then (λ i. reached design i (c ∷ rest))) is
    ∙ reached_none design inst c rest (child_none design inst place c none from)) ∙ h)

at_end : (design : NetlistRec) (all : List Instance) (paths : List Path) (nets : ℕ)
    (instance place : ℕ) (one : Instance) → AreListed design all paths nets
    → (P : IsPoint design paths instance place) → slice_get all instance ≡ Some one
    → HasNoPlace design one.declaration place
    → (c : ℕ) (rest : Path) (other : CellInstance) → place ≤ c
    → instance_at design (P.at ++ c ∷ rest) ≡ Some other → ⊥
at_end design all paths nets instance place one L P is none c rest other from h =
    let there = is_at design paths P.at one (L.each instance P.at one P.at_is is) in
    no_instance design P.at there.0 place c rest other there.1
    (subst (λ (d : ℕ). HasNoPlace design d place) (sym there.2) none) from h

-- the path of the instance that another is in
pub parent_of : (design : NetlistRec) (all : List Instance) (paths : List Path) (nets : ℕ)
    (instance : ℕ) (at : Path) (one : Instance) → AreListed design all paths nets → 0 < instance
    → slice_get paths instance ≡ Some at → slice_get all instance ≡ Some one
    → (parent : Path) × (slice_get paths one.parent ≡ Some parent)
    × (at ≡ parent ++ one.place ∷ [])
parent_of design all paths nets instance at one L some at_is is =
    by (L.each instance at one at_is is)
  where
    by : IsOf design paths at one → (parent : Path) × (slice_get paths one.parent ≡ Some parent)
        × (at ≡ parent ++ one.place ∷ [])
    by (inl w) = absurd (less_irrefl [] (subst (λ (p : Path). IsLess [] p) w.0
        (L.rise 0 instance [] at some L.top at_is)))
    by (inr (parent, cell, inst, up, below, in_cell, number, in_list, declared)) =
        (parent, up, below)

-- behind an instance that has been gone through
pub point_behind : (design : NetlistRec) (all : List Instance) (paths : List Path) (nets : ℕ)
    (instance place : ℕ) (one : Instance) → AreListed design all paths nets
    → IsPoint design paths instance place → 0 < instance → slice_get all instance ≡ Some one
    → HasNoPlace design one.declaration place
    → IsPoint design paths one.parent (one.place + 1)
point_behind design all paths nets instance place one L P some is none =
    let up = parent_of design all paths nets instance P.at one L some P.at_is is in
    let before = L.parents instance one some is in
    let lower = before.1 in
    let m = L.many in
    let within : instance < length all = slice_get_within all instance one is in
    record {
      at = up.0;
      at_is = up.1;
      few = omega arith;
      before = λ i path h. less_trans path ((up.0 ++ one.place ∷ []) ++ place ∷ [])
          (up.0 ++ (one.place + 1) ∷ [])
          (subst (λ (p : Path). IsLess path (p ++ place ∷ [])) up.2 (P.before i path h))
          (less_behind up.0 one.place place);
      every = λ path inst there less. elim (before_behind path up.0 one.place place less) [
        | inl w ↦ P.every path inst there
            (subst (λ (p : Path). IsLess path (p ++ place ∷ [])) (sym up.2) w)
        | inr w ↦ absurd (at_end design all paths nets instance place one L P is none w.0 w.1 inst
            w.2 (ap (λ (p : Path). instance_at design (p ++ w.0 ∷ w.1)) up.2
            ∙ ap (instance_at design) (sym w.3) ∙ there))
      ];
    }

-- behind the top all are listed
pub all_listed : (design : NetlistRec) (all : List Instance) (paths : List Path) (nets : ℕ)
    (instance place : ℕ) (one : Instance) → AreListed design all paths nets
    → IsPoint design paths instance place → instance ≡ 0 → slice_get all instance ≡ Some one
    → HasNoPlace design one.declaration place → AreInstances design all paths nets
all_listed design all paths nets instance place one L P top_is is none = record {
  many = L.many;
  top = L.top;
  each = L.each;
  parents = λ i other some h. (L.parents i other some h).0;
  rise = λ i j a b less h k. before_instances a b (L.rise i j a b less h k);
  every = λ path inst there. each_path path inst there;
  first_at = L.first_at;
  nets_next = L.nets_next;
  nets_end = L.nets_end;
}
  where
    at_is : P.at ≡ []
    at_is = same_Some P.at [] (sym P.at_is ∙ ap (slice_get paths) top_is ∙ L.top)

    each_path : (path : Path) (inst : CellInstance) → instance_at design path ≡ Some inst
        → Contains paths path
    each_path [] inst there = at_contains paths [] 0 L.top
    each_path (c ∷ rest) inst there = elim (cases_lt c place) [
      | inl w ↦ P.every (c ∷ rest) inst there
          (subst (λ (p : Path). IsLess (c ∷ rest) (p ++ place ∷ [])) (sym at_is) (inl w))
      | inr w ↦ absurd (at_end design all paths nets instance place one L P is none c rest inst w
          (ap (λ (p : Path). instance_at design (p ++ c ∷ rest)) at_is ∙ there))
    ]
