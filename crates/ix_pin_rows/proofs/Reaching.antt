-- Instances are of declarations that the top reaches.
use Rattle.std.proofs.Common.{◌≡◌, ◌<◌, ◌≤◌, ap, refl, sym, subst, ◌∙◌, ℕ, List, [], ◌∷◌, ◌++◌, inl, inr}
use Rattle.std.proofs.Common.{Option, Some, None, slice_get, arith, nat_eq, length, get_or}
use Rattle.std.proofs.Common.{cond, nat_lt}
use Rattle.std.specs.Option.{option_and_then}
use Rattle.std.proofs.Common.{zero, suc}
use Rattle.std.specs.List.{AllByRecursion}
use Rattle.std.specs.List.{position_or_len}
use Rattle.std.proofs.lemmas.Bool.{eqb-true}
use Rattle.std.proofs.lemmas.Bool.Decides.{nat_tests}
use Rattle.std.proofs.lemmas.List.Folds.{find_at}
use Rattle.std.proofs.lemmas.List.Quantifiers.{position-Some}
use Rattle.std.proofs.lemmas.Option.{none-some, same_Some, option_and_then_some, slice_get-get_or}
use Rattle.std.proofs.lemmas.Option.{slice_get_past, cond_some, get_or_from_slice_get, slice_get_within}
use Rattle.ix_rec.specs.declared.netlist.Cell.{Cell}
use Rattle.ix_rec.specs.declared.netlist.CellInstance.{CellInstance}
use Rattle.ix_rec.specs.declared.netlist.NetlistRec.{NetlistRec}
use Rattle.ix_hierarchy.specs.declared.instance.Instance.{Instance}
use Rattle.ix_hierarchy.specs.Hierarchy.{Path, child, child_of, inside, instance_at}
use Rattle.ix_hierarchy.specs.Hierarchy.{reached}
use Rattle.ix_hierarchy.specs.Fits.{InstanceFits, NetlistFits}
use Rattle.ix_hierarchy.specs.Broken.{Contains, Reaches}
use Rattle.ix_hierarchy.specs.Lists.{AreInstances, first_cell}

-- the inside of a declaration is its first cell
pub first_some : (design : NetlistRec) (declaration place : ℕ)
    → first_cell design declaration ≡ Some place
    → inside design declaration ≡ slice_get design.cell_list place
first_some design declaration place h =
    find_at (λ cell. nat_eq cell.index declaration) design.cell_list
    ∙ ap (slice_get design.cell_list) (cond_some _ _ _ h).1

not_below : (k n : ℕ) → cond (nat_lt k n) (Some k) None ≡ None → n ≤ k
not_below k n e = grind (arith, nat_tests)

pub first_none : (design : NetlistRec) (declaration : ℕ) → first_cell design declaration ≡ None
    → inside design declaration ≡ None
first_none design declaration h =
    find_at (λ cell. nat_eq cell.index declaration) design.cell_list
    ∙ slice_get_past design.cell_list _
    (not_below (position_or_len (λ cell. nat_eq cell.index declaration) design.cell_list)
    (length design.cell_list) h)

-- where an inside stands
pub record IsInside (design : NetlistRec) (declaration : ℕ) (cell : Cell) : Type 0 where
  pub place : ℕ
  pub first : first_cell design declaration ≡ Some place
  pub cell_is : slice_get design.cell_list place ≡ Some cell
  pub of_it : cell.index ≡ declaration

pub is_inside : (design : NetlistRec) (declaration : ℕ) (cell : Cell)
    → inside design declaration ≡ Some cell → IsInside design declaration cell
is_inside design declaration cell h = by (first_cell design declaration) refl
  where
    by : (o : Option ℕ) → first_cell design declaration ≡ o → IsInside design declaration cell
    by None e = absurd (none-some cell (sym (first_none design declaration e) ∙ h))
    by (Some place) e =
        let at : slice_get design.cell_list place ≡ Some cell =
        sym (first_some design declaration place e) ∙ h in
        let passes = position-Some (λ (c : Cell). nat_eq c.index declaration) design.cell_list place
        cell e in
        record {
          place = place;
          first = e;
          cell_is = at;
          of_it = eqb-true cell.index declaration
              (ap (λ (c : Cell). nat_eq c.index declaration)
              (sym (get_or_from_slice_get design.cell_list place cell cell at)) ∙ passes.1);
        }

-- a child's declaration is contained
contained : (design : NetlistRec) (from next : CellInstance) (place : ℕ)
    → child design from place ≡ Some next → Contains design from.cell next.cell
contained design from next place h =
    option_and_then_some (λ (cell : Cell). child_of design cell place) (inside design from.cell) next
    h (λ cell i c.
    option_and_then_some (slice_get design.inst_list) (slice_get cell.insts place) next c
    (λ number n t.
    let there = is_inside design from.cell cell i in
    record {
      place = there.place;
      cell = cell;
      cell_is = there.cell_is;
      of_outer = there.of_it;
      position = place;
      instance = number;
      has = n;
      inst = next;
      inst_is = t;
      of_inner = refl;
    }))

reaches_from : (design : NetlistRec) (from : CellInstance) (path : Path) (inst : CellInstance)
    → reached design from path ≡ Some inst → Reaches design from.cell inst.cell
unfolding reached
reaches_from design from [] inst h =
    ([], ap (λ (i : CellInstance). i.cell) (same_Some from inst h))
reaches_from design from (place ∷ path) inst h =
    option_and_then_some (λ (next : CellInstance). reached design next path)
    (child design from place) inst h (λ next c rest.
    let more = reaches_from design next path inst rest in
    (next.cell ∷ more.0, (contained design from next place c, more.1)))

pub is_reached : (design : NetlistRec) (path : Path) (inst : CellInstance)
    → instance_at design path ≡ Some inst → Reaches design design.top_inst.cell inst.cell
is_reached design path inst h = reaches_from design design.top_inst path inst h

reached_next : (design : NetlistRec) (from : CellInstance) (path : Path) (place : ℕ)
    (at inst : CellInstance) → reached design from path ≡ Some at
    → child design at place ≡ Some inst → reached design from (path ++ place ∷ []) ≡ Some inst
unfolding reached
reached_next design from [] place at inst h c =
    let same : from ≡ at = same_Some from at h in
    ap (option_and_then (λ i. reached design i []))
    (ap (λ f. child design f place) same ∙ c)
reached_next design from (step ∷ path) place at inst h c =
    by (child design from step) h (λ next. reached_next design next path place at inst)
  where
    by : (o : Option CellInstance) → option_and_then (λ i. reached design i path) o ≡ Some at
        → ((next : CellInstance) → reached design next path ≡ Some at
        → child design at place ≡ Some inst → reached design next (path ++ place ∷ []) ≡ Some inst)
        → option_and_then (λ i. reached design i (path ++ place ∷ [])) o ≡ Some inst
    by None e again = absurd (none-some at e)
    by (Some next) e again = again next e c

-- an instance of the list stands at its path
pub listed_reached : (design : NetlistRec) (all : List Instance) (paths : List Path)
    (nets i : ℕ) (path : Path) (one : Instance) → AreInstances design all paths nets
    → slice_get paths i ≡ Some path → slice_get all i ≡ Some one
    → Reaches design design.top_inst.cell one.declaration
listed_reached design all paths nets i path one are at is =
    elim (are.each i path one at is) [
      | inl top ↦ ([], sym top.4)
      | inr below ↦ option_and_then_some (λ (up : CellInstance). inside design up.cell)
          (instance_at design below.0) below.1 below.5 (λ up r within.
          let here : child design up one.place ≡ Some below.2 =
          ap (option_and_then (λ c. child_of design c one.place)) within
          ∙ ap (option_and_then (slice_get design.inst_list)) below.6 ∙ below.7 in
          subst (Reaches design design.top_inst.cell) below.8
          (is_reached design (below.0 ++ one.place ∷ []) below.2
          (reached_next design design.top_inst below.0 one.place up below.2 r here)))
    ]

at_place : {A : Type 0} (P : A → Type 0) (xs : List A) (i : ℕ) (x : A) → AllByRecursion P xs
    → slice_get xs i ≡ Some x → P x
at_place P [] i x all h = absurd (none-some x h)
at_place P (y ∷ ys) zero x all h = subst P (same_Some y x h) all.0
at_place P (y ∷ ys) (suc i) x all h = at_place P ys i x all.1 h

-- the declaration of each instance is there
pub declared : (names : ℕ) (design : NetlistRec) (all : List Instance) (paths : List Path)
    (nets i : ℕ) (one : Instance) → NetlistFits names design → AreInstances design all paths nets
    → slice_get all i ≡ Some one → one.declaration < length design.cell_decls
declared names design all paths nets i one fits are is =
    let many : length paths ≡ length all = are.many in
    let there : i < length all = slice_get_within all i one is in
    let path_is : slice_get paths i ≡ Some (get_or paths i []) =
    slice_get-get_or paths i [] (omega arith) in
    elim (are.each i (get_or paths i []) one path_is is) [
      | inl top ↦ subst (λ d. d < length design.cell_decls) (sym top.4) fits.top.cell
      | inr below ↦ subst (λ d. d < length design.cell_decls) below.8
          (at_place (InstanceFits names design) design.inst_list one.number below.2 fits.insts
          below.7).cell
    ]
