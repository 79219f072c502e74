-- What stands at paths, and the cells of declarations.
use Rattle.std.proofs.Common.{◌≡◌, ◌<◌, ◌+◌, ap, refl, sym, subst, ◌∙◌, ℕ, zero, suc, List, [], ◌∷◌}
use Rattle.std.proofs.Common.{◌++◌, slice_get, Option, Some, None, arith, Bool, true, false, nat_eq}
use Rattle.std.proofs.Common.{length, cond, get_or, inl, inr, not, nat_lt, ◌≤◌}
use Rattle.std.proofs.lemmas.Bool.{lt-ltb, le-ltb, ltb-true, ltb-false}
use Rattle.std.specs.List.{AllByRecursion, find, position, position_or_len}
use Rattle.std.specs.Option.{option_and_then, option_map}
use Rattle.std.proofs.lemmas.Option.{none-some, same_Some, option_and_then_some, slice_get-get_or}
use Rattle.std.proofs.lemmas.List.Quantifiers.{position-Some}
use Rattle.ix_rec.specs.declared.netlist.Cell.{Cell}
use Rattle.ix_rec.specs.declared.netlist.CellInstance.{CellInstance}
use Rattle.ix_rec.specs.declared.netlist.NetlistRec.{NetlistRec}
use Rattle.ix_hierarchy.specs.declared.instance.Instance.{Instance}
use Rattle.ix_hierarchy.specs.Hierarchy.{Path, child, child_of, inside, instance_at}
use Rattle.ix_hierarchy.specs.Hierarchy.{reached}
use Rattle.ix_hierarchy.specs.Lists.{AreInstances, first_cell}

-- what holds of all items holds of each
pub at_place : {A : Type 0} (P : A → Type 0) (xs : List A) (i : ℕ) (x : A) → AllByRecursion P xs
    → slice_get xs i ≡ Some x → P x
at_place P [] i x all h = absurd (none-some x h)
at_place P (y ∷ ys) zero x all h = subst P (same_Some y x h) all.0
at_place P (y ∷ ys) (suc i) x all h = at_place P ys i x all.1 h

one_less : (m n : ℕ) → nat_lt (1 + m) (suc n) ≡ nat_lt m n
one_less m n = by (nat_lt m n) refl
  where
    by : (b : Bool) → nat_lt m n ≡ b → nat_lt (1 + m) (suc n) ≡ b
    by true h = let lt : m < n = ltb-true m n h in lt-ltb (1 + m) (suc n) (omega arith)
    by false h = let le : n ≤ m = ltb-false m n h in le-ltb (1 + m) (suc n) (omega arith)

position_next : {X : Type 0} (p : X → Bool) (x : X) (xs : List X) → position p (x ∷ xs)
    ≡ cond (p x) (Some 0) (option_map (λ n. n + 1) (position p xs))
position_next p x xs = by (p x)
  where
    shifted : (m : ℕ) (b : Bool)
        → cond b (Some (1 + m)) None ≡ option_map (λ n. n + 1) (cond b (Some m) None)
    shifted m true = ap Some (omega arith)
    shifted m false = refl

    by : (b : Bool) → cond (nat_lt (cond (not b) (1 + position_or_len p xs) 0) (suc (length xs)))
        (Some (cond (not b) (1 + position_or_len p xs) 0)) None
        ≡ cond b (Some 0) (option_map (λ n. n + 1) (position p xs))
    by true = ap (λ b. cond b (Some 0) None) (lt-ltb 0 (suc (length xs)) (omega arith))
    by false =
        ap (λ b. cond b (Some (1 + position_or_len p xs)) None)
        (one_less (position_or_len p xs) (length xs))
        ∙ shifted (position_or_len p xs) (nat_lt (position_or_len p xs) (length xs))

-- what is found is what stands at the first place
pub find_place : {X : Type 0} (p : X → Bool) (xs : List X)
    → find p xs ≡ option_and_then (slice_get xs) (position p xs)
find_place p [] = refl
find_place p (x ∷ xs) =
    by (p x) (find_place p xs)
    ∙ ap (option_and_then (slice_get (x ∷ xs))) (sym (position_next p x xs))
  where
    next : (o : Option ℕ) → option_and_then (slice_get xs) o
        ≡ option_and_then (slice_get (x ∷ xs)) (option_map (λ n. n + 1) o)
    next None = refl
    next (Some n) = ap (slice_get (x ∷ xs)) (let e : suc n ≡ n + 1 = omega arith in e)

    by : (b : Bool) → find p xs ≡ option_and_then (slice_get xs) (position p xs)
        → cond b (Some x) (find p xs) ≡ option_and_then (slice_get (x ∷ xs))
        (cond b (Some 0) (option_map (λ n. n + 1) (position p xs)))
    by true h = refl
    by false h = h ∙ next (position p xs)

-- one more step
pub reached_next : (design : NetlistRec) (from : CellInstance) (path : Path) (place : ℕ)
    (at inst : CellInstance) → reached design from path ≡ Some at
    → child design at place ≡ Some inst → reached design from (path ++ place ∷ []) ≡ Some inst
unfolding reached
reached_next design from [] place at inst h c =
    let same : from ≡ at = same_Some from at h in
    ap (option_and_then (λ i. reached design i []))
    (ap (λ f. child design f place) same ∙ c)
reached_next design from (step ∷ path) place at inst h c =
    by (child design from step) h (λ next. reached_next design next path place at inst)
  where
    by : (o : Option CellInstance) → option_and_then (λ i. reached design i path) o ≡ Some at
        → ((next : CellInstance) → reached design next path ≡ Some at
        → child design at place ≡ Some inst → reached design next (path ++ place ∷ []) ≡ Some inst)
        → option_and_then (λ i. reached design i (path ++ place ∷ [])) o ≡ Some inst
    by None e again = absurd (none-some at e)
    by (Some next) e again = again next e c

-- an instance of the list stands at its path
pub record IsPlaced (design : NetlistRec) (path : Path) (one : Instance) : Type 0 where
  pub inst : CellInstance
  pub at_path : instance_at design path ≡ Some inst
  pub of_it : inst.cell ≡ one.declaration

pub is_placed : (design : NetlistRec) (all : List Instance) (paths : List Path) (nets i : ℕ)
    (path : Path) (one : Instance) → AreInstances design all paths nets
    → slice_get paths i ≡ Some path → slice_get all i ≡ Some one → IsPlaced design path one
unfolding reached
is_placed design all paths nets i path one are at is =
    elim (are.each i path one at is) [
      | inl top ↦ record {
        inst = design.top_inst;
        at_path = ap (reached design design.top_inst) top.0;
        of_it = sym top.4;
      }
      | inr below ↦ option_and_then_some (λ (up : CellInstance). inside design up.cell)
          (instance_at design below.0) below.1 below.5 (λ up r within.
          let here : child design up one.place ≡ Some below.2 =
          ap (option_and_then (λ c. child_of design c one.place)) within
          ∙ ap (option_and_then (slice_get design.inst_list)) below.6 ∙ below.7 in
          record {
            inst = below.2;
            at_path = ap (reached design design.top_inst) below.4
                ∙ reached_next design design.top_inst below.0 one.place up below.2 r here;
            of_it = below.8;
          })
    ]

-- only the top is at the empty path
pub not_top : (design : NetlistRec) (all : List Instance) (paths : List Path) (nets i : ℕ)
    → AreInstances design all paths nets → 0 < i → slice_get paths i ≡ Some [] → ⊥
not_top design all paths nets i are lt at =
    elim (are.rise 0 i [] [] lt are.top at) [
      | inl h ↦ absurd (omega arith)
      | inr h ↦ absurd h.1
    ]

-- the inside of a declaration by the place of its first cell
pub inside_there : (design : NetlistRec) (declaration place : ℕ)
    → first_cell design declaration ≡ Some place
    → (cell : Cell) × (slice_get design.cell_list place ≡ Some cell)
    × (inside design declaration ≡ Some cell)
inside_there design declaration place h =
    let cell : Cell = get_or design.cell_list place record { index = 0; insts = []; nets = [] } in
    let is : slice_get design.cell_list place ≡ Some cell =
    slice_get-get_or design.cell_list place _ (position-Some (λ (c : Cell). nat_eq c.index
    declaration) design.cell_list place record { index = 0; insts = []; nets = [] } h).0 in (
      cell,
      is,
      find_place (λ (c : Cell). nat_eq c.index declaration) design.cell_list
          ∙ ap (option_and_then (slice_get design.cell_list)) h ∙ is,
    )

pub inside_none : (design : NetlistRec) (declaration : ℕ) → first_cell design declaration ≡ None
    → inside design declaration ≡ None
inside_none design declaration h =
    find_place (λ (c : Cell). nat_eq c.index declaration) design.cell_list
    ∙ ap (option_and_then (slice_get design.cell_list)) h
