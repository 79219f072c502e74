-- Items of lists, and what stands at paths.
use Rattle.std.proofs.Common.{◌≡◌, ◌<◌, ap, refl, sym, subst, ◌∙◌, ℕ, zero, suc, List, [], ◌∷◌}
use Rattle.std.proofs.Common.{◌++◌, slice_get, slice_index_or, Option, Some, None, arith, Bool}
use Rattle.std.proofs.Common.{true}
use Rattle.std.proofs.Common.{false, length, cond, get_or, inl, inr}
use Rattle.std.specs.List.{AllByRecursion, find}
use Rattle.std.specs.Option.{option_and_then, option_map}
use Rattle.std.proofs.lemmas.Option.{none-some, same_Some, option_and_then_some, slice_get-get_or}
use Rattle.std.proofs.lemmas.Option.{slice_get_within}
use Rattle.ix_rec.specs.declared.netlist.CellInstance.{CellInstance}
use Rattle.ix_rec.specs.declared.netlist.NetlistRec.{NetlistRec}
use Rattle.ix_hierarchy.specs.declared.instance.Instance.{Instance}
use Rattle.ix_hierarchy.specs.Hierarchy.{Path, child, child_of, inside, instance_at, reached}
use Rattle.ix_hierarchy.specs.Lists.{AreInstances}

-- what holds of all items holds of each
pub at_place : {A : Type 0} (P : A → Type 0) (xs : List A) (i : ℕ) (x : A) → AllByRecursion P xs
    → slice_get xs i ≡ Some x → P x
at_place P [] i x all h = absurd (none-some x h)
at_place P (y ∷ ys) zero x all h = subst P (same_Some y x h) all.0
at_place P (y ∷ ys) (suc i) x all h = at_place P ys i x all.1 h

-- and of the one that is found
pub found_holds : {A : Type 0} (P : A → Type 0) (p : A → Bool) (xs : List A) (x : A)
    → AllByRecursion P xs → find p xs ≡ Some x → P x
found_holds P p [] x all h = absurd (none-some x h)
found_holds {A} P p (y ∷ ys) x all h = by (p y) h all.0 (found_holds P p ys x all.1)
  where
    by : (b : Bool) → cond b (Some y) (find p ys) ≡ Some x → P y → (find p ys ≡ Some x → P x)
        → P x
    by true e first again = subst P (same_Some y x e) first
    by false e first again = again e

-- an item that is there
pub item_at : {A : Type 0} (xs : List A) (i : ℕ) → i < length xs
    → (x : A) × (slice_get xs i ≡ Some x)
item_at [] i lt = absurd (omega arith)
item_at (x ∷ xs) zero lt = (x, refl)
item_at (x ∷ xs) (suc i) lt = item_at xs i (omega arith)

-- the text of a name
pub name_is : (names : List (List ℕ)) (name : ℕ) (text : List ℕ)
    → slice_get names name ≡ Some text → slice_index_or names name [] ≡ text
name_is names name text h =
    same_Some (get_or names name []) text
    (sym (slice_get-get_or names name [] (slice_get_within names name text h)) ∙ h)

pub mapped : {A B : Type 0} (f : A → B) (o : Option A) (y : B) → option_map f o ≡ Some y
    → (x : A) × (o ≡ Some x) × (f x ≡ y)
mapped f None y e = absurd (none-some y e)
mapped f (Some x) y e = (x, refl, same_Some (f x) y e)

pub none_last : (xs : List ℕ) (x : ℕ) → [] ≡ xs ++ x ∷ [] → ⊥
none_last [] x e = absurd (cc)
none_last (y ∷ xs) x e = absurd (cc)

-- one more step
reached_next : (design : NetlistRec) (from : CellInstance) (path : Path) (place : ℕ)
    (at inst : CellInstance) → reached design from path ≡ Some at
    → child design at place ≡ Some inst → reached design from (path ++ place ∷ []) ≡ Some inst
unfolding reached
reached_next design from [] place at inst h c =
    let same : from ≡ at = same_Some from at h in
    ap (option_and_then (λ i. reached design i []))
    (ap (λ f. child design f place) same ∙ c)
reached_next design from (step ∷ path) place at inst h c =
    by (child design from step) h (λ next. reached_next design next path place at inst)
  where
    by : (o : Option CellInstance) → option_and_then (λ i. reached design i path) o ≡ Some at
        → ((next : CellInstance) → reached design next path ≡ Some at
        → child design at place ≡ Some inst → reached design next (path ++ place ∷ []) ≡ Some inst)
        → option_and_then (λ i. reached design i (path ++ place ∷ [])) o ≡ Some inst
    by None e again = absurd (none-some at e)
    by (Some next) e again = again next e c

-- an instance below the top is that of its number, and stands at its path
pub record IsPlaced (design : NetlistRec) (path : Path) (one : Instance) : Type 0 where
  pub inst : CellInstance
  pub at_path : instance_at design path ≡ Some inst
  pub listed : slice_get design.inst_list one.number ≡ Some inst
  pub of_it : inst.cell ≡ one.declaration

pub is_placed : (design : NetlistRec) (all : List Instance) (paths : List Path) (nets i : ℕ)
    (path : Path) (one : Instance) (parent : Path) (place : ℕ)
    → AreInstances design all paths nets → slice_get paths i ≡ Some path
    → slice_get all i ≡ Some one → path ≡ parent ++ place ∷ [] → IsPlaced design path one
is_placed design all paths nets i path one parent place are at is ends =
    elim (are.each i path one at is) [
      | inl top ↦ absurd (none_last parent place (sym top.0 ∙ ends))
      | inr below ↦ option_and_then_some (λ (up : CellInstance). inside design up.cell)
          (instance_at design below.0) below.1 below.5 (λ up r within.
          let here : child design up one.place ≡ Some below.2 =
          ap (option_and_then (λ c. child_of design c one.place)) within
          ∙ ap (option_and_then (slice_get design.inst_list)) below.6 ∙ below.7 in
          record {
            inst = below.2;
            at_path = ap (reached design design.top_inst) below.4
                ∙ reached_next design design.top_inst below.0 one.place up below.2 r here;
            listed = below.7;
            of_it = below.8;
          })
    ]
