-- Names joined by slashes, with one more; and what holds of the items of lists.
use Rattle.std.proofs.Common.{◌≡◌, ap, refl, subst, ◌∙◌, ℕ, zero, suc, List, [], ◌∷◌}
use Rattle.std.proofs.Common.{◌++◌, append_assoc, slice_get, Some, codes}
use Rattle.std.specs.List.{AllByRecursion}
use Rattle.std.proofs.lemmas.Option.{none-some, same_Some}
use Rattle.ix_message.specs.Shape.{Text}
use Rattle.ix_hierarchy.specs.Hierarchy.{joined}

-- what holds of all items holds of each
pub at_place : {A : Type 0} (P : A → Type 0) (xs : List A) (i : ℕ) (x : A) → AllByRecursion P xs
    → slice_get xs i ≡ Some x → P x
at_place P [] i x all h = absurd (none-some x h)
at_place P (y ∷ ys) zero x all h = subst P (same_Some y x h) all.0
at_place P (y ∷ ys) (suc i) x all h = at_place P ys i x all.1 h

-- behind at least one name
pub joined_more : (name : Text) (names : List Text) (last : Text)
    → joined ((name ∷ names) ++ last ∷ []) ≡ joined (name ∷ names) ++ codes "/" ++ last
joined_more name [] last = refl
joined_more name (other ∷ names) last =
    ap (λ t. name ++ codes "/" ++ t) (joined_more other names last) ∙ simp append_assoc

pub joined_behind : (names : List Text) (name last : Text)
    → joined ((names ++ name ∷ []) ++ last ∷ []) ≡ joined (names ++ name ∷ []) ++ codes "/" ++ last
joined_behind [] name last = joined_more name [] last
joined_behind (first ∷ names) name last = joined_more first (names ++ name ∷ []) last
