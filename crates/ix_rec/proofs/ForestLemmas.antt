-- What one more item makes of a preorder list.
use Rattle.std.proofs.Common.{◌≡◌, ℕ, zero, suc, ◌+◌, ◌-◌, ◌<◌, ◌≤◌, List, [], ◌∷◌, ◌++◌, length, slice_get, Some, take, subst, sym, ap, arith}
use Rattle.std.proofs.lemmas.Option.{same_Some, none-some, slice_get_within}
use Rattle.ix_rec.specs.declared.forest.Branch.{Branch}
use Rattle.ix_rec.specs.Forest.{StepsWithin, limit_after, depths, IsPreorder, next_limit}

module _ {T : Type 0} where
  StepsWithin-push : (limit : ℕ) (branches : List (Branch T)) (branch : Branch T) → StepsWithin limit (depths branches)
      → branch.depth ≤ limit_after limit (depths branches) → StepsWithin limit (depths (branches ++ branch ∷ []))
  StepsWithin-push limit [] branch steps below = (below, tt)
  StepsWithin-push limit (b ∷ bs) branch steps below = (steps.0, StepsWithin-push (b.depth + 1) bs branch steps.1 below)

  -- a list with one more item of a depth that may come next is a preorder list too
  pub IsPreorder-push : (branches : List (Branch T)) (branch : Branch T) → IsPreorder branches
      → branch.depth ≤ next_limit branches → IsPreorder (branches ++ branch ∷ [])
  IsPreorder-push branches branch = StepsWithin-push 0 branches branch

  limit_after-at : (limit : ℕ) (branches : List (Branch T)) (i : ℕ) (branch : Branch T) → i + 1 ≡ length branches
      → slice_get branches i ≡ Some branch → limit_after limit (depths branches) ≡ branch.depth + 1
  limit_after-at limit [] i branch at_end at = absurd (none-some branch at)
  limit_after-at limit (b ∷ []) zero branch at_end at = ap (λ c. c.depth + 1) (same_Some b branch at)
  limit_after-at limit (b ∷ []) (suc i) branch at_end at = absurd (none-some branch at)
  limit_after-at limit (b ∷ c ∷ bs) zero branch at_end at = absurd (omega arith)
  limit_after-at limit (b ∷ c ∷ bs) (suc i) branch at_end at =
      limit_after-at (b.depth + 1) (c ∷ bs) i branch (omega arith) at

  -- after the last item a depth of one more may come
  pub next_limit-last : (branches : List (Branch T)) (branch : Branch T) → Some branch ≡ slice_get branches (length branches - 1)
      → next_limit branches ≡ branch.depth + 1
  next_limit-last branches branch last =
      let at : slice_get branches (length branches - 1) ≡ Some branch = sym last in
      let within : length branches - 1 < length branches = slice_get_within branches _ branch at in
      limit_after-at 0 branches (length branches - 1) branch (omega arith) at

  StepsWithin-at : (limit : ℕ) (branches : List (Branch T)) (i : ℕ) (branch : Branch T) → StepsWithin limit (depths branches)
      → slice_get branches i ≡ Some branch → branch.depth ≤ limit_after limit (depths (take i branches))
  StepsWithin-at limit [] i branch steps at = absurd (none-some branch at)
  StepsWithin-at limit (b ∷ bs) zero branch steps at = subst (λ c. c.depth ≤ limit) (same_Some b branch at) steps.0
  StepsWithin-at limit (b ∷ bs) (suc i) branch steps at = StepsWithin-at (b.depth + 1) bs i branch steps.1 at

  -- each item's depth may come after the items before it
  pub depth-next_limit : (branches : List (Branch T)) (i : ℕ) (branch : Branch T) → IsPreorder branches
      → slice_get branches i ≡ Some branch → branch.depth ≤ next_limit (take i branches)
  depth-next_limit branches i branch = StepsWithin-at 0 branches i branch
