-- The trees that a preorder list of items with their depths stands for.
use Rattle.std.specs.Prelude.{◌≡◌, ◌<◌, ℕ, ◌+◌, Some, slice_get, slice_index, length, drop, map}
use Rattle.std.specs.Prelude.{List, [], ◌∷◌, nat_lt, if◌then◌else◌}
use Rattle.ix_rec.specs.declared.forest.Branch.{Branch}
use Rattle.ix_rec.specs.declared.phys.Segment.{Segment}
use Rattle.ix_rec.specs.Forest.{IsPreorder}
use Rattle.ix_message.specs.Shape.{Branches, ends, branch, preorder}

-- The trees at a depth, one beside the other, up to the first item above them. Deeper items are
-- below one of them, or are passed over where none of them came before.
abbrev pub trees_at : {A : Type 0} → ℕ → List (Branch A) → Branches A
trees_at depth [] = ends
trees_at depth (b ∷ bs) =
    if nat_lt b.depth depth then ends
    else if nat_lt depth b.depth then trees_at depth bs
    else branch b.item (trees_at (depth + 1) bs) (trees_at depth bs)

-- how many trees stand side by side
abbrev pub width : {A : Type 0} → Branches A → ℕ
width ends = 0
width (branch x below beside) = width beside + 1

-- how many trees a list has, and for each item how many items stand right below it
pub record AreWidths {A : Type 0} (bs : List (Branch A)) (roots : ℕ) (below : List ℕ) : Type 0 where
  pub roots_are : roots ≡ width (trees_at 0 bs)
  pub long : length below ≡ length bs
  pub below_are : (i : ℕ) (b : Branch A) → i < length bs → slice_get bs i ≡ Some b
      → slice_index below i ≡ width (trees_at (b.depth + 1) (drop (i + 1) bs))

-- the trees of a preorder list of segments have that list as their preorder
abbrev pub ForestsAreTrees : Type 0
ForestsAreTrees = (bs : List (Branch Segment)) → IsPreorder bs
    → preorder 0 (trees_at 0 bs) ≡ map (λ b. (b.depth, b.item)) bs
