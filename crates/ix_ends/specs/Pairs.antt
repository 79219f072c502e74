-- Pairs of ends, as they are put behind one another.
use Rattle.std.specs.Prelude.{◌≡◌, ◌<◌, ◌≤◌, ◌+◌, ℕ, List, [], ◌∷◌, ◌++◌, length, take, slice_get}
use Rattle.std.specs.Prelude.{Some, None, IsSome}
use Rattle.std.specs.List.{flat_map}
use Rattle.ix_num.specs.declared.resource.Res.{Res}
use Rattle.ix_rec.specs.declared.device.DeviceRec.{DeviceRec}
use Rattle.ix_rec.specs.declared.forest.Branch.{Branch}
use Rattle.ix_rec.specs.declared.phys.PhysNet.{PhysNet}
use Rattle.ix_rec.specs.declared.phys.Segment.{Segment}
use Rattle.ix_graph.specs.Ends.{ends}
use Rattle.ix_legal.specs.Segments.{NetNumber, SegmentNumber, segments}
use Rattle.ix_ends.specs.declared.numbers.Numbers.{Numbers}
use Rattle.ix_ends.specs.declared.pair.Pair.{Pair}
use Rattle.ix_ends.specs.declared.pairs.Pairs.{Pairs}
use Rattle.ix_ends.specs.declared.stop.Stop.{Stop}
use Rattle.ix_ends.specs.declared.stop.Stop.TheVariants.{NoEnds, Memory}
use Rattle.ix_ends.specs.Ends.{IsNumbered, HasNumbers}
use Rattle.ix_ends.specs.Numbering.{AreNumbers, Grows, seen_by}

-- a pair of these two was put behind the others
pub record AddsPair (rec : DeviceRec) (from to : Res) (before now : Pairs) : Type 0 where
  pub numbers : AreNumbers rec now.numbers
  pub grows : Grows before.numbers now.numbers
  pub pair : Pair
  pub pairs_are : now.pairs.items ≡ before.pairs.items ++ pair ∷ []
  pub from_is : IsNumbered rec (seen_by now.numbers) from pair.from
  pub to_is : IsNumbered rec (seen_by now.numbers) to pair.to

-- each pair is that of its segment
unfoldable pub ArePairs : DeviceRec → Numbers → List (Branch Segment) → List Pair → Type 0
ArePairs rec numbers [] [] = Unit {0}
ArePairs rec numbers (b ∷ bs) (p ∷ ps) =
    HasNumbers rec (seen_by numbers) b.item p × ArePairs rec numbers bs ps
ArePairs rec numbers [] (p ∷ ps) = ⊥
ArePairs rec numbers (b ∷ bs) [] = ⊥

-- those of these segments were put behind the others
pub record AddsPairs (rec : DeviceRec) (branches : List (Branch Segment)) (before now : Pairs)
    : Type 0 where
  pub numbers : AreNumbers rec now.numbers
  pub grows : Grows before.numbers now.numbers
  pub row : List Pair
  pub pairs_are : now.pairs.items ≡ before.pairs.items ++ row
  pub row_is : ArePairs rec now.numbers branches row

-- the first of these segments that has no ends
pub record IsFirstWithout (rec : DeviceRec) (branches : List (Branch Segment)) (k : SegmentNumber)
    : Type 0 where
  pub branch : Branch Segment
  pub branch_is : slice_get branches k ≡ Some branch
  pub no_ends : ends rec branch.item ≡ None
  pub first : (j : SegmentNumber) (other : Branch Segment) → j < k
      → slice_get branches j ≡ Some other → IsSome (ends rec other.item)

abbrev pub StopsAt : DeviceRec → List (Branch Segment) → Stop → Type 0
StopsAt rec branches (NoEnds k) = IsFirstWithout rec branches k
StopsAt rec branches Memory = Unit {0}

-- the segments of these nets, one net after another
abbrev pub all_segments : List PhysNet → List (Branch Segment)
all_segments nets = flat_map segments nets

-- All nets have their pairs, and each begins where those before it end.
pub record AreFilled (rec : DeviceRec) (nets : List PhysNet) (before now : Pairs) (starts : List ℕ)
    : Type 0 where
  pub adds : AddsPairs rec (all_segments nets) before now
  pub starts_all : length starts ≡ length nets + 1
  pub starts_are : (n : NetNumber) → n ≤ length nets
      → slice_get starts n ≡ Some (length (all_segments (take n nets)))
