-- Where the ends of a netlist have numbers each segment has ends.
use Rattle.std.proofs.Common.{◌≡◌, ◌<◌, ap, refl, sym, subst, ℕ, arith, inl, inr}
use Rattle.std.specs.Prelude.{List, length, slice_get, option_map, Some, IfSome, IsSome}
use Rattle.std.proofs.lemmas.Option.{slice_get_within, slice_get_cases}
use Rattle.ix_rec.specs.declared.device.DeviceRec.{DeviceRec}
use Rattle.ix_rec.specs.declared.forest.Branch.{Branch}
use Rattle.ix_rec.specs.declared.phys.Phys.{Phys}
use Rattle.ix_rec.specs.declared.phys.PhysNet.{PhysNet}
use Rattle.ix_rec.specs.declared.phys.Segment.{Segment}
use Rattle.ix_graph.specs.Ends.{ends}
use Rattle.ix_legal.specs.declared.spot.Spot.TheVariants.{InstanceAt, PlacementAt, NetAt}
use Rattle.ix_legal.specs.declared.spot.Spot.TheVariants.{SegmentAt, PropertyAt, ElementAt}
use Rattle.ix_legal.specs.Breaks.{asked_where}
use Rattle.ix_legal.specs.Names.{SegmentHasEnds}
use Rattle.ix_legal.specs.Segments.{SegmentNumber, segments}
use Rattle.ix_legal.specs.Spots.{Everywhere}
use Rattle.ix_ends.specs.declared.pair.Pair.{Pair}
use Rattle.ix_ends.specs.Ends.{AreEnds, EndsSeen, IsRow}
use Rattle.ix_named_there.specs.Ends.{HaveEnds}

there : {A : Type 0} (xs : List A) (i : ℕ) → i < length xs → (x : A) × (slice_get xs i ≡ Some x)
there xs i lt = elim ((slice_get_cases xs i).1) [
  | inl at ↦ (at.0, at.2)
  | inr past ↦ absurd (omega (arith, lt, past.0))
]

has_ends : (rec : DeviceRec) (seen : EndsSeen) (net : PhysNet) (row : List Pair)
    → IsRow rec seen net row → (k : SegmentNumber) → SegmentHasEnds rec net k
has_ends rec seen net row is k = elim ((slice_get_cases (segments net) k).1) [
  | inl at ↦ let b : Branch Segment = at.0 in
      let pair = there row k (subst (λ m. k < m) (sym is.all) at.1) in
      let its = is.each k b.item pair.0 (ap (option_map (λ (c : Branch Segment). c.item)) at.2) pair.1
      in subst (λ o. IfSome (option_map (λ (c : Branch Segment). c.item) o)
      (λ (s : Segment). IsSome (ends rec s))) (sym at.2) (subst IsSome (sym its.ends_are) refl)
  | inr past ↦ subst (λ o. IfSome (option_map (λ (c : Branch Segment). c.item) o)
      (λ (s : Segment). IsSome (ends rec s))) (sym past.1) tt
]

pub have_ends : (rec : DeviceRec) (phys : Phys) (seen : EndsSeen) → AreEnds rec phys seen
    → Everywhere (HaveEnds rec phys)
have_ends rec phys seen are (InstanceAt i) = tt
have_ends rec phys seen are (PlacementAt i) = tt
have_ends rec phys seen are (NetAt n) = asked_where phys.nets n (λ net. Unit {0}) (λ net is. tt)
have_ends rec phys seen are (SegmentAt n k) =
    asked_where phys.nets n (λ net. SegmentHasEnds rec net k) (λ net is.
    let row = there seen.rows n
    (subst (λ m. n < m) (sym are.all) (slice_get_within phys.nets n net is)) in
    has_ends rec seen net row.0 (are.each n net row.0 is row.1) k)
have_ends rec phys seen are (PropertyAt i) = tt
have_ends rec phys seen are (ElementAt i element) = tt
