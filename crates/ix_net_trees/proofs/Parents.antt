-- The last segments of each depth, and parents (L4).
use Rattle.std.proofs.Common.{◌≡◌, ◌⊎◌, ◌<◌, ◌≤◌, ◌+◌, ◌-◌, ◌∙◌, ap, sym, subst, ℕ}
use Rattle.std.proofs.Common.{List, [], ◌∷◌, ◌++◌, inl, inr, arith}
use Rattle.std.specs.Prelude.{length, slice_get, slice_index, Some, option_map}
use Rattle.std.proofs.lemmas.Bool.{cases_lt}
use Rattle.std.proofs.lemmas.List.{map-append}
use Rattle.std.proofs.lemmas.Option.{none-some, same_Some, slice_get_within, slice_get-map}
use Rattle.std.proofs.lemmas.Option.{slice_get_past}
use Rattle.ix_rec.specs.Forest.{IsPreorder, StepsWithin, depths}
use Rattle.ix_rec.specs.declared.device.DeviceRec.{DeviceRec}
use Rattle.ix_rec.specs.declared.forest.Branch.{Branch}
use Rattle.ix_rec.specs.declared.phys.Phys.{Phys}
use Rattle.ix_rec.specs.declared.phys.PhysNet.{PhysNet}
use Rattle.ix_rec.specs.declared.phys.Segment.{Segment}
use Rattle.ix_legal.specs.Segments.{SegmentNumber, segments, depth_at}
use Rattle.ix_legal.specs.Trees.{LeavesParent}
use Rattle.ix_legal.proofs.Preorders.{above}
use Rattle.ix_ends.specs.declared.pair.Pair.{Pair}
use Rattle.ix_ends.specs.Ends.{EndsSeen, AreEnds, IsRow, IsNumbered}
use Rattle.ix_net_trees.specs.Told.{IsAt}
use Rattle.ix_net_trees.proofs.Nets.{item_at}
use Rattle.ix_net_trees.proofs.Numbers.{Stands, stands, row_numbers, in_is, out_is, one_number}

-- preorders one after the other
steps_more : (limit : ℕ) (ys : List ℕ) → StepsWithin 0 ys → StepsWithin limit ys
steps_more limit [] steps = tt
steps_more limit (y ∷ ys) steps = (let le : y ≤ 0 = steps.0 in omega (arith, le), steps.1)

steps_append : (limit : ℕ) (xs ys : List ℕ) → StepsWithin limit xs → StepsWithin 0 ys
    → StepsWithin limit (xs ++ ys)
steps_append limit [] ys one other = steps_more limit ys other
steps_append limit (x ∷ xs) ys one other = (one.0, steps_append (x + 1) xs ys one.1 other)

-- the last segment of this depth before a segment, with only deeper ones between
pub record IsLatest (net : PhysNet) (k j depth : ℕ) : Type 0 where
  pub depth_is : depth_at net j ≡ Some depth
  pub before : j < k
  pub last : (between : SegmentNumber) (other : ℕ) → j < between → between < k
      → depth_at net between ≡ Some other → depth < other

depth_of : (net : PhysNet) (k : ℕ)
    → slice_get (depths (segments net)) k ≡ depth_at net k
depth_of net k = slice_get-map (λ (b : Branch Segment). b.depth) (segments net) k

-- each depth above a segment has one
pub latest_there : (net : PhysNet) (k e depth : ℕ) → IsPreorder net.sources → IsPreorder net.stubs
    → depth_at net k ≡ Some e → depth < e → (j : ℕ) × IsLatest net k j depth
latest_there net k e depth one other is lt =
    let steps : StepsWithin 0 (depths (segments net)) =
    subst (StepsWithin 0)
    (sym (map-append (λ (b : Branch Segment). b.depth) net.sources net.stubs))
    (steps_append 0 (depths net.sources) (depths net.stubs) one other) in
    let found = above (depths (segments net)) k e depth steps (depth_of net k ∙ is) lt in (
      found.0,
      record {
        depth_is = sym (depth_of net found.0) ∙ found.1.is;
        before = found.1.before;
        last = λ between d from to at. found.1.last between d from to (depth_of net between ∙ at);
      },
    )

-- by depth, the out-ends of such segments
pub record KnowsLast (net : PhysNet) (row : List Pair) (k : ℕ) (last : List ℕ) : Type 0 where
  pub each : (j depth : ℕ) (pair : Pair) → IsLatest net k j depth → slice_get row j ≡ Some pair
      → IsAt last depth pair.to

pub knows_none : (net : PhysNet) (row : List Pair) (last : List ℕ) → KnowsLast net row 0 last
knows_none net row last = record {
  each = λ j depth pair is at. let lt : j < 0 = is.before in absurd (omega (arith, lt));
}

-- the segment that is looked at, its ends, and that trees are in preorder
pub record IsNext (net : PhysNet) (row : List Pair) (k : ℕ) (b : Branch Segment) (pair : Pair)
    : Type 0 where
  pub branch_is : slice_get (segments net) k ≡ Some b
  pub pair_is : slice_get row k ≡ Some pair
  pub sources : IsPreorder net.sources
  pub stubs : IsPreorder net.stubs

module _ (net : PhysNet) (row : List Pair) (k : ℕ) (b : Branch Segment) (pair : Pair)
    (N : IsNext net row k b pair) where
  is : depth_at net k ≡ Some b.depth
  is = ap (option_map (λ (b : Branch Segment). b.depth)) N.branch_is

  -- one segment more
  pub knows_more : (old new : List ℕ) → KnowsLast net row k old → IsAt new b.depth pair.to
      → ((d other : ℕ) → d < b.depth → IsAt old d other → IsAt new d other)
      → KnowsLast net row (k + 1) new
  knows_more old new K here kept = record {
    each = λ j depth p latest p_is. by j depth p latest p_is (cases_lt j k);
  }
    where
      by : (j depth : ℕ) (p : Pair) → IsLatest net (k + 1) j depth → slice_get row j ≡ Some p
          → (j < k) ⊎ (k ≤ j) → IsAt new depth p.to
      by j depth p latest p_is (inl lt) =
          let less : depth < b.depth = latest.last k b.depth lt (omega arith) is in
          kept depth p.to less (K.each j depth p (record {
            depth_is = latest.depth_is;
            before = lt;
            last = λ between other from to there.
                latest.last between other from (omega (arith, to)) there;
          }) p_is)
      by j depth p latest p_is (inr ge) =
          let lt : j < k + 1 = latest.before in
          let same : k ≡ j = omega (arith, lt, ge) in
          let depth_same : b.depth ≡ depth =
          same_Some b.depth depth (sym is ∙ (ap (depth_at net) same ∙ latest.depth_is)) in
          let pair_same : pair ≡ p =
          same_Some pair p (sym N.pair_is ∙ (ap (slice_get row) same ∙ p_is)) in
          subst (λ d. IsAt new d p.to) depth_same
          (subst (λ (q : Pair). IsAt new b.depth q.to) pair_same here)

  module _ (last : List ℕ) (K : KnowsLast net row k last) where
    -- a segment has room in the array
    pub has_room : b.depth ≤ length last
    has_room = elim (cases_lt 0 b.depth) [
      | inl lt ↦
          let latest = latest_there net k b.depth (b.depth - 1) N.sources N.stubs is
          (omega (arith, lt)) in
          let before : latest.0 < k = latest.1.before in
          let few : k < length row = slice_get_within row k pair N.pair_is in
          let p = item_at row latest.0 (omega (arith, before, few)) in
          let there : b.depth - 1 < length last =
          (K.each latest.0 (b.depth - 1) p.0 latest.1 p.1).0 in
          omega (arith, lt, there)
      | inr none ↦ omega (arith, none)
    ]

    module _ (rec : DeviceRec) (phys : Phys) (seen : EndsSeen) (E : AreEnds rec phys seen)
        (R : IsRow rec seen net row) where
      segment_there : (j : ℕ) → j ≤ k
          → (b : Branch Segment) × (p : Pair) × (slice_get row j ≡ Some p)
          × Stands rec seen net j b p
      segment_there j le =
          let few : k < length row = slice_get_within row k pair N.pair_is in
          let all : length row ≡ length (segments net) = R.all in
          let b = item_at (segments net) j (omega (arith, le, few, all)) in
          let p = item_at row j (omega (arith, le, few)) in (
            b.0,
            p.0,
            p.1,
            stands rec seen net j b.0 p.0
                (row_numbers rec seen net row j p.0 R p.1) b.1,
          )

      own : Stands rec seen net k b pair
      own = stands rec seen net k b pair (row_numbers rec seen net row k pair R N.pair_is)
          N.branch_is

      -- a segment that begins at the last out-end of the depth above leaves its parent
      pub leaves : (0 < b.depth → slice_index last (b.depth - 1) ≡ pair.from)
          → LeavesParent rec net k
      leaves so parent P =
          let down : b.depth ≡ P.depth + 1 =
          same_Some b.depth (P.depth + 1) (sym is ∙ P.child_is) in
          let up : P.depth ≡ b.depth - 1 = omega (arith, down) in
          let before : parent < k = P.before in
          let w = segment_there parent (omega (arith, before)) in
          let there : IsAt last P.depth w.1.to = K.each parent P.depth w.1 (record {
            depth_is = P.parent_is;
            before = P.before;
            last = P.last;
          }) w.2 in
          let same : pair.from ≡ w.1.to = sym (so (omega (arith, down)))
          ∙ (ap (slice_index last) (sym up) ∙ there.1) in
          let r = E.apart own.numbers.from w.3.numbers.to pair.from own.numbers.from_is
          (subst (IsNumbered rec seen w.3.numbers.to) (sym same) w.3.numbers.to_is) in
          in_is rec seen net k b pair own
          ∙ (ap Some r ∙ sym (out_is rec seen net parent w.0 w.1 w.3))

      -- and one that leaves its parent begins there
      pub left : LeavesParent rec net k → 0 < b.depth → slice_index last (b.depth - 1) ≡ pair.from
      left so lt =
          let latest = latest_there net k b.depth (b.depth - 1) N.sources N.stubs is
          (omega (arith, lt)) in
          let before : latest.0 < k = latest.1.before in
          let w = segment_there latest.0 (omega (arith, before)) in
          let there : IsAt last (b.depth - 1) w.1.to =
          K.each latest.0 (b.depth - 1) w.1 latest.1 w.2 in
          let down : b.depth ≡ b.depth - 1 + 1 = omega (arith, lt) in
          let ends = so latest.0 (record {
            depth = b.depth - 1;
            parent_is = latest.1.depth_is;
            child_is = is ∙ ap Some down;
            before = latest.1.before;
            last = latest.1.last;
          }) in
          let r : own.numbers.from ≡ w.3.numbers.to = same_Some own.numbers.from
          w.3.numbers.to (sym (in_is rec seen net k b pair own)
          ∙ (ends ∙ out_is rec seen net latest.0 w.0 w.1 w.3)) in
          there.1 ∙ one_number rec seen w.3.numbers.to w.1.to pair.from w.3.numbers.to_is
          (subst (λ t. IsNumbered rec seen t pair.from) r own.numbers.from_is)

-- what is past the last segment leaves its parent
pub leaves_past : (rec : DeviceRec) (net : PhysNet) (k : ℕ)
    → (k < length (segments net) → ⊥) → LeavesParent rec net k
leaves_past rec net k past parent P = absurd (none-some (P.depth + 1)
    (sym (ap (option_map (λ (b : Branch Segment). b.depth)) (slice_get_past (segments net) k
    (omega (arith, past)))) ∙ P.child_is))
