-- The two small netlists: a net routed as one chain, and the net with its second half as a stub.
use Rattle.std.proofs.Common.{◌≡◌, ◌<◌, ◌≤◌, ◌+◌, ap, refl, sym, subst, ℕ, zero, suc}
use Rattle.std.proofs.Common.{arith, inl, inr, codes}
use Rattle.std.specs.Prelude.{Some, option_map}
use Rattle.std.proofs.lemmas.Option.{none-some, same_Some}
use Rattle.ix_num.specs.declared.resource.Res.{Res}
use Rattle.ix_rec.specs.declared.phys.Segment.{Segment}
use Rattle.ix_rec.specs.declared.place.Place.TheVariants as places
use Rattle.ix_rec.specs.declared.place.Rule.{Rule}
use Rattle.ix_rec.specs.declared.place.Rule.TheVariants.{L1, L2, L3, L4, L5, L6, L7, L8, L9, L10}
use Rattle.ix_legal.specs.declared.level.Level.TheVariants.{Placed, Routed}
use Rattle.ix_legal.specs.Segments.{segment_at, depth_at, IsParent, IsSourceRoot, IsStubRoot}
use Rattle.ix_legal.specs.Spots.{Spot, NetAt, SegmentAt}
use Rattle.ix_legal.specs.Spots.{Everywhere, IsBefore}
use Rattle.ix_legal.specs.Trees.{IsFromNode}
use Rattle.ix_legal.specs.Sharing.{IsRouted}
use Rattle.ix_legal.specs.Legal.{Asks, IsFirstBroken, Legal, order}
use Rattle.ix_legal.specs.Small.{names, device, enters, routed, placed, with_net}
use Rattle.ix_legal.proofs.Weaker.{routed_placed}
use Rattle.ix_legal.proofs.Sound.{routed_is_sound, placed_is_sound}
use Rattle.ix_legal.proofs.Tried.{IsChain, chain, enters_ends, legal, unshared}

-- The depth of a segment of the routed net is its number.

routed_segments : (k : ℕ) → segment_at routed k ≡ chain k
routed_segments zero = refl
routed_segments (suc zero) = refl
routed_segments (suc (suc zero)) = refl
routed_segments (suc (suc (suc zero))) = refl
routed_segments (suc (suc (suc (suc k)))) = refl

routed_depth : (k d : ℕ) → depth_at routed k ≡ Some d → (d ≡ k) × (k < 4)
routed_depth zero d h = (sym (same_Some 0 d h), omega arith)
routed_depth (suc zero) d h = (sym (same_Some 1 d h), omega arith)
routed_depth (suc (suc zero)) d h = (sym (same_Some 2 d h), omega arith)
routed_depth (suc (suc (suc zero))) d h = (sym (same_Some 3 d h), omega arith)
routed_depth (suc (suc (suc (suc k)))) d h = absurd (none-some d h)

routed_parents : (parent k : ℕ) → IsParent routed parent k → (k ≡ suc parent) × (parent < 3)
routed_parents parent k is =
    let up = routed_depth parent is.depth is.parent_is in
    let down = routed_depth k (is.depth + 1) is.child_is in
    let a : is.depth ≡ parent = up.0 in
    let b : is.depth + 1 ≡ k = down.0 in
    let few : k < 4 = down.1 in
    (omega (arith, a, b), omega (arith, a, b, few))

routed_chain : IsChain routed
routed_chain = record {
  signal = refl;
  segments = routed_segments;
  has_source = (omega arith, refl);
  only_root = λ k root. sym (routed_depth k 0 root.1).0;
  stub_root = λ k s at root. let few : k < 4 = (routed_depth k 0 root.1).1 in
      let past : 4 ≤ k = root.0 in absurd (omega (arith, few, past));
  parents = routed_parents;
}

routed_no_stubs : Everywhere (IsRouted Routed (with_net routed))
routed_no_stubs (SegmentAt zero zero) = omega arith
routed_no_stubs (SegmentAt zero (suc zero)) = omega arith
routed_no_stubs (SegmentAt zero (suc (suc zero))) = omega arith
routed_no_stubs (SegmentAt zero (suc (suc (suc zero)))) = omega arith
routed_no_stubs (NetAt zero) = tt
routed_no_stubs spot = tt

pub routed_is_legal : Legal Routed names device (with_net routed)
routed_is_legal = legal routed routed_chain Routed routed_is_sound routed_no_stubs

-- The placed net.

placed_segments : (k : ℕ) → segment_at placed k ≡ chain k
placed_segments zero = refl
placed_segments (suc zero) = refl
placed_segments (suc (suc zero)) = refl
placed_segments (suc (suc (suc zero))) = refl
placed_segments (suc (suc (suc (suc k)))) = refl

placed_root : (k : ℕ) → IsSourceRoot placed k → k ≡ 0
placed_root zero root = refl
placed_root (suc k) root = by k root.0 root.1
  where
    by : (k : ℕ) → suc k < 2 → depth_at placed (suc k) ≡ Some 0 → suc k ≡ 0
    by zero lt h = same_Some 1 0 h
    by (suc k) lt h = absurd (omega (arith, lt))

placed_stub : (k : ℕ) (s : Segment) → segment_at placed k ≡ Some s → IsStubRoot placed k
    → IsFromNode device s
placed_stub zero s at root = let h : 2 ≤ 0 = root.0 in absurd (omega (arith, h))
placed_stub (suc zero) s at root = let h : 2 ≤ 1 = root.0 in absurd (omega (arith, h))
placed_stub (suc (suc zero)) s at root = subst (IsFromNode device) (same_Some enters s at)
    (0, ap (option_map (λ (e : Res × Res). e.0)) enters_ends)
placed_stub (suc (suc (suc zero))) s at root =
    let h : 1 ≡ 0 = same_Some 1 0 root.1 in absurd (omega (arith, h))
placed_stub (suc (suc (suc (suc k)))) s at root = absurd (none-some s at)

placed_parents : (parent k : ℕ) → IsParent placed parent k → (k ≡ suc parent) × (parent < 3)
placed_parents parent zero is = let lt : parent < 0 = is.before in absurd (omega (arith, lt))
placed_parents parent (suc zero) is = let lt : parent < 1 = is.before in
    (omega (arith, lt), omega (arith, lt))
placed_parents parent (suc (suc zero)) is =
    let h : 0 ≡ is.depth + 1 = same_Some 0 (is.depth + 1) is.child_is in absurd (omega (arith, h))
placed_parents zero (suc (suc (suc zero))) is =
    let h : is.depth < 0 = is.last 2 0 (omega arith) (omega arith) refl in absurd (omega (arith, h))
placed_parents (suc zero) (suc (suc (suc zero))) is =
    let up : 1 ≡ is.depth = same_Some 1 is.depth is.parent_is in
    let down : 1 ≡ is.depth + 1 = same_Some 1 (is.depth + 1) is.child_is in
    absurd (omega (arith, up, down))
placed_parents (suc (suc zero)) (suc (suc (suc zero))) is = (refl, omega arith)
placed_parents (suc (suc (suc parent))) (suc (suc (suc zero))) is =
    let lt : suc (suc (suc parent)) < 3 = is.before in absurd (omega (arith, lt))
placed_parents parent (suc (suc (suc (suc k)))) is = absurd (none-some (is.depth + 1) is.child_is)

placed_chain : IsChain placed
placed_chain = record {
  signal = refl;
  segments = placed_segments;
  has_source = (omega arith, refl);
  only_root = placed_root;
  stub_root = placed_stub;
  parents = placed_parents;
}

pub placed_is_legal : Legal Placed names device (with_net placed)
placed_is_legal = legal placed placed_chain Placed placed_is_sound
    (routed_placed (with_net placed))

-- At level routed the rules before L10 are kept, and L10 is up to the stub's root.

earlier_kept : (rule : Rule) → order rule < order L10
    → Everywhere (Asks Routed names device (with_net placed) rule)
earlier_kept L1 lt = placed_is_legal.l1
earlier_kept L2 lt = placed_is_legal.l2
earlier_kept L3 lt = placed_is_legal.l3
earlier_kept L4 lt = placed_is_legal.l4
earlier_kept L5 lt = placed_is_legal.l5
earlier_kept L6 lt = placed_is_legal.l6
earlier_kept L7 lt = unshared placed placed_chain Routed
earlier_kept L8 lt = placed_is_legal.l8
earlier_kept L9 lt = placed_is_legal.l9
earlier_kept L10 lt = absurd (omega (arith, lt))
earlier_kept rule lt = λ spot. tt

not_less : (k : ℕ) → IsBefore (SegmentAt 0 (suc (suc k))) (SegmentAt 0 2) → ⊥
not_less k (inl lt) = omega (arith, lt)
not_less k (inr (same, inl lt)) = omega (arith, lt)
not_less k (inr (same, inr (net, inl lt))) = omega (arith, lt)
not_less k (inr (same, inr (net, inr (number, none)))) = none

kept_before : (other : Spot) → IsBefore other (SegmentAt 0 2)
    → IsRouted Routed (with_net placed) other
kept_before (SegmentAt zero zero) less = omega arith
kept_before (SegmentAt zero (suc zero)) less = omega arith
kept_before (SegmentAt zero (suc (suc k))) less = absurd (not_less k less)
kept_before (NetAt zero) less = tt
kept_before spot less = tt

pub stub_is_first : IsFirstBroken Routed names device (with_net placed) L10
    (places.Segment (codes "n0") 2)
stub_is_first = record {
  sound = placed_is_legal.sound;
  earlier = earlier_kept;
  spot = SegmentAt 0 2;
  first = record { broken = λ h. let lt : 2 < 2 = h in omega (arith, lt); kept_before = kept_before };
  told = (placed, codes "n0", refl, refl, refl);
}
