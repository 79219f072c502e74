-- All nets have their pairs, one net after another.
use Rattle.std.proofs.Common.{◌≡◌, ◌≤◌, ◌+◌, ◌∙◌, refl, ap, sym, subst, ℕ, zero, suc, arith}
use Rattle.std.proofs.Common.{inl, inr, List, [], ◌∷◌, ◌++◌, length, take, slice_get}
use Rattle.std.proofs.Common.{Option, Some, None, IsSome, IfSome, is_some, option_map}
use Rattle.std.proofs.lemmas.Bool.{cases_lt, false≢true}
use Rattle.std.proofs.lemmas.Grind.{flat_map-append}
use Rattle.std.proofs.lemmas.List.{append-nil, length-append, take_all}
use Rattle.std.proofs.lemmas.List.Concat.{flat_map-cons}
use Rattle.ix_rec.specs.declared.device.DeviceRec.{DeviceRec}
use Rattle.ix_rec.specs.declared.forest.Branch.{Branch}
use Rattle.ix_rec.specs.declared.phys.Phys.{Phys}
use Rattle.ix_rec.specs.declared.phys.PhysNet.{PhysNet}
use Rattle.ix_rec.specs.declared.phys.Segment.{Segment}
use Rattle.ix_device.proofs.Walks.{take_next}
use Rattle.ix_graph.specs.Ends.{ends}
use Rattle.ix_legal.specs.declared.spot.Spot.TheVariants.{SegmentAt}
use Rattle.ix_legal.specs.Names.{SegmentHasEnds}
use Rattle.ix_legal.specs.Segments.{NetNumber, SegmentNumber, segments}
use Rattle.ix_legal.specs.Breaks.{AreKept, none_kept, one_more_kept, broken_segment}
use Rattle.ix_ends.specs.declared.pair.Pair.{Pair}
use Rattle.ix_ends.specs.declared.pairs.Pairs.{Pairs}
use Rattle.ix_ends.specs.Ends.{IsFirstWithoutEnds}
use Rattle.ix_ends.specs.Numbering.{AreNumbers}
use Rattle.ix_ends.specs.Pairs.{ArePairs, AddsPairs, AreFilled, IsFirstWithout, all_segments}
use Rattle.ix_ends.proofs.Items.{into_first, into_second}
use Rattle.ix_ends.proofs.Pairing.{none_added, both_added, pairs_count, ends_at}

-- the segments of one net more
pub segments_next : (nets : List PhysNet) (n : ℕ) (net : PhysNet) → slice_get nets n ≡ Some net
    → all_segments (take (n + 1) nets) ≡ all_segments (take n nets) ++ segments net
segments_next nets n net is =
    ap all_segments (take_next nets n net is)
    ∙ flat_map-append segments (take n nets) (net ∷ [])
    ∙ ap (λ (xs : List (Branch Segment)). all_segments (take n nets) ++ xs)
    (flat_map-cons segments net [] ∙ append-nil (segments net))

has_ends : (rec : DeviceRec) (net : PhysNet) (k : SegmentNumber)
    → ((b : Branch Segment) → slice_get (segments net) k ≡ Some b → IsSome (ends rec b.item))
    → SegmentHasEnds rec net k
has_ends rec net k each = by (slice_get (segments net) k) refl
  where
    by : (o : Option (Branch Segment)) → slice_get (segments net) k ≡ o
        → IfSome (option_map (λ (b : Branch Segment). b.item) o) (λ s. IsSome (ends rec s))
    by None is = tt
    by (Some b) is = each b is

no_ends : (rec : DeviceRec) (net : PhysNet) (k : SegmentNumber) (b : Branch Segment)
    → slice_get (segments net) k ≡ Some b → ends rec b.item ≡ None → SegmentHasEnds rec net k → ⊥
no_ends rec net k b is none has =
    let there : IsSome (ends rec b.item) = subst (λ o.
    IfSome (option_map (λ (b : Branch Segment). b.item) o) (λ s. IsSome (ends rec s))) is has in
    false≢true (sym (ap is_some none) ∙ there)

-- the first so many nets have their pairs
pub record IsFilling (rec : DeviceRec) (phys : Phys) (n : NetNumber) (before now : Pairs)
    (starts : List ℕ) : Type 0 where
  pub adds : AddsPairs rec (all_segments (take n phys.nets)) before now
  pub starts_all : length starts ≡ n + 1
  pub starts_are : (m : NetNumber) → m ≤ n
      → slice_get starts m ≡ Some (length (all_segments (take m phys.nets)))
  pub kept : AreKept phys (λ m net. Unit {0}) (λ m net k. SegmentHasEnds rec net k) n

pub filling_start : (rec : DeviceRec) (phys : Phys) (now : Pairs) → AreNumbers rec now.numbers
    → IsFilling rec phys 0 now now (0 ∷ [])
filling_start rec phys now are = record {
  adds = none_added rec now are;
  starts_all = refl;
  starts_are = first;
  kept = none_kept phys (λ m net. Unit {0}) (λ m net k. SegmentHasEnds rec net k);
}
  where
    first : (m : NetNumber) → m ≤ 0
        → slice_get (0 ∷ []) m ≡ Some (length (all_segments (take m phys.nets)))
    first zero low = refl
    first (suc m) low = absurd (omega arith)

-- the pairs are those of the segments
pub only_added : (rec : DeviceRec) (branches : List (Branch Segment)) (before now : Pairs)
    → before.pairs.items ≡ [] → AddsPairs rec branches before now
    → ArePairs rec now.numbers branches now.pairs.items
only_added rec branches before now none adds =
    subst (ArePairs rec now.numbers branches)
    (sym (adds.pairs_are ∙ ap (λ (xs : List Pair). xs ++ adds.row) none)) adds.row_is

added_count : (rec : DeviceRec) (branches : List (Branch Segment)) (before now : Pairs)
    → before.pairs.items ≡ [] → AddsPairs rec branches before now
    → length now.pairs.items ≡ length branches
added_count rec branches before now none adds =
    pairs_count rec now.numbers branches now.pairs.items
    (only_added rec branches before now none adds)

pub filling_more : (rec : DeviceRec) (phys : Phys) (n : NetNumber) (net : PhysNet)
    (before between now : Pairs) (starts : List ℕ) (end : ℕ) → slice_get phys.nets n ≡ Some net
    → before.pairs.items ≡ [] → IsFilling rec phys n before between starts
    → AddsPairs rec (segments net) between now → end ≡ length now.pairs.items
    → IsFilling rec phys (n + 1) before now (starts ++ end ∷ [])
filling_more rec phys n net before between now starts end is none filling more ends_here = record {
  adds = adds;
  starts_all = length-append starts (end ∷ []) ∙ ap (λ (m : ℕ). m + 1) filling.starts_all;
  starts_are = places;
  kept = subst (λ (m : ℕ). AreKept phys (λ m net. Unit {0}) (λ m net k. SegmentHasEnds rec net k) m)
      (omega arith)
      (one_more_kept phys (λ m net. Unit {0}) (λ m net k. SegmentHasEnds rec net k) n net is
      filling.kept tt (λ k. has_ends rec net k (λ b at.
      ends_at rec now.numbers (segments net) more.row k b more.row_is at)));
}
  where
    adds : AddsPairs rec (all_segments (take (n + 1) phys.nets)) before now
    adds = subst (λ (xs : List (Branch Segment)). AddsPairs rec xs before now)
        (sym (segments_next phys.nets n net is))
        (both_added rec (all_segments (take n phys.nets)) (segments net) before between now
        filling.adds more)

    last : end ≡ length (all_segments (take (n + 1) phys.nets))
    last = ends_here ∙ added_count rec (all_segments (take (n + 1) phys.nets)) before now none adds

    places : (m : NetNumber) → m ≤ n + 1
        → slice_get (starts ++ end ∷ []) m ≡ Some (length (all_segments (take m phys.nets)))
    places m low = elim (cases_lt n m) [
      | inl high ↦
          let same : m ≡ n + 1 = omega arith in
          let all = filling.starts_all in
          into_second starts (end ∷ []) m 0 end (omega arith) refl
          ∙ ap Some (last ∙ ap (λ (k : ℕ). length (all_segments (take k phys.nets))) (sym same))
      | inr lower ↦
          into_first starts (end ∷ []) m (length (all_segments (take m phys.nets)))
          (filling.starts_are m lower)
    ]

pub filling_stops : (rec : DeviceRec) (phys : Phys) (n : NetNumber) (net : PhysNet)
    (k : SegmentNumber) (before now : Pairs) (starts : List ℕ) → slice_get phys.nets n ≡ Some net
    → IsFilling rec phys n before now starts → IsFirstWithout rec (segments net) k
    → IsFirstWithoutEnds rec phys (SegmentAt n k)
filling_stops rec phys n net k before now starts is filling stop =
    broken_segment phys (λ m net. Unit {0}) (λ m net k. SegmentHasEnds rec net k) n net k is
    filling.kept tt (λ j lt. has_ends rec net j (λ b at. stop.first j b lt at))
    (no_ends rec net k stop.branch stop.branch_is stop.no_ends)

pub all_filled : (rec : DeviceRec) (phys : Phys) (n : NetNumber) (before now : Pairs)
    (starts : List ℕ) → length phys.nets ≤ n → n ≤ length phys.nets
    → IsFilling rec phys n before now starts → AreFilled rec phys.nets before now starts
all_filled rec phys n before now starts least most filling =
    let same : n ≡ length phys.nets = omega arith in
    record {
      adds = subst (λ (nets : List PhysNet). AddsPairs rec (all_segments nets) before now)
          (take_all n phys.nets least) filling.adds;
      starts_all = filling.starts_all ∙ ap (λ (m : ℕ). m + 1) same;
      starts_are = λ m low. filling.starts_are m (omega arith);
    }
