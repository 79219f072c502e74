-- What was filled in tells the ends of a netlist.
use Rattle.std.proofs.Common.{◌≡◌, ◌<◌, ◌≤◌, ◌+◌, ◌-◌, ◌∙◌, refl, ap, sym, subst}
use Rattle.std.proofs.Common.{ℕ, zero, suc, arith}
use Rattle.std.proofs.Common.{List, [], ◌∷◌, ◌++◌, length, take, drop, slice_get}
use Rattle.std.proofs.Common.{Option, Some, None, option_and_then}
use Rattle.std.specs.Prelude.{slice_index, slice_range}
use Rattle.std.proofs.lemmas.Grind.{flat_map-append}
use Rattle.std.proofs.lemmas.List.{length-append, length-take, length-drop, take-append-drop}
use Rattle.std.proofs.lemmas.Option.{none-some, same_Some, slice_get_within, get_or_from_slice_get}
use Rattle.ix_num.specs.declared.resource.Res.{Res}
use Rattle.ix_num.specs.declared.resource.Res.TheVariants.{Node, Wire}
use Rattle.ix_rec.specs.declared.device.DeviceRec.{DeviceRec}
use Rattle.ix_rec.specs.declared.forest.Branch.{Branch}
use Rattle.ix_rec.specs.declared.phys.Phys.{Phys}
use Rattle.ix_rec.specs.declared.phys.PhysNet.{PhysNet}
use Rattle.ix_rec.specs.declared.phys.Segment.{Segment}
use Rattle.ix_graph.specs.Nodes.{nodes}
use Rattle.ix_legal.specs.Segments.{NetNumber, SegmentNumber, segments, segment_at}
use Rattle.ix_ends.specs.declared.numbers.Numbers.{Numbers}
use Rattle.ix_ends.specs.declared.pair.Pair.{Pair}
use Rattle.ix_ends.specs.declared.pairs.Pairs.{Pairs}
use Rattle.ix_ends.specs.Ends.{EndsSeen, IsNumbered, HasNumbers, IsRow, AreEnds}
use Rattle.ix_ends.specs.Numbering.{HasBase, AreNumbers, seen_by}
use Rattle.ix_ends.specs.Pairs.{ArePairs, AreFilled, all_segments}
use Rattle.ix_ends.specs.Rows.{row_at, rows_of, AreLaid}
use Rattle.ix_ends.proofs.Filling.{segments_next, only_added}
use Rattle.ix_ends.proofs.Items.{mapped, chained, into_first, into_second}
use Rattle.ix_ends.proofs.Laying.{rows_count, row_is}
use Rattle.ix_ends.proofs.Pairing.{pairs_count, pair_at}

-- Items of parts of lists.

from_take : {A : Type 0} (xs : List A) (n k : ℕ) (x : A) → slice_get (take n xs) k ≡ Some x
    → slice_get xs k ≡ Some x
from_take [] zero k x h = h
from_take [] (suc n) k x h = h
from_take (y ∷ xs) zero k x h = absurd (none-some x h)
from_take (y ∷ xs) (suc n) zero x h = h
from_take (y ∷ xs) (suc n) (suc k) x h = from_take xs n k x h

from_drop : {A : Type 0} (xs : List A) (n k : ℕ) (x : A) → slice_get (drop n xs) k ≡ Some x
    → slice_get xs (n + k) ≡ Some x
from_drop [] zero k x h = absurd (none-some x h)
from_drop [] (suc n) k x h = absurd (none-some x h)
from_drop (y ∷ xs) zero k x h = ap (slice_get (y ∷ xs)) (omega arith) ∙ h
from_drop (y ∷ xs) (suc n) k x h =
    let e : suc n + k ≡ suc (n + k) = omega arith in
    ap (slice_get (y ∷ xs)) e ∙ from_drop xs n k x h

from_range : {A : Type 0} (xs : List A) (start end k : ℕ) (x : A)
    → slice_get (slice_range xs start end) k ≡ Some x → slice_get xs (start + k) ≡ Some x
from_range xs start end k x h =
    from_drop xs start k x (from_take (drop start xs) (end - start) k x h)

range_count : {A : Type 0} (xs : List A) (start end : ℕ) → end ≤ length xs
    → length (slice_range xs start end) ≡ end - start
range_count xs start end low =
    omega (arith, length-take (end - start) (drop start xs), length-drop start xs)

-- a list about one of its items
parted : {A : Type 0} (xs : List A) (n : ℕ) (x : A) → slice_get xs n ≡ Some x
    → (rest : List A) × (xs ≡ take n xs ++ x ∷ rest)
parted [] n x h = absurd (none-some x h)
parted (y ∷ xs) zero x h = (xs, ap (λ z. z ∷ xs) (same_Some y x h))
parted (y ∷ xs) (suc n) x h =
    let p = parted xs n x h in (p.0, ap (λ l. y ∷ l) p.1)

not_past : {A : Type 0} (xs : List A) (n : ℕ) → n < length xs → slice_get xs n ≡ None → ⊥
not_past [] n lt h = omega arith
not_past (x ∷ xs) zero lt h = none-some x (sym h)
not_past (x ∷ xs) (suc n) lt h = not_past xs n (omega arith) h

-- the first nets have no more segments than all
first_segments : (nets : List PhysNet) (n : ℕ)
    → length (all_segments (take n nets)) ≤ length (all_segments nets)
first_segments nets n =
    let sum : length (all_segments nets)
    ≡ length (all_segments (take n nets)) + length (all_segments (drop n nets))
    = ap (λ (xs : List PhysNet). length (all_segments xs)) (sym (take-append-drop n nets))
    ∙ ap length (flat_map-append segments (take n nets) (drop n nets))
    ∙ length-append (all_segments (take n nets)) (all_segments (drop n nets)) in
    omega arith

-- The numbers, as contracts see them.

abbrev pub seen_with : Numbers → List (List Pair) → ℕ → EndsSeen
seen_with numbers rows count = record {
  rows = rows;
  nodes = count;
  bases = numbers.bases.items;
  count = numbers.count;
}

module _ (rec : DeviceRec) (numbers : Numbers) (rows : List (List Pair)) (count : ℕ)
    (are : AreNumbers rec numbers) (counted : count ≡ length (nodes rec)) where
  abbrev Numbered : Res → ℕ → Type 0
  Numbered r number = IsNumbered rec (seen_with numbers rows count) r number

  to_seen : (r : Res) (number : ℕ) → IsNumbered rec (seen_by numbers) r number
      → Numbered r number
  to_seen (Node n) number is =
      record { there = is.there; number_is = is.number_is; within = is.within }
  to_seen (Wire site wire) number is =
      record { there = is.there; number_is = is.number_is; within = is.within }

  has_to_seen : (s : Segment) (p : Pair) → HasNumbers rec (seen_by numbers) s p
      → HasNumbers rec (seen_with numbers rows count) s p
  has_to_seen s p has = record {
    from = has.from;
    to = has.to;
    ends_are = has.ends_are;
    from_is = to_seen has.from p.from has.from_is;
    to_is = to_seen has.to p.to has.to_is;
  }

  base_of : (site wire number : ℕ) → Numbered (Wire site wire) number
      → (base : ℕ) × HasBase numbers site base × (base + wire ≡ number)
  base_of site wire number is =
      let base = mapped (λ (b : ℕ). b + wire)
      (option_and_then (λ (b : Option ℕ). b) (slice_get numbers.bases.items site)) number
      is.number_is in
      let has = chained (λ (b : Option ℕ). b) (slice_get numbers.bases.items site) base.0 base.1 in
      (base.0, has.1 ∙ ap Some has.2, base.2)

  node_first : (n number : ℕ) → Numbered (Node n) number → number < count
  node_first n number is =
      let same : n ≡ number = same_Some n number is.number_is in
      let low : n < length (nodes rec) = is.there in
      omega arith

  wire_after : (site wire number : ℕ) → Numbered (Wire site wire) number
      → count ≤ number
  wire_after site wire number is =
      let base = base_of site wire number is in
      let low : length (nodes rec) ≤ base.0 = are.after site base.0 base.1 in
      let sum : base.0 + wire ≡ number = base.2 in
      omega arith

  one_wire : (site wire site2 wire2 number : ℕ) → Numbered (Wire site wire) number
      → Numbered (Wire site2 wire2) number → Wire site wire ≡ Wire site2 wire2
  one_wire site wire site2 wire2 number is is2 =
      let base = base_of site wire number is in
      let base2 = base_of site2 wire2 number is2 in
      let same_site : site ≡ site2 = are.apart site site2 base.0 base2.0 wire wire2 base.1 base2.1
      is.there is2.there (base.2 ∙ sym base2.2) in
      let same_base : base.0 ≡ base2.0 = same_Some base.0 base2.0 (same_Some (Some base.0)
      (Some base2.0) (sym base.1 ∙ ap (slice_get numbers.bases.items) same_site ∙ base2.1)) in
      let a : base.0 + wire ≡ number = base.2 in
      let b : base2.0 + wire2 ≡ number = base2.2 in
      ap (λ (n : ℕ). Wire n wire) same_site ∙ ap (Wire site2) (omega arith)

  apart : (one other : Res) (number : ℕ) → Numbered one number
      → Numbered other number → one ≡ other
  apart (Node n) (Node m) number is is2 =
      ap Node (same_Some n number is.number_is ∙ sym (same_Some m number is2.number_is))
  apart (Node n) (Wire site wire) number is is2 =
      let a : number < count = node_first n number is in
      let b : count ≤ number = wire_after site wire number is2 in
      absurd (omega arith)
  apart (Wire site wire) (Node n) number is is2 =
      let a : number < count = node_first n number is2 in
      let b : count ≤ number = wire_after site wire number is in
      absurd (omega arith)
  apart (Wire site wire) (Wire site2 wire2) number is is2 =
      one_wire site wire site2 wire2 number is is2

-- What was filled in.
module _ (rec : DeviceRec) (phys : Phys) (before now : Pairs) (starts : List ℕ)
    (none : before.pairs.items ≡ []) (filled : AreFilled rec phys.nets before now starts) where
  all : ArePairs rec now.numbers (all_segments phys.nets) now.pairs.items
  all = only_added rec (all_segments phys.nets) before now none filled.adds

  many : length now.pairs.items ≡ length (all_segments phys.nets)
  many = pairs_count rec now.numbers (all_segments phys.nets) now.pairs.items all

  start_at : (n : NetNumber) → n ≤ length phys.nets
      → slice_index starts n ≡ length (all_segments (take n phys.nets))
  start_at n low = get_or_from_slice_get starts n (length (all_segments (take n phys.nets))) 0
      (filled.starts_are n low)

  -- a net's row lies between those of the others
  record Lies (n : NetNumber) (net : PhysNet) : Type 0 where
    before_it : List (Branch Segment)
    after_it : List (Branch Segment)
    all_are : all_segments phys.nets ≡ before_it ++ (segments net ++ after_it)
    start_is : slice_index starts n ≡ length before_it
    end_is : slice_index starts (n + 1) ≡ length before_it + length (segments net)

  lies : (n : NetNumber) (net : PhysNet) → slice_get phys.nets n ≡ Some net → Lies n net
  lies n net is =
      let within : n < length phys.nets = slice_get_within phys.nets n net is in
      let part = parted phys.nets n net is in
      record {
        before_it = all_segments (take n phys.nets);
        after_it = all_segments part.0;
        all_are = ap all_segments part.1
            ∙ flat_map-append segments (take n phys.nets) (net ∷ part.0);
        start_is = start_at n (omega arith);
        end_is = start_at (n + 1) (omega arith)
            ∙ ap length (segments_next phys.nets n net is)
            ∙ length-append (all_segments (take n phys.nets)) (segments net);
      }

  starts_rise : (n : NetNumber) → n + 1 < length starts
      → slice_index starts n ≤ slice_index starts (n + 1)
  starts_rise n lt =
      let count = filled.starts_all in
      by (slice_get phys.nets n) refl (omega arith)
    where
      by : (o : Option PhysNet) → slice_get phys.nets n ≡ o → n < length phys.nets
          → slice_index starts n ≤ slice_index starts (n + 1)
      by None is lt = absurd (not_past phys.nets n lt is)
      by (Some net) is lt =
          let it = lies n net is in
          let a = it.start_is in
          let b = it.end_is in
          omega arith

  starts_within : (n : NetNumber) → n < length starts
      → slice_index starts n ≤ length now.pairs.items
  starts_within n lt =
      let count = filled.starts_all in
      let a : slice_index starts n ≡ length (all_segments (take n phys.nets)) =
      start_at n (omega arith) in
      let b = many in
      let low : length (all_segments (take n phys.nets)) ≤ length (all_segments phys.nets) =
      first_segments phys.nets n in
      omega arith

  pub laid : AreLaid starts now.pairs.items now.numbers.count
  laid = record {
    starts_are = record {
      some = let count = filled.starts_all in omega arith;
      rise = starts_rise;
      within = starts_within;
    };
    few = filled.adds.numbers.few;
  }

  module _ (count : ℕ) (counted : count ≡ length (nodes rec)) where
    abbrev pub rows : List (List Pair)
    rows = rows_of starts now.pairs.items

    rows_many : length (rows_of starts now.pairs.items) ≡ length phys.nets
    rows_many =
        let a = rows_count starts now.pairs.items in
        let b = filled.starts_all in
        omega arith

    module _ (n : NetNumber) (net : PhysNet) (it : Lies n net) where
      row_count : length (row_at starts now.pairs.items n) ≡ length (segments net)
      row_count =
          let a = it.start_is in
          let b = it.end_is in
          let sum : length (all_segments phys.nets)
          ≡ length it.before_it + (length (segments net) + length it.after_it)
          = ap length it.all_are
          ∙ length-append it.before_it (segments net ++ it.after_it)
          ∙ ap (λ (k : ℕ). length it.before_it + k)
          (length-append (segments net) it.after_it) in
          let all_of = many in
          let part = range_count now.pairs.items (slice_index starts n)
          (slice_index starts (n + 1)) (omega arith) in
          omega arith

      branch_is : (k : SegmentNumber) (b : Branch Segment) → slice_get (segments net) k ≡ Some b
          → slice_get (all_segments phys.nets) (slice_index starts n + k) ≡ Some b
      branch_is k b at =
          ap (λ (xs : List (Branch Segment)). slice_get xs (slice_index starts n + k)) it.all_are
          ∙ into_second it.before_it (segments net ++ it.after_it) (slice_index starts n + k) k b
          (ap (λ (m : ℕ). m + k) it.start_is) (into_first (segments net) it.after_it k b at)

      pair_is : (k : SegmentNumber) (s : Segment) (p : Pair) → segment_at net k ≡ Some s
          → slice_get (row_at starts now.pairs.items n) k ≡ Some p
          → HasNumbers rec (seen_with now.numbers rows count) s p
      pair_is k s p at there =
          let b = mapped (λ (b : Branch Segment). b.item) (slice_get (segments net) k) s at in
          has_to_seen rec now.numbers rows count filled.adds.numbers counted s p
          (subst (λ (t : Segment). HasNumbers rec (seen_by now.numbers) t p) b.2
          (pair_at rec now.numbers (all_segments phys.nets) now.pairs.items
          (slice_index starts n + k) b.0 p all (branch_is k b.0 b.1)
          (from_range now.pairs.items (slice_index starts n) (slice_index starts (n + 1)) k p
          there)))

    row_are : (n : NetNumber) (net : PhysNet) (row : List Pair) → slice_get phys.nets n ≡ Some net
        → slice_get (rows_of starts now.pairs.items) n ≡ Some row
        → IsRow rec (seen_with now.numbers rows count) net row
    row_are n net row is there =
        let within : n < length phys.nets = slice_get_within phys.nets n net is in
        let places = filled.starts_all in
        subst (IsRow rec (seen_with now.numbers rows count) net)
        (same_Some (row_at starts now.pairs.items n) row
        (sym (row_is starts now.pairs.items n (omega arith)) ∙ there)) record {
          all = row_count n net (lies n net is);
          each = pair_is n net (lies n net is);
        }

    pub ends_are : AreEnds rec phys (seen_with now.numbers rows count)
    ends_are =
        let are = filled.adds.numbers in
        record {
          all = rows_many;
          each = row_are;
          apart = apart rec now.numbers rows count filled.adds.numbers counted;
          nodes_are = counted;
          nodes_first = node_first rec now.numbers rows count filled.adds.numbers counted;
          wires_after = wire_after rec now.numbers rows count filled.adds.numbers counted;
          sites_all = are.sites_all;
          sites_are = are.within;
        }
