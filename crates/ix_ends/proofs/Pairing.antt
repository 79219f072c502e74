-- Pairs that are put behind others, and the first segment without ends.
use Rattle.std.proofs.Common.{◌≡◌, ◌+◌, ◌∙◌, refl, ap, sym, subst, ℕ, zero, suc, arith}
use Rattle.std.proofs.Common.{inl, inr, List, [], ◌∷◌, ◌++◌, append_assoc, length, take, slice_get}
use Rattle.std.proofs.Common.{Some, None, IsSome, is_some}
use Rattle.std.proofs.lemmas.List.{append-nil}
use Rattle.std.proofs.lemmas.Option.{none-some, same_Some, slice_get_within}
use Rattle.ix_num.specs.declared.resource.Res.{Res}
use Rattle.ix_rec.specs.declared.device.DeviceRec.{DeviceRec}
use Rattle.ix_rec.specs.declared.forest.Branch.{Branch}
use Rattle.ix_rec.specs.declared.phys.Segment.{Segment}
use Rattle.ix_device.proofs.Walks.{take_next}
use Rattle.ix_graph.specs.Ends.{ends}
use Rattle.ix_ends.specs.declared.numbers.Numbers.{Numbers}
use Rattle.ix_ends.specs.declared.pair.Pair.{Pair}
use Rattle.ix_ends.specs.declared.pairs.Pairs.{Pairs}
use Rattle.ix_ends.specs.Ends.{HasNumbers}
use Rattle.ix_ends.specs.Numbering.{AreNumbers, Grows, seen_by}
use Rattle.ix_ends.specs.Pairs.{AddsPair, ArePairs, AddsPairs, IsFirstWithout}
use Rattle.ix_ends.proofs.Giving.{same_grow, both_grow, number_kept}
use Rattle.ix_ends.proofs.Items.{from_both, into_first, into_second, taken_before}

-- Pairs of segments.

numbers_kept : (rec : DeviceRec) (before now : Numbers) (s : Segment) (p : Pair)
    → Grows before now → HasNumbers rec (seen_by before) s p → HasNumbers rec (seen_by now) s p
numbers_kept rec before now s p grows has = record {
  from = has.from;
  to = has.to;
  ends_are = has.ends_are;
  from_is = number_kept rec before now has.from p.from grows has.from_is;
  to_is = number_kept rec before now has.to p.to grows has.to_is;
}

pub pairs_kept : (rec : DeviceRec) (before now : Numbers) (branches : List (Branch Segment))
    (row : List Pair) → Grows before now → ArePairs rec before branches row
    → ArePairs rec now branches row
unfolding ArePairs
pairs_kept rec before now [] [] grows are = tt
pairs_kept rec before now [] (p ∷ ps) grows are = are
pairs_kept rec before now (b ∷ bs) [] grows are = are
pairs_kept rec before now (b ∷ bs) (p ∷ ps) grows are =
    (numbers_kept rec before now b.item p grows are.0, pairs_kept rec before now bs ps grows are.1)

pub pairs_both : (rec : DeviceRec) (now : Numbers) (one other : List (Branch Segment))
    (row rest : List Pair) → ArePairs rec now one row → ArePairs rec now other rest
    → ArePairs rec now (one ++ other) (row ++ rest)
unfolding ArePairs
pairs_both rec now [] other [] rest are more = more
pairs_both rec now [] other (p ∷ ps) rest are more = absurd are
pairs_both rec now (b ∷ bs) other [] rest are more = absurd are
pairs_both rec now (b ∷ bs) other (p ∷ ps) rest are more =
    (are.0, pairs_both rec now bs other ps rest are.1 more)

pub pairs_count : (rec : DeviceRec) (now : Numbers) (branches : List (Branch Segment))
    (row : List Pair) → ArePairs rec now branches row → length row ≡ length branches
unfolding ArePairs
pairs_count rec now [] [] are = refl
pairs_count rec now [] (p ∷ ps) are = absurd are
pairs_count rec now (b ∷ bs) [] are = absurd are
pairs_count rec now (b ∷ bs) (p ∷ ps) are = ap suc (pairs_count rec now bs ps are.1)

pub pair_at : (rec : DeviceRec) (now : Numbers) (branches : List (Branch Segment))
    (row : List Pair) (k : ℕ) (b : Branch Segment) (p : Pair) → ArePairs rec now branches row
    → slice_get branches k ≡ Some b → slice_get row k ≡ Some p
    → HasNumbers rec (seen_by now) b.item p
unfolding ArePairs
pair_at rec now [] row k b p are at there = absurd (none-some b at)
pair_at rec now (c ∷ cs) [] k b p are at there = absurd are
pair_at rec now (c ∷ cs) (q ∷ qs) zero b p are at there =
    subst (λ (d : Branch Segment). HasNumbers rec (seen_by now) d.item p) (same_Some c b at)
    (subst (λ (r : Pair). HasNumbers rec (seen_by now) c.item r) (same_Some q p there) are.0)
pair_at rec now (c ∷ cs) (q ∷ qs) (suc k) b p are at there =
    pair_at rec now cs qs k b p are.1 at there

-- each has ends
pub ends_at : (rec : DeviceRec) (now : Numbers) (branches : List (Branch Segment))
    (row : List Pair) (k : ℕ) (b : Branch Segment) → ArePairs rec now branches row
    → slice_get branches k ≡ Some b → IsSome (ends rec b.item)
unfolding ArePairs
ends_at rec now [] row k b are at = absurd (none-some b at)
ends_at rec now (c ∷ cs) [] k b are at = absurd are
ends_at rec now (c ∷ cs) (q ∷ qs) zero b are at =
    subst (λ (d : Branch Segment). IsSome (ends rec d.item)) (same_Some c b at)
    (ap is_some are.0.ends_are)
ends_at rec now (c ∷ cs) (q ∷ qs) (suc k) b are at = ends_at rec now cs qs k b are.1 at

-- Steps.

pub none_added : (rec : DeviceRec) (now : Pairs) → AreNumbers rec now.numbers
    → AddsPairs rec [] now now
unfolding ArePairs
none_added rec now are = record {
  numbers = are;
  grows = same_grow now.numbers;
  row = [];
  pairs_are = sym (append-nil now.pairs.items);
  row_is = tt;
}

pub both_added : (rec : DeviceRec) (one other : List (Branch Segment)) (before between now : Pairs)
    → AddsPairs rec one before between → AddsPairs rec other between now
    → AddsPairs rec (one ++ other) before now
both_added rec one other before between now first second = record {
  numbers = second.numbers;
  grows = both_grow before.numbers between.numbers now.numbers first.grows second.grows;
  row = first.row ++ second.row;
  pairs_are = second.pairs_are ∙ ap (λ (xs : List Pair). xs ++ second.row) first.pairs_are
      ∙ append_assoc before.pairs.items first.row second.row;
  row_is = pairs_both rec now.numbers one other first.row second.row
      (pairs_kept rec between.numbers now.numbers one first.row second.grows first.row_is)
      second.row_is;
}

one_added : (rec : DeviceRec) (b : Branch Segment) (from to : Res) (before now : Pairs)
    → ends rec b.item ≡ Some (from, to) → AddsPair rec from to before now
    → AddsPairs rec (b ∷ []) before now
unfolding ArePairs
one_added rec b from to before now is adds = record {
  numbers = adds.numbers;
  grows = adds.grows;
  row = adds.pair ∷ [];
  pairs_are = adds.pairs_are;
  row_is = (
    record {
      from = from;
      to = to;
      ends_are = is;
      from_is = adds.from_is;
      to_is = adds.to_is;
    },
    tt,
  );
}

-- one segment more
pub one_more_added : (rec : DeviceRec) (branches : List (Branch Segment)) (k : ℕ)
    (b : Branch Segment) (from to : Res) (before between now : Pairs)
    → slice_get branches k ≡ Some b → ends rec b.item ≡ Some (from, to)
    → AddsPairs rec (take k branches) before between → AddsPair rec from to between now
    → AddsPairs rec (take (k + 1) branches) before now
one_more_added rec branches k b from to before between now at is first adds =
    subst (λ (xs : List (Branch Segment)). AddsPairs rec xs before now)
    (sym (take_next branches k b at))
    (both_added rec (take k branches) (b ∷ []) before between now first
    (one_added rec b from to between now is adds))

-- Where a walk stops.

pub stops_here : (rec : DeviceRec) (branches : List (Branch Segment)) (k : ℕ) (b : Branch Segment)
    (before now : Pairs) → slice_get branches k ≡ Some b → ends rec b.item ≡ None
    → AddsPairs rec (take k branches) before now → IsFirstWithout rec branches k
stops_here rec branches k b before now at none adds = record {
  branch = b;
  branch_is = at;
  no_ends = none;
  first = λ j other lt is. ends_at rec now.numbers (take k branches) adds.row j other adds.row_is
      (taken_before branches k j other lt is);
}

pub stops_first : (rec : DeviceRec) (one other : List (Branch Segment)) (k : ℕ)
    → IsFirstWithout rec one k → IsFirstWithout rec (one ++ other) k
stops_first rec one other k stop = record {
  branch = stop.branch;
  branch_is = into_first one other k stop.branch stop.branch_is;
  no_ends = stop.no_ends;
  first = λ j b lt is. elim (from_both one other j b is) [
    | inl first ↦ stop.first j b lt first
    | inr second ↦
        let within = slice_get_within one k stop.branch stop.branch_is in
        let e : j ≡ length one + second.0 = second.1 in
        absurd (omega arith)
  ];
}

pub stops_second : (rec : DeviceRec) (one other : List (Branch Segment)) (k number : ℕ)
    (before now : Pairs) → number ≡ length one + k → AddsPairs rec one before now
    → IsFirstWithout rec other k → IsFirstWithout rec (one ++ other) number
stops_second rec one other k number before now is adds stop = record {
  branch = stop.branch;
  branch_is = into_second one other number k stop.branch is stop.branch_is;
  no_ends = stop.no_ends;
  first = λ j b lt at. elim (from_both one other j b at) [
    | inl first ↦ ends_at rec now.numbers one adds.row j b adds.row_is first
    | inr second ↦
        let e : j ≡ length one + second.0 = second.1 in
        stop.first second.0 b (omega arith) second.2
  ];
}
