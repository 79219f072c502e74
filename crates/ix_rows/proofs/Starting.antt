-- Rows that start one behind another, by their sizes.
use Rattle.std.proofs.Common.{◌≡◌, ℕ, ◌+◌, ◌-◌, ◌^◌, ◌<◌, ◌≤◌, inl, inr, List, length, take, sym, ap, ◌∙◌, arith}
use Rattle.std.specs.Prelude.{slice_index}
use Rattle.std.specs.List.{sum}
use Rattle.std.proofs.lemmas.Bool.{cases_lt}
use Rattle.std.proofs.lemmas.List.{get_or-take, get_or_past, length-take, take_all, take-take}
use Rattle.std.proofs.lemmas.List.Sums.{sum_by_more, sum_by-take-le}
use Rattle.ix_rows.specs.Layout.{AreStarts, AreEnds, AreStartsFor}

module _ (sizes starts : List ℕ) (for_sizes : AreStartsFor sizes starts) where
  -- a row's size is the way from its start to the next
  pub size_between : (r : ℕ) → slice_index starts (r + 1) - slice_index starts r ≡ slice_index sizes r
  size_between r = elim (cases_lt r (length sizes)) [
    | inl is ↦ omega (arith, for_sizes.start r (omega arith), for_sizes.start (r + 1) (omega arith), sum_by_more (λ x. x) sizes r 0 is)
    | inr past ↦ omega (arith, get_or_past starts (r + 1) 0 (omega (arith, for_sizes.rows)), get_or_past sizes r 0 past)
  ]

  sums_rise : (i j : ℕ) → i ≤ j → sum (take i sizes) ≤ sum (take j sizes)
  sums_rise i j h = omega (arith, sum_by-take-le (λ x. x) (take j sizes) i, ap sum (take-take i j sizes h))

  starts_rise : (i j : ℕ) → i ≤ j → j < length starts → slice_index starts i ≤ slice_index starts j
  starts_rise i j h is =
      omega (arith, for_sizes.start i (omega (arith, for_sizes.rows)), for_sizes.start j (omega (arith, for_sizes.rows)), sums_rise i j h)

  pub AreStarts-from_sizes : (places : ℕ) → sum sizes ≡ places → places < 2 ^ 32 → AreStarts starts places
  AreStarts-from_sizes places all few =
      let n = for_sizes.rows in
      let e : length starts - 1 ≡ length sizes = omega arith in
      record {
        some = omega arith;
        rise = starts_rise;
        last = ap (slice_index starts) e ∙ for_sizes.start (length sizes) (omega arith) ∙ ap sum (take_all (length sizes) sizes (omega arith)) ∙ all;
        few = few;
      }

  -- rows that are empty end where they start
  pub AreEnds-of_empty : AreEnds starts (take (length sizes) starts)
  AreEnds-of_empty =
      let n = for_sizes.rows in
      let m : length (take (length sizes) starts) ≡ length sizes = omega (arith, length-take (length sizes) starts) in
      record {
        rows = n ∙ ap (λ k. k + 1) (sym m);
        above = λ r h. omega (arith, get_or-take (length sizes) starts r 0 (omega arith));
        below = λ r h. omega (arith, get_or-take (length sizes) starts r 0 (omega arith), starts_rise r (r + 1) (omega arith) (omega arith));
      }
