-- One number more may get the mark.
use Rattle.std.proofs.Common.{◌≡◌, ◌⊎◌, ◌<◌, ◌≤◌, ◌∙◌, ap, sym, subst, refl, ℕ, List, arith}
use Rattle.std.proofs.Common.{inl, inr, Bool, true, false, length-set}
use Rattle.std.proofs.Common.{get_or-set_same, get_or-set_other}
use Rattle.std.specs.Prelude.{length, slice_index, slice_set, if◌then◌else◌}
use Rattle.std.proofs.lemmas.Bool.{cases_eq, false≢true}
use Rattle.ix_net_trees.specs.Seen.{AreMarked}

-- the marks with one that may be set
abbrev pub with_mark : Bool → List ℕ → ℕ → ℕ → List ℕ
with_mark flag marks number mark = if flag then slice_set marks number mark else marks

pub with_mark_many : (flag : Bool) (marks : List ℕ) (number mark : ℕ)
    → length (with_mark flag marks number mark) ≡ length marks
with_mark_many true marks number mark = length-set marks number mark
with_mark_many false marks number mark = refl

pub marked_more : (Before After : ℕ → Type 0) (flag : Bool) (marks : List ℕ) (number mark : ℕ)
    → AreMarked marks mark Before → number < length marks
    → ((i : ℕ) → Before i → After i) → (flag ≡ true → After number)
    → ((i : ℕ) → After i → (Before i) ⊎ ((flag ≡ true) × (i ≡ number)))
    → AreMarked (with_mark flag marks number mark) mark After
marked_more Before After true marks number mark M few more here back = record {
  low = λ i. elim (cases_eq i number) [
    | inl e ↦ let at : slice_index (slice_set marks number mark) i ≡ mark =
        ap (slice_index (slice_set marks number mark)) e
        ∙ get_or-set_same marks number mark 0 few in omega (arith, at)
    | inr n ↦ let at : slice_index (slice_set marks number mark) i ≡ slice_index marks i =
        get_or-set_other marks number i mark 0 n in
        let low : slice_index marks i ≤ mark = M.low i in omega (arith, at, low)
  ];
  each = λ i. elim (cases_eq i number) [
    | inl e ↦ (
      λ h. subst After (sym e) (here refl),
      λ h. ap (slice_index (slice_set marks number mark)) e
          ∙ get_or-set_same marks number mark 0 few,
    )
    | inr n ↦ let at : slice_index (slice_set marks number mark) i ≡ slice_index marks i =
        get_or-set_other marks number i mark 0 n in (
          λ h. more i ((M.each i).0 (sym at ∙ h)),
          λ h. at ∙ elim (back i h) [
            | inl old ↦ (M.each i).1 old
            | inr new ↦ absurd (n new.1)
          ],
        )
  ];
}
marked_more Before After false marks number mark M few more here back = record {
  low = M.low;
  each = λ i. (
    λ h. more i ((M.each i).0 h),
    λ h. elim (back i h) [
      | inl old ↦ (M.each i).1 old
      | inr new ↦ absurd (false≢true new.0)
    ],
  );
}
