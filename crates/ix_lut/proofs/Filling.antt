-- Lines for items.
use Rattle.std.proofs.Common.{◌≡◌, ℕ, ◌+◌, ◌*◌, ◌%◌, ◌^◌, ◌<◌, ◌≤◌, inl, inr, List, [], ◌∷◌, length, take, drop, set, replicate, slice_index, sym, ap, ◌∙◌, subst, arith, add-one}
use Rattle.std.specs.Int.{bit_at}
use Rattle.std.proofs.lemmas.Bool.{cases_lt, cases_eq}
use Rattle.std.proofs.lemmas.List.{get_or_past, get_or-replicate, get_or-set_same, get_or-set_other, take-take, take-set, length-take, get_or-take, length-replicate}
use Rattle.std.proofs.lemmas.Nat.{or_lt}
use Rattle.std.proofs.Math.Nat.{mod-eq_of_lt}
use Rattle.std.proofs.Math.Pow.{pow-lt}
use Rattle.std.proofs.Math.Seq.{drop-cons}
use Rattle.ix_lut.specs.Orders.{IsBefore}
use Rattle.ix_lut.specs.Fillings.{Fills, IsLeastFilling, KnowsFailed, with_line}
use Rattle.ix_lut.proofs.Words.{bit_within}

-- the items from one on are that one and the rest
pub drop_one : (xs : List ℕ) (i : ℕ) → i < length xs → drop i xs ≡ slice_index xs i ∷ drop (i + 1) xs
drop_one xs i h = rw add-one (drop-cons xs i 0 h)

-- nothing has failed at first
pub none_failed : (masks : List ℕ) (n : ℕ) → KnowsFailed masks (replicate n 0)
none_failed masks n used item at lines fills = elim (cases_lt used n) [
  | inl inside ↦ omega (arith, at, get_or-replicate {A = ℕ} n used 0 0 inside)
  | inr past ↦ omega (arith, at, get_or_past {X = ℕ} (replicate n 0) used 0 (omega (arith, past, length-replicate {A = ℕ} n 0)))
]

-- one more set of lines at which an item has none
pub one_failed : (masks failed : List ℕ) (used item : ℕ) → used < length failed →
    ((lines : List ℕ) → Fills (drop item masks) used lines → ⊥) → KnowsFailed masks failed →
    KnowsFailed masks (set failed used (item + 1))
one_failed masks failed used item inside none knows at other is lines fills = elim (cases_eq at used) [
  | inl same ↦
      let e : other ≡ item = omega (
        arith,
        sym is ∙ ap (λ k. slice_index (set failed used (item + 1)) k) same ∙
            get_or-set_same failed used (item + 1) 0 inside,
      ) in
      none lines (subst (λ (k : ℕ). Fills (drop k masks) used lines) e
      (subst (λ (k : ℕ). Fills (drop other masks) k lines) same fills))
  | inr differs ↦ knows at other (sym (get_or-set_other failed used at (item + 1) 0 differs) ∙ is) lines fills
]

-- a used line more is one of the 12
pub with_line_small : (used line : ℕ) → used < 4096 → line < 12 → with_line used line < 4096
with_line_small used line small few =
    let under : 2 ^ line < 2 ^ 12 = pow-lt few in
    let one : 1 * 2 ^ line ≡ 2 ^ line = omega arith in
    let same : 1 * 2 ^ line % 2 ^ 32 ≡ 2 ^ line = rw one (mod-eq_of_lt (omega (arith, under))) in
    or_lt 12 used (1 * 2 ^ line % 2 ^ 32) small (rw same under)

-- the first line that serves, and the least for the rest
least_step : (mask : ℕ) (masks : List ℕ) (used line : ℕ) (rest : List ℕ) →
    bit_at mask line ≡ 1 → bit_at used line ≡ 0 → IsLeastFilling masks (with_line used line) rest →
    ((l : ℕ) → l < line → bit_at mask l ≡ 1 → bit_at used l ≡ 0 → (lines : List ℕ) → Fills masks (with_line used l) lines → ⊥) →
    IsLeastFilling (mask ∷ masks) used (line ∷ rest)
least_step mask masks used line rest may free least none = record {
  fills = (may, free, least.fills);
  least = no_less;
}
  where
    no_less : (other : List ℕ) → Fills (mask ∷ masks) used other → IsBefore other (line ∷ rest) → ⊥
    no_less [] fills before = fills
    no_less (l ∷ ls) fills before = elim before [
      | inl less ↦ none l less fills.0 fills.1 ls fills.2
      | inr same ↦ least.least ls (subst (λ (k : ℕ). Fills masks (with_line used k) ls) same.0 fills.2) same.1
    ]

module _ (masks : List ℕ) (item : ℕ) (inside : item < length masks) (used : ℕ) where
  -- what a call for the next item finds is found for this one
  pub found_here : (line : ℕ) (lines new : List ℕ) → item < length lines → length new ≡ length lines → length masks ≤ length lines →
      bit_at (slice_index masks item) line ≡ 1 → bit_at used line ≡ 0 →
      take (item + 1) new ≡ take (item + 1) (set lines item line) →
      IsLeastFilling (drop (item + 1) masks) (with_line used line) (drop (item + 1) (take (length masks) new)) →
      ((l : ℕ) → l < line → bit_at (slice_index masks item) l ≡ 1 → bit_at used l ≡ 0 → (rest : List ℕ) →
      Fills (drop (item + 1) masks) (with_line used l) rest → ⊥) →
      IsLeastFilling (drop item masks) used (drop item (take (length masks) new))
  found_here line lines new long same_long room may free kept least none =
      let n : ℕ = length masks in
      let shorter : item < length (take n new) = omega (arith, length-take n new, inside, same_long, room) in
      let here : slice_index (take n new) item ≡ line =
      get_or-take n new item 0 inside ∙ sym (get_or-take (item + 1) new item 0 (omega arith)) ∙
      ap (λ xs. slice_index xs item) kept ∙ get_or-take (item + 1) (set lines item line) item 0 (omega arith) ∙
      get_or-set_same lines item line 0 long in
      let whole : drop item (take n new) ≡ line ∷ drop (item + 1) (take n new) =
      drop_one (take n new) item shorter ∙ ap (λ l. l ∷ drop (item + 1) (take n new)) here in
      let P : List ℕ → List ℕ → Type 0 = λ ms ls. IsLeastFilling ms used ls in
      subst (λ (ms : List ℕ). IsLeastFilling ms used (drop item (take n new))) (sym (drop_one masks item inside))
      (subst (λ (ls : List ℕ). IsLeastFilling (slice_index masks item ∷ drop (item + 1) masks) used ls) (sym whole)
      (least_step (slice_index masks item) (drop (item + 1) masks) used line (drop (item + 1) (take n new)) may free least none))

  -- where no line serves there is nothing for the items from this on
  pub none_here : slice_index masks item < 4096 →
      ((l : ℕ) → l < 12 → bit_at (slice_index masks item) l ≡ 1 → bit_at used l ≡ 0 → (rest : List ℕ) →
      Fills (drop (item + 1) masks) (with_line used l) rest → ⊥) →
      (rest : List ℕ) → Fills (drop item masks) used rest → ⊥
  none_here small none rest fills = no_first rest (subst (λ (ms : List ℕ). Fills ms used rest) (drop_one masks item inside) fills)
    where
      no_first : (ls : List ℕ) → Fills (slice_index masks item ∷ drop (item + 1) masks) used ls → ⊥
      no_first [] f = f
      no_first (l ∷ ls) f = none l (bit_within 12 (slice_index masks item) l small f.0) f.0 f.1 ls f.2

-- what stays of the lines
pub kept_here : (item line : ℕ) (lines new : List ℕ) → take (item + 1) new ≡ take (item + 1) (set lines item line) →
    take item new ≡ take item lines
kept_here item line lines new kept =
    sym (take-take item (item + 1) new (omega arith)) ∙ ap (take item) kept ∙
    take-take item (item + 1) (set lines item line) (omega arith) ∙ take-set lines item line
