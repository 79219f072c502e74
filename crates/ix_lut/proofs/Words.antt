-- Words of the values of a BEL's inputs that agree with constants.
use Rattle.std.proofs.Common.{◌≡◌, ℕ, zero, suc, ◌+◌, ◌-◌, ◌^◌, ◌<◌, ◌≤◌, Bool, true, false, ◌&&◌, nat_eq, nat_lt, inl, inr, List, [], ◌∷◌, length, take, get_or, slice_index, Contains, min, sym, ◌∙◌, refl, subst, arith, bit_and, w64}
use Rattle.std.specs.Int.{bit_at}
use Rattle.std.proofs.lemmas.Bool.{cases_lt, eqb-true, ltb-true}
use Rattle.std.proofs.lemmas.Nat.{and_le_l}
use Rattle.std.proofs.lemmas.Nat.Bits.{bit_at-lt, bit_at_and, bit_at_not, bit_at_ones, bit_at_above}
use Rattle.std.proofs.Math.Pow.{pow_mono}
use Rattle.std.proofs.Math.Nat.{one-le-pow}
use Rattle.std.proofs.lemmas.List.{get_or-take, length-take}
use Rattle.ix_lut.specs.Places.{Held, LineNumber, Allows, Agrees}
use Rattle.ix_lut.specs.Shapes.{lut_on}
use Rattle.ix_lut.specs.declared.shape.BelShape.{BelShape}
use Rattle.ix_lut.specs.declared.shape.Tie.{Tie}
use Rattle.ix_lut.specs.declared.shape.Tie.TheVariants.{Free, Vcc, Gnd}

-- a test of each number below `n`
all_upto : ℕ → (ℕ → Bool) → Bool
all_upto zero p = true
all_upto (suc n) p = p n && all_upto n p

all_upto_at : (n : ℕ) (p : ℕ → Bool) → all_upto n p ≡ true → (i : ℕ) → i < n → p i ≡ true
unfolding all_upto
all_upto_at zero p e i h = absurd (omega arith)
all_upto_at (suc n) p e i h = elim (cases_lt i n) [
  | inl below ↦ all_upto_at n p (and_second (p n) (all_upto n p) e) i below
  | inr past ↦ let same : i ≡ n = omega arith in rw same (and_first (p n) (all_upto n p) e)
]
  where
    and_first : (a b : Bool) → (a && b) ≡ true → a ≡ true
    and_first true b e = refl
    and_first false b e = e

    and_second : (a b : Bool) → (a && b) ≡ true → b ≡ true
    and_second true b e = e
    and_second false b e = absurd (cc)

unfoldable pub one_words : List ℕ
one_words = 12297829382473034410 ∷ 14757395258967641292 ∷ 17361641481138401520 ∷ 18374966859414961920 ∷ 18446462603027742720 ∷ 18446744069414584320 ∷ []

words_hold : all_upto 6 (λ j. all_upto 64 (λ v. nat_eq (bit_at (get_or one_words j 0) v) (bit_at v j))) ≡ true
unfolding all_upto one_words
words_hold = refl

pub one_at : (j v : ℕ) → j < 6 → v < 64 → bit_at (get_or one_words j 0) v ≡ bit_at v j
one_at j v few within =
    let row = all_upto_at 6 (λ k. all_upto 64 (λ w. nat_eq (bit_at (get_or one_words k 0) w) (bit_at w k))) words_hold j few in
    let cell = all_upto_at 64 (λ w. nat_eq (bit_at (get_or one_words j 0) w) (bit_at w j)) row v within in
    eqb-true (bit_at (get_or one_words j 0) v) (bit_at v j) cell

words_small : all_upto 6 (λ j. nat_lt (get_or one_words j 0) 18446744073709551616) ≡ true
unfolding all_upto one_words
words_small = refl

one_small : (j : ℕ) → j < 6 → get_or one_words j 0 < 2 ^ 64
one_small j few =
    let test = all_upto_at 6 (λ k. nat_lt (get_or one_words k 0) 18446744073709551616) words_small j few in
    ltb-true (get_or one_words j 0) 18446744073709551616 test

-- the word of the values at which input `j` may be where it is so held
pub record AllowsIn (tie : Tie) (j word : ℕ) : Type 0 where
  pub only : (v : ℕ) → v < 64 → bit_at word v ≡ 1 → Allows tie (bit_at v j)
  pub every : (v : ℕ) → v < 64 → Allows tie (bit_at v j) → bit_at word v ≡ 1

pub allows_free : (j : ℕ) → AllowsIn Free j 18446744073709551615
allows_free j = record { only = λ v h e. tt; every = λ v h a. bit_at_ones 64 v h }

pub allows_vcc : (j : ℕ) → j < 6 → AllowsIn Vcc j (get_or one_words j 0)
allows_vcc j few = record {
  only = λ v h e. sym (one_at j v few h) ∙ e;
  every = λ v h a. one_at j v few h ∙ a;
}

pub allows_gnd : (j : ℕ) → j < 6 → AllowsIn Gnd j (18446744073709551615 - get_or one_words j 0)
allows_gnd j few = record {
  only = λ v h e. omega (arith, one_at j v few h, bit_at_not w64 (get_or one_words j 0) v (one_small j few) h, e, bit_at-lt v j);
  every = λ v h a. omega (arith, one_at j v few h, bit_at_not w64 (get_or one_words j 0) v (one_small j few) h, a);
}

-- the values agree with what holds the lines of the unused inputs below `upto`
unfoldable pub AgreesBelow : List LineNumber → List ℕ → Held → ℕ → ℕ → Type 0
AgreesBelow lines places held upto v = (j : ℕ) → j < upto → (Contains places j → ⊥) →
    Allows (held (slice_index lines j)) (bit_at v j)

-- the word of these values
pub record IsWordBelow (lines : List LineNumber) (places : List ℕ) (held : Held) (inputs upto word : ℕ) : Type 0 where
  pub table : word < 2 ^ (2 ^ inputs)
  pub only : (v : ℕ) → bit_at word v ≡ 1 → AgreesBelow lines places held upto v
  pub every : (v : ℕ) → v < 2 ^ inputs → AgreesBelow lines places held upto v → bit_at word v ≡ 1

-- a bit of a word that has so many is below their number
pub bit_within : (n word v : ℕ) → word < 2 ^ n → bit_at word v ≡ 1 → v < n
bit_within n word v small one = elim (cases_lt v n) [
  | inl h ↦ h
  | inr past ↦ absurd (omega (arith, one, bit_at_above word n v small past))
]

module _ (lines : List LineNumber) (places : List ℕ) (held : Held) (inputs : ℕ) (few : inputs ≤ 6) where
  pub agrees_first : (word : ℕ) → word ≡ 2 ^ (2 ^ inputs) - 1 → IsWordBelow lines places held inputs 0 word
  unfolding AgreesBelow
  agrees_first word e = record {
    table = omega (arith, e, one-le-pow (2 ^ inputs) 2 (omega arith));
    only = λ v h j below. absurd (omega (arith, below));
    every = λ v h a. rw e (bit_at_ones (2 ^ inputs) v h);
  }

  pub agrees_used : (j word : ℕ) → Contains places j → IsWordBelow lines places held inputs j word →
      IsWordBelow lines places held inputs (j + 1) word
  unfolding AgreesBelow
  agrees_used j word used is = record {
    table = is.table;
    only = λ v h k below unused. elim (cases_lt k j) [
      | inl under ↦ is.only v h k under unused
      | inr over ↦ let P : ℕ → Type 0 = λ i. Contains places i in
          absurd (unused (subst P (omega (arith, over, below)) used))
    ];
    every = λ v h a. is.every v h (λ k below unused. a k (omega (arith, below)) unused);
  }

  pub agrees_unused : (j word more : ℕ) → j < inputs → (Contains places j → ⊥) →
      AllowsIn (held (slice_index lines j)) j more → IsWordBelow lines places held inputs j word →
      IsWordBelow lines places held inputs (j + 1) (bit_and word more)
  unfolding AgreesBelow
  agrees_unused j word more within unused allows is =
      let room : 2 ^ inputs ≤ 64 = pow_mono few in
      record {
        table = omega (arith, and_le_l word more, is.table);
        only = λ v h k below other.
            let both : min (bit_at word v) (bit_at more v) ≡ 1 = sym (bit_at_and word more v) ∙ h in
            let first : bit_at word v ≡ 1 = omega (arith, both, bit_at-lt word v) in
            let second : bit_at more v ≡ 1 = omega (arith, both, bit_at-lt more v) in
            let inside : v < 2 ^ inputs = bit_within (2 ^ inputs) word v is.table first in
            elim (cases_lt k j) [
              | inl under ↦ is.only v first k under other
              | inr over ↦ let P : ℕ → Type 0 = λ i. Allows (held (slice_index lines i)) (bit_at v i) in
                  let same : j ≡ k = omega (arith, over, below) in
                  subst P same (allows.only v (omega (arith, inside, room)) second)
            ];
        every = λ v h a.
            let first : bit_at word v ≡ 1 = is.every v h (λ k below other. a k (omega (arith, below)) other) in
            let second : bit_at more v ≡ 1 = allows.every v (omega (arith, h, room)) (a j (omega arith) unused) in
            bit_at_and word more v ∙ omega (arith, first, second);
      }

-- at the end the word is that of the values that agree
module _ (bel : BelShape) (places : List ℕ) (held : Held) (long : length bel.lines ≡ 6) (few : bel.inputs ≤ 6) where
  count : length (take bel.inputs bel.lines) ≡ bel.inputs
  count = omega (arith, length-take bel.inputs bel.lines, long, few)

  pub agrees_only : (word : ℕ) → IsWordBelow bel.lines places held bel.inputs bel.inputs word →
      (v : ℕ) → bit_at word v ≡ 1 → Agrees (lut_on bel places) held v
  unfolding AgreesBelow
  agrees_only word is v one = record {
    within = rw count (bit_within (2 ^ bel.inputs) word v is.table one);
    unused = λ j below other.
        let inside : j < bel.inputs = omega (arith, below, count) in
        rw (get_or-take bel.inputs bel.lines j 0 inside) (is.only v one j inside other);
  }

  pub agrees_every : (word : ℕ) → IsWordBelow bel.lines places held bel.inputs bel.inputs word →
      (v : ℕ) → Agrees (lut_on bel places) held v → bit_at word v ≡ 1
  unfolding AgreesBelow
  agrees_every word is v agrees = is.every v (subst (λ (n : ℕ). v < 2 ^ n) count agrees.within)
      (λ j inside other. subst (λ (l : ℕ). Allows (held l) (bit_at v j)) (get_or-take bel.inputs bel.lines j 0 inside)
      (agrees.unused j (omega (arith, inside, count)) other))
