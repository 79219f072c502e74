-- Words of forced bits.
use Rattle.std.proofs.Common.{◌≡◌, ℕ, ◌+◌, ◌-◌, ◌*◌, ◌%◌, ◌^◌, ◌<◌, ◌≤◌, ◌⊎◌, inl, inr, List, length, min, max, sym, ap, ◌∙◌, subst, pow-add, arith, bit_and, bit_or, w64}
use Rattle.std.specs.Int.{bit_at, trailing_zeros}
use Rattle.std.proofs.lemmas.Bool.{cases_lt, cases_eq}
use Rattle.std.proofs.lemmas.Nat.{and_le_l}
use Rattle.std.proofs.lemmas.Nat.Bits.{bit_at-lt, bit_at_and, bit_at_or, bit_at_not, bit_at_cat_low, bit_at_cat_high, bit_at-zero, bit_at-trailing_zeros}
use Rattle.std.proofs.Math.Nat.{mod-eq_of_lt, one-le-pow, mul-lt-mul_of_pos_right}
use Rattle.std.proofs.Math.Pow.{pow_mono}
use Rattle.ix_lut.specs.Tables.{spelled}
use Rattle.ix_lut.specs.Places.{LutPlace, Held, Agrees, Forces}
use Rattle.ix_lut.specs.Forcing.{IsReady, HasForced, AreApart, lut_at, place_of}
use Rattle.ix_lut.specs.declared.forcing.Lut.{Lut}

pub bit_shift_in : (x low v : ℕ) → bit_at (x * 2 ^ low) (low + v) ≡ bit_at x v
bit_shift_in x low v =
    let e : x * 2 ^ low ≡ x * 2 ^ low + 0 = omega arith in
    let there : low + v - low ≡ v = omega arith in
    let none : 0 < 2 ^ low = one-le-pow low 2 (omega arith) in
    rw e (bit_at_cat_high x low 0 (low + v) none (omega arith) ∙ ap (bit_at x) there)

pub bit_shift_out : (x low at : ℕ) → at < low → bit_at (x * 2 ^ low) at ≡ 0
bit_shift_out x low at h =
    let e : x * 2 ^ low ≡ x * 2 ^ low + 0 = omega arith in
    rw e (bit_at_cat_low x low 0 at h ∙ bit_at-zero at)

-- a word that is moved up within 64 bits loses nothing
pub shift_fits : (x low n : ℕ) → x < 2 ^ n → low + n ≤ 64 → x * 2 ^ low % 2 ^ 64 ≡ x * 2 ^ low
shift_fits x low n small room =
    let top : 2 ^ (low + n) ≤ 2 ^ 64 = pow_mono room in
    let product : x * 2 ^ low < 2 ^ n * 2 ^ low = mul-lt-mul_of_pos_right small (one-le-pow low 2 (omega arith)) in
    mod-eq_of_lt (omega (arith, product, top, pow-add 2 low n))

-- the word has the bit of each value at which `bit` is read
pub record HasValues (lut : LutPlace) (table : ℕ) (held : Held) (bit word : ℕ) : Type 0 where
  pub small : word < 2 ^ (2 ^ length lut.lines)
  pub only : (v : ℕ) → bit_at word v ≡ 1 → Agrees lut held v
  pub read : (v : ℕ) → bit_at word v ≡ 1 → bit_at table (spelled lut.places v) ≡ bit
  pub every : (v : ℕ) → Agrees lut held v → bit_at table (spelled lut.places v) ≡ bit → bit_at word v ≡ 1

-- that word, moved to where the BEL reads, has the bits that it forces
pub values_only : (lut : LutPlace) (table : ℕ) (held : Held) (bit word : ℕ) → lut.low + 2 ^ length lut.lines ≤ 64 →
    HasValues lut table held bit word → (at : ℕ) → bit_at (word * 2 ^ lut.low % 2 ^ 64) at ≡ 1 → Forces lut table held at bit
values_only lut table held bit word room has at one =
    let e = shift_fits word lut.low (2 ^ length lut.lines) has.small room in
    let here : bit_at (word * 2 ^ lut.low) at ≡ 1 = ap (λ x. bit_at x at) (sym e) ∙ one in
    elim (cases_lt at lut.low) [
      | inl under ↦ absurd (omega (arith, here, bit_shift_out word lut.low at under))
      | inr over ↦
          let back : lut.low + (at - lut.low) ≡ at = omega (arith, over) in
          let set : bit_at word (at - lut.low) ≡ 1 =
          sym (bit_shift_in word lut.low (at - lut.low)) ∙ ap (bit_at (word * 2 ^ lut.low)) back ∙ here in
          record { v = at - lut.low; agrees = has.only (at - lut.low) set; read = back; value = has.read (at - lut.low) set }
    ]

pub values_every : (lut : LutPlace) (table : ℕ) (held : Held) (bit word : ℕ) → lut.low + 2 ^ length lut.lines ≤ 64 →
    HasValues lut table held bit word → (at : ℕ) → Forces lut table held at bit → bit_at (word * 2 ^ lut.low % 2 ^ 64) at ≡ 1
values_every lut table held bit word room has at is =
    let e = shift_fits word lut.low (2 ^ length lut.lines) has.small room in
    ap (λ x. bit_at x at) e ∙ ap (bit_at (word * 2 ^ lut.low)) (sym is.read) ∙ bit_shift_in word lut.low is.v ∙
    has.every is.v is.agrees is.value

-- the words of a LUT that is ready
module _ (lut : Lut) (ready : IsReady lut) (held : Held) (read : ℕ) (small : read < 2 ^ (2 ^ lut.bel.inputs))
    (only : (v : ℕ) → bit_at read v ≡ 1 → Agrees (place_of lut) held v)
    (every : (v : ℕ) → Agrees (place_of lut) held v → bit_at read v ≡ 1) where
  inside : (v : ℕ) → Agrees (place_of lut) held v → v < 2 ^ lut.bel.inputs
  inside v agrees = subst (λ (n : ℕ). v < 2 ^ n) ready.long agrees.within

  count_small : 2 ^ lut.bel.inputs ≤ 64
  count_small = pow_mono ready.bel.few

  pub word_ones : HasValues (place_of lut) lut.table held 1 (bit_and read lut.word)
  word_ones = record {
    small = rw ready.long (omega (arith, and_le_l read lut.word, small));
    only = λ v one. only v (first v one);
    read = λ v one. sym (ready.values v (inside v (only v (first v one)))) ∙ second v one;
    every = λ v agrees one. bit_at_and read lut.word v ∙
        omega (arith, every v agrees, ready.values v (inside v agrees), one);
  }
    where
      first : (v : ℕ) → bit_at (bit_and read lut.word) v ≡ 1 → bit_at read v ≡ 1
      first v one = omega (arith, bit_at_and read lut.word v, one, bit_at-lt read v, bit_at-lt lut.word v)

      second : (v : ℕ) → bit_at (bit_and read lut.word) v ≡ 1 → bit_at lut.word v ≡ 1
      second v one = omega (arith, bit_at_and read lut.word v, one, bit_at-lt read v, bit_at-lt lut.word v)

  pub word_zeros : HasValues (place_of lut) lut.table held 0 (bit_and read (18446744073709551615 - lut.word))
  word_zeros = record {
    small = rw ready.long (omega (arith, and_le_l read (18446744073709551615 - lut.word), small));
    only = λ v one. only v (first v one);
    read = λ v one. sym (ready.values v (inside v (only v (first v one)))) ∙ second v one (inside v (only v (first v one)));
    every = λ v agrees zero. bit_at_and read (18446744073709551615 - lut.word) v ∙
        omega (arith, every v agrees, turned v (inside v agrees), ready.values v (inside v agrees), zero);
  }
    where
      fits : lut.word < 2 ^ 64
      fits = let le : 2 ^ (2 ^ lut.bel.inputs) ≤ 2 ^ 64 = pow_mono count_small in omega (arith, ready.word, le)

      turned : (v : ℕ) → v < 2 ^ lut.bel.inputs → bit_at (18446744073709551615 - lut.word) v ≡ 1 - bit_at lut.word v
      turned v h = bit_at_not w64 lut.word v fits (omega (arith, h, count_small))

      first : (v : ℕ) → bit_at (bit_and read (18446744073709551615 - lut.word)) v ≡ 1 → bit_at read v ≡ 1
      first v one = omega (arith, bit_at_and read (18446744073709551615 - lut.word) v, one, bit_at-lt read v, bit_at-lt (18446744073709551615 - lut.word) v)

      second : (v : ℕ) → bit_at (bit_and read (18446744073709551615 - lut.word)) v ≡ 1 → v < 2 ^ lut.bel.inputs → bit_at lut.word v ≡ 0
      second v one h = omega (arith, bit_at_and read (18446744073709551615 - lut.word) v, one, bit_at-lt read v, bit_at-lt lut.word v, turned v h)

-- one LUT more
module _ (luts : List Lut) (held : Held) (bit : ℕ) where
  pub forced_none : HasForced 0 luts held bit 0
  forced_none = record {
    only = λ at one. absurd (omega (arith, one, bit_at-zero at));
    every = λ at is. absurd (omega (arith, is.within));
  }

  pub forced_next : (u word more : ℕ) →
      ((at : ℕ) → bit_at more at ≡ 1 → Forces (place_of (lut_at luts u)) (lut_at luts u).table held at bit) →
      ((at : ℕ) → Forces (place_of (lut_at luts u)) (lut_at luts u).table held at bit → bit_at more at ≡ 1) →
      HasForced u luts held bit word → HasForced (u + 1) luts held bit (bit_or word more)
  forced_next u word more only every has = record {
    only = λ at one. elim (either (bit_at word at) (bit_at more at) (sym (bit_at_or word more at) ∙ one)) [
      | inl old ↦ let is = has.only at old in record { u = is.u; within = omega (arith, is.within); forces = is.forces }
      | inr new ↦ record { u = u; within = omega arith; forces = only at new }
    ];
    every = λ at is. bit_at_or word more at ∙ elim (cases_lt is.u u) [
      | inl under ↦
          let old = has.every at record { u = is.u; within = under; forces = is.forces } in
          omega (arith, old, bit_at-lt more at)
      | inr over ↦
          let same : is.u ≡ u = omega (arith, over, is.within) in
          let new = every at (subst (λ (w : ℕ). Forces (place_of (lut_at luts w)) (lut_at luts w).table held at bit) same is.forces) in
          omega (arith, new, bit_at-lt word at)
    ];
  }
    where
      either : (a b : ℕ) → max a b ≡ 1 → (a ≡ 1) ⊎ (b ≡ 1)
      either a b e = elim (cases_eq a 1) [
        | inl is ↦ inl is
        | inr not ↦ inr (omega (arith, not, e))
      ]

-- words of what is forced, at the end
module _ (luts : List Lut) (held : Held) (zeros ones : ℕ) (has_zeros : HasForced (length luts) luts held 0 zeros)
    (has_ones : HasForced (length luts) luts held 1 ones) where
  pub apart_when : bit_and zeros ones ≡ 0 → AreApart luts held
  apart_when e at zero_forced one_forced =
      omega (
        arith,
        has_zeros.every at zero_forced,
        has_ones.every at one_forced,
        bit_at_and zeros ones at,
        ap (λ w. bit_at w at) e,
        bit_at-zero at,
      )

  pub not_apart_when : (bit_and zeros ones ≡ 0 → ⊥) → bit_and zeros ones < 2 ^ 64 → AreApart luts held → ⊥
  not_apart_when meet fits apart =
      let at : ℕ = trailing_zeros w64 (bit_and zeros ones) in
      let set : bit_at (bit_and zeros ones) at ≡ 1 =
      (bit_at-trailing_zeros w64 (bit_and zeros ones) (positive (bit_and zeros ones) meet) fits).1 in
      let both : min (bit_at zeros at) (bit_at ones at) ≡ 1 = sym (bit_at_and zeros ones at) ∙ set in
      apart at (has_zeros.only at (omega (arith, both, bit_at-lt zeros at))) (has_ones.only at (omega (arith, both, bit_at-lt ones at)))
    where
      positive : (n : ℕ) → (n ≡ 0 → ⊥) → 0 < n
      positive n h = omega (arith, h)
