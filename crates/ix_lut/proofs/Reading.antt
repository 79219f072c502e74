-- What a LUT reads for each value of its own inputs.
use Rattle.std.proofs.Common.{◌≡◌, ◌≢◌, ℕ, ◌+◌, ◌*◌, ◌%◌, ◌^◌, ◌<◌, ◌≤◌, inl, inr, length, min, sym, ap, ◌∙◌, subst, arith, bit_and, bit_or, w64}
use Rattle.std.specs.Int.{bit_at, trailing_zeros}
use Rattle.std.proofs.lemmas.Bool.{cases_lt, cases_eq}
use Rattle.std.proofs.lemmas.Nat.{or_lt}
use Rattle.std.proofs.lemmas.Nat.Bits.{bit_at-lt, bit_at_and, bit_at_set_same, bit_at_set_other, bit_at-trailing_zeros, bit_at-zero}
use Rattle.std.proofs.Math.Nat.{mod-eq_of_lt, one-le-pow}
use Rattle.std.proofs.Math.Pow.{pow_mono, pow-lt}
use Rattle.ix_lut.specs.Tables.{spelled}
use Rattle.ix_lut.specs.Places.{LutPlace, Held, Agrees, GivesFunction, HasNoFunction}
use Rattle.ix_lut.specs.Readings.{ReadsAt, HasRead}
use Rattle.ix_lut.proofs.Bits.{bit_cases}
use Rattle.ix_lut.proofs.Spelling.{spelled_small}

module _ (lut : LutPlace) (held : Held) (bits : ℕ) where
  pub read_none : (bit : ℕ) → HasRead lut held bits 0 bit 0
  read_none bit = record {
    small = omega (arith, pow-positive);
    only = λ n one. absurd (omega (arith, one, bit_at-zero n));
    every = λ v below. absurd (omega (arith, below));
  }
    where
      pow-positive : 0 < 2 ^ (2 ^ length lut.places)
      pow-positive = omega (arith, one-le-pow (2 ^ length lut.places) 2 (omega arith))

  later : (upto bit n : ℕ) → ReadsAt lut held bits upto bit n → ReadsAt lut held bits (upto + 1) bit n
  later upto bit n at = record {
    v = at.v;
    below = omega (arith, at.below);
    agrees = at.agrees;
    spells = at.spells;
    reads = at.reads;
  }

  -- the values `upto` aren't read as this bit
  pub read_other : (upto bit word : ℕ) → (Agrees lut held upto → bit_at bits (lut.low + upto) ≡ bit → ⊥) →
      HasRead lut held bits upto bit word → HasRead lut held bits (upto + 1) bit word
  read_other upto bit word none has = record {
    small = has.small;
    only = λ n one. later upto bit n (has.only n one);
    every = λ v below agrees reads. elim (cases_lt v upto) [
      | inl under ↦ has.every v under agrees reads
      | inr over ↦ let P : ℕ → Type 0 = λ u. Agrees lut held u → bit_at bits (lut.low + u) ≡ bit → ⊥ in
          let same : upto ≡ v = omega (arith, below, over) in
          absurd (subst P same none agrees reads)
    ];
  }

  -- the values `upto` are
  pub read_this : (upto bit word : ℕ) → length lut.places ≤ 6 → Agrees lut held upto →
      bit_at bits (lut.low + upto) ≡ bit →
      HasRead lut held bits upto bit word →
      HasRead lut held bits (upto + 1) bit (bit_or word (1 * 2 ^ spelled lut.places upto % 2 ^ 64))
  read_this upto bit word few agrees reads has =
      let n : ℕ = spelled lut.places upto in
      let small : n < 2 ^ length lut.places = spelled_small lut.places upto in
      let room : 2 ^ length lut.places ≤ 2 ^ 6 = pow_mono few in
      let within : n < 64 = omega (arith, small, room) in
      let under : 2 ^ n < 2 ^ 64 = pow-lt within in
      let top : 2 ^ n < 2 ^ (2 ^ length lut.places) = pow-lt small in
      let single : 1 * 2 ^ n % 2 ^ 64 ≡ 2 ^ n = one_shifted n under in
      record {
        small = or_lt (2 ^ length lut.places) word (1 * 2 ^ n % 2 ^ 64) has.small (rw single top);
        only = λ m one. elim (cases_eq m n) [
          | inl same ↦ record {
            v = upto;
            below = omega arith;
            agrees = agrees;
            spells = sym same;
            reads = reads;
          }
          | inr other ↦ later upto bit m (has.only m (sym (bit_at_set_other w64 word n within m other) ∙ one))
        ];
        every = λ v below agree read. elim (cases_eq (spelled lut.places v) n) [
          | inl same ↦ ap (bit_at (bit_or word (1 * 2 ^ n % 2 ^ 64))) same ∙ bit_at_set_same w64 word n within
          | inr other ↦ bit_at_set_other w64 word n within (spelled lut.places v) other ∙
              has.every v (not_upto v below other) agree read
        ];
      }
    where
      one_shifted : (n : ℕ) → 2 ^ n < 2 ^ 64 → 1 * 2 ^ n % 2 ^ 64 ≡ 2 ^ n
      one_shifted n h = let one : 1 * 2 ^ n ≡ 2 ^ n = omega arith in rw one (mod-eq_of_lt h)

      not_upto : (v : ℕ) → v < upto + 1 → spelled lut.places v ≢ spelled lut.places upto → v < upto
      not_upto v below other = elim (cases_lt v upto) [
        | inl h ↦ h
        | inr over ↦ let same : v ≡ upto = omega (arith, below, over) in
            absurd (other (ap (spelled lut.places) same))
      ]

  -- where no bit is read both ways, the ones are the function
  pub read_gives : (zeros ones : ℕ) → HasRead lut held bits (2 ^ length lut.lines) 0 zeros →
      HasRead lut held bits (2 ^ length lut.lines) 1 ones → bit_and zeros ones ≡ 0 →
      GivesFunction lut held bits ones
  read_gives zeros ones has_zeros has_ones apart v agrees = elim (bit_cases bits (lut.low + v)) [
    | inl zero_read ↦
        let z = has_zeros.every v agrees.within agrees zero_read in
        let both = sym (bit_at_and zeros ones (spelled lut.places v)) ∙ ap (λ w. bit_at w (spelled lut.places v)) apart in
        omega (arith, z, both, bit_at-zero (spelled lut.places v), zero_read)
    | inr one_read ↦ one_read ∙ sym (has_ones.every v agrees.within agrees one_read)
  ]

  -- and where one is, there is none
  pub read_none_given : (zeros ones : ℕ) → HasRead lut held bits (2 ^ length lut.lines) 0 zeros →
      HasRead lut held bits (2 ^ length lut.lines) 1 ones → (bit_and zeros ones ≡ 0 → ⊥) →
      bit_and zeros ones < 2 ^ 64 → HasNoFunction lut held bits
  read_none_given zeros ones has_zeros has_ones meet fits =
      let n : ℕ = trailing_zeros w64 (bit_and zeros ones) in
      let at : bit_at (bit_and zeros ones) n ≡ 1 =
      (bit_at-trailing_zeros w64 (bit_and zeros ones) (positive (bit_and zeros ones) meet) fits).1 in
      let both : min (bit_at zeros n) (bit_at ones n) ≡ 1 = sym (bit_at_and zeros ones n) ∙ at in
      let z : bit_at zeros n ≡ 1 = omega (arith, both, bit_at-lt zeros n) in
      let o : bit_at ones n ≡ 1 = omega (arith, both, bit_at-lt ones n) in
      let zr = has_zeros.only n z in
      let on = has_ones.only n o in
      record {
        v = zr.v;
        w = on.v;
        v_agrees = zr.agrees;
        w_agrees = on.agrees;
        same_inputs = zr.spells ∙ sym on.spells;
        zero = zr.reads;
        one = on.reads;
      }
    where
      positive : (n : ℕ) → (n ≡ 0 → ⊥) → 0 < n
      positive n h = omega (arith, h)
