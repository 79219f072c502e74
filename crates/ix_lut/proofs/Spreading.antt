-- A word that is filled bit by bit.
use Rattle.std.proofs.Common.{◌≡◌, ℕ, ◌+◌, ◌*◌, ◌/◌, ◌%◌, ◌^◌, ◌<◌, ◌≤◌, inl, inr, add-one, bit_and, sym, ap, ◌∙◌, subst, arith}
use Rattle.std.specs.Int.{bit_at}
use Rattle.std.proofs.lemmas.Bool.{cases_lt}
use Rattle.std.proofs.lemmas.Nat.Bits.{bit_at-lt, shr_and_one}
use Rattle.std.proofs.Math.Nat.{pow-succ'}
use Rattle.std.proofs.Math.Pow.{pow_mono}
use Rattle.ix_lut.proofs.Bits.{shifted_bit, add_bit_below, add_bit_same, two_cases}

-- the low `n` bits of the word are `f`'s, and it has no others
pub record HasBits (f : ℕ → ℕ) (n word : ℕ) : Type 0 where
  pub below : word < 2 ^ n
  pub values : (v : ℕ) → v < n → bit_at word v ≡ f v

top_bit : (n word bit : ℕ) → bit < 2 → word < 2 ^ n → word + bit * 2 ^ n < 2 ^ (n + 1)
top_bit n word bit small below = rw add-one (elim (two_cases bit small) [
  | inl e ↦ rw (e, pow-succ' 2 n) (omega (arith, below))
  | inr e ↦ rw (e, pow-succ' 2 n) (omega (arith, below))
])

pub has_bits_next : (f : ℕ → ℕ) (n word source at : ℕ) → n < 64 → f n ≡ bit_at source at → HasBits f n word →
    HasBits f (n + 1) (word + bit_and (source / 2 ^ at) 1 * 2 ^ n % 2 ^ 64)
has_bits_next f n word source at within same has =
    let b : bit_and (source / 2 ^ at) 1 ≡ bit_at source at = shr_and_one source at in
    let s : bit_at source at * 2 ^ n % 2 ^ 64 ≡ bit_at source at * 2 ^ n =
    shifted_bit (bit_at source at) n 64 (bit_at-lt source at) within in
    let small : bit_at source at < 2 = bit_at-lt source at in
    let P : ℕ → Type 0 = λ m. HasBits f (n + 1) (word + m) in
    subst P (sym (ap (λ m. m * 2 ^ n % 2 ^ 64) b ∙ s)) record {
      below = top_bit n word (bit_at source at) small has.below;
      values = λ v h. elim (cases_lt v n) [
        | inl under ↦ add_bit_below word n (bit_at source at) v under ∙ has.values v under
        | inr over ↦ let e : v ≡ n = omega arith in
            subst (λ (w : ℕ). bit_at (word + bit_at source at * 2 ^ n) w ≡ f w) (sym e)
            (add_bit_same word n (bit_at source at) has.below small ∙ sym same)
      ];
    }

pub has_bits_fits : (f : ℕ → ℕ) (n word source at : ℕ) → n < 64 → HasBits f n word →
    word + bit_and (source / 2 ^ at) 1 * 2 ^ n % 2 ^ 64 < 2 ^ 64
has_bits_fits f n word source at within has =
    let b : bit_and (source / 2 ^ at) 1 ≡ bit_at source at = shr_and_one source at in
    let s : bit_at source at * 2 ^ n % 2 ^ 64 ≡ bit_at source at * 2 ^ n =
    shifted_bit (bit_at source at) n 64 (bit_at-lt source at) within in
    let under : n + 1 ≤ 64 = omega arith in
    let le : 2 ^ (n + 1) ≤ 2 ^ 64 = pow_mono under in
    rw (b, s) (omega (arith, top_bit n word (bit_at source at) (bit_at-lt source at) has.below, le))
