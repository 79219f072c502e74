-- The hexadecimal digits of a table.
use Rattle.std.proofs.Common.{◌≡◌, ◌<◌, ◌+◌, ◌-◌, ◌*◌, ◌/◌, ◌%◌, ◌^◌, ◌∙◌, refl, ap, sym, subst}
use Rattle.std.proofs.Common.{ℕ, zero, suc, arith, List, [], ◌∷◌, ◌++◌, length, Option, Some, None}
use Rattle.std.proofs.Common.{Bool, true, false, ◌&&◌, nat_eq, option_and_then, bit_and, inl, inr}
use Rattle.std.proofs.Common.{if◌then◌else◌}
use Rattle.std.specs.Fmt.{digit_glyph}
use Rattle.std.proofs.lemmas.Bool.{cases_lt, eq-eqb, eqb-true, false≢true}
use Rattle.std.proofs.lemmas.List.{length-append}
use Rattle.std.proofs.lemmas.Nat.{and_mask, pow-add}
use Rattle.std.proofs.lemmas.Option.{none-some, same_Some}
use Rattle.std.proofs.Math.Nat.{div-div-eq-div-mul, div-eq_of_lt}
use Rattle.ix_legal.specs.TableKeys.{upper_digit, with_digits, table_bits}

-- A test of each number below another.
abbrev all_below : ℕ → (ℕ → Bool) → Bool
all_below zero p = true
all_below (suc n) p = p n && all_below n p

both_first : (a b : Bool) → (a && b) ≡ true → a ≡ true
both_first true b e = refl
both_first false b e = e

both_second : (a b : Bool) → (a && b) ≡ true → b ≡ true
both_second true b e = e
both_second false b e = absurd (false≢true e)

below_at : (n : ℕ) (p : ℕ → Bool) → all_below n p ≡ true → (i : ℕ) → i < n → p i ≡ true
below_at zero p e i h = absurd (omega (arith, h))
below_at (suc n) p e i h = elim (cases_lt i n) [
  | inl below ↦ below_at n p (both_second (p n) (all_below n p) e) i below
  | inr past ↦
      let same : n ≡ i = omega (arith, past, h) in
      subst (λ (j : ℕ). p j ≡ true) same (both_first (p n) (all_below n p) e)
]

abbrev is_it : Option ℕ → ℕ → Bool
is_it None d = false
is_it (Some x) d = nat_eq x d

it_is : (o : Option ℕ) (d : ℕ) → is_it o d ≡ true → o ≡ Some d
it_is None d e = absurd (false≢true e)
it_is (Some x) d e = ap Some (eqb-true x d e)

digits_hold : all_below 16 (λ d. is_it (upper_digit (digit_glyph true d)) d) ≡ true
digits_hold = refl

digit_read : (d : ℕ) → d < 16 → upper_digit (digit_glyph true d) ≡ Some d
digit_read d small = it_is (upper_digit (digit_glyph true d)) d
    (below_at 16 (λ d. is_it (upper_digit (digit_glyph true d)) d) digits_hold d small)

-- a digit behind others
with_more : (n : ℕ) (xs : List ℕ) (byte m d : ℕ) → with_digits n xs ≡ Some m
    → upper_digit byte ≡ Some d → with_digits n (xs ++ byte ∷ []) ≡ Some (m * 16 + d)
with_more n [] byte m d h digit =
    ap (option_and_then (λ e. Some (n * 16 + e))) digit
    ∙ ap (λ (k : ℕ). Some (k * 16 + d)) (same n m h)
  where
    same : (a b : ℕ) → Some a ≡ Some b → a ≡ b
    same a b e = same_Some a b e
with_more n (x ∷ xs) byte m d h digit = by (upper_digit x) h
    (λ k. with_more (n * 16 + k) xs byte m d)
  where
    by : (o : Option ℕ) → option_and_then (λ k. with_digits (n * 16 + k) xs) o ≡ Some m
        → ((k : ℕ) → with_digits (n * 16 + k) xs ≡ Some m → upper_digit byte ≡ Some d
        → with_digits (n * 16 + k) (xs ++ byte ∷ []) ≡ Some (m * 16 + d))
        → option_and_then (λ k. with_digits (n * 16 + k) (xs ++ byte ∷ [])) o
        ≡ Some (m * 16 + d)
    by None h rest = absurd (none-some m h)
    by (Some k) h rest = rest k h digit

-- The first so many digits of a table.
pub record AreDigits (bits count : ℕ) (text : List ℕ) : Type 0 where
  pub all : length text ≡ count
  pub spell : with_digits 0 text ≡ Some (bits / 2 ^ (64 - 4 * count))

pub no_digits : (bits : ℕ) → bits < 2 ^ 64 → AreDigits bits 0 []
no_digits bits small = record {
  all = refl;
  spell = ap Some (none);
}
  where
    none : 0 ≡ bits / 2 ^ 64
    none = sym (div-eq_of_lt small)

pub digit_small : (n : ℕ) → bit_and n 15 < 16
digit_small n =
    let is : bit_and n 15 ≡ n % 16 = and_mask n 4 in
    omega (arith, is)

pub next_digit : (bits i : ℕ) (text : List ℕ) → i < 16 → AreDigits bits i text
    → AreDigits bits (i + 1)
    (text ++ digit_glyph true (bit_and (bits / 2 ^ (60 - 4 * i)) 15) ∷ [])
next_digit bits i text less are =
    let q : ℕ = bits / 2 ^ (60 - 4 * i) in
    let d : ℕ = bit_and q 15 in
    let all = are.all in
    let apart : (60 - 4 * i) + 4 ≡ 64 - 4 * i = omega (arith, less) in
    let left : 60 - 4 * i ≡ 64 - 4 * (i + 1) = omega (arith, less) in
    let wide : 2 ^ (64 - 4 * i) ≡ 2 ^ (60 - 4 * i) * 16 =
    ap (λ n. 2 ^ n) (sym apart) ∙ pow-add 2 (60 - 4 * i) 4 in
    let before : bits / 2 ^ (64 - 4 * i) ≡ q / 16 =
    ap (λ n. bits / n) wide ∙ sym (div-div-eq-div-mul bits (2 ^ (60 - 4 * i)) 16) in
    let is : d ≡ q % 16 = and_mask q 4 in
    let small : d < 16 = digit_small q in
    let whole : bits / 2 ^ (64 - 4 * i) * 16 + d ≡ q = omega (arith, before, is) in
    record {
      all = length-append text (digit_glyph true d ∷ []) ∙ omega (arith, all);
      spell = with_more 0 text (digit_glyph true d) (bits / 2 ^ (64 - 4 * i)) d are.spell
          (digit_read d small) ∙ ap Some (whole ∙ ap (λ n. bits / 2 ^ n) left);
    }

pub all_digits : (bits count : ℕ) (text : List ℕ) → count ≡ 16 → AreDigits bits count text
    → table_bits text ≡ Some bits
all_digits bits count text end are =
    let all : length text ≡ 16 = are.all ∙ end in
    let left : 64 - 4 * count ≡ 0 = omega (arith, end) in
    ap (λ b. if b then with_digits 0 text else None) (eq-eqb (length text) 16 all)
    ∙ are.spell ∙ ap (λ n. Some (bits / 2 ^ n)) left ∙ ap Some one
  where
    one : bits / 2 ^ 0 ≡ bits
    one = omega arith
