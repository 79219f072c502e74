-- What inputs at some places spell.
use Rattle.std.proofs.Common.{◌≡◌, ◌≢◌, ℕ, inl, inr, ◌+◌, ◌-◌, add-one, sym, subst, ◌*◌, ◌/◌, ◌%◌, ◌^◌, ◌<◌, ◌≤◌, List, [], ◌∷◌, ◌++◌, length, take, slice_index, bit_and, ap, ◌∙◌, refl, arith}
use Rattle.std.specs.Int.{bit_at}
use Rattle.std.proofs.Math.Nat.{pow-succ'}
use Rattle.std.proofs.Math.Pow.{pow_mono}
use Rattle.std.proofs.lemmas.List.{take_more, length-take}
use Rattle.std.proofs.lemmas.Bool.{cases_lt}
use Rattle.std.proofs.lemmas.Nat.Bits.{bit_at-lt, shr_and_one, bit_at-zero, bit_at-pow_other, bit_at_cat_low, bit_at_cat_high, bit_at_above}
use Rattle.ix_lut.specs.Tables.{spelled}
use Rattle.ix_lut.proofs.Bits.{shifted_bit}

pub spelled_small : (places : List ℕ) (v : ℕ) → spelled places v < 2 ^ length places
spelled_small [] v = omega arith
spelled_small (place ∷ places) v =
    omega (arith, spelled_small places v, bit_at-lt v place, pow-succ' 2 (length places))

pub spelled_append : (places : List ℕ) (place v : ℕ) →
    spelled (places ++ place ∷ []) v ≡ spelled places v + bit_at v place * 2 ^ length places
spelled_append [] place v = omega arith
spelled_append (first ∷ places) place v =
    rw (pow-succ' 2 (length places)) (omega (arith, spelled_append places place v))

-- a turn of the loop that spells
pub spelled_next : (places : List ℕ) (i v : ℕ) → i < length places → length places ≤ 6 →
    spelled (take i places) v + bit_and (v / 2 ^ slice_index places i) 1 * 2 ^ i % 2 ^ 32
    ≡ spelled (take (i + 1) places) v
spelled_next places i v within few =
    let p : ℕ = slice_index places i in
    let b : bit_and (v / 2 ^ p) 1 ≡ bit_at v p = shr_and_one v p in
    let s : bit_at v p * 2 ^ i % 2 ^ 32 ≡ bit_at v p * 2 ^ i =
    shifted_bit (bit_at v p) i 32 (bit_at-lt v p) (omega arith) in
    let l : length (take i places) ≡ i = omega (arith, length-take i places) in
    let a : spelled (take (i + 1) places) v ≡ spelled (take i places) v + bit_at v p * 2 ^ length (take i places) =
    ap (λ (xs : List ℕ). spelled xs v) (take_more places i 0 within) ∙ spelled_append (take i places) p v in
    rw (b, s, a, l) refl

pub spelled_below_64 : (places : List ℕ) (v : ℕ) → length places ≤ 6 → spelled places v < 64
spelled_below_64 places v few = omega (arith, spelled_small places v, pow_mono few)

pub spelled_zero : (places : List ℕ) → spelled places 0 ≡ 0
spelled_zero [] = refl
spelled_zero (place ∷ places) = omega (arith, bit_at-zero place, spelled_zero places)

bit_more : (v j place : ℕ) → v < 2 ^ j → bit_at (2 ^ j + v) place ≡ bit_at v place + bit_at (2 ^ j) place
bit_more v j place small = elim (cases_lt place j) [
  | inl under ↦
      let differs : place ≢ j = omega (arith, under) in
      let alone = subst (λ (n : ℕ). bit_at n place ≡ 0) one_of (bit_at-pow_other j place differs) in
      rw one_of (omega (arith, bit_at_cat_low 1 j v place under, alone))
  | inr over ↦
      let whole = bit_at_cat_high 1 j v place small over in
      let none : 1 * 2 ^ j + 0 ≡ 1 * 2 ^ j = omega arith in
      let alone = subst (λ (n : ℕ). bit_at n place ≡ bit_at 1 (place - j)) none (bit_at_cat_high 1 j 0 place (omega (arith, small)) over) in
      let above = bit_at_above v j place small over in
      rw one_of (omega (arith, whole, alone, above))
]
  where
    one_of : 2 ^ j ≡ 1 * 2 ^ j
    one_of = omega arith

-- with the input of a bit more
spelled_more : (places : List ℕ) (v j : ℕ) → v < 2 ^ j → spelled places (2 ^ j + v) ≡ spelled places v + spelled places (2 ^ j)
spelled_more [] v j small = refl
spelled_more (place ∷ places) v j small = omega (arith, bit_more v j place small, spelled_more places v j small)

-- what inputs spell for the first values, and for as many more
pub spelled_doubled : (places : List ℕ) (j half : ℕ) (old new : List ℕ) (more : ℕ) → half ≡ 2 ^ j → more ≡ spelled places half →
    ((v : ℕ) → v < 2 ^ j → slice_index old v ≡ spelled places v) →
    ((v : ℕ) → v < half → slice_index new v ≡ slice_index old v) →
    ((v : ℕ) → v < half → slice_index new (half + v) ≡ slice_index old v + more) →
    (v : ℕ) → v < 2 ^ (j + 1) → slice_index new v ≡ spelled places v
spelled_doubled places j half old new more is step so_far kept added v below = elim (cases_lt v half) [
  | inl under ↦ kept v under ∙ so_far v (omega (arith, under, is))
  | inr over ↦
      let rest : ℕ = v - half in
      let all : half + rest ≡ v = omega (arith, over) in
      let twice : 2 ^ (j + 1) ≡ 2 * 2 ^ j = rw add-one (omega (arith, pow-succ' 2 j)) in
      let small : rest < half = omega (arith, below, twice, is, over) in
      let now = subst (λ (w : ℕ). slice_index new w ≡ slice_index old rest + more) all (added rest small) in
      let old_is = so_far rest (omega (arith, small, is)) in
      let whole : spelled places v ≡ spelled places rest + spelled places half =
      sym (ap (spelled places) all) ∙ subst (λ (h : ℕ). spelled places (h + rest) ≡ spelled places rest + spelled places h) (sym is)
      (spelled_more places rest j (omega (arith, small, is))) in
      omega (arith, now, old_is, whole, step)
]
