-- A placed LUT has at most one function.
use Rattle.std.proofs.Common.{◌≡◌, ℕ, zero, suc, ◌+◌, ◌*◌, ◌/◌, ◌^◌, ◌<◌, ◌≤◌, ◌⊎◌, Bool, true, false, cond, eqb, inl, inr, List, [], ◌∷◌, length, slice_index, sym, ap, ◌∙◌, refl, subst, arith}
use Rattle.std.specs.Int.{bit_at}
use Rattle.std.proofs.lemmas.Bool.{cases_lt, eqb-true, eq-eqb}
use Rattle.std.proofs.lemmas.List.{get_or_default}
use Rattle.std.proofs.lemmas.Nat.Bits.{bit_at-lt, bit_at_lowest, bit_at-suc, same_from_bits_below}
use Rattle.std.proofs.Math.Nat.{pow-succ'}
use Rattle.ix_lut.specs.Tables.{spelled, AllDiffer, ArePlaces, IsTable}
use Rattle.ix_lut.specs.Places.{LutPlace, Held, Allows, Agrees, GivesFunction}
use Rattle.ix_lut.specs.Plans.{place_in}
use Rattle.ix_lut.specs.declared.shape.Tie.{Tie}
use Rattle.ix_lut.specs.declared.shape.Tie.TheVariants.{Free, Vcc, Gnd}
use Rattle.ix_lut.proofs.Bits.{two_cases, add_bit_below, add_bit_same}
use Rattle.ix_lut.proofs.Pigeons.{eqb-not}
use Rattle.ix_lut.proofs.Spelling.{spelled_small}

-- the number with these bits
number_of : ℕ → (ℕ → ℕ) → ℕ
number_of zero f = 0
number_of (suc k) f = number_of k f + f k * 2 ^ k

module _ (f : ℕ → ℕ) (bits : (j : ℕ) → f j < 2) where
  number_small : (k : ℕ) → number_of k f < 2 ^ k
  unfolding number_of
  number_small zero = omega arith
  number_small (suc k) = rw (pow-succ' 2 k) (elim (two_cases (f k) (bits k)) [
    | inl e ↦ rw e (omega (arith, number_small k))
    | inr e ↦ rw e (omega (arith, number_small k))
  ])

  number_bit : (k j : ℕ) → j < k → bit_at (number_of k f) j ≡ f j
  unfolding number_of
  number_bit zero j h = absurd (omega (arith, h))
  number_bit (suc k) j h = elim (cases_lt j k) [
    | inl under ↦ add_bit_below (number_of k f) k (f k) j under ∙ number_bit k j under
    | inr over ↦
        let same : k ≡ j = omega (arith, h, over) in
        subst (λ (i : ℕ). bit_at (number_of k f + f k * 2 ^ k) i ≡ f i) same
        (add_bit_same (number_of k f) k (f k) (number_small k) (bits k))
  ]

-- a bit of what some inputs spell
spelled_bit : (places : List ℕ) (v i : ℕ) → i < length places → bit_at (spelled places v) i ≡ bit_at v (slice_index places i)
spelled_bit [] v i h = absurd (omega (arith, h))
spelled_bit (p ∷ ps) v zero h = bit_at_lowest (bit_at v p + 2 * spelled ps v) ∙ omega (arith, bit_at-lt v p)
spelled_bit (p ∷ ps) v (suc i) h =
    let half : (bit_at v p + 2 * spelled ps v) / 2 ≡ spelled ps v = omega (arith, bit_at-lt v p) in
    bit_at-suc (bit_at v p + 2 * spelled ps v) i ∙ ap (λ n. bit_at n i) half ∙ spelled_bit ps v i (omega (arith, h))

-- the place of an input that is there
place_at : (places : List ℕ) (i : ℕ) → AllDiffer places → i < length places → place_in places (slice_index places i) ≡ i
place_at [] i differ h = absurd (omega (arith, h))
place_at (p ∷ ps) zero differ h = rw (eq-eqb p p refl) refl
place_at (p ∷ ps) (suc i) differ h =
    rw (eqb-not p (slice_index ps i) (differ 0 (suc i) (omega arith) h))
    (ap suc (place_at ps i (λ a b below inside. differ (suc a) (suc b) (omega (arith, below)) (omega (arith, inside))) (omega (arith, h))))

place_holds : (places : List ℕ) (j : ℕ) → place_in places j < length places → slice_index places (place_in places j) ≡ j
place_holds [] j h = absurd (omega (arith, h))
place_holds (p ∷ ps) j h = test (eqb p j) refl h (place_holds ps j)
  where
    test : (b : Bool) → eqb p j ≡ b → cond b 0 (suc (place_in ps j)) < suc (length ps) →
        (place_in ps j < length ps → slice_index ps (place_in ps j) ≡ j) → slice_index (p ∷ ps) (cond b 0 (suc (place_in ps j))) ≡ j
    test true e below rest = eqb-true p j e
    test false e below rest = rest (omega (arith, below))

tie_bit : Tie → ℕ
tie_bit Free = 0
tie_bit Vcc = 1
tie_bit Gnd = 0

tie_allows : (t : Tie) → Allows t (tie_bit t)
unfolding tie_bit
tie_allows Free = tt
tie_allows Vcc = refl
tie_allows Gnd = refl

tie_small : (t : Tie) → tie_bit t < 2
unfolding tie_bit
tie_small Free = omega arith
tie_small Vcc = omega arith
tie_small Gnd = omega arith

-- the values at which the cell's inputs spell `n`, and the others are as they are held
module _ (lut : LutPlace) (held : Held) (are : ArePlaces (length lut.lines) lut.places) (n : ℕ) (few : n < 2 ^ length lut.places) where
  value_by : (j place : ℕ) → (place < length lut.places) ⊎ (length lut.places ≤ place) → ℕ
  value_by j place (inl used) = bit_at n place
  value_by j place (inr unused) = tie_bit (held (slice_index lut.lines j))

  value : ℕ → ℕ
  value j = value_by j (place_in lut.places j) (cases_lt (place_in lut.places j) (length lut.places))

  value_small : (j : ℕ) → value j < 2
  unfolding value value_by
  value_small j = elim (cases_lt (place_in lut.places j) (length lut.places)) as (λ d. value_by j (place_in lut.places j) d < 2) [
    | inl used ↦ bit_at-lt n (place_in lut.places j)
    | inr unused ↦ tie_small (held (slice_index lut.lines j))
  ]

  value_used : (j : ℕ) → place_in lut.places j < length lut.places → value j ≡ bit_at n (place_in lut.places j)
  unfolding value value_by
  value_used j h = elim (cases_lt (place_in lut.places j) (length lut.places)) as (λ d. value_by j (place_in lut.places j) d ≡ bit_at n (place_in lut.places j)) [
    | inl used ↦ refl
    | inr unused ↦ absurd (omega (arith, h, unused))
  ]

  value_unused : (j : ℕ) → length lut.places ≤ place_in lut.places j → value j ≡ tie_bit (held (slice_index lut.lines j))
  unfolding value value_by
  value_unused j h = elim (cases_lt (place_in lut.places j) (length lut.places)) as (λ d. value_by j (place_in lut.places j) d ≡ tie_bit (held (slice_index lut.lines j))) [
    | inl used ↦ absurd (omega (arith, h, used))
    | inr unused ↦ refl
  ]

  all_values : ℕ
  all_values = number_of (length lut.lines) value

  value_bit : (j : ℕ) → j < length lut.lines → bit_at all_values j ≡ value j
  unfolding all_values
  value_bit j h = number_bit value value_small (length lut.lines) j h

  values_agree : Agrees lut held all_values
  unfolding all_values
  values_agree = record {
    within = number_small value value_small (length lut.lines);
    unused = λ j below none. elim (cases_lt (place_in lut.places j) (length lut.places)) [
      | inl used ↦ absurd (none (
        place_in lut.places j,
        used,
        get_or_default lut.places (place_in lut.places j) j 0 used ∙ place_holds lut.places j used,
      ))
      | inr unused ↦ subst (λ (b : ℕ). Allows (held (slice_index lut.lines j)) b)
          (sym (value_bit j below ∙ value_unused j unused)) (tie_allows (held (slice_index lut.lines j)))
    ];
  }

  values_spell : spelled lut.places all_values ≡ n
  values_spell = same_from_bits_below (length lut.places) (spelled lut.places all_values) n (spelled_small lut.places all_values) few
      (λ i h.
      let at = place_at lut.places i are.differ h in
      spelled_bit lut.places all_values i h ∙ value_bit (slice_index lut.places i) (are.within i h) ∙
      value_used (slice_index lut.places i) (omega (arith, at, h)) ∙ ap (bit_at n) at)

-- two functions are one
pub one_function : (lut : LutPlace) (held : Held) (bits table other : ℕ) → ArePlaces (length lut.lines) lut.places →
    IsTable (length lut.places) table → IsTable (length lut.places) other →
    GivesFunction lut held bits table → GivesFunction lut held bits other → other ≡ table
one_function lut held bits table other are is_table is_other gives also =
    same_from_bits_below (2 ^ length lut.places) other table is_other is_table
    (λ n few.
    let v : ℕ = all_values lut held are n few in
    let agrees : Agrees lut held v = values_agree lut held are n few in
    let spells : spelled lut.places v ≡ n = values_spell lut held are n few in
    ap (bit_at other) (sym spells) ∙ sym (also v agrees) ∙ gives v agrees ∙ ap (bit_at table) spells)
