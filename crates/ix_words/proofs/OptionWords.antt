-- Words that are options.
use Rattle.std.proofs.Common.{◌≡◌, ℕ, ◌+◌, ◌<◌, List, [], ◌∷◌, length, Option, Some, None, Bool}
use Rattle.std.proofs.Common.{true, false, not, cond, Bor, refl, sym, subst, arith}
use Rattle.std.proofs.Common.{if◌then◌else◌, lit<, ◌||◌}
use Rattle.std.proofs.lemmas.Str.Pattern.{IsSplitOnceResult, split_once_first}
use Rattle.std.specs.List.{list_any, before_first, after_first, position_or_len}
use Rattle.ix_words.specs.declared.token.Step.{Step}
use Rattle.ix_words.specs.Reading.{ReadsOption}
use Rattle.ix_words.specs.Words.{alone, joined, option_word, option_named, is_equals}

-- no element passes where the first that passes stands past the end
none_passes : {X : Type 0} (p : X → Bool) (xs : List X) → position_or_len p xs ≡ length xs
    → list_any p xs ≡ false
none_passes p [] e = refl
none_passes {X} p (x ∷ xs) e = by_first (p x) e (none_passes p xs)
  where
    by_first : (b : Bool) → cond (not b) (1 + position_or_len p xs) 0 ≡ length (x ∷ xs)
        → (position_or_len p xs ≡ length xs → list_any p xs ≡ false)
        → (b || list_any p xs) ≡ false
    by_first true h _ = absurd (omega (arith, h))
    by_first false h rest = rest (omega (arith, h))

-- one passes where the first that passes stands before the end
one_passes : {X : Type 0} (p : X → Bool) (xs : List X) → position_or_len p xs < length xs
    → list_any p xs ≡ true
one_passes p [] h = absurd (omega (arith, h))
one_passes {X} p (x ∷ xs) h = by_first (p x) h (one_passes p xs)
  where
    by_first : (b : Bool) → cond (not b) (1 + position_or_len p xs) 0 < length (x ∷ xs)
        → (position_or_len p xs < length xs → list_any p xs ≡ true)
        → (b || list_any p xs) ≡ true
    by_first true _ _ = refl
    by_first false h rest = rest (omega (arith, h))

-- an option without a value
pub is_alone : (word : List ℕ) (step : Option Step) → IsSplitOnceResult 61 word None
    → ReadsOption (λ others. alone (option_named word) others) step
    → ReadsOption (λ others. option_word word others) step
is_alone word step split h =
    subst (λ (b : Bool). ReadsOption (λ others. if b
    then joined (option_named (before_first is_equals word)) (after_first is_equals word)
    (others None)
    else alone (option_named word) others) step)
    (sym (none_passes is_equals word (split_once_first 61 word None split (lit< tt)))) h

-- an option with its value
pub is_joined : (word : List ℕ) (parts : Bor (List ℕ) × Bor (List ℕ)) (step : Option Step)
    → IsSplitOnceResult 61 word (Some parts)
    → ReadsOption (λ others. joined (option_named parts.0.now) parts.1.now (others None)) step
    → ReadsOption (λ others. option_word word others) step
is_joined word parts step split h =
    let found = split_once_first 61 word (Some parts) split (lit< tt) in
    subst (λ (b : Bool). ReadsOption (λ others. if b
    then joined (option_named (before_first is_equals word)) (after_first is_equals word)
    (others None)
    else alone (option_named word) others) step)
    (sym (one_passes is_equals word found.0))
    (subst (λ (name : List ℕ). ReadsOption (λ others. joined (option_named name)
    (after_first is_equals word) (others None)) step) found.1
    (subst (λ (value : List ℕ). ReadsOption (λ others. joined
    (option_named parts.0.now) value (others None)) step) found.2 h))
