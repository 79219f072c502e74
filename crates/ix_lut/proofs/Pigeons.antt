-- No more different numbers below `n` than `n`.
use Rattle.std.proofs.Common.{◌≡◌, ◌≢◌, ℕ, suc, ◌<◌, ◌≤◌, Bool, true, false, List, [], ◌∷◌, length, slice_index, arith, sym, eqb, ◌∙◌, subst, refl}
use Rattle.std.specs.List.{IsDistinct, AllByRecursion}
use Rattle.std.proofs.lemmas.Bool.{eqb-true}
use Rattle.std.proofs.lemmas.List.{get_or_default}
use Rattle.std.proofs.lemmas.Map.Steps.{length-le_from_distinct_below}
use Rattle.std.proofs.lemmas.Map.Views.{Contains-from_any}
use Rattle.ix_lut.specs.Tables.{AllDiffer}

pub eqb-not : (a b : ℕ) → a ≢ b → eqb a b ≡ false
eqb-not a b h = false_when (eqb a b) (λ e. h (eqb-true a b e))
  where
    false_when : (t : Bool) → (t ≡ true → ⊥) → t ≡ false
    false_when true never = absurd (never refl)
    false_when false never = refl

each_other : (x : ℕ) (xs : List ℕ) → ((b : ℕ) → b < length xs → x ≢ slice_index xs b) →
    AllByRecursion (λ y. eqb x y ≡ false) xs
each_other x [] h = tt
each_other x (y ∷ ys) h = (eqb-not x y (h 0 (omega arith)), each_other x ys (λ b l. h (suc b) (omega (arith, l))))

distinct : (xs : List ℕ) → AllDiffer xs → IsDistinct eqb xs
unfolding IsDistinct
distinct [] d = tt
distinct (x ∷ xs) d = (
  each_other x xs (λ b l. d 0 (suc b) (omega arith) (omega (arith, l))),
  distinct xs (λ a b h l. d (suc a) (suc b) (omega (arith, h)) (omega (arith, l))),
)

pub length_of_different : (n : ℕ) (xs : List ℕ) → ((i : ℕ) → i < length xs → slice_index xs i < n) →
    AllDiffer xs → length xs ≤ n
length_of_different n xs within differ = length-le_from_distinct_below xs n (distinct xs differ)
    (λ q found. let at = Contains-from_any {eq = eqb} eqb-true q xs found in
    let e = get_or_default xs at.0 q 0 at.1 in
    subst (λ (m : ℕ). m < n) (sym e ∙ at.2) (within at.0 at.1))
