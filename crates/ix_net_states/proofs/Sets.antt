-- Lists with another item at a place.
use Rattle.std.proofs.Common.{◌≡◌, ◌≢◌, ◌<◌, ap, refl, ℕ, zero, suc, List, [], ◌∷◌, slice_get, Some}
use Rattle.std.proofs.Common.{length, arith}
use Rattle.std.proofs.Math.ListN.{set}

pub set_here : {A : Type 0} (xs : List A) (i : ℕ) (y : A) → i < length xs
    → slice_get (set xs i y) i ≡ Some y
set_here [] i y lt = absurd (omega arith)
set_here (x ∷ xs) zero y lt = refl
set_here (x ∷ xs) (suc i) y lt = set_here xs i y (omega arith)

pub set_other : {A : Type 0} (xs : List A) (i q : ℕ) (y : A) → i ≢ q
    → slice_get (set xs i y) q ≡ slice_get xs q
set_other [] i q y differ = refl
set_other (x ∷ xs) zero zero y differ = absurd (differ refl)
set_other (x ∷ xs) zero (suc q) y differ = refl
set_other (x ∷ xs) (suc i) zero y differ = refl
set_other (x ∷ xs) (suc i) (suc q) y differ = set_other xs i q y (λ e. differ (ap suc e))
