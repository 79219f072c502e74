-- Numbers that are looked up.
use Rattle.std.proofs.Common.{◌≡◌, ℕ, ◌<◌, ◌≤◌, List, length, get_or, Bool, true, false, Result, Ok}
use Rattle.std.proofs.Common.{Err, sym, refl, arith}
use Rattle.std.specs.Prelude.{◌==◌, nat_lt}
use Rattle.std.specs.Result.{is_ok, MatchResult}
use Rattle.std.proofs.lemmas.Bool.{eq-eqb, ne_eqb}
use Rattle.std.proofs.lemmas.Bool.Decides.{nat_tests}
use Rattle.std.proofs.lemmas.List.Folds.{list_any_at, list_any_none}
use Rattle.std.proofs.lemmas.Grind.{get_or_default_zero}
use Rattle.ix_message.specs.Indexes.{has_number}

pub has_from_search : (xs : List ℕ) (n : ℕ) (r : Result ℕ ℕ)
    → MatchResult r (λ i. (i < length xs) × (get_or xs i 0 ≡ n))
    (λ i. (i ≤ length xs) × ((k : ℕ) → k < i → get_or xs k 0 < n)
    × ((k : ℕ) → i ≤ k → k < length xs → n < get_or xs k 0))
    → is_ok r ≡ has_number xs n
has_from_search xs n (Ok i) h = sym (list_any_at (λ k. k == n) xs i 0 h.0
    (eq-eqb (get_or xs i 0) n h.1))
has_from_search xs n (Err i) h =
    sym (list_any_none (λ k. k == n) xs (λ k d lt. ne_eqb (get_or xs k d) n
    (λ e. apart k d lt e (nat_lt k i) refl)))
  where
    apart : (k d : ℕ) → k < length xs → get_or xs k d ≡ n → (b : Bool) → nat_lt k i ≡ b → ⊥
    apart k d lt e true is = let l : k < i = grind (arith, nat_tests) in
        omega (arith, h.1 k l, get_or_default_zero xs k d lt)
    apart k d lt e false is = let l : i ≤ k = grind (arith, nat_tests) in
        omega (arith, h.2 k l lt, get_or_default_zero xs k d lt)
