-- What the answers of commands are proved by: how the code's steps make a chain.
use Rattle.std.proofs.Common.{◌≡◌, ◌∙◌, ap, sym, subst, Result, Ok, Err, inl, inr, List, [], ◌∷◌}
use Rattle.std.proofs.Common.{length, slice_get, Some, arith}
use Rattle.std.proofs.lemmas.Option.{same_Some}
use Rattle.std.specs.Result.{IsErrAnd}
use Rattle.std.proofs.lemmas.Result.{err_from_is_err_and}
use Rattle.ix_job.specs.declared.stop.Stop.{Stop}
use Rattle.ix_job.specs.declared.stop.Stop.TheVariants.{Refused, Memory}
use Rattle.ix_job.specs.Chain.{Step, and_then, Meets}

-- the first step stops
pub stops_first : {A B X Y : Type 0} (view : X → A) (all : Y → B) (step : Step A) (next : A
    → Step B) (stop : Stop) → Meets view step (Err stop) → Meets all (and_then step next) (Err stop)
stops_first view all step next (Refused report) h = inl h
stops_first view all step next Memory h = tt

-- the first step goes on
pub goes_on : {A B Y : Type 0} (all : Y → B) (step : Step A) (next : A → Step B) (a : A)
    (r : Result Y Stop) → step (Ok a) → Meets all (next a) r → Meets all (and_then step next) r
goes_on all step next a (Ok b) h k = (a, h, k)
goes_on all step next a (Err (Refused report)) h k = inr (a, h, k)
goes_on all step next a (Err Memory) h k = tt

-- the same at the exit of a `?`
pub exits_first : {A B X Y : Type 0} (view : X → A) (all : Y → B) (step : Step A) (next : A
    → Step B) (stop : Stop) (r : Result Y Stop) → IsErrAnd r (λ e. e ≡ stop)
    → Meets view step (Err stop) → Meets all (and_then step next) r
exits_first view all step next stop r e h =
    let p = err_from_is_err_and r e in
    subst (Meets all (and_then step next)) (sym (p.1 ∙ ap Err p.2))
    (stops_first view all step next stop h)

-- a list of two items
pub two_items : {A : Type 0} (xs : List A) (a b : A) → length xs ≡ 2 → slice_get xs 0 ≡ Some a
    → slice_get xs 1 ≡ Some b → xs ≡ a ∷ b ∷ []
two_items [] a b n p q = absurd (omega (arith, n))
two_items (x ∷ []) a b n p q = absurd (omega (arith, n))
two_items (x ∷ y ∷ []) a b n p q = let h : x ≡ a = same_Some x a p in let k : y ≡ b =
    same_Some y b q in cc
two_items (x ∷ y ∷ z ∷ xs) a b n p q = absurd (omega (arith, n))
