-- Steps of which each may find a fault, the first of which counts.
use Rattle.std.specs.Prelude.{Bool, true, false, Result, Ok, Err, ◌≡◌}

infixl 10 ◌>>=◌
abbrev pub ◌>>=◌ : {A B E : Type 0} → Result A E → (A → Result B E) → Result B E
(Ok x) >>= f = f x
(Err e) >>= f = Err e

-- the fault, unless the test passes
abbrev pub unless : {E : Type 0} → Bool → E → Result (Unit {0}) E
unless true fault = Ok tt
unless false fault = Err fault

-- What a call returned, seen by view, is what the definition gives over the budget before the call,
-- and after a fault the budget is as it was.
abbrev pub Gives : {X Y E Z : Type 0} → (X → Y) → Result X E → (before now : Z) → Result (Y × Z) E
    → Type 0
Gives view (Ok x) before now given = given ≡ Ok (view x, now)
Gives view (Err e) before now given = (given ≡ Err e) × (now ≡ before)

-- What a call that changes nothing returned, seen by view, is what the definition gives.
abbrev pub Finds : {X Y E : Type 0} → (X → Y) → Result X E → Result Y E → Type 0
Finds view (Ok x) given = given ≡ Ok (view x)
Finds view (Err e) given = given ≡ Err e

-- The same of a reader of several fields, which a fault leaves with what the fields before it cost.
abbrev pub Reads : {X Y E Z : Type 0} → (X → Y) → Result X E → (now : Z) → Result (Y × Z) E → Type 0
Reads view (Ok x) now given = given ≡ Ok (view x, now)
Reads view (Err e) now given = given ≡ Err e
