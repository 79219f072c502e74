-- Calls that are to fail, and counts that stay at the end of their type.
use Rattle.std.specs.Prelude.{ℕ, ◌<◌, ◌+◌, ◌-◌, ◌^◌, min, ◌&&◌, not, ◌==◌, List, length, Contains}
use Rattle.std.specs.Prelude.{Option, Some, None, Result, Ok, Err, if◌then◌else◌}

-- a count that rises by one, or stays at the end of its type
abbrev pub risen : ℕ → ℕ
risen n = min (n + 1) (2 ^ 64 - 1)

-- the call with this number is to fail
abbrev pub IsNamed : (failing : List ℕ) (call : ℕ) → Type 0
IsNamed failing call = Contains failing call

-- the count of faults after a call that was given a piece: it rises where the call failed, or took
-- nothing of a piece that isn't empty
abbrev pub faults_after : {E : Type 0} → Result ℕ E → (piece : List ℕ) → ℕ → ℕ
faults_after (Ok taken) piece faults = if taken == 0 && not (length piece == 0) then risen faults
    else faults
faults_after (Err error) piece faults = risen faults

-- as many of so many bytes as a call takes or gives that has this limit
abbrev pub within : Option ℕ → ℕ → ℕ
within None size = size
within (Some most) size = min size most

-- the call with this number, which is given a piece, takes nothing: it is to, and the piece isn't
-- empty
abbrev pub TakesNothing : (nothing : List ℕ) (call : ℕ) (piece : List ℕ) → Type 0
TakesNothing nothing call piece = IsNamed nothing call × (0 < length piece)
