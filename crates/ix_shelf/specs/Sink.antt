-- What the calls of a sink put.
use Rattle.std.specs.Prelude.{◌≡◌, ◌<◌, ℕ, List, ◌++◌, length, take, Option, option_map}

-- the bytes so far, where the sink tells them, with these after them
abbrev pub with_bytes : List ℕ → Option (List ℕ) → Option (List ℕ)
with_bytes bytes told = option_map (λ before. before ++ bytes) told

-- A prefix of the bytes was put, less than all of them, and nothing else.
abbrev pub PutsPrefix : List ℕ → (old new : Option (List ℕ)) → Type 0
PutsPrefix bytes old new = (n : ℕ) × (n < length bytes) × (new ≡ with_bytes (take n bytes) old)
