-- What a builder keeps of the file that it writes.
use Rattle.std.specs.Prelude.{◌≡◌, ◌<◌, ◌+◌, ◌%◌, ◌^◌, List, ℕ, length}

-- whole words, fewer than 2^27 after the header's
pub record IsWhole (file : List ℕ) : Type 0 where
  pub words : length file % 8 ≡ 0
  pub few : length file < 2 ^ 30 + 8
