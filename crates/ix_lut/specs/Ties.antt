-- Ties of an element's lines, and what the LUTs of an element force.
use Rattle.std.specs.Prelude.{◌≡◌, ℕ, ◌<◌}
use Rattle.ix_num.specs.declared.resource.NetRef.{NetRef}
use Rattle.ix_num.specs.declared.resource.NetRef.TheVariants as net
use Rattle.ix_lut.specs.Tables.{TableBits}
use Rattle.ix_lut.specs.Places.{LineNumber, LutPlace, Held, Forces}
use Rattle.ix_lut.specs.declared.shape.Tie.{Tie}
use Rattle.ix_lut.specs.declared.shape.Tie.TheVariants.{Free, Vcc, Gnd}

-- what a net holds a line at
abbrev pub constant_of : NetRef → Tie
constant_of net.Gnd = Gnd
constant_of net.Vcc = Vcc
constant_of (net.Signal n) = Free

-- one of the first `count` LUTs forces the bit `at` to `bit`
pub record IsForced (count : ℕ) (luts : ℕ → LutPlace)
    (tables : ℕ → TableBits) (held : Held) (at bit : ℕ) : Type 0 where
  pub u : ℕ
  pub within : u < count
  pub forces : Forces (luts u) (tables u) held at bit

-- no bit is forced both ways
abbrev pub NoneBothWays : ℕ → (ℕ → LutPlace) → (ℕ → TableBits) → Held → Type 0
NoneBothWays count luts tables held = (at : ℕ) → IsForced count luts tables held at 0 →
    IsForced count luts tables held at 1 → ⊥

-- the order of ties: free, vcc, gnd
abbrev pub rank : Tie → ℕ
rank Free = 0
rank Vcc = 1
rank Gnd = 2

-- the first comes before the other, compared line by line
pub record AreBefore (ties others : Held) : Type 0 where
  pub line : LineNumber
  pub same : (l : LineNumber) → l < line → ties l ≡ others l
  pub less : rank (ties line) < rank (others line)
