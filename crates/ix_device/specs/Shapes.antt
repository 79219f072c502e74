-- The shapes of LUT elements: their lines, and where their BELs read.
use Rattle.std.specs.Prelude.{ℕ, List, [], ◌∷◌, ◌++◌, length, map, take, slice_get, nat_eq, Option}
use Rattle.std.specs.Prelude.{Some, None, if◌then◌else◌, option_and_then}
use Rattle.std.specs.List.{flat_map, position_or_len}
use Rattle.ix_rec.specs.declared.device.DeviceRec.{DeviceRec}
use Rattle.ix_rec.specs.declared.device.SiteType.{SiteType}
use Rattle.ix_rec.specs.declared.device.LutBel.{LutBel}
use Rattle.ix_rec.specs.declared.device.LutElement.{LutElement}
use Rattle.ix_device_rules.specs.Rules.{is_new}
use Rattle.ix_lut.specs.Places.{LineNumber}
use Rattle.ix_lut.specs.Shapes.{input_lines as lines_of_shape}
use Rattle.ix_lut.specs.declared.shape.BelShape.{BelShape}
use Rattle.ix_lut.specs.declared.shape.ElementShape.{ElementShape}
use Rattle.ix_device.specs.Elements.{elements_of, input_lines, present, is_usable}

-- lines with one, which is added where it is new
abbrev pub with_line : List ℕ → ℕ → List ℕ
with_line lines x = if is_new lines x then lines ++ x ∷ [] else lines

-- the same of several
abbrev pub with_lines : List ℕ → List ℕ → List ℕ
with_lines lines [] = lines
with_lines lines (x ∷ xs) = with_lines (with_line lines x) xs

-- an element's lines: the site wires of its BELs' inputs, each once, by first appearance
abbrev pub lines_of : SiteType → LutElement → List ℕ
lines_of t e = with_lines [] (flat_map (λ b. present (input_lines t b)) e.bels)

-- the number of a line: its place among these
abbrev pub line_number : List ℕ → ℕ → LineNumber
line_number lines wire = position_or_len (nat_eq wire) lines

-- what a shape says of a BEL: the bit of the element's table that it reads where all its inputs
-- are 0, and the line of each of its inputs
pub record BelSeen : Type 0 where
  pub low : ℕ
  pub lines : List LineNumber

-- and of an element: how many lines it has, and its BELs in order
pub record ShapeSeen : Type 0 where
  pub lines : ℕ
  pub bels : List BelSeen

-- a BEL of an element of these lines
abbrev pub bel_with : SiteType → List ℕ → LutBel → BelSeen
bel_with t lines b =
    record { low = b.low_bit; lines = map (line_number lines) (present (input_lines t b)) }

abbrev pub shape_of : SiteType → LutElement → ShapeSeen
shape_of t e =
    record { lines = length (lines_of t e); bels = map (bel_with t (lines_of t e)) e.bels }

-- the shape of an element; none where it isn't usable
abbrev pub usable_shape : SiteType → LutElement → Option ShapeSeen
usable_shape t e = if is_usable t e then Some (shape_of t e) else None

-- the shape of a site type's element of this number
abbrev pub shape_in : DeviceRec → ℕ → SiteType → Option ShapeSeen
shape_in rec element t = option_and_then (usable_shape t) (slice_get (elements_of rec t) element)

-- what is seen of a shape: past its numbers of inputs and BELs nothing
abbrev pub bel_seen : BelShape → BelSeen
bel_seen b = record { low = b.low; lines = lines_of_shape b }

abbrev pub shape_seen : ElementShape → ShapeSeen
shape_seen s = record { lines = s.lines; bels = map bel_seen (take s.bel_count s.bels) }
