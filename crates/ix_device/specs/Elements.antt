-- LUT types, and the LUT elements of site types.
use Rattle.std.specs.Prelude.{ℕ, List, [], ◌∷◌, length, map, slice_get, Bool, true, false, ◌&&◌}
use Rattle.std.specs.Prelude.{nat_le, nat_eq, Option, Some, None, is_some, option_map}
use Rattle.std.specs.Prelude.{if◌then◌else◌, option_and_then}
use Rattle.std.specs.List.{flat_map, list_all, position, find}
use Rattle.ix_rec.specs.declared.device.DeviceRec.{DeviceRec}
use Rattle.ix_rec.specs.declared.device.SiteType.{SiteType}
use Rattle.ix_rec.specs.declared.device.LutCell.{LutCell}
use Rattle.ix_rec.specs.declared.device.LutBel.{LutBel}
use Rattle.ix_rec.specs.declared.device.LutElement.{LutElement}
use Rattle.ix_rec.specs.declared.device.LutEquation.{LutEquation}
use Rattle.ix_rec.specs.declared.device.LutEquation.TheVariants.{Invalid, InitParam}
use Rattle.ix_device_rules.specs.Rules.{is_new, element_has, elements_for}
use Rattle.ix_device.specs.Lookups.{pin_of_bel, wire_in}

-- no two of these are alike
abbrev pub differ : List ℕ → Bool
differ [] = true
differ (x ∷ xs) = is_new xs x && differ xs

-- these, each once
abbrev pub distinct : List ℕ → List ℕ
distinct [] = []
distinct (x ∷ xs) = if is_new xs x then x ∷ distinct xs else distinct xs

abbrev pub is_by_parameter : LutEquation → Bool
is_by_parameter InitParam = true
is_by_parameter Invalid = false

-- A LUT cell counts where its function is given by a parameter and it has 1 to 6 inputs, which
-- differ.
abbrev pub counts_as_lut : LutCell → Bool
counts_as_lut c = is_by_parameter c.equation
    && (nat_le 1 (length c.input_pins) && (nat_le (length c.input_pins) 6 && differ c.input_pins))

abbrev pub is_lut_cell : ℕ → LutCell → Bool
is_lut_cell cell c = nat_eq c.cell cell && counts_as_lut c

-- how many inputs the LUT type of this name has; none where the type isn't one
abbrev pub lut_inputs_of : DeviceRec → ℕ → Option ℕ
lut_inputs_of rec cell = option_map (λ c.
    length c.input_pins) (find (is_lut_cell cell) rec.lut_definitions.lut_cells)

-- The elements of a site type are numbered over all entries that name it.
abbrev pub elements_of : DeviceRec → SiteType → List LutElement
elements_of rec t = elements_for t.name rec.lut_definitions.lut_elements

-- the element of the BEL of this name, and the BEL's place in it
abbrev pub place_in_element : ℕ → LutElement → Option ℕ
place_in_element bel e = position (λ b. nat_eq b.name bel) e.bels

abbrev pub place_in : ℕ → List LutElement → Option (ℕ × ℕ)
place_in bel elements =
    option_and_then (λ k. option_map (λ j. (k, j))
    (option_and_then (place_in_element bel) (slice_get elements k)))
    (position (element_has bel) elements)

-- the same of the BEL of this number
abbrev pub element_of_bel : DeviceRec → ℕ → SiteType → Option (ℕ × ℕ)
element_of_bel rec bel t = option_and_then (λ b. place_in b.name (elements_of rec t))
    (slice_get t.bels bel)

-- the site wire of each input of a LUT BEL, where it is on one
abbrev pub input_lines : SiteType → LutBel → List (Option ℕ)
input_lines t b = map (λ pin. option_and_then (λ p. wire_in p t) (pin_of_bel b.name pin t))
    b.input_pins

-- those that are there
abbrev pub present : List (Option ℕ) → List ℕ
present [] = []
present (Some x ∷ xs) = x ∷ present xs
present (None ∷ xs) = present xs

-- every input of a LUT BEL is on a line, no two on one
abbrev pub has_own_lines : SiteType → LutBel → Bool
has_own_lines t b = list_all is_some (input_lines t b) && differ (present (input_lines t b))

-- An element is usable with at most 8 BELs and 12 lines, each BEL with lines of its own for its
-- inputs.
abbrev pub is_usable : SiteType → LutElement → Bool
is_usable t e =
    nat_le (length e.bels) 8 && list_all (has_own_lines t) e.bels
    && nat_le (length (distinct (flat_map (λ b. present (input_lines t b)) e.bels))) 12
