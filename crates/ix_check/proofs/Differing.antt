-- The cells of the design that a legal netlist realizes have different names.
use Rattle.std.proofs.Common.{◌≡◌, ◌∙◌, ap, sym, refl, ℕ, List, [], ◌∷◌, true}
use Rattle.std.specs.Prelude.{slice_get, take, map, Option, Some, None, option_map}
use Rattle.std.proofs.lemmas.Option.{none-some, same_Some, slice_get-map}
use Rattle.ix_message.specs.Shape.{Text}
use Rattle.ix_device_rules.specs.Rules.{is_new}
use Rattle.ix_flat.specs.Whole.{AllDiffer}
use Rattle.ix_rec.specs.declared.device.DeviceRec.{DeviceRec}
use Rattle.ix_rec.specs.declared.flow.Flat.{Flat}
use Rattle.ix_rec.specs.declared.phys.CellPlacement.{CellPlacement}
use Rattle.ix_rec.specs.declared.phys.Phys.{Phys}
use Rattle.ix_legal.specs.declared.level.Level.{Level}
use Rattle.ix_legal.specs.Breaks.{asked_at}
use Rattle.ix_legal.specs.Legal.{Legal}
use Rattle.ix_legal.specs.Placements.{PlacementFits}
use Rattle.ix_legal.specs.declared.spot.Spot.TheVariants.{PlacementAt}
use Rattle.ix_table_keys.proofs.Found.{one_of_name}
use Rattle.ix_extract.specs.Extracted.{cell_of}

-- what is told of something is told of a thing
from_map : {A B : Type 0} (f : A → B) (o : Option A) (y : B) → option_map f o ≡ Some y
    → (x : A) × (o ≡ Some x) × (f x ≡ y)
from_map f None y is = absurd (none-some y is)
from_map f (Some x) y is = (x, refl, same_Some (f x) y is)

-- the names of placed cells
named_cells : (ms : List CellPlacement)
    → map (λ cell. cell.name) (map cell_of ms) ≡ map (λ m. m.cell_name) ms
named_cells [] = refl
named_cells (m ∷ ms) = ap (λ names. m.cell_name ∷ names) (named_cells ms)

pub names_differ : (level : Level) (names : List Text) (rec : DeviceRec) (phys : Phys) (flat : Flat)
    → Legal level names rec phys → flat.cells ≡ map cell_of phys.placements
    → AllDiffer (map (λ cell. cell.name) flat.cells)
names_differ level names rec phys flat legal cells_are i j x at_i at_j =
    let name_of : CellPlacement → ℕ = λ m. m.cell_name in
    let named : map (λ cell. cell.name) flat.cells ≡ map name_of phys.placements =
    ap (map (λ cell. cell.name)) cells_are ∙ named_cells phys.placements in
    let one = placed i x (sym (ap (λ xs. slice_get xs i) named) ∙ at_i) in
    let other = placed j x (sym (ap (λ xs. slice_get xs j) named) ∙ at_j) in
    one_of_name name_of phys.placements i j one.0 other.0 one.1 other.1
    (alone i one.0 one.1) (alone j other.0 other.1) (one.2 ∙ sym other.2)
  where
    placed : (k x : ℕ) → slice_get (map (λ m. m.cell_name) phys.placements) k ≡ Some x
        → (m : CellPlacement) × (slice_get phys.placements k ≡ Some m) × (m.cell_name ≡ x)
    placed k x is = from_map (λ m. m.cell_name) (slice_get phys.placements k) x
        (sym (slice_get-map (λ m. m.cell_name) phys.placements k) ∙ is)

    alone : (k : ℕ) (m : CellPlacement) → slice_get phys.placements k ≡ Some m
        → is_new (map (λ m. m.cell_name) (take k phys.placements)) m.cell_name ≡ true
    alone k m at =
        let fits : PlacementFits rec phys (take k phys.placements) m = asked_at phys.placements k
        (PlacementFits rec phys (take k phys.placements)) m at (legal.l2 (PlacementAt k)) in
        fits.cell_alone
