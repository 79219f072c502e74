-- The numbers of a flat design are in range: of cells, of signal nets, of names, and of the
-- device's sites.
use Rattle.std.specs.Prelude.{◌≡◌, ℕ, ◌<◌, ◌≤◌, length, slice_get, Option, Some, None}
use Rattle.std.specs.FinMap.{get, entries}
use Rattle.std.specs.List.{AllByRecursion}
use Rattle.ix_num.specs.declared.resource.NetRef.{NetRef}
use Rattle.ix_num.specs.declared.resource.NetRef.TheVariants.{Gnd, Vcc, Signal}
use Rattle.ix_rec.specs.declared.device.DeviceRec.{DeviceRec}
use Rattle.ix_rec.specs.declared.flow.CellPin.{CellPin}
use Rattle.ix_rec.specs.declared.flow.Flat.{Flat}
use Rattle.ix_rec.specs.declared.flow.FlatCell.{FlatCell}
use Rattle.ix_rec.specs.declared.flow.FlatNet.{FlatNet}
use Rattle.ix_rec.specs.declared.flow.TruthTable.{TruthTable}
use Rattle.ix_device.specs.Lookups.{sites_of}

abbrev pub IsCellOf : Flat → ℕ → Type 0
IsCellOf flat cell = cell < length flat.cells

-- a constant net, or a signal net of the design
abbrev pub IsNetOf : Flat → NetRef → Type 0
IsNetOf flat Gnd = Unit {0}
IsNetOf flat Vcc = Unit {0}
IsNetOf flat (Signal net) = net < length flat.nets

-- a driver, where there is one, is a pin of a cell of the design
abbrev pub IsDriverOf : Flat → Option CellPin → Type 0
IsDriverOf flat None = Unit {0}
IsDriverOf flat (Some driver) = IsCellOf flat driver.cell

-- its own numbers are in its own lists
pub record NumbersFit (flat : Flat) : Type 0 where
  pub ports : flat.ports ≤ length flat.cells
  pub drivers : (n : ℕ) (net : FlatNet) → slice_get flat.nets n ≡ Some net
      → IsDriverOf flat net.driver
  pub pins : AllByRecursion (λ entry. IsCellOf flat entry.0.0 × IsNetOf flat entry.1)
      (entries flat.pins)
  pub tables : (cell : ℕ) (table : TruthTable) → get flat.tables cell ≡ Some table
      → IsCellOf flat cell
  pub fixed : (cell site : ℕ) → get flat.fixed cell ≡ Some site → IsCellOf flat cell

pub record IsInRange (rec : DeviceRec) (flat : Flat) : Type 0 where
  pub numbers : NumbersFit flat
  pub sites : (cell site : ℕ) → get flat.fixed cell ≡ Some site → site < length (sites_of rec)

-- the name of a driver's pin, where there is a driver, is among so many
abbrev pub IsDriverNamed : (names : ℕ) → Option CellPin → Type 0
IsDriverNamed names None = Unit {0}
IsDriverNamed names (Some driver) = driver.pin < names

-- the names of its cells, their types and pins, and of its nets are among so many
pub record IsNamed (names : ℕ) (flat : Flat) : Type 0 where
  pub cells : (q : ℕ) (cell : FlatCell) → slice_get flat.cells q ≡ Some cell → cell.name < names
  pub types : (q : ℕ) (cell : FlatCell) → slice_get flat.cells q ≡ Some cell → cell.ty < names
  pub nets : (n : ℕ) (net : FlatNet) → slice_get flat.nets n ≡ Some net → net.name < names
  pub pins : AllByRecursion (λ entry. entry.0.1 < names) (entries flat.pins)
  pub drivers : (n : ℕ) (net : FlatNet) → slice_get flat.nets n ≡ Some net
      → IsDriverNamed names net.driver
