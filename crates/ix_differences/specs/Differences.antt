-- How two flat designs differ: in their cells, in the nets of the cells' pins, and in the cells'
-- truth tables. Each design numbers its cells and nets in a way of its own, so both go by name. A
-- name is a number of one table of names, in which no two names are alike.
use Rattle.std.specs.Prelude.{◌≡◌, ◌⊎◌, ℕ, List, slice_get, Option, Some, None, option_map}
use Rattle.std.specs.Prelude.{option_and_then, nat_eq, Bool, IfSome}
use Rattle.std.specs.Cmp.Lexicographic.{slice_cmp}
use Rattle.std.specs.FinMap.{get}
use Rattle.std.specs.List.{position}
use Rattle.std.specs.Ordering.{nat_cmp}
use Rattle.std.specs.declared.cmp.Ordering.TheVariants.{Less}
use Rattle.ix_message.specs.Shape.{Text}
use Rattle.ix_num.specs.Numbers.{NameNumber, SiteNumber}
use Rattle.ix_num.specs.declared.resource.NetRef.{NetRef}
use Rattle.ix_num.specs.declared.resource.NetRef.TheVariants as net
use Rattle.ix_rec.specs.declared.flow.Flat.{Flat}
use Rattle.ix_rec.specs.declared.flow.FlatCell.{FlatCell}
use Rattle.ix_rec.specs.declared.flow.TruthTable.{TruthTable}
use Rattle.ix_rec.specs.declared.place.Place.{Place}
use Rattle.ix_rec.specs.declared.place.Place.TheVariants.{Cell, Pin}
use Rattle.ix_rec.specs.declared.place.Rule.{Rule}
use Rattle.ix_rec.specs.declared.place.Rule.TheVariants.{E1, E2, E3}
use Rattle.ix_differences.specs.declared.named_net.NamedNet.{NamedNet}
use Rattle.ix_differences.specs.declared.named_net.NamedNet.TheVariants.{Gnd, Vcc, Signal}

-- What a design says of a cell, by the cell's name; none where there is no such cell.

abbrev pub is_of_name : NameNumber → FlatCell → Bool
is_of_name name cell = nat_eq cell.name name

-- its number
abbrev pub cell_named : Flat → NameNumber → Option ℕ
cell_named flat name = position (is_of_name name) flat.cells

-- its type
abbrev pub type_at : Flat → NameNumber → Option NameNumber
type_at flat name = option_and_then (λ cell. option_map (λ c. c.ty) (slice_get flat.cells cell))
    (cell_named flat name)

-- the site to which it is fixed, where it is fixed to one
abbrev pub site_at : Flat → NameNumber → Option SiteNumber
site_at flat name = option_and_then (get flat.fixed) (cell_named flat name)

-- its truth table, where it has one
abbrev pub table_at : Flat → NameNumber → Option TruthTable
table_at flat name = option_and_then (get flat.tables) (cell_named flat name)

-- a net, by the name of its signal
abbrev pub named_net : Flat → NetRef → Option NamedNet
named_net flat net.Gnd = Some Gnd
named_net flat net.Vcc = Some Vcc
named_net flat (net.Signal n) = option_map (λ signal. Signal signal.name) (slice_get flat.nets n)

-- the net of one of its pins, where the pin is on one
abbrev pub net_at : Flat → (cell pin : NameNumber) → Option NamedNet
net_at flat cell pin = option_and_then (λ c. option_and_then (named_net flat)
    (get flat.pins (c, pin))) (cell_named flat cell)

-- What is asked of a design `a` that was taken from a netlist, and of the flat design `b`.

-- both have a cell of the name, of one type, or neither has; and where `b` fixes it, that is its
-- site in `a` too
pub record AgreesOnCell (a b : Flat) (cell : NameNumber) : Type 0 where
  pub types : type_at a cell ≡ type_at b cell
  pub sites : IfSome (site_at b cell) (λ site. site_at a cell ≡ Some site)

-- the pin is on one net in both, or on none in both
abbrev pub AgreesOnPin : Flat → Flat → (cell pin : NameNumber) → Type 0
AgreesOnPin a b cell pin = net_at a cell pin ≡ net_at b cell pin

-- the cell has one truth table in both, or none in both
abbrev pub AgreesOnTable : Flat → Flat → (cell : NameNumber) → Type 0
AgreesOnTable a b cell = table_at a cell ≡ table_at b cell

abbrev pub AllCellsAgree : Flat → Flat → Type 0
AllCellsAgree a b = (cell : NameNumber) → AgreesOnCell a b cell

abbrev pub AllPinsAgree : Flat → Flat → Type 0
AllPinsAgree a b = (cell pin : NameNumber) → AgreesOnPin a b cell pin

abbrev pub AllTablesAgree : Flat → Flat → Type 0
AllTablesAgree a b = (cell : NameNumber) → AgreesOnTable a b cell

pub record Agree (a b : Flat) : Type 0 where
  pub cells : AllCellsAgree a b
  pub pins : AllPinsAgree a b
  pub tables : AllTablesAgree a b

-- Where they differ first.

-- in the order of bytes
abbrev pub IsEarlier : Text → Text → Type 0
IsEarlier s t = slice_cmp nat_cmp s t ≡ Less

-- of pins: by the names of their cells, and at one cell by their own
abbrev pub IsEarlierPin : (cell pin other_cell other_pin : Text) → Type 0
IsEarlierPin cell pin other_cell other_pin = IsEarlier cell other_cell
    ⊎ ((cell ≡ other_cell) × IsEarlier pin other_pin)

-- the place is the first cell at which they don't agree
pub record IsFirstCell (names : List Text) (Agrees : NameNumber → Type 0) (place : Place)
    : Type 0 where
  pub cell : NameNumber
  pub text : Text
  pub is_named : slice_get names cell ≡ Some text
  pub differs : ¬ Agrees cell
  pub agrees_before : (other : NameNumber) (earlier : Text)
      → slice_get names other ≡ Some earlier → IsEarlier earlier text → Agrees other
  pub told : place ≡ Cell text

-- the place is the first pin at which they don't agree
pub record IsFirstPin (names : List Text) (Agrees : (cell pin : NameNumber) → Type 0)
    (place : Place) : Type 0 where
  pub cell : NameNumber
  pub pin : NameNumber
  pub cell_text : Text
  pub pin_text : Text
  pub cell_is_named : slice_get names cell ≡ Some cell_text
  pub pin_is_named : slice_get names pin ≡ Some pin_text
  pub differs : ¬ Agrees cell pin
  pub agrees_before : (other_cell other_pin : NameNumber) (earlier_cell earlier_pin : Text)
      → slice_get names other_cell ≡ Some earlier_cell
      → slice_get names other_pin ≡ Some earlier_pin
      → IsEarlierPin earlier_cell earlier_pin cell_text pin_text → Agrees other_cell other_pin
  pub told : place ≡ Pin cell_text pin_text

-- The least rule that isn't kept, and its first place. A rule is asked where those before it are
-- kept.
abbrev pub IsFirstDifference : List Text → (a b : Flat) → Rule → Place → Type 0
IsFirstDifference names a b E1 place = IsFirstCell names (AgreesOnCell a b) place
IsFirstDifference names a b E2 place = AllCellsAgree a b
    × IsFirstPin names (AgreesOnPin a b) place
IsFirstDifference names a b E3 place = AllCellsAgree a b × AllPinsAgree a b
    × IsFirstCell names (AgreesOnTable a b) place
IsFirstDifference names a b rule place = ⊥

-- what is told of two designs: none exactly where they agree
abbrev pub IsAnswer : List Text → (a b : Flat) → Option (Rule × Place) → Type 0
IsAnswer names a b None = Agree a b
IsAnswer names a b (Some answer) = IsFirstDifference names a b answer.0 answer.1
