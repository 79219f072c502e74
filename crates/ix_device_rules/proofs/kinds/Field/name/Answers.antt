use Rattle.std.proofs.Common.{codes, ap, sym}
use Rattle.ix_device_rules.specs.Kinds.{field_name}
use Rattle.ix_device_rules.proofs.kinds.Field.name.Goals as goal

pub returns-in-Name : goal.returns-in-Name
returns-in-Name c = ap (λ k. codes (field_name k)) (sym c.in-Name.is)

pub returns-in-Cell : goal.returns-in-Cell
returns-in-Cell c = ap (λ k. codes (field_name k)) (sym c.in-Cell.is)

pub returns-in-Wires : goal.returns-in-Wires
returns-in-Wires c = ap (λ k. codes (field_name k)) (sym c.in-Wires.is)

pub returns-in-Tile : goal.returns-in-Tile
returns-in-Tile c = ap (λ k. codes (field_name k)) (sym c.in-Tile.is)

pub returns-in-Wire : goal.returns-in-Wire
returns-in-Wire c = ap (λ k. codes (field_name k)) (sym c.in-Wire.is)

pub returns-in-Pins : goal.returns-in-Pins
returns-in-Pins c = ap (λ k. codes (field_name k)) (sym c.in-Pins.is)

pub returns-in-Bel : goal.returns-in-Bel
returns-in-Bel c = ap (λ k. codes (field_name k)) (sym c.in-Bel.is)

pub returns-in-OutPin : goal.returns-in-OutPin
returns-in-OutPin c = ap (λ k. codes (field_name k)) (sym c.in-OutPin.is)

pub returns-in-Width : goal.returns-in-Width
returns-in-Width c = ap (λ k. codes (field_name k)) (sym c.in-Width.is)

pub returns-in-HighBit : goal.returns-in-HighBit
returns-in-HighBit c = ap (λ k. codes (field_name k)) (sym c.in-HighBit.is)

pub returns-in-InputPins : goal.returns-in-InputPins
returns-in-InputPins c = ap (λ k. codes (field_name k)) (sym c.in-InputPins.is)

pub returns-in-OutputPin : goal.returns-in-OutputPin
returns-in-OutputPin c = ap (λ k. codes (field_name k)) (sym c.in-OutputPin.is)

pub returns-in-PrimaryPinsToTileWires : goal.returns-in-PrimaryPinsToTileWires
returns-in-PrimaryPinsToTileWires c = ap (λ k. codes (field_name k)) (sym c.in-PrimaryPinsToTileWires.is)

pub returns-in-Type : goal.returns-in-Type
returns-in-Type c = ap (λ k. codes (field_name k)) (sym c.in-Type.is)

pub returns-in-Row : goal.returns-in-Row
returns-in-Row c = ap (λ k. codes (field_name k)) (sym c.in-Row.is)

pub returns-in-Col : goal.returns-in-Col
returns-in-Col c = ap (λ k. codes (field_name k)) (sym c.in-Col.is)
