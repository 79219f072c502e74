-- The kinds of structs and the fields that rules ask, and their names in the schema.
use Prim.Native.String.{String}
use Rattle.std.specs.Prelude.{ℕ, ◌+◌, List, [], ◌∷◌, codes, if◌then◌else◌}
use Rattle.ix_message.specs.Names.{same_text}
use Rattle.ix_device_rules.specs.declared.kinds.Kind.{Kind}
use Rattle.ix_device_rules.specs.declared.kinds.Kind.TheVariants.{BelPin, SitePin, Bel, SitePip}
use Rattle.ix_device_rules.specs.declared.kinds.Kind.TheVariants.{SiteWire, SiteType}
use Rattle.ix_device_rules.specs.declared.kinds.Kind.TheVariants.{SiteTypeInTileType, TileType}
use Rattle.ix_device_rules.specs.declared.kinds.Kind.TheVariants.{Site, Tile, Wire, Node}
use Rattle.ix_device_rules.specs.declared.kinds.Kind.TheVariants.{CellBelMapping, LutBel}
use Rattle.ix_device_rules.specs.declared.kinds.Kind.TheVariants.{LutElement}
use Rattle.ix_device_rules.specs.declared.kinds.Field.{Field}
use Rattle.ix_device_rules.specs.declared.kinds.Field.TheVariants as F

abbrev pub kinds : List String
kinds = "BELPin" ∷ "SitePin" ∷ "BEL" ∷ "SitePIP" ∷ "SiteWire" ∷ "SiteType" ∷ "SiteTypeInTileType"
    ∷ "TileType" ∷ "Site" ∷ "Tile" ∷ "Wire" ∷ "Node" ∷ "CellBelMapping" ∷ "LutBel" ∷ "LutElement"
    ∷ []

-- the place of a kind; past the end where it isn't there
abbrev pub number_of_kind : List String → String → ℕ
number_of_kind [] kind = 0
number_of_kind (k ∷ ks) kind = if same_text (codes kind) (codes k) then 0
    else number_of_kind ks kind + 1

abbrev pub kind_name : Kind → String
kind_name BelPin = "BELPin"
kind_name SitePin = "SitePin"
kind_name Bel = "BEL"
kind_name SitePip = "SitePIP"
kind_name SiteWire = "SiteWire"
kind_name SiteType = "SiteType"
kind_name SiteTypeInTileType = "SiteTypeInTileType"
kind_name TileType = "TileType"
kind_name Site = "Site"
kind_name Tile = "Tile"
kind_name Wire = "Wire"
kind_name Node = "Node"
kind_name CellBelMapping = "CellBelMapping"
kind_name LutBel = "LutBel"
kind_name LutElement = "LutElement"

abbrev pub field_name : Field → String
field_name F.Name = "name"
field_name F.Cell = "cell"
field_name F.Wires = "wires"
field_name F.Tile = "tile"
field_name F.Wire = "wire"
field_name F.Pins = "pins"
field_name F.Bel = "bel"
field_name F.OutPin = "outpin"
field_name F.Width = "width"
field_name F.HighBit = "highBit"
field_name F.InputPins = "inputPins"
field_name F.OutputPin = "outputPin"
field_name F.PrimaryPinsToTileWires = "primaryPinsToTileWires"
field_name F.Type = "type"
field_name F.Row = "row"
field_name F.Col = "col"
