-- What numbers stand for in definitions. A number of a thing is its place in the list that has the
-- things in order, from 0; each is a natural number, whether or not there is such a thing.
use Rattle.std.specs.Prelude.{ℕ}

-- a name, in the table of names of a run
abbrev pub NameNumber : Type 0
NameNumber = ℕ

-- a tile, in the device's list of tiles
abbrev pub TileNumber : Type 0
TileNumber = ℕ

-- a site: sites are numbered by tile, then by place in the tile
abbrev pub SiteNumber : Type 0
SiteNumber = ℕ

-- a site type, in the device's list of site types
abbrev pub SiteTypeNumber : Type 0
SiteTypeNumber = ℕ

-- a BEL, a pin of a BEL, a pin of a site and a site wire, in the lists of their site type
abbrev pub BelNumber : Type 0
BelNumber = ℕ

abbrev pub BelPinNumber : Type 0
BelPinNumber = ℕ

abbrev pub SitePinNumber : Type 0
SitePinNumber = ℕ

abbrev pub SiteWireNumber : Type 0
SiteWireNumber = ℕ

-- a wire of a tile, in the list of wires of the tile's type
abbrev pub WireNumber : Type 0
WireNumber = ℕ

-- a tile wire: its tile, and its number in the tile's type
abbrev pub TileWire : Type 0
TileWire = TileNumber × WireNumber

-- a node
abbrev pub NodeNumber : Type 0
NodeNumber = ℕ

-- a directed PIP
abbrev pub PipNumber : Type 0
PipNumber = ℕ
