-- The rules of a valid device. Each rule is the list of what it asks of the device's fields, in
-- reading order; a device breaks the rule where a field doesn't fit, and the first such field is
-- the place. Where two things break a rule together, it is the later one that doesn't fit. A rule
-- is asked where all before it are kept.
use Rattle.std.specs.Prelude.{ℕ, ◌+◌, ◌-◌, ◌^◌, List, [], ◌∷◌, ◌++◌, length, map, slice_get, Bool}
use Rattle.std.specs.Prelude.{true, false, not, ◌&&◌, nat_lt, nat_le, nat_eq, Option, Some, None}
use Rattle.std.specs.Prelude.{option_map, unwrap_or, if◌then◌else◌}
use Rattle.std.specs.List.{flat_map, list_any, sum_by, find}
use Rattle.ix_message.specs.Indexes.{Step, begun, asked, Item, first_unfit}
use Rattle.ix_rec.specs.declared.device.DeviceRec.{DeviceRec}
use Rattle.ix_rec.specs.declared.device.BelPin.{BelPin}
use Rattle.ix_rec.specs.declared.device.SitePin.{SitePin}
use Rattle.ix_rec.specs.declared.device.Bel.{Bel}
use Rattle.ix_rec.specs.declared.device.SitePip.{SitePip}
use Rattle.ix_rec.specs.declared.device.SiteWire.{SiteWire}
use Rattle.ix_rec.specs.declared.device.SiteType.{SiteType}
use Rattle.ix_rec.specs.declared.device.SiteTypeInTileType.{SiteTypeInTileType}
use Rattle.ix_rec.specs.declared.device.PipKind.{PipKind}
use Rattle.ix_rec.specs.declared.device.PipKind.TheVariants.{Conventional, PseudoCells}
use Rattle.ix_rec.specs.declared.device.TileType.{TileType}
use Rattle.ix_rec.specs.declared.device.Site.{Site}
use Rattle.ix_rec.specs.declared.device.Tile.{Tile}
use Rattle.ix_rec.specs.declared.device.Wire.{Wire}
use Rattle.ix_rec.specs.declared.device.Node.{Node}
use Rattle.ix_rec.specs.declared.device.CellBelMapping.{CellBelMapping}
use Rattle.ix_rec.specs.declared.device.LutBel.{LutBel}
use Rattle.ix_rec.specs.declared.device.LutElement.{LutElement}
use Rattle.ix_rec.specs.declared.device.SiteTypeLutElements.{SiteTypeLutElements}
use Rattle.ix_rec.specs.declared.place.Rule.{Rule}
use Rattle.ix_rec.specs.declared.place.Rule.TheVariants.{M1, M2, M3, M4, M5, M6, M7}

-- Names are numbers of one table of names, in which no two names are alike.

-- none of these is x
abbrev pub is_new : List ℕ → ℕ → Bool
is_new before x = not (list_any (nat_eq x) before)

-- what is asked of each item of a list, by the items before it
unfoldable pub by_earlier : {A B : Type 0} → (List A → A → List B) → List A → List A → List B
by_earlier ask before [] = []
by_earlier ask before (x ∷ xs) = ask before x ++ by_earlier ask (before ++ x ∷ []) xs

abbrev pub each_by_earlier : {A B : Type 0} → (List A → A → List B) → List A → List B
each_by_earlier ask xs = by_earlier ask [] xs

-- M1: names differ.

abbrev pub has_bel : SiteType → ℕ → Bool
has_bel t bel = list_any (λ b. nat_eq b.name bel) t.bels

-- a pin of this name of the BEL of this name
abbrev pub is_pin_of : ℕ → ℕ → BelPin → Bool
is_pin_of bel pin p = nat_eq p.bel bel && nat_eq p.name pin

abbrev pub has_pin : SiteType → ℕ → ℕ → Bool
has_pin t bel pin = list_any (is_pin_of bel pin) t.bel_pins

-- a pin of a BEL that isn't there is no pin of a BEL
abbrev pub bel_pin_names : SiteType → List BelPin → BelPin → List Step
bel_pin_names t before p =
    begun "BELPin" ∷ asked "BELPin" "name" (not (has_bel t p.bel
    && list_any (is_pin_of p.bel p.name) before)) ∷ []

abbrev pub site_pin_names : List SitePin → SitePin → List Step
site_pin_names before p = begun "SitePin"
    ∷ asked "SitePin" "name" (is_new (map (λ q. q.name) before) p.name) ∷ []

abbrev pub bel_names : List Bel → Bel → List Step
bel_names before b = begun "BEL" ∷ asked "BEL" "name" (is_new (map (λ c. c.name) before) b.name)
    ∷ []

abbrev pub site_type_names : List SiteType → SiteType → List Step
site_type_names before t =
    (begun "SiteType" ∷ asked "SiteType" "name" (is_new (map (λ u. u.name) before) t.name) ∷ [])
    ++ each_by_earlier (bel_pin_names t) t.bel_pins
    ++ each_by_earlier site_pin_names t.pins
    ++ each_by_earlier bel_names t.bels

abbrev pub wire_names : List ℕ → ℕ → List Step
wire_names before w = asked "TileType" "wires" (is_new before w) ∷ []

abbrev pub tile_type_names : TileType → List Step
tile_type_names t = begun "TileType" ∷ each_by_earlier wire_names t.wires

-- two sites of the device, not only of a tile
abbrev pub site_names : List Tile → List Site → Site → List Step
site_names tiles before s =
    begun "Site" ∷ asked "Site" "name" (is_new
    (map (λ r. r.name) (flat_map (λ t. t.sites) tiles ++ before)) s.name) ∷ []

abbrev pub tile_names : List Tile → Tile → List Step
tile_names before t =
    (begun "Tile" ∷ asked "Tile" "name" (is_new (map (λ u. u.name) before) t.name) ∷ [])
    ++ each_by_earlier (site_names before) t.sites

abbrev pub cell_names : List CellBelMapping → CellBelMapping → List Step
cell_names before m = begun "CellBelMapping"
    ∷ asked "CellBelMapping" "cell" (is_new (map (λ n. n.cell) before) m.cell) ∷ []

unfoldable pub names_differ : DeviceRec → List Step
names_differ rec =
    each_by_earlier site_type_names rec.site_type_list
    ++ flat_map tile_type_names rec.tile_type_list
    ++ each_by_earlier tile_names rec.tile_list
    ++ each_by_earlier cell_names rec.cell_bel_map

-- M2: wires are tile wires, each in one node. A tile wire is told by its tile's name and its own.

abbrev pub has_tile : DeviceRec → ℕ → Bool
has_tile rec tile = list_any (λ t. nat_eq t.name tile) rec.tile_list

-- the names of the wires of a tile's type
abbrev pub wires_of_tile : DeviceRec → Tile → List ℕ
wires_of_tile rec t = unwrap_or (option_map (λ ty. ty.wires) (slice_get rec.tile_type_list t.ty)) []

abbrev pub has_tile_wire : DeviceRec → ℕ → ℕ → Bool
has_tile_wire rec tile wire = list_any (λ t.
    nat_eq t.name tile && list_any (nat_eq wire) (wires_of_tile rec t)) rec.tile_list

abbrev pub wire_stands : DeviceRec → Wire → List Step
wire_stands rec w =
    begun "Wire" ∷ asked "Wire" "tile" (has_tile rec w.tile)
    ∷ asked "Wire" "wire" (has_tile_wire rec w.tile w.wire) ∷ []

abbrev pub is_same_wire : Wire → Wire → Bool
is_same_wire v w = nat_eq v.tile w.tile && nat_eq v.wire w.wire

-- one of the wires of a node is this wire
abbrev pub node_has : DeviceRec → Wire → Node → Bool
node_has rec w n = list_any (λ i. unwrap_or (option_map (is_same_wire w) (slice_get rec.wires i))
    false) n.wires

-- the i-th of the device's wires is in none of these nodes
abbrev pub is_free : DeviceRec → List Node → ℕ → Bool
is_free rec nodes i = unwrap_or (option_map (λ w. not (list_any (node_has rec w) nodes))
    (slice_get rec.wires i)) true

abbrev pub node_wires : DeviceRec → List Node → Node → List Step
node_wires rec before n = begun "Node" ∷ map (λ i. asked "Node" "wires" (is_free rec before i))
    n.wires

unfoldable pub wires_stand : DeviceRec → List Step
wires_stand rec = flat_map (wire_stands rec) rec.wires ++ each_by_earlier (node_wires rec) rec.nodes

-- M3: a BEL pin is once in site wires.

abbrev pub wire_pins : List SiteWire → List ℕ → ℕ → List Step
wire_pins wires before p = asked "SiteWire" "pins"
    (is_new (flat_map (λ w. w.pins) wires ++ before) p) ∷ []

abbrev pub site_wire_pins : List SiteWire → SiteWire → List Step
site_wire_pins before w = begun "SiteWire" ∷ each_by_earlier (wire_pins before) w.pins

abbrev pub pins_of_site_wires : SiteType → List Step
pins_of_site_wires t = each_by_earlier site_wire_pins t.site_wires

unfoldable pub pins_are_on_one_wire : DeviceRec → List Step
pins_are_on_one_wire rec = flat_map pins_of_site_wires rec.site_type_list

-- M4: BEL pins have their BELs, and a site PIP joins pins of one BEL.

abbrev pub pin_has_bel : SiteType → BelPin → List Step
pin_has_bel t p = begun "BELPin" ∷ asked "BELPin" "bel" (has_bel t p.bel) ∷ []

-- the name of a BEL pin's BEL
abbrev pub bel_of_pin : SiteType → ℕ → Option ℕ
bel_of_pin t pin = option_map (λ p. p.bel) (slice_get t.bel_pins pin)

abbrev pub is_same_bel : Option ℕ → Option ℕ → Bool
is_same_bel (Some a) (Some b) = nat_eq a b
is_same_bel _ _ = true

abbrev pub pip_is_of_one_bel : SiteType → SitePip → List Step
pip_is_of_one_bel t p = begun "SitePIP" ∷ asked "SitePIP" "outpin"
    (is_same_bel (bel_of_pin t p.inpin) (bel_of_pin t p.outpin)) ∷ []

abbrev pub bels_of_pins : SiteType → List Step
bels_of_pins t = flat_map (pin_has_bel t) t.bel_pins ++ flat_map (pip_is_of_one_bel t) t.site_pips

unfoldable pub pins_have_bels : DeviceRec → List Step
pins_have_bels rec = flat_map bels_of_pins rec.site_type_list

-- M5: LUT elements, where their site type is there; one of another site type is without effect.

abbrev pub site_type_named : DeviceRec → ℕ → Option SiteType
site_type_named rec name = find (λ t. nat_eq t.name name) rec.site_type_list

-- the bits that a LUT BEL reads are bits of its element, one for each value of its inputs
abbrev pub bits_fit : (width : ℕ) → LutBel → Bool
bits_fit width b = nat_le b.low_bit b.high_bit && nat_lt b.high_bit width
    && nat_eq (b.high_bit - b.low_bit + 1) (2 ^ length b.input_pins)

-- a BEL of one of these elements
abbrev pub element_has : ℕ → LutElement → Bool
element_has bel e = list_any (λ b. nat_eq b.name bel) e.bels

-- The first of an element's BELs of a name is its place in the element; a BEL may not be in two
-- elements.
abbrev pub lut_bel_stands : SiteType → List LutElement → (width : ℕ) → LutBel → List Step
lut_bel_stands t before width b =
    (begun "LutBel" ∷ asked "LutBel" "highBit" (bits_fit width b)
    ∷ asked "LutBel" "name" (has_bel t b.name && not (list_any (element_has b.name) before))
    ∷ [])
    ++ map (λ pin. asked "LutBel" "inputPins" (has_pin t b.name pin)) b.input_pins
    ++ asked "LutBel" "outputPin" (has_pin t b.name b.output_pin) ∷ []

abbrev pub element_stands : SiteType → List LutElement → LutElement → List Step
element_stands t before e =
    (begun "LutElement" ∷ asked "LutElement" "width" (nat_lt 0 e.width && nat_le e.width 64) ∷ [])
    ++ flat_map (lut_bel_stands t before e.width) e.bels

-- the structs of an element without effect
abbrev pub element_passed : LutElement → List Step
element_passed e = begun "LutElement" ∷ map (λ b. begun "LutBel") e.bels

-- the elements of these entries for the site type of this name
abbrev pub elements_for : ℕ → List SiteTypeLutElements → List LutElement
elements_for site entries = flat_map (λ e. if nat_eq e.site site then e.luts else []) entries

abbrev pub elements_of_type : Option SiteType → List LutElement → List LutElement → List Step
elements_of_type None earlier luts = flat_map element_passed luts
elements_of_type (Some t) earlier luts = each_by_earlier (λ before e.
    element_stands t (earlier ++ before) e) luts

abbrev pub elements_stand : DeviceRec → List SiteTypeLutElements → SiteTypeLutElements → List Step
elements_stand rec before e = elements_of_type (site_type_named rec e.site)
    (elements_for e.site before) e.luts

unfoldable pub lut_elements_stand : DeviceRec → List Step
lut_elements_stand rec = each_by_earlier (elements_stand rec) rec.lut_definitions.lut_elements

-- M6: each pin of a site has its tile wire.

abbrev pub pin_count : DeviceRec → ℕ → ℕ
pin_count rec site_type = unwrap_or (option_map (λ t.
    length t.pins) (slice_get rec.site_type_list site_type)) 0

abbrev pub site_pins_stand : DeviceRec → TileType → SiteTypeInTileType → List Step
site_pins_stand rec t s =
    (begun "SiteTypeInTileType" ∷ asked "SiteTypeInTileType" "primaryPinsToTileWires"
    (nat_eq (length s.primary_pins_to_tile_wires) (pin_count rec s.primary_type)) ∷ [])
    ++ map (λ w. asked "SiteTypeInTileType" "primaryPinsToTileWires" (list_any (nat_eq w) t.wires))
    s.primary_pins_to_tile_wires

abbrev pub sites_of_tile_type : DeviceRec → TileType → List Step
sites_of_tile_type rec t = flat_map (site_pins_stand rec t) t.site_types

unfoldable pub site_pins_have_wires : DeviceRec → List Step
site_pins_have_wires rec = flat_map (sites_of_tile_type rec) rec.tile_type_list

-- M7: rows and columns are at most 65535, and there are at most 2^28 tile wires and 2^29 directed
-- PIPs.

-- the directed PIPs of a PIP: none of one that needs pseudo cells
abbrev pub directed : PipKind → (directional : Bool) → ℕ
directed PseudoCells directional = 0
directed Conventional true = 1
directed Conventional false = 2

abbrev pub directed_pips : TileType → ℕ
directed_pips t = sum_by (λ p. directed p.kind p.directional) t.pips

abbrev pub count_in_tile : (TileType → ℕ) → DeviceRec → Tile → ℕ
count_in_tile count rec t = unwrap_or (option_map count (slice_get rec.tile_type_list t.ty)) 0

abbrev pub most_row : ℕ
most_row = 65535

abbrev pub most_tile_wires : ℕ
most_tile_wires = 2 ^ 28

abbrev pub most_directed_pips : ℕ
most_directed_pips = 2 ^ 29

-- the tiles up to one have no more of something than this
abbrev pub at_most : ℕ → (Tile → ℕ) → List Tile → Tile → Bool
at_most most count before t = nat_le (sum_by count (before ++ t ∷ [])) most

abbrev pub tile_is_small : DeviceRec → List Tile → Tile → List Step
tile_is_small rec before t =
    begun "Tile"
    ∷ asked "Tile" "type" (at_most most_tile_wires (count_in_tile (λ ty. length ty.wires) rec)
    before t && at_most most_directed_pips (count_in_tile directed_pips rec) before t)
    ∷ asked "Tile" "row" (nat_le t.row most_row)
    ∷ asked "Tile" "col" (nat_le t.col most_row)
    ∷ []

unfoldable pub tiles_are_few : DeviceRec → List Step
tiles_are_few rec = each_by_earlier (tile_is_small rec) rec.tile_list

-- The rules in order, each with what it asks.
abbrev pub rules : DeviceRec → List (Rule × List Step)
rules rec =
    (M1, names_differ rec) ∷ (M2, wires_stand rec) ∷ (M3, pins_are_on_one_wire rec)
    ∷ (M4, pins_have_bels rec)
    ∷ (M5, lut_elements_stand rec) ∷ (M6, site_pins_have_wires rec) ∷ (M7, tiles_are_few rec) ∷ []

-- a rule whose first field that doesn't fit is this one, or else what comes after it
abbrev pub or_later : Rule → Option Item → Option (Rule × Item) → Option (Rule × Item)
or_later rule (Some item) later = Some (rule, item)
or_later rule None later = later

-- the first rule of which a field doesn't fit, and the first such field
abbrev pub first_of_rules : List (Rule × List Step) → Option (Rule × Item)
first_of_rules [] = None
first_of_rules (r ∷ rs) = or_later r.0 (first_unfit [] r.1) (first_of_rules rs)

-- the first rule that a device breaks, and its first place; none of a valid device
unfoldable pub first_broken : DeviceRec → Option (Rule × Item)
first_broken rec = first_of_rules (rules rec)
