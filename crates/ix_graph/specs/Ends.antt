-- The ends of a segment: two resources, each a node or a site wire of a site.
use Rattle.std.specs.Prelude.{ℕ, slice_get, Bool, Option, None, option_map, option_and_then}
use Rattle.ix_num.specs.Numbers.{NameNumber, SiteNumber, SiteTypeNumber, BelPinNumber}
use Rattle.ix_num.specs.Numbers.{SitePinNumber}
use Rattle.ix_num.specs.declared.resource.Res.{Res}
use Rattle.ix_num.specs.declared.resource.Res.TheVariants as R
use Rattle.ix_rec.specs.declared.device.DeviceRec.{DeviceRec}
use Rattle.ix_rec.specs.declared.device.Direction.{Direction}
use Rattle.ix_rec.specs.declared.device.Direction.TheVariants.{Input, Output, Inout}
use Rattle.ix_rec.specs.declared.device.SitePin.{SitePin as SitePinSeen}
use Rattle.ix_rec.specs.declared.phys.Segment.{Segment}
use Rattle.ix_rec.specs.declared.phys.BranchKind.{BranchKind}
use Rattle.ix_rec.specs.declared.phys.BranchKind.TheVariants.{BelPin, SitePin, Pip, SitePip}
use Rattle.ix_device.specs.Lookups.{tile_named, site_named, tile_of_site, type_of_site, in_type}
use Rattle.ix_device.specs.Lookups.{bel_in, bel_pin_in, site_pin_in, wire_in, wire_of_site_pin}
use Rattle.ix_device.specs.SitePips.{site_pip_from}
use Rattle.ix_graph.specs.Graph.{graph_of, node_at, ends_at}
use Rattle.ix_graph.specs.Named.{pip_named}

-- what is told of the site of this name, by its number and its type's
abbrev pub of_site : {A : Type 0} → DeviceRec → NameNumber
    → (SiteNumber → SiteTypeNumber → Option A)
    → Option A
of_site rec name tell = option_and_then (λ site.
    option_and_then (tell site) (type_of_site rec site)) (site_named rec name)

-- the pin of these names of a site type
abbrev pub bel_pin_named : DeviceRec → SiteTypeNumber → (bel pin : NameNumber) → Option BelPinNumber
bel_pin_named rec t bel pin = option_and_then (λ b. in_type (bel_pin_in b pin) rec t)
    (in_type (bel_in bel) rec t)

-- the site wire of a BEL pin, as a resource
abbrev pub wire_at : DeviceRec → SiteNumber → SiteTypeNumber → BelPinNumber → Option Res
wire_at rec site t pin = option_map (λ w. R.Wire site w) (in_type (wire_in pin) rec t)

-- the node of the tile wire of a site's pin
abbrev pub node_of_pin : DeviceRec → SiteNumber → SitePinNumber → Option Res
node_of_pin rec site pin =
    option_and_then (λ tile. option_and_then (λ w.
    option_map (λ n. R.Node n) (node_at (graph_of rec).wires tile w))
    (wire_of_site_pin rec site pin)) (tile_of_site rec site)

-- two resources that are both there
abbrev pub both : Option Res → Option Res → Option (Res × Res)
both from to = option_and_then (λ a. option_map (λ b. (a, b)) to) from

-- A BEL pin has its site wire as both ends.
abbrev pub bel_pin_ends : DeviceRec → (bel pin : NameNumber) → SiteNumber → SiteTypeNumber
    → Option (Res × Res)
bel_pin_ends rec bel pin site t = option_and_then (λ p.
    both (wire_at rec site t p) (wire_at rec site t p)) (bel_pin_named rec t bel pin)

-- An output site pin goes from its site wire to its node, an input site pin the other way; an inout
-- site pin has no ends.
abbrev pub crossing : Direction → (wire node : Option Res) → Option (Res × Res)
crossing Output wire pin_node = both wire pin_node
crossing Input wire pin_node = both pin_node wire
crossing Inout wire pin_node = None

-- the ends of the site pin of this number, which is p
abbrev pub pin_crossing : DeviceRec → SiteNumber → SiteTypeNumber → SitePinNumber → SitePinSeen
    → Option (Res × Res)
pin_crossing rec site t pin p = crossing p.dir (wire_at rec site t p.belpin)
    (node_of_pin rec site pin)

abbrev pub site_pin_ends : DeviceRec → NameNumber → SiteNumber → SiteTypeNumber → Option (Res × Res)
site_pin_ends rec name site t =
    option_and_then (λ pin. option_and_then (pin_crossing rec site t pin)
    (in_type (λ ty. slice_get ty.pins pin) rec t)) (in_type (site_pin_in name) rec t)

-- The first PIP of these names goes between the nodes of its wires, from that of `wire1` where it
-- goes backwards.
abbrev pub named_pip_ends : DeviceRec → (tile wire0 wire1 : NameNumber) → Bool → Option (Res × Res)
named_pip_ends rec tile wire0 wire1 forward =
    option_map (λ ns. (R.Node ns.0, R.Node ns.1))
    (option_and_then (ends_at (graph_of rec).wires)
    (option_and_then (λ t. pip_named rec t wire0 wire1 forward) (tile_named rec tile)))

-- A site PIP goes from the site wire of its input pin to that of its output pin. The first from
-- this pin counts, also where its output pin is in no site wire; then there are no ends.
abbrev pub site_pip_ends : DeviceRec → (bel pin : NameNumber) → SiteNumber → SiteTypeNumber
    → Option (Res × Res)
site_pip_ends rec bel pin site t =
    option_and_then (λ p. option_and_then (λ q. both (wire_at rec site t p) (wire_at rec site t q))
    (in_type (site_pip_from p) rec t)) (bel_pin_named rec t bel pin)

-- the ends of a segment of this kind in a site
abbrev pub ends_in_site : BranchKind → DeviceRec → (second third : NameNumber) → SiteNumber
    → SiteTypeNumber → Option (Res × Res)
ends_in_site BelPin rec second third site t = bel_pin_ends rec second third site t
ends_in_site SitePin rec second third site t = site_pin_ends rec second site t
ends_in_site SitePip rec second third site t = site_pip_ends rec second third site t
ends_in_site Pip rec second third site t = None

-- the ends of a segment of this kind with these three names
abbrev pub ends_by : BranchKind → DeviceRec → (first second third : NameNumber) → Bool
    → Option (Res × Res)
ends_by Pip rec first second third forward = named_pip_ends rec first second third forward
ends_by kind rec first second third forward = of_site rec first (ends_in_site kind rec second third)

-- The ends of a segment, by its kind. It has none where the site, tile, BEL, pin, wire or PIP that
-- it names isn't there, where a pin that it is on is in no site wire, at an inout site pin, where
-- no conventional PIP of its wires goes this way, and at a site PIP that can't be used. `forward`
-- is looked at for PIPs alone.
unfoldable pub ends : DeviceRec → Segment → Option (Res × Res)
ends rec s = ends_by s.kind rec s.first s.second s.third s.forward
