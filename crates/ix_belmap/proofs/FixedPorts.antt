-- Ports fixed to sites: their places are those of port cells, and their sites are there.
use Rattle.std.proofs.Common.{◌≡◌, ap, sym, ◌∙◌, ℕ, ◌<◌, List, [], ◌∷◌, length, slice_get, Option}
use Rattle.std.proofs.Common.{Some}
use Rattle.std.proofs.Common.{None, Bool, nat_eq, option_and_then, option_map, refl, arith}
use Rattle.std.specs.FinMap.{FinMap, get}
use Rattle.std.specs.List.{position}
use Rattle.std.specs.Ordering.{nat_cmp}
use Rattle.std.proofs.lemmas.List.{length-map}
use Rattle.std.proofs.lemmas.List.Quantifiers.{position-Some}
use Rattle.std.proofs.lemmas.Option.{none-some, slice_get-map, slice_get_within}
use Rattle.ix_rec.specs.declared.device.DeviceRec.{DeviceRec}
use Rattle.ix_rec.specs.declared.device.PackagePin.{PackagePin}
use Rattle.ix_rec.specs.declared.device.PackagePinSite.{PackagePinSite}
use Rattle.ix_rec.specs.declared.device.PackagePinSite.TheVariants.{NoSite, Site}
use Rattle.ix_rec.specs.declared.device.LutCell.{LutCell}
use Rattle.ix_rec.specs.declared.flow.CellPin.{CellPin}
use Rattle.ix_rec.specs.declared.flow.Flat.{Flat}
use Rattle.ix_rec.specs.declared.netlist.NetlistRec.{NetlistRec}
use Rattle.ix_rec.specs.declared.netlist.Port.{Port}
use Rattle.ix_rec.specs.declared.netlist.PropertyValue.{PropertyValue}
use Rattle.ix_device.specs.Lookups.{sites_of}
use Rattle.ix_flat.specs.Range.{IsInRange}
use Rattle.ix_flat.specs.Whole.{HasItsTable, IsDriven, IsWhole, lut_of_type}
use Rattle.ix_belmap.specs.declared.ports.Fixing.{Fixing}
use Rattle.ix_belmap.specs.Failing.{AreSites}
use Rattle.ix_belmap.specs.Pins.{HasPortCells, fixed_at, fixed_to, fixing_by, fixing_of, fixings}
use Rattle.ix_belmap.specs.Pins.{package_pins, pin_named, port_bits, site_of_bond, site_of_fixing}
use Rattle.ix_belmap.specs.Pins.{site_of_pin}

within : {A : Type 0} (p : A → Bool) (xs : List A) (i : ℕ) → position p xs ≡ Some i → i < length xs
within p [] i h = absurd (none-some i h)
within p (x ∷ xs) i h = (position-Some p (x ∷ xs) i x h).0

-- the site of a fixing is a site of the device
site_of_bond_in : (rec : DeviceRec) (bond : PackagePinSite) (site : ℕ)
    → site_of_bond rec bond ≡ Some site
    → site < length (sites_of rec)
site_of_bond_in rec NoSite site h = absurd (none-some site h)
site_of_bond_in rec (Site name) site h = within (λ s. nat_eq s.1.name name) (sites_of rec) site h

site_of_pin_in : (rec : DeviceRec) (o : Option PackagePin) (site : ℕ)
    → option_and_then (λ p. site_of_bond rec p.site) o ≡ Some site → site < length (sites_of rec)
site_of_pin_in rec None site h = absurd (none-some site h)
site_of_pin_in rec (Some p) site h = site_of_bond_in rec p.site site h

fixed_at_in : (rec : DeviceRec) (pin : ℕ) (o : Option ℕ) (site : ℕ)
    → ((s : ℕ) → o ≡ Some s → s < length (sites_of rec))
    → site_of_fixing (fixed_at pin o) ≡ Some site
    → site < length (sites_of rec)
fixed_at_in rec pin None site inside h = absurd (none-some site h)
fixed_at_in rec pin (Some s) site inside h = inside site h

fixed_to_in : (rec : DeviceRec) (pins : List PackagePin) (o : Option ℕ) (site : ℕ)
    → site_of_fixing (fixed_to rec pins o) ≡ Some site → site < length (sites_of rec)
fixed_to_in rec pins None site h = absurd (none-some site h)
fixed_to_in rec pins (Some pin) site h =
    fixed_at_in rec pin (site_of_pin rec pins pin) site
    (λ s e. site_of_pin_in rec (slice_get pins pin) s e) h

fixing_by_in : (rec : DeviceRec) (pins : List PackagePin) (o : Option PropertyValue) (site : ℕ)
    → site_of_fixing (fixing_by rec pins o) ≡ Some site → site < length (sites_of rec)
fixing_by_in rec pins None site h = absurd (none-some site h)
fixing_by_in rec pins (Some value) site h = fixed_to_in rec pins (pin_named pins value) site h

fixing_of_in : (names : List (List ℕ)) (rec : DeviceRec) (pins : List PackagePin) (bit : Port × ℕ)
    (site : ℕ)
    → site_of_fixing (fixing_of names rec pins bit) ≡ Some site → site < length (sites_of rec)
unfolding fixing_of
fixing_of_in names rec pins bit site h = fixing_by_in rec pins _ site h

-- as many as there are bits
as_many : (names : List (List ℕ)) (rec : DeviceRec) (design : NetlistRec)
    → length (fixings names rec design) ≡ length (port_bits design)
unfolding fixings
as_many names rec design =
    length-map (port_bits design) (fixing_of names rec (package_pins names rec design))

-- a fixed cell is a port cell
pub place_there : (names : List (List ℕ)) (rec : DeviceRec) (design : NetlistRec) (flat : Flat)
    (all : List Fixing)
    (place : ℕ) → all ≡ fixings names rec design → HasPortCells design flat → place < length all
    → place < flat.ports
place_there names rec design flat all place is cells lt =
    let many : length all ≡ flat.ports = ap length is ∙ as_many names rec design ∙ cells in
    omega arith

site_there : (names : List (List ℕ)) (rec : DeviceRec) (design : NetlistRec) (cell site : ℕ)
    → option_and_then site_of_fixing (slice_get (fixings names rec design) cell) ≡ Some site
    → site < length (sites_of rec)
unfolding fixings
site_there names rec design cell site h =
    by (slice_get (port_bits design) cell)
    (sym (ap (option_and_then site_of_fixing)
    (slice_get-map (fixing_of names rec (package_pins names rec design)) (port_bits design) cell))
    ∙ h)
  where
    by : (o : Option (Port × ℕ))
        → option_and_then site_of_fixing (option_map
        (fixing_of names rec (package_pins names rec design)) o) ≡ Some site
        → site < length (sites_of rec)
    by None e = absurd (none-some site e)
    by (Some bit) e = fixing_of_in names rec (package_pins names rec design) bit site e

cell_there : (all : List Fixing) (cell site : ℕ)
    → option_and_then site_of_fixing (slice_get all cell) ≡ Some site
    → cell < length all
cell_there all cell site h = by (slice_get all cell) refl h
  where
    by : (o : Option Fixing) → slice_get all cell ≡ o → option_and_then site_of_fixing o ≡ Some site
        → cell < length all
    by None e g = absurd (none-some site g)
    by (Some f) e g = slice_get_within all cell f e

-- the flat design with other fixed sites
abbrev pub with_fixed : Flat → FinMap nat_cmp ℕ → Flat
with_fixed flat sites = record {
  cells = flat.cells;
  ports = flat.ports;
  nets = flat.nets;
  pins = flat.pins;
  tables = flat.tables;
  fixed = sites;
}

-- what is kept by other fixed sites of port cells
module _ (names : List (List ℕ)) (rec : DeviceRec) (design : NetlistRec) (flat : Flat)
    (all : List Fixing)
    (sites : FinMap nat_cmp ℕ) (is : all ≡ fixings names rec design)
    (cells : HasPortCells design flat)
    (told : AreSites all sites) where
  fixed_port : (cell site : ℕ) → get sites cell ≡ Some site → cell < flat.ports
  fixed_port cell site h =
      place_there names rec design flat all cell is cells
      (cell_there all cell site (sym (told cell) ∙ h))

  pub in_range : IsInRange rec flat → IsInRange rec (with_fixed flat sites)
  in_range range = record {
    numbers = record {
      ports = range.numbers.ports;
      drivers = range.numbers.drivers;
      pins = range.numbers.pins;
      tables = range.numbers.tables;
      fixed = λ cell site h. let lt = fixed_port cell site h in let le = range.numbers.ports in
          omega arith;
    };
    sites = λ cell site h.
        site_there names rec design cell site
        (sym (ap (λ l. option_and_then site_of_fixing (slice_get l cell)) is) ∙ sym (told cell)
        ∙ h);
  }

  driven_kept : (n : ℕ) (driver : Option CellPin) → IsDriven flat n driver
      → IsDriven (with_fixed flat sites) n driver
  driven_kept n None was = was
  driven_kept n (Some driver) was = record {
    on = was.on;
    other_cell = was.other_cell;
    other_pin = was.other_pin;
    other_on = was.other_on;
    other_differs = was.other_differs;
  }

  table_kept : (cell : ℕ) (lut : Option LutCell) → HasItsTable flat cell lut
      → HasItsTable (with_fixed flat sites) cell lut
  table_kept cell None was = was
  table_kept cell (Some lut) was = record {
    table = was.table;
    has = was.has;
    inputs = was.inputs;
    bits = was.bits;
    on_nets = was.on_nets;
  }

  pub whole : IsWhole names rec flat → IsWhole names rec (with_fixed flat sites)
  whole was = record {
    cells_differ = was.cells_differ;
    nets_differ = was.nets_differ;
    driven = λ n net at. driven_kept n net.driver (was.driven n net at);
    tables = λ q cell at. table_kept q (lut_of_type rec cell.ty) (was.tables q cell at);
    port_types = was.port_types;
    fixed = fixed_port;
  }

-- a flat design is told by its fields
pub same_flat : (flat now : Flat) (sites : FinMap nat_cmp ℕ) → now.fixed ≡ sites
    → now.cells ≡ flat.cells
    → now.ports ≡ flat.ports → now.nets ≡ flat.nets → now.pins ≡ flat.pins
    → now.tables ≡ flat.tables
    → now ≡ with_fixed flat sites
same_flat flat now sites fixed cells ports nets pins tables = λ i. record {
  cells = cells i;
  ports = ports i;
  nets = nets i;
  pins = pins i;
  tables = tables i;
  fixed = fixed i;
}
