-- The physical netlist of cells on their places.
use Rattle.std.specs.Prelude.{◌≡◌, ℕ, List, [], ◌∷◌, ◌++◌, length, map, slice_get, nat_eq, Option}
use Rattle.std.specs.Prelude.{Some, option_map, if◌then◌else◌, option_and_then}
use Rattle.std.specs.List.{list_any}
use Rattle.std.specs.List.Sorted.{IsPermutation, IsNonDecreasingBy}
use Rattle.ix_rec.specs.declared.device.DeviceRec.{DeviceRec}
use Rattle.ix_rec.specs.declared.device.SiteType.{SiteType}
use Rattle.ix_rec.specs.declared.phys.PinMapping.{PinMapping}
use Rattle.ix_rec.specs.declared.phys.CellPlacement.{CellPlacement}
use Rattle.ix_rec.specs.declared.phys.SiteInstance.{SiteInstance}
use Rattle.ix_rec.specs.declared.phys.Phys.{Phys}
use Rattle.ix_rec.specs.declared.flow.FlatCell.{FlatCell}
use Rattle.ix_device.specs.Lookups.{name_of_site}
use Rattle.ix_first_fit.specs.declared.cell.Spot.{Spot}
use Rattle.ix_first_fit.specs.Spots.{type_at, pins_at}

-- the name of a place's BEL
abbrev pub bel_name : DeviceRec → Spot → Option ℕ
bel_name rec p = option_and_then (λ t. option_map (λ b. b.name) (slice_get t.bels p.bel))
    (type_at rec p.site)

-- the names of a cell pin, the BEL, and the BEL pin
abbrev pub pin_told : PinMapping → Option (ℕ × ℕ × ℕ)
pin_told m = Some (m.cell_pin, m.bel, m.bel_pin)

-- the same of a cell pin and the number of a BEL pin
abbrev pub pin_in : SiteType → (bel : ℕ) → ℕ × ℕ → Option (ℕ × ℕ × ℕ)
pin_in t bel pin = option_map (λ q. (pin.0, bel, q.name)) (slice_get t.bel_pins pin.1)

abbrev pub pin_wanted : DeviceRec → (site bel : ℕ) → ℕ × ℕ → Option (ℕ × ℕ × ℕ)
pin_wanted rec site bel pin = option_and_then (λ t. pin_in t bel pin) (type_at rec site)

-- All pins by which a place takes a cell's type, by rising BEL pin number.
pub record IsPinMap (rec : DeviceRec) (ty : ℕ) (p : Spot) (bel : ℕ) (pins : List PinMapping) : Type
    0 where
  pub given : List (ℕ × ℕ)
  pub given_is : pins_at rec ty p ≡ Some given
  pub sorted : List (ℕ × ℕ)
  pub same : IsPermutation given sorted
  pub rises : IsNonDecreasingBy (λ pin. pin.1) sorted
  pub told : map pin_told pins ≡ map (λ pin. pin_wanted rec p.site bel pin) sorted

pub record IsPlacement (rec : DeviceRec) (cell : FlatCell) (p : Spot) (placement : CellPlacement)
    : Type 0 where
  pub cell_name : placement.cell_name ≡ cell.name
  pub ty : placement.ty ≡ cell.ty
  pub site : name_of_site rec p.site ≡ Some placement.site
  pub bel : bel_name rec p ≡ Some placement.bel
  pub pins : IsPinMap rec cell.ty p placement.bel placement.pin_map

-- the placement of each cell on its place, in the order of the cells
pub record ArePlacements (rec : DeviceRec) (cells : List FlatCell) (places : List Spot)
    (placements : List CellPlacement) : Type 0 where
  pub count : length placements ≡ length places
  pub each : (k : ℕ) (c : FlatCell) (p : Spot) (m : CellPlacement) → slice_get cells k ≡ Some c
      → slice_get places k ≡ Some p → slice_get placements k ≡ Some m → IsPlacement rec c p m

-- sites with one more, which is added where it is new
abbrev pub with_site : List ℕ → ℕ → List ℕ
with_site sites s = if list_any (λ t. nat_eq s t) sites then sites else sites ++ s ∷ []

-- these sites, and then those of the places, each once, in the order of first use
unfoldable pub used_after : List ℕ → List Spot → List ℕ
used_after sites [] = sites
used_after sites (p ∷ ps) = used_after (with_site sites p.site) ps

abbrev pub used_sites : List Spot → List ℕ
used_sites places = used_after [] places

-- a site instance: the names of the site and of its type
abbrev pub instance_told : SiteInstance → Option (ℕ × ℕ)
instance_told i = Some (i.site, i.ty)

abbrev pub instance_wanted : DeviceRec → ℕ → Option (ℕ × ℕ)
instance_wanted rec site = option_and_then (λ name.
    option_map (λ t. (name, t.name)) (type_at rec site)) (name_of_site rec site)

-- one instance of each used site, as its own type, in the order of first use
abbrev pub AreInstances : DeviceRec → List Spot → List SiteInstance → Type 0
AreInstances rec places instances = map instance_told instances
    ≡ map (λ site. instance_wanted rec site) (used_sites places)

-- The netlist has the device's name, the placements and the site instances, and no nets and no
-- properties.
pub record IsNetlist (rec : DeviceRec) (cells : List FlatCell) (places : List Spot) (phys : Phys)
    : Type 0 where
  pub part : phys.part ≡ rec.name
  pub placements : ArePlacements rec cells places phys.placements
  pub nets : phys.nets ≡ []
  pub site_insts : AreInstances rec places phys.site_insts
  pub properties : phys.properties ≡ []
