-- Where site PIPs lead. Pins are those of BELs, by their numbers in the site type.
use Rattle.std.specs.Prelude.{ℕ, List, Bool, true, false, not, ◌&&◌, nat_eq, slice_get, Option}
use Rattle.std.specs.Prelude.{None, option_map, unwrap_or, if◌then◌else◌}
use Rattle.std.specs.List.{list_any, find}
use Rattle.ix_rec.specs.declared.device.SiteType.{SiteType}
use Rattle.ix_rec.specs.declared.device.Bel.{Bel}
use Rattle.ix_rec.specs.declared.device.SitePip.{SitePip}
use Rattle.ix_rec.specs.declared.device.Category.{Category}
use Rattle.ix_rec.specs.declared.device.Category.TheVariants.{Logic, Routing, SitePort}
use Rattle.ix_rec.specs.declared.device.Inversion.{Inversion}
use Rattle.ix_rec.specs.declared.device.Inversion.TheVariants.{NonInverting, Inverting}

-- a signal is inverted at this pin
abbrev pub is_inverted_at : ℕ → Inversion → Bool
is_inverted_at pin NonInverting = false
is_inverted_at pin (Inverting plain inverting) = nat_eq inverting pin

-- a BEL inverts at this pin
abbrev pub inverts_at : ℕ → Bel → Bool
inverts_at pin b = is_inverted_at pin b.inversion

abbrev pub is_for_routing : Category → Bool
is_for_routing Logic = false
is_for_routing Routing = true
is_for_routing SitePort = false

-- the BEL of this name is for routing
abbrev pub is_routing_bel : SiteType → ℕ → Bool
is_routing_bel t name = unwrap_or (option_map (λ b.
    is_for_routing b.category) (find (λ b. nat_eq b.name name) t.bels)) false

-- a site PIP from this pin may be used: no BEL inverts there, and the pin's BEL is for routing
abbrev pub is_usable_from : SiteType → ℕ → Bool
is_usable_from t pin = not (list_any (inverts_at pin) t.bels)
    && unwrap_or (option_map (λ p. is_routing_bel t p.bel) (slice_get t.bel_pins pin)) false

-- where the first of these site PIPs from this pin leads
abbrev pub first_from : ℕ → List SitePip → Option ℕ
first_from pin pips = option_map (λ p. p.outpin) (find (λ p. nat_eq p.inpin pin) pips)

-- the same of the site type's own, where they may be used
abbrev pub site_pip_from : ℕ → SiteType → Option ℕ
site_pip_from pin t = if is_usable_from t pin then first_from pin t.site_pips else None
