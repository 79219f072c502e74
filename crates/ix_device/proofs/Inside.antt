-- What look-ups answer is in range.
use Rattle.std.proofs.Common.{◌≡◌, ◌<◌, refl, sym, subst, ℕ, Bool, true, false, cond, List, [], ◌∷◌, length, slice_get, nat_eq, Option, Some, None, option_map, option_and_then, IfSome, if◌then◌else◌, arith}
use Rattle.std.specs.List.{AllByRecursion, find}
use Rattle.std.proofs.lemmas.Option.{none-some, same_Some}
use Rattle.ix_rec.specs.Ranges.{IndexesFit, SiteTypeFits, TileTypeFits}
use Rattle.ix_rec.specs.declared.device.DeviceRec.{DeviceRec}
use Rattle.ix_rec.specs.declared.device.SiteType.{SiteType}
use Rattle.ix_rec.specs.declared.device.SitePip.{SitePip}
use Rattle.ix_rec.specs.declared.device.TileType.{TileType}
use Rattle.ix_rec.specs.declared.device.SiteTypeInTileType.{SiteTypeInTileType}
use Rattle.ix_rec.specs.declared.device.Site.{Site}
use Rattle.ix_rec.specs.declared.device.Tile.{Tile}
use Rattle.ix_device.specs.Lookups.{sites_of, type_of_site, type_of_tile}
use Rattle.ix_device.specs.SitePips.{is_usable_from, first_from, site_pip_from}
use Rattle.ix_device.proofs.Walks.{at_place}

-- the first site PIP from a pin leads to a number below those of the pins
first_within : (n pin : ℕ) (pips : List SitePip) → AllByRecursion (λ p. (p.inpin < n) × (p.outpin < n)) pips → IfSome (first_from pin pips) (λ to. to < n)
first_within n pin [] fits = tt
first_within n pin (p ∷ ps) fits = by (nat_eq p.inpin pin) (first_within n pin ps fits.1)
  where
    by : (b : Bool) → IfSome (first_from pin ps) (λ to. to < n) → IfSome (option_map (λ p. p.outpin) (cond b (Some p) (find (λ p. nat_eq p.inpin pin) ps))) (λ to. to < n)
    by true rest = fits.0.1
    by false rest = rest

-- a site PIP leads to a BEL pin of its site type
pub site_pip_within : (types : List SiteType) (t pin : ℕ) (u : SiteType) (found : Option ℕ) → slice_get types t ≡ Some u → SiteTypeFits u → found ≡ site_pip_from pin u
    → IfSome found (λ to. IfSome (slice_get types t) (λ ty. to < length ty.bel_pins))
site_pip_within types t pin u found at fits e =
    subst (λ s. IfSome found (λ to. IfSome s (λ ty. to < length ty.bel_pins))) (sym at) (subst (λ o. IfSome o (λ to. to < length u.bel_pins)) (sym e) (used (is_usable_from u pin)))
  where
    used : (b : Bool) → IfSome (if b then first_from pin u.site_pips else None) (λ to. to < length u.bel_pins)
    used false = tt
    used true = first_within (length u.bel_pins) pin u.site_pips fits.pips

-- the type of a site is one of the site types
pub type_is_there : (rec : DeviceRec) → IndexesFit rec → (site t : ℕ) → type_of_site rec site ≡ Some t → t < length rec.site_type_list
type_is_there rec fits site t h = by (slice_get (sites_of rec) site) h
  where
    listed : (ty : TileType) → AllByRecursion (λ s. s.primary_type < length rec.site_type_list) ty.site_types → (k : ℕ) (o : Option SiteTypeInTileType) → slice_get ty.site_types k ≡ o → option_map (λ u. u.primary_type) o ≡ Some t
        → t < length rec.site_type_list
    listed ty all k None e g = absurd (none-some t g)
    listed ty all k (Some u) e g = let here : u.primary_type < length rec.site_type_list = at_place (λ s. s.primary_type < length rec.site_type_list) ty.site_types k u all e in let same : u.primary_type ≡ t = same_Some u.primary_type t g in omega arith

    of_tile : (s : ℕ × Site) (o : Option Tile) → option_and_then (λ ty. option_map (λ u. u.primary_type) (slice_get ty.site_types s.1.ty)) (option_and_then (λ u. slice_get rec.tile_type_list u.ty) o) ≡ Some t → t < length rec.site_type_list
    of_tile s None g = absurd (none-some t g)
    of_tile s (Some tile) g = in_tile_type (slice_get rec.tile_type_list tile.ty) refl g
      where
        in_tile_type : (o : Option TileType) → slice_get rec.tile_type_list tile.ty ≡ o → option_and_then (λ ty. option_map (λ u. u.primary_type) (slice_get ty.site_types s.1.ty)) o ≡ Some t → t < length rec.site_type_list
        in_tile_type None e g = absurd (none-some t g)
        in_tile_type (Some ty) e g = listed ty (at_place (TileTypeFits (length rec.site_type_list)) rec.tile_type_list tile.ty ty fits.tile_types e).sites s.1.ty (slice_get ty.site_types s.1.ty) refl g

    by : (o : Option (ℕ × Site)) → option_and_then (λ s. option_and_then (λ ty. option_map (λ u. u.primary_type) (slice_get ty.site_types s.1.ty)) (type_of_tile rec s.0)) o ≡ Some t → t < length rec.site_type_list
    by None g = absurd (none-some t g)
    by (Some s) g = of_tile s (slice_get rec.tile_list s.0) g
