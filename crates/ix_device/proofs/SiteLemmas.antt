-- The table of sites, site by site.
use Rattle.std.proofs.Common.{◌≡◌, ◌<◌, refl, ap, sym, subst, ◌∙◌, ℕ, ◌+◌, length, None, option_and_then, arith, List, [], ◌∷◌, ◌++◌, map, take, drop, Bool, cond, nat_eq, slice_get, Option, Some, option_map, append_assoc}
use Rattle.ix_rec.specs.declared.device.TileType.{TileType}
use Rattle.ix_rec.specs.declared.device.Site.{Site}
use Rattle.ix_rec.specs.declared.device.SiteTypeInTileType.{SiteTypeInTileType}
use Rattle.ix_device.specs.declared.sites.SiteEntry.{SiteEntry}
use Rattle.ix_device.specs.Tables.{entry_told, told_in, told_of, AreSites}
use Rattle.std.proofs.lemmas.List.{map_push, map-append, append-nil}
use Rattle.std.proofs.lemmas.Option.{slice_get_within, none-some, same_Some, slice_get-map}
use Rattle.std.specs.List.{AllByRecursion, position}
use Rattle.ix_rec.specs.declared.device.DeviceRec.{DeviceRec}
use Rattle.ix_rec.specs.declared.device.Tile.{Tile}
use Rattle.ix_rec.specs.Ranges.{SitesFit}
use Rattle.ix_device.specs.Lookups.{sites_from, sites_of, site_named, name_of_site, tile_of_site, type_of_site, place_of_site, type_of_tile, wire_of_pin, wire_of_site_pin}
use Rattle.ix_device.proofs.FirstPlaces.{position-cons}
use Rattle.ix_device.proofs.Walks.{map_take_next, take_next, length_take}

-- one more site of a tile was told
pub one_more_site : (tile : ℕ) (ty : TileType) (sites : List Site) (i : ℕ) (s : Site) (u : SiteTypeInTileType) (entries : List SiteEntry) (before : List (Option (ℕ × ℕ × ℕ × ℕ)))
    → slice_get sites i ≡ Some s → slice_get ty.site_types s.ty ≡ Some u → map entry_told entries ≡ before ++ map (told_in tile ty) (take i sites)
    → map entry_told (entries ++ record { name = s.name; tile = tile; ty = u.primary_type; place = s.ty } ∷ []) ≡ before ++ map (told_in tile ty) (take (i + 1) sites)
one_more_site tile ty sites i s u entries before at_i at_ty h =
    map_push entry_told entries e
    ∙ ap (λ l. l ++ entry_told e ∷ []) h
    ∙ append_assoc before (map (told_in tile ty) (take i sites)) (entry_told e ∷ [])
    ∙ ap (λ x. before ++ (map (told_in tile ty) (take i sites) ++ x ∷ [])) (sym (ap (option_map (λ v. (s.name, tile, v.primary_type, s.ty))) at_ty))
    ∙ ap (λ l. before ++ l) (sym (map_take_next (told_in tile ty) sites i s at_i))
  where
    e : SiteEntry
    e = record { name = s.name; tile = tile; ty = u.primary_type; place = s.ty }

-- A tile's sites are of types of its own type, so that its own type is there.
pub type_within : (types : List TileType) (t : ℕ) (sites : List Site) → SitesFit (slice_get types t) sites → t < length types
type_within types t sites fits = by (slice_get types t) refl fits
  where
    by : (o : Option TileType) → slice_get types t ≡ o → SitesFit o sites → t < length types
    by None e h = absurd h
    by (Some ty) e h = slice_get_within types t ty e

pub sites_fit : (types : List TileType) (t : ℕ) (sites : List Site) (ty : TileType) → SitesFit (slice_get types t) sites → slice_get types t ≡ Some ty
    → AllByRecursion (λ s. s.ty < length ty.site_types) sites
sites_fit types t sites ty fits e = subst (λ o. SitesFit o sites) e fits

-- the sites of tiles from this number on, with one tile more
pub sites_push : (first : ℕ) (tiles : List Tile) (t : Tile) → sites_from first (tiles ++ t ∷ []) ≡ sites_from first tiles ++ map (λ s. (first + length tiles, s)) t.sites
unfolding sites_from
sites_push first [] t = append-nil (map (λ s. (first, s)) t.sites) ∙ ap (λ n. map (λ s. (n, s)) t.sites) (omega arith)
sites_push first (u ∷ us) t =
    ap (λ l. map (λ s. (first, s)) u.sites ++ l) (sites_push (first + 1) us t ∙ ap (λ n. sites_from (first + 1) us ++ map (λ s. (n, s)) t.sites) (omega arith))
    ∙ sym (append_assoc (map (λ s. (first, s)) u.sites) (sites_from (first + 1) us) (map (λ s. (first + length (u ∷ us), s)) t.sites))

told_sites : (rec : DeviceRec) (tile : ℕ) (ty : TileType) (sites : List Site) → type_of_tile rec tile ≡ Some ty → map (told_of rec) (map (λ s. (tile, s)) sites) ≡ map (told_in tile ty) sites
told_sites rec tile ty [] e = refl
told_sites rec tile ty (s ∷ ss) e = ap (λ x. x ∷ map (told_of rec) (map (λ s. (tile, s)) ss)) (ap (option_and_then (λ u. told_in tile u s)) e) ∙ ap (λ l. told_in tile ty s ∷ l) (told_sites rec tile ty ss e)

-- the sites of one more tile were told
pub one_more_tile : (rec : DeviceRec) (i : ℕ) (t : Tile) (ty : TileType) (told : List (Option (ℕ × ℕ × ℕ × ℕ)))
    → slice_get rec.tile_list i ≡ Some t → slice_get rec.tile_type_list t.ty ≡ Some ty → told ≡ map (told_of rec) (sites_from 0 (take i rec.tile_list))
    → told ++ map (told_in i ty) t.sites ≡ map (told_of rec) (sites_from 0 (take (i + 1) rec.tile_list))
one_more_tile rec i t ty told at_i at_ty h =
    ap (λ l. l ++ map (told_in i ty) t.sites) h
    ∙ ap (λ l. map (told_of rec) (sites_from 0 (take i rec.tile_list)) ++ l) (sym (told_sites rec i ty t.sites (ap (option_and_then (λ u. slice_get rec.tile_type_list u.ty)) at_i ∙ at_ty)))
    ∙ sym (map-append (told_of rec) (sites_from 0 (take i rec.tile_list)) (map (λ s. (i, s)) t.sites))
    ∙ ap (map (told_of rec)) (sym (ap (sites_from 0) (take_next rec.tile_list i t at_i) ∙ sites_push 0 (take i rec.tile_list) t ∙ ap (λ n. sites_from 0 (take i rec.tile_list) ++ map (λ s. (n, s)) t.sites) (let len = length_take rec.tile_list i t at_i in omega arith)))

-- The names in the table of sites are those of the sites.
told_name : (rec : DeviceRec) (s : ℕ × Site) (x : ℕ × ℕ × ℕ × ℕ) → told_of rec s ≡ Some x → x.0 ≡ s.1.name
told_name rec s x = by (type_of_tile rec s.0)
  where
    named : (o : Option SiteTypeInTileType) → option_map (λ u. (s.1.name, s.0, u.primary_type, s.1.ty)) o ≡ Some x → x.0 ≡ s.1.name
    named None h = absurd (none-some x h)
    named (Some u) h = sym (ap (λ p. p.0) (same_Some (s.1.name, s.0, u.primary_type, s.1.ty) x h))

    by : (o : Option TileType) → option_and_then (λ ty. told_in s.0 ty s.1) o ≡ Some x → x.0 ≡ s.1.name
    by None h = absurd (none-some x h)
    by (Some ty) h = named (slice_get ty.site_types s.1.ty) h

pub same_names : (rec : DeviceRec) (entries : List SiteEntry) (sites : List (ℕ × Site)) → map entry_told entries ≡ map (told_of rec) sites → map (λ e. e.name) entries ≡ map (λ s. s.1.name) sites
same_names rec [] [] h = refl
same_names rec [] (s ∷ ss) h = absurd (none-some (told_of rec s) (ap (λ l. slice_get l 0) h))
same_names rec (e ∷ es) [] h = absurd (none-some (entry_told e) (sym (ap (λ l. slice_get l 0) h)))
same_names rec (e ∷ es) (s ∷ ss) h =
    ap (λ n. n ∷ map (λ e. e.name) es) (told_name rec s (e.name, e.tile, e.ty, e.place) (sym (same_Some (entry_told e) (told_of rec s) (ap (λ l. slice_get l 0) h))))
    ∙ ap (λ l. s.1.name ∷ l) (same_names rec es ss (ap (drop 1) h))

position-map : {A B : Type 0} (p : B → Bool) (f : A → B) (xs : List A) → position (λ x. p (f x)) xs ≡ position p (map f xs)
position-map p f [] = refl
position-map p f (x ∷ xs) = position-cons (λ x. p (f x)) x xs ∙ ap (λ o. cond (p (f x)) (Some 0) (option_map (λ n. n + 1) o)) (position-map p f xs) ∙ sym (position-cons p (f x) (map f xs))

-- a name's first place in the table is its first bearer's number
pub site_by_name : (rec : DeviceRec) (entries : List SiteEntry) (name : ℕ) → AreSites rec entries → position (λ e. nat_eq e.name name) entries ≡ site_named rec name
site_by_name rec entries name are =
    position-map (λ n. nat_eq n name) (λ e. e.name) entries ∙ ap (position (λ n. nat_eq n name)) (same_names rec entries (sites_of rec) are) ∙ sym (position-map (λ n. nat_eq n name) (λ s. s.1.name) (sites_of rec))

-- what the table tells of a site of this number
pub site_at : (rec : DeviceRec) (entries : List SiteEntry) (site : ℕ) (e : SiteEntry) → AreSites rec entries → slice_get entries site ≡ Some e
    → option_and_then (told_of rec) (slice_get (sites_of rec) site) ≡ entry_told e
site_at rec entries site e are at =
    through (slice_get (sites_of rec) site) (sym (slice_get-map (told_of rec) (sites_of rec) site) ∙ ap (λ l. slice_get l site) (sym are) ∙ slice_get-map entry_told entries site ∙ ap (option_map entry_told) at)
  where
    through : (o : Option (ℕ × Site)) → option_map (told_of rec) o ≡ Some (entry_told e) → option_and_then (told_of rec) o ≡ entry_told e
    through None h = absurd (none-some (entry_told e) h)
    through (Some s) h = same_Some (told_of rec s) (entry_told e) h

-- what an entry tells of its site
pub record Tells (rec : DeviceRec) (site : ℕ) (e : SiteEntry) : Type 0 where
  pub name : name_of_site rec site ≡ Some e.name
  pub tile : tile_of_site rec site ≡ Some e.tile
  pub ty : type_of_site rec site ≡ Some e.ty
  pub place : place_of_site rec site ≡ Some e.place

pub tells : (rec : DeviceRec) (entries : List SiteEntry) (site : ℕ) (e : SiteEntry) → AreSites rec entries → slice_get entries site ≡ Some e → Tells rec site e
tells rec entries site e are at = by (slice_get (sites_of rec) site) refl (site_at rec entries site e are at)
  where
    found : (s : ℕ × Site) (p : Option TileType) → type_of_tile rec s.0 ≡ p → option_and_then (λ ty. told_in s.0 ty s.1) p ≡ entry_told e
        → (s.1.name ≡ e.name) × (s.0 ≡ e.tile) × (option_and_then (λ ty. option_map (λ u. u.primary_type) (slice_get ty.site_types s.1.ty)) p ≡ Some e.ty) × (s.1.ty ≡ e.place)
    found s None h told = absurd (none-some (e.name, e.tile, e.ty, e.place) told)
    found s (Some ty) h told = in_type (slice_get ty.site_types s.1.ty) told
      where
        in_type : (q : Option SiteTypeInTileType) → option_map (λ u. (s.1.name, s.0, u.primary_type, s.1.ty)) q ≡ entry_told e
            → (s.1.name ≡ e.name) × (s.0 ≡ e.tile) × (option_map (λ u. u.primary_type) q ≡ Some e.ty) × (s.1.ty ≡ e.place)
        in_type None t = absurd (none-some (e.name, e.tile, e.ty, e.place) t)
        in_type (Some u) t = let same = same_Some (s.1.name, s.0, u.primary_type, s.1.ty) (e.name, e.tile, e.ty, e.place) t in (ap (λ x. x.0) same, ap (λ x. x.1) same, ap (λ x. Some x.2) same, ap (λ x. x.3) same)

    by : (o : Option (ℕ × Site)) → slice_get (sites_of rec) site ≡ o → option_and_then (told_of rec) o ≡ entry_told e → Tells rec site e
    by None h told = absurd (none-some (e.name, e.tile, e.ty, e.place) told)
    by (Some s) h told = let f = found s (type_of_tile rec s.0) refl told in record {
      name = ap (option_map (λ s. s.1.name)) h ∙ ap Some f.0;
      tile = ap (option_map (λ s. s.0)) h ∙ ap Some f.1;
      ty = ap (option_and_then (λ s. option_and_then (λ ty. option_map (λ u. u.primary_type) (slice_get ty.site_types s.1.ty)) (type_of_tile rec s.0))) h ∙ f.2;
      place = ap (option_map (λ s. s.1.ty)) h ∙ ap Some f.3;
    }

-- the wire of a site's pin, by the site's tile and place
pub wire_of_site : (rec : DeviceRec) (site tile place pin : ℕ) → tile_of_site rec site ≡ Some tile → place_of_site rec site ≡ Some place
    → option_and_then (wire_of_pin place pin) (type_of_tile rec tile) ≡ wire_of_site_pin rec site pin
wire_of_site rec site tile place pin at_tile at_place = by (slice_get (sites_of rec) site) at_tile at_place
  where
    by : (o : Option (ℕ × Site)) → option_map (λ s. s.0) o ≡ Some tile → option_map (λ s. s.1.ty) o ≡ Some place
        → option_and_then (wire_of_pin place pin) (type_of_tile rec tile) ≡ option_and_then (λ s. option_and_then (wire_of_pin s.1.ty pin) (type_of_tile rec s.0)) o
    by None t p = absurd (none-some tile t)
    by (Some s) t p =
        ap (λ n. option_and_then (wire_of_pin n pin) (type_of_tile rec tile)) (sym (same_Some s.1.ty place p)) ∙ ap (λ n. option_and_then (wire_of_pin s.1.ty pin) (type_of_tile rec n)) (sym (same_Some s.0 tile t))
