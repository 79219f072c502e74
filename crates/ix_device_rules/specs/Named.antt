-- Asking that names are new.
use Prim.Native.String.{String}
use Rattle.std.specs.Prelude.{ℕ, List, [], ◌∷◌, map, not, ◌||◌}
use Rattle.ix_message.specs.Indexes.{Step, begun, asked}
use Rattle.ix_rec.specs.declared.device.Site.{Site}
use Rattle.ix_rec.specs.declared.device.Tile.{Tile}
use Rattle.ix_rec.specs.declared.device.SiteType.{SiteType}
use Rattle.ix_keys.specs.declared.key.Key.{Key}
use Rattle.ix_keys.specs.Keys.{name_key, has_key}
use Rattle.ix_device_rules.specs.Rules.{is_new}

-- a struct of this kind begins, whose name in this field is to be none of those before
abbrev pub name_is_new : {A : Type 0} → String → String → (A → ℕ) → List A → A → List Step
name_is_new kind field name_of before x = begun kind
    ∷ asked kind field (is_new (map name_of before) (name_of x)) ∷ []

abbrev pub site_type_key : SiteType → Key
site_type_key t = name_key t.name

abbrev pub tile_key : Tile → Key
tile_key t = name_key t.name

abbrev pub site_key : Site → Key
site_key s = name_key s.name

-- a site begins, whose name is to be none of these and none of the sites' before
abbrev pub site_is_new : List Key → List Site → Site → List Step
site_is_new names before s = begun "Site"
    ∷ asked "Site" "name" (not (has_key names (site_key s)
    || has_key (map site_key before) (site_key s))) ∷ []

-- a pin of a site wire, which is to be none of these and none of those before
abbrev pub pin_is_new : List Key → List ℕ → ℕ → List Step
pin_is_new seen before p = asked "SiteWire" "pins"
    (not (has_key seen (name_key p) || has_key (map (λ q. name_key q) before) (name_key p))) ∷ []
