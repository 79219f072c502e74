-- Names that are new, told by tables.
use Rattle.std.proofs.Common.{◌≡◌, ℕ, not, ◌&&◌, ◌||◌, List, [], ◌∷◌, ◌++◌, map, refl, sym, ap, ◌∙◌}
use Rattle.std.specs.List.{list_any, flat_map}
use Rattle.std.proofs.lemmas.List.{map-append, map-id}
use Rattle.std.proofs.lemmas.List.Folds.{list_any-append}
use Rattle.ix_rec.specs.declared.device.BelPin.{BelPin}
use Rattle.ix_rec.specs.declared.device.Site.{Site}
use Rattle.ix_rec.specs.declared.device.Tile.{Tile}
use Rattle.ix_rec.specs.declared.device.SiteWire.{SiteWire}
use Rattle.ix_message.specs.Indexes.{begun, asked}
use Rattle.ix_keys.specs.declared.key.Key.{Key}
use Rattle.ix_keys.specs.Keys.{key, key_eq, name_key, has_key}
use Rattle.ix_device_rules.specs.Named.{site_key, site_is_new, pin_is_new}
use Rattle.ix_device_rules.specs.Rules.{is_pin_of, is_new, site_names, wire_pins}
use Rattle.ix_device_rules.specs.Tables.{SameKeys}
use Rattle.ix_device_rules.proofs.TableLemmas.{list_any-map, list_any-same, nat_eq-sym, new_name}

abbrev pub pin_key : BelPin → Key
pin_key p = key 0 p.bel p.name

same_pin : (bel pin : ℕ) (p : BelPin) → key_eq (key 0 bel pin) (pin_key p) ≡ is_pin_of bel pin p
same_pin bel pin p = (λ i. nat_eq-sym bel p.bel i && nat_eq-sym pin p.name i)

pub has_pin_key : (before : List BelPin) (table : List Key) (bel pin : ℕ) → SameKeys table (map pin_key before) → has_key table (key 0 bel pin) ≡ list_any (is_pin_of bel pin) before
has_pin_key before table bel pin h =
    h.same (key 0 bel pin) ∙ list_any-map (key_eq (key 0 bel pin)) pin_key before ∙ list_any-same (λ p. key_eq (key 0 bel pin) (pin_key p)) (is_pin_of bel pin) (same_pin bel pin) before

-- a site that is new to the table of the sites of earlier tiles, and to those before it
pub site_new : (tiles : List Tile) (table : List Key) → SameKeys table (map site_key (flat_map (λ t. t.sites) tiles)) → (before : List Site) (s : Site) → site_is_new table before s ≡ site_names tiles before s
site_new tiles table h before s = ap (λ b. begun "Site" ∷ asked "Site" "name" b ∷ []) fits
  where
    fits : not (has_key table (site_key s) || has_key (map site_key before) (site_key s)) ≡ is_new (map (λ r. r.name) (flat_map (λ t. t.sites) tiles ++ before)) s.name
    fits =
        ap (λ b. not (b || has_key (map site_key before) (site_key s))) (h.same (site_key s))
        ∙ ap not (sym (list_any-append (key_eq (site_key s)) (map site_key (flat_map (λ t. t.sites) tiles)) (map site_key before)))
        ∙ ap (λ ks. not (has_key ks (site_key s))) (sym (map-append site_key (flat_map (λ t. t.sites) tiles) before))
        ∙ new_name (λ r. r.name) (flat_map (λ t. t.sites) tiles ++ before) s.name (map site_key (flat_map (λ t. t.sites) tiles ++ before)) (record { same = λ k. refl })

-- the same of a pin of a site wire
pub pin_new : (wires : List SiteWire) (table : List Key) → SameKeys table (map (λ q. name_key q) (flat_map (λ w. w.pins) wires)) → (before : List ℕ) (p : ℕ) → pin_is_new table before p ≡ wire_pins wires before p
pin_new wires table h before p = ap (λ b. asked "SiteWire" "pins" b ∷ []) fits
  where
    fits : not (has_key table (name_key p) || has_key (map (λ q. name_key q) before) (name_key p)) ≡ is_new (flat_map (λ w. w.pins) wires ++ before) p
    fits =
        ap (λ b. not (b || has_key (map (λ q. name_key q) before) (name_key p))) (h.same (name_key p))
        ∙ ap not (sym (list_any-append (key_eq (name_key p)) (map (λ q. name_key q) (flat_map (λ w. w.pins) wires)) (map (λ q. name_key q) before)))
        ∙ ap (λ ks. not (has_key ks (name_key p))) (sym (map-append (λ q. name_key q) (flat_map (λ w. w.pins) wires) before))
        ∙ new_name (λ q. q) (flat_map (λ w. w.pins) wires ++ before) p (map (λ q. name_key q) (flat_map (λ w. w.pins) wires ++ before)) (record { same = λ k. refl })
        ∙ ap (λ ns. is_new ns p) (map-id (flat_map (λ w. w.pins) wires ++ before))
