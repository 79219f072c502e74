-- What the rules ask is of kinds that are counted.
use Prim.Native.String.{String}
use Rattle.std.proofs.Common.{◌≡◌, ◌∙◌, ◌++◌, ◌∷◌, ◌&&◌, [], Bool, true, nat_eq, List, map, Option, Some, None, refl}
use Rattle.std.specs.List.{list_any, flat_map}
use Rattle.std.proofs.lemmas.List.Folds.{list_all-append}
use Rattle.ix_message.specs.Indexes.{Step, begun, asked}
use Rattle.ix_rec.specs.declared.device.DeviceRec.{DeviceRec}
use Rattle.ix_rec.specs.declared.device.SiteType.{SiteType}
use Rattle.ix_rec.specs.declared.device.LutElement.{LutElement}
use Rattle.ix_device_rules.specs.Rules
use Rattle.ix_device_rules.proofs.Counts.{is_known, Known}

known_nil : Known []
known_nil = record { all = refl }

known_cons : (s : Step) {rest : List Step} → is_known s ≡ true → Known rest → Known (s ∷ rest)
known_cons s h k = record { all = (λ i. h i && k.all i) }

known_append : {xs ys : List Step} → Known xs → Known ys → Known (xs ++ ys)
known_append {xs = xs} {ys = ys} h k = record { all = list_all-append is_known xs ys ∙ (λ i. h.all i && k.all i) }

known_each : {A : Type 0} (ask : List A → A → List Step) → ((before : List A) (x : A) → Known (ask before x)) → (before xs : List A) → Known (Rules.by_earlier ask before xs)
unfolding Rules.by_earlier
known_each ask h before [] = known_nil
known_each ask h before (x ∷ xs) = known_append (h before x) (known_each ask h (before ++ x ∷ []) xs)

known_flat : {A : Type 0} (f : A → List Step) → ((x : A) → Known (f x)) → (xs : List A) → Known (flat_map f xs)
known_flat f h [] = known_nil
known_flat f h (x ∷ xs) = known_append (h x) (known_flat f h xs)

known_map : {A : Type 0} (f : A → Step) → ((x : A) → is_known (f x) ≡ true) → (xs : List A) → Known (map f xs)
known_map f h [] = known_nil
known_map f h (x ∷ xs) = known_cons (f x) (h x) (known_map f h xs)

-- one struct begins, and a field of it is asked
entered : (kind field : String) (fits : Bool) {rest : List Step} → is_known (asked kind field true) ≡ true → Known rest → Known (begun kind ∷ asked kind field fits ∷ rest)
entered kind field fits h k = known_cons (begun kind) refl (known_cons (asked kind field fits) h k)

pub known_names : (rec : DeviceRec) → Known (Rules.names_differ rec)
unfolding Rules.names_differ
known_names rec =
    known_append (known_append (known_append
    (known_each Rules.site_type_names (λ before t. entered "SiteType" "name" _ refl (known_append (known_append
    (known_each (Rules.bel_pin_names t) (λ b p. entered "BELPin" "name" _ refl known_nil) [] t.bel_pins)
    (known_each Rules.site_pin_names (λ b p. entered "SitePin" "name" _ refl known_nil) [] t.pins))
    (known_each Rules.bel_names (λ b p. entered "BEL" "name" _ refl known_nil) [] t.bels))) [] rec.site_type_list)
    (known_flat Rules.tile_type_names (λ t. known_cons (begun "TileType") refl (known_each Rules.wire_names (λ b w. known_cons (asked "TileType" "wires" _) refl known_nil) [] t.wires)) rec.tile_type_list))
    (known_each Rules.tile_names (λ before t. entered "Tile" "name" _ refl (known_each (Rules.site_names before) (λ b s. entered "Site" "name" _ refl known_nil) [] t.sites)) [] rec.tile_list))
    (known_each Rules.cell_names (λ b m. entered "CellBelMapping" "cell" _ refl known_nil) [] rec.cell_bel_map)

pub known_wires : (rec : DeviceRec) → Known (Rules.wires_stand rec)
unfolding Rules.wires_stand
known_wires rec =
    known_append
    (known_flat (Rules.wire_stands rec) (λ w. entered "Wire" "tile" _ refl (known_cons (asked "Wire" "wire" _) refl known_nil)) rec.wires)
    (known_each (Rules.node_wires rec) (λ before n. known_cons (begun "Node") refl (known_map (λ i. asked "Node" "wires" (Rules.is_free rec before i)) (λ i. refl) n.wires)) [] rec.nodes)

pub known_pins : (rec : DeviceRec) → Known (Rules.pins_are_on_one_wire rec)
unfolding Rules.pins_are_on_one_wire
known_pins rec =
    known_flat Rules.pins_of_site_wires (λ t. known_each Rules.site_wire_pins (λ before w. known_cons (begun "SiteWire") refl (known_each (Rules.wire_pins before) (λ b p. known_cons (asked "SiteWire" "pins" _) refl known_nil) [] w.pins)) [] t.site_wires) rec.site_type_list

pub known_bels : (rec : DeviceRec) → Known (Rules.pins_have_bels rec)
unfolding Rules.pins_have_bels
known_bels rec =
    known_flat Rules.bels_of_pins (λ t. known_append
    (known_flat (Rules.pin_has_bel t) (λ p. entered "BELPin" "bel" _ refl known_nil) t.bel_pins)
    (known_flat (Rules.pip_is_of_one_bel t) (λ p. entered "SitePIP" "outpin" _ refl known_nil) t.site_pips)) rec.site_type_list

known_passed : (luts : List LutElement) → Known (flat_map Rules.element_passed luts)
known_passed luts = known_flat Rules.element_passed (λ e. known_cons (begun "LutElement") refl (known_map (λ b. begun "LutBel") (λ b. refl) e.bels)) luts

known_element : (t : SiteType) (before : List LutElement) (e : LutElement) → Known (Rules.element_stands t before e)
known_element t before e =
    entered "LutElement" "width" _ refl (known_flat (Rules.lut_bel_stands t before e.width) (λ b.
    entered "LutBel" "highBit" _ refl (known_cons (asked "LutBel" "name" _) refl (known_append
    (known_map (λ pin. asked "LutBel" "inputPins" (Rules.has_pin t b.name pin)) (λ pin. refl) b.input_pins)
    (known_cons (asked "LutBel" "outputPin" _) refl known_nil)))) e.bels)

known_of_type : (o : Option SiteType) (earlier luts : List LutElement) → Known (Rules.elements_of_type o earlier luts)
known_of_type None earlier luts = known_passed luts
known_of_type (Some t) earlier luts = known_each (λ before e. Rules.element_stands t (earlier ++ before) e) (λ before e. known_element t (earlier ++ before) e) [] luts

pub known_luts : (rec : DeviceRec) → Known (Rules.lut_elements_stand rec)
unfolding Rules.lut_elements_stand
known_luts rec = known_each (Rules.elements_stand rec) (λ before e. known_of_type (Rules.site_type_named rec e.site) (Rules.elements_for e.site before) e.luts) [] rec.lut_definitions.lut_elements

pub known_sites : (rec : DeviceRec) → Known (Rules.site_pins_have_wires rec)
unfolding Rules.site_pins_have_wires
known_sites rec =
    known_flat (Rules.sites_of_tile_type rec) (λ t. known_flat (Rules.site_pins_stand rec t) (λ s. entered "SiteTypeInTileType" "primaryPinsToTileWires" _ refl
    (known_map (λ w. asked "SiteTypeInTileType" "primaryPinsToTileWires" (list_any (nat_eq w) t.wires)) (λ w. refl) s.primary_pins_to_tile_wires)) t.site_types) rec.tile_type_list

pub known_tiles : (rec : DeviceRec) → Known (Rules.tiles_are_few rec)
unfolding Rules.tiles_are_few
known_tiles rec = known_each (Rules.tile_is_small rec) (λ before t. entered "Tile" "type" _ refl (known_cons (asked "Tile" "row" _) refl (known_cons (asked "Tile" "col" _) refl known_nil))) [] rec.tile_list
