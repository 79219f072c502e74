-- The sections of the structs.
use Rattle.std.proofs.Common.{◌≡◌, ◌+◌, ◌/◌, ℕ, List, [], ◌∷◌, length, map, refl, ap, sym, subst}
use Rattle.std.proofs.Common.{◌∙◌}
use Rattle.std.specs.List.{AllByRecursion}
use Rattle.ix_message.specs.Shape.{Text, Struct, Value, Branches, ends, branch}
use Rattle.ix_message.specs.Names.{Datum, branches_map, number_for, numbered, parts_numbered}
use Rattle.ix_message.specs.Names.{place_in}
use Rattle.ix_message.specs.Layout.{number_bytes, section_of, all_laid, branch_sections}
use Rattle.ix_message.specs.Phys.{pin_mapping, cell_placement, site_instance, property, phys_net}
use Rattle.ix_message.specs.Phys.{phys_netlist}
use Rattle.ix_message.proofs.Whole.{IsWide, whole-padded, words-data_section, whole-structs_laid}
use Rattle.ix_message.proofs.Wide.{whole-text, whole-texts}
use Rattle.ix_message_write.specs.Table.{name_text}
use Rattle.ix_rec.specs.declared.phys.PinMapping.{PinMapping}
use Rattle.ix_rec.specs.declared.phys.CellPlacement.{CellPlacement}
use Rattle.ix_rec.specs.declared.phys.SiteInstance.{SiteInstance}
use Rattle.ix_rec.specs.declared.phys.Property.{Property}
use Rattle.ix_rec.specs.declared.phys.PhysNet.{PhysNet}
use Rattle.ix_rec.specs.declared.phys.Segment.{Segment}
use Rattle.ix_rec.specs.declared.phys.Phys.{Phys}
use Rattle.ix_phys_write.specs.Trees.{trees_at}
use Rattle.ix_phys_write.specs.Record.{pin_mapping_record, placement_record, site_instance_record}
use Rattle.ix_phys_write.specs.Record.{property_record, net_record, phys_record, segment_row}
use Rattle.ix_phys_write.specs.Record.{type_number}

-- the sections of a list
list_wide : {X : Type 0} (s : Struct) (to_record : X → Value Datum s) (d n : ℕ) (table : List Text)
    → ((x : X) → IsWide d n (section_of table s (numbered (place_in table) s (to_record x))))
    → (xs : List X)
    → AllByRecursion (IsWide d n) (map (section_of table s)
    (map (numbered (place_in table) s) (map to_record xs)))
list_wide s to_record d n table wide [] = tt
list_wide s to_record d n table wide (x ∷ xs) = (wide x, list_wide s to_record d n table wide xs)

pub mapping_wide : (names table : List Text) (p : PinMapping)
    → IsWide 2 0 (section_of table pin_mapping
    (numbered (place_in table) pin_mapping (pin_mapping_record names p)))
unfolding section_of all_laid numbered parts_numbered
mapping_wide names table p =
    let place = λ (id : ℕ). place_in table (name_text names id) in
    let row = place p.cell_pin ∷ place p.bel ∷ place p.bel_pin ∷ [] in
    record {
      row = whole-padded (number_bytes row);
      words_is = words-data_section row;
      pointers_is = refl;
      behind = tt;
    }

pub placement_wide : (names table : List Text) (p : CellPlacement)
    → IsWide 2 1 (section_of table cell_placement
    (numbered (place_in table) cell_placement (placement_record names p)))
unfolding section_of all_laid numbered parts_numbered
placement_wide names table p =
    let place = λ (id : ℕ). place_in table (name_text names id) in
    let row = place p.cell_name ∷ place p.ty ∷ place p.site ∷ place p.bel ∷ [] in
    let pins = map (section_of table pin_mapping)
    (map (numbered (place_in table) pin_mapping) (map (pin_mapping_record names) p.pin_map)) in
    record {
      row = whole-padded (number_bytes row);
      words_is = words-data_section row;
      pointers_is = refl;
      behind = (
        whole-structs_laid 2 0 pins (list_wide pin_mapping (pin_mapping_record names) 2 0
            table (mapping_wide names table) p.pin_map),
        tt,
      );
    }

pub instance_wide : (names table : List Text) (i : SiteInstance)
    → IsWide 1 0 (section_of table site_instance
    (numbered (place_in table) site_instance (site_instance_record names i)))
unfolding section_of all_laid numbered parts_numbered
instance_wide names table i =
    let row = place_in table (name_text names i.site) ∷ place_in table (name_text names i.ty) ∷ []
    in
    record {
      row = whole-padded (number_bytes row);
      words_is = words-data_section row;
      pointers_is = refl;
      behind = tt;
    }

pub property_wide : (names table : List Text) (p : Property)
    → IsWide 1 0 (section_of table property
    (numbered (place_in table) property (property_record names p)))
unfolding section_of all_laid numbered parts_numbered
property_wide names table p =
    let row = place_in table (name_text names p.key) ∷ place_in table (name_text names p.value) ∷ []
    in
    record {
      row = whole-padded (number_bytes row);
      words_is = words-data_section row;
      pointers_is = refl;
      behind = tt;
    }

-- a tree whose rows have five numbers
branches_wide : {A : Type 0} (row : A → List ℕ) → ((a : A) → length (row a) ≡ 5) → (t : Branches A)
    → AllByRecursion (IsWide 3 1) (branch_sections (branches_map row t))
unfolding branch_sections
branches_wide row five ends = tt
branches_wide row five (branch x below beside) = (
  record {
    row = whole-padded (number_bytes (row x));
    words_is = words-data_section (row x) ∙ ap (λ (k : ℕ). (k + 1) / 2) (five x);
    pointers_is = refl;
    behind = (
      whole-structs_laid 3 1 (branch_sections (branches_map row below))
          (branches_wide row five below),
      tt,
    );
  },
  branches_wide row five beside,
)

-- a tree changed twice
pub branches_twice : {A B C : Type 0} (f : B → C) (g : A → B) (t : Branches A)
    → branches_map f (branches_map g t) ≡ branches_map (λ x. f (g x)) t
branches_twice f g ends = refl
branches_twice {A} {B} {C} f g (branch x below beside) =
    ap (λ (t : Branches C). branch (f (g x)) t (branches_map f (branches_map g beside)))
    (branches_twice f g below)
    ∙ ap (λ (t : Branches C). branch (f (g x)) (branches_map (λ (x : A). f (g x)) below) t)
    (branches_twice f g beside)

-- a segment's numbers
abbrev pub numbers_by : List Text → List Text → Segment → List ℕ
numbers_by names table s = map (number_for (place_in table)) (segment_row names s)

pub numbers_five : (names table : List Text) (s : Segment) → length (numbers_by names table s) ≡ 5
numbers_five names table s = refl

pub sections_wide : (names table : List Text) (t : Branches Segment)
    → AllByRecursion (IsWide 3 1) (branch_sections
    (branches_map (map (number_for (place_in table))) (branches_map (segment_row names) t)))
sections_wide names table t =
    subst (λ (b : Branches (List ℕ)). AllByRecursion (IsWide 3 1) (branch_sections b))
    (sym (branches_twice (map (number_for (place_in table))) (segment_row names) t))
    (branches_wide (numbers_by names table) (numbers_five names table) t)

pub net_wide : (names table : List Text) (n : PhysNet)
    → IsWide 1 2 (section_of table phys_net
    (numbered (place_in table) phys_net (net_record names n)))
unfolding section_of all_laid numbered parts_numbered
net_wide names table n =
    let row = place_in table (name_text names n.name) ∷ type_number n.ty ∷ [] in
    let trees = λ (t : Branches Segment). branch_sections
    (branches_map (map (number_for (place_in table))) (branches_map (segment_row names) t)) in
    record {
      row = whole-padded (number_bytes row);
      words_is = words-data_section row;
      pointers_is = refl;
      behind = (
        whole-structs_laid 3 1 (trees (trees_at 0 n.sources))
            (sections_wide names table (trees_at 0 n.sources)),
        (
          whole-structs_laid 3 1 (trees (trees_at 0 n.stubs))
              (sections_wide names table (trees_at 0 n.stubs)),
          tt,
        ),
      );
    }

pub phys_wide : (names table : List Text) (p : Phys)
    → IsWide 0 6 (section_of table phys_netlist
    (numbered (place_in table) phys_netlist (phys_record names p)))
unfolding section_of all_laid numbered parts_numbered
phys_wide names table p = record {
  row = whole-padded [];
  words_is = refl;
  pointers_is = refl;
  behind = (
    whole-text (name_text names p.part),
    (
      whole-texts table,
      (
        whole-structs_laid 2 1 _ (list_wide cell_placement (placement_record names) 2 1 table
            (placement_wide names table) p.placements),
        (
          whole-structs_laid 1 2 _ (list_wide phys_net (net_record names) 1 2 table
              (net_wide names table) p.nets),
          (
            whole-structs_laid 1 0 _ (list_wide site_instance (site_instance_record names) 1 0 table
                (instance_wide names table) p.site_insts),
            (
              whole-structs_laid 1 0 _ (list_wide property (property_record names) 1 0 table
                  (property_wide names table) p.properties),
              tt,
            ),
          ),
        ),
      ),
    ),
  );
}
