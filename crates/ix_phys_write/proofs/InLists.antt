-- In the record of a physical netlist each number fits: a text's place is below the table's length, where the table has the
-- texts that the record uses, and enumerants are below their limits.
use Rattle.std.proofs.Common.{◌≡◌, ℕ, true, List, [], ◌∷◌, ◌++◌, length, map, refl, sym, subst}
use Rattle.std.specs.Prelude.{None, nat_lt}
use Rattle.std.specs.List.{AllByRecursion, flat_map}
use Rattle.std.proofs.lemmas.Bool.{lt-ltb}
use Rattle.std.proofs.lemmas.List.Concat.{flat_map-cons}
use Rattle.ix_message.specs.Shape.{Text, Struct, Value, Branches, ends, branch}
use Rattle.ix_message.specs.Names.{Datum, number_for, branches_map, text_in, branch_uses, uses, part_uses, numbered, parts_numbered, place_in, table_of}
use Rattle.ix_message.specs.Indexes.{Entry, entry_of, Step, only_table, ask_row, branch_steps, steps, part_steps, first_bad}
use Rattle.ix_message.specs.Message.{numbers_of}
use Rattle.ix_message.specs.Phys.{pin_mapping, cell_placement, site_instance, property, phys_net, phys_netlist, segment}
use Rattle.ix_message_write.specs.Table.{name_text}
use Rattle.ix_message_write.proofs.Fitting.{Has, StepFits, place_within, first_uses_has, none_unfit, all_append, all_parts}
use Rattle.ix_rec.specs.declared.phys.PinMapping.{PinMapping}
use Rattle.ix_rec.specs.declared.phys.CellPlacement.{CellPlacement}
use Rattle.ix_rec.specs.declared.phys.SiteInstance.{SiteInstance}
use Rattle.ix_rec.specs.declared.phys.Property.{Property}
use Rattle.ix_rec.specs.declared.phys.PhysNet.{PhysNet}
use Rattle.ix_rec.specs.declared.phys.Segment.{Segment}
use Rattle.ix_rec.specs.declared.phys.Phys.{Phys}
use Rattle.ix_rec.specs.declared.phys.NetType.{NetType}
use Rattle.ix_rec.specs.declared.phys.NetType.TheVariants.{Signal, Gnd, Vcc}
use Rattle.ix_rec.specs.declared.phys.BranchKind.{BranchKind}
use Rattle.ix_rec.specs.declared.phys.BranchKind.TheVariants.{BelPin, SitePin, Pip, SitePip}
use Rattle.ix_phys_write.specs.Trees.{trees_at}
use Rattle.ix_phys_write.specs.Record.{pin_mapping_record, placement_record, site_instance_record, property_record, net_record, phys_record, segment_row, type_number}
use Rattle.ix_phys_write.proofs.Proper.{row_by}

-- these texts are in the table
abbrev AreUsed : List Text → List Text → Type 0
AreUsed table ts = AllByRecursion (Has table) ts

abbrev AllFit : List Step → Type 0
AllFit steps = AllByRecursion StepFits steps

-- the steps of a struct whose texts are in the table
abbrev record_steps : (table : List Text) (s : Struct) (around : List Entry) → Value Datum s → List Step
record_steps table s around v = steps s (only_table (length table)) around (numbered (place_in table) s v)

name_fits : (table : List Text) (t : Text) → Has table t → nat_lt (place_in table t) (length table) ≡ true
name_fits table t h = lt-ltb (place_in table t) (length table) (place_within table t h)

-- structs one after another
each_fits : {X : Type 0} (table : List Text) (s : Struct) (around : List Entry) (to_record : X → Value Datum s)
    → ((x : X) → AreUsed table (uses s (to_record x)) → AllFit (record_steps table s around (to_record x))) → (xs : List X)
    → AreUsed table (flat_map (uses s) (map to_record xs)) → AllFit (flat_map (steps s (only_table (length table)) around) (map (numbered (place_in table) s) (map to_record xs)))
each_fits table s around to_record fit [] h = tt
each_fits {X} table s around to_record fit (x ∷ xs) h =
    let to_steps = steps s (only_table (length table)) around in
    let number = numbered (place_in table) s in
    let parts = all_parts (Has table) (uses s (to_record x)) (flat_map (uses s) (map to_record xs)) (subst (AreUsed table) (flat_map-cons (uses s) (to_record x) (map to_record xs)) h) in
    subst AllFit (sym (flat_map-cons to_steps (number (to_record x)) (map number (map to_record xs))))
    (all_append StepFits (to_steps (number (to_record x))) (flat_map to_steps (map number (map to_record xs))) (fit x parts.0) (each_fits table s around to_record fit xs parts.1))

mapping_fits : (names table : List Text) (around : List Entry) (p : PinMapping) → AreUsed table (uses pin_mapping (pin_mapping_record names p)) → AllFit (record_steps table pin_mapping around (pin_mapping_record names p))
unfolding uses part_uses numbered parts_numbered steps part_steps
mapping_fits names table around p h =
    (tt, (name_fits table (name_text names p.cell_pin) h.0, (name_fits table (name_text names p.bel) h.1.0, (name_fits table (name_text names p.bel_pin) h.1.1.0, tt))))

placement_fits : (names table : List Text) (around : List Entry) (p : CellPlacement) → AreUsed table (uses cell_placement (placement_record names p)) → AllFit (record_steps table cell_placement around (placement_record names p))
unfolding uses part_uses numbered parts_numbered steps part_steps
placement_fits names table around p h =
    let here = entry_of cell_placement (numbered (place_in table) cell_placement (placement_record names p)) ∷ around in
    let pin_uses = flat_map (uses pin_mapping) (map (pin_mapping_record names) p.pin_map) in
    let pins = all_parts (Has table) pin_uses [] h.1.1.1.1 in (
      tt,
      (
        name_fits table (name_text names p.cell_name) h.0,
        (
          name_fits table (name_text names p.ty) h.1.0,
          (
            name_fits table (name_text names p.site) h.1.1.0,
            (
              name_fits table (name_text names p.bel) h.1.1.1.0,
              all_append StepFits _ [] (each_fits table pin_mapping here (pin_mapping_record names) (mapping_fits names table here) p.pin_map pins.0) tt,
            ),
          ),
        ),
      ),
    )

instance_fits : (names table : List Text) (around : List Entry) (i : SiteInstance) → AreUsed table (uses site_instance (site_instance_record names i)) → AllFit (record_steps table site_instance around (site_instance_record names i))
unfolding uses part_uses numbered parts_numbered steps part_steps
instance_fits names table around i h = (tt, (name_fits table (name_text names i.site) h.0, (name_fits table (name_text names i.ty) h.1.0, tt)))

property_fits : (names table : List Text) (around : List Entry) (p : Property) → AreUsed table (uses property (property_record names p)) → AllFit (record_steps table property around (property_record names p))
unfolding uses part_uses numbered parts_numbered steps part_steps
property_fits names table around p h = (tt, (name_fits table (name_text names p.key) h.0, (name_fits table (name_text names p.value) h.1.0, tt)))

-- the numbers of a row, and the steps that ask them
abbrev numbers_in : List Text → List Datum → List ℕ
numbers_in table row = map (number_for (place_in table)) row

abbrev segment_steps : List Text → List Datum → List Step
segment_steps table row = ask_row (only_table (length table)) [] "RouteBranch" (numbers_in table row) segment (numbers_in table row)

segment_fits : (names table : List Text) (s : Segment) → AreUsed table (flat_map text_in (segment_row names s)) → AllFit (segment_steps table (segment_row names s))
segment_fits names table s h = go s.kind h
  where
    first : Has table (name_text names s.first) → nat_lt (place_in table (name_text names s.first)) (length table) ≡ true
    first e = name_fits table (name_text names s.first) e

    second : Has table (name_text names s.second) → nat_lt (place_in table (name_text names s.second)) (length table) ≡ true
    second e = name_fits table (name_text names s.second) e

    last : Has table (name_text names s.third) → nat_lt (place_in table (name_text names s.third)) (length table) ≡ true
    last e = name_fits table (name_text names s.third) e

    go : (k : BranchKind) → AreUsed table (flat_map text_in (row_by names k s)) → AllFit (segment_steps table (row_by names k s))
    go BelPin u = (refl, (first u.0, (second u.1.0, (last u.1.1.0, (refl, tt)))))
    go SitePin u = (refl, (first u.0, (second u.1.0, (refl, (refl, tt)))))
    go Pip u = (refl, (first u.0, (second u.1.0, (last u.1.1.0, (refl, tt)))))
    go SitePip u = (refl, (first u.0, (second u.1.0, (last u.1.1.0, (refl, tt)))))

abbrev tree_uses : List Text → Branches Segment → List Text
tree_uses names t = branch_uses (branches_map (segment_row names) t)

abbrev tree_steps : List Text → List Text → Branches Segment → List Step
tree_steps names table t = branch_steps (only_table (length table)) "RouteBranch" segment (branches_map (numbers_in table) (branches_map (segment_row names) t))

branches_fit : (names table : List Text) (t : Branches Segment) → AreUsed table (tree_uses names t) → AllFit (tree_steps names table t)
branches_fit names table ends h = tt
branches_fit names table (branch s below beside) h =
    let row = segment_row names s in
    let later = all_parts (Has table) (flat_map text_in row ++ tree_uses names below) (tree_uses names beside) h in
    let first = all_parts (Has table) (flat_map text_in row) (tree_uses names below) later.0 in
    let here = all_append StepFits (segment_steps table row) (tree_steps names table below) (segment_fits names table s first.0) (branches_fit names table below first.1) in
    (tt, all_append StepFits (segment_steps table row ++ tree_steps names table below) (tree_steps names table beside) here (branches_fit names table beside later.1))

type_fits : (t : NetType) → nat_lt (type_number t) 3 ≡ true
type_fits Signal = refl
type_fits Gnd = refl
type_fits Vcc = refl

net_fits : (names table : List Text) (around : List Entry) (n : PhysNet) → AreUsed table (uses phys_net (net_record names n)) → AllFit (record_steps table phys_net around (net_record names n))
unfolding uses part_uses numbered parts_numbered steps part_steps
net_fits names table around n h =
    let sources = trees_at 0 n.sources in
    let stubs = trees_at 0 n.stubs in
    let parts = all_parts (Has table) (tree_uses names sources) (tree_uses names stubs ++ []) h.1 in
    let others = all_parts (Has table) (tree_uses names stubs) [] parts.1 in (
      tt,
      (
        name_fits table (name_text names n.name) h.0,
        (
          type_fits n.ty,
          all_append StepFits (tree_steps names table sources) (tree_steps names table stubs ++ []) (branches_fit names table sources parts.0)
              (all_append StepFits (tree_steps names table stubs) [] (branches_fit names table stubs others.0) tt),
        ),
      ),
    )

-- the steps of a whole record
record_fits : (names table : List Text) (p : Phys) → AreUsed table (uses phys_netlist (phys_record names p)) → AllFit (record_steps table phys_netlist [] (phys_record names p))
unfolding uses part_uses numbered parts_numbered steps part_steps
record_fits names table p h =
    let u1 = flat_map (uses cell_placement) (map (placement_record names) p.placements) in
    let u2 = flat_map (uses phys_net) (map (net_record names) p.nets) in
    let u3 = flat_map (uses site_instance) (map (site_instance_record names) p.site_insts) in
    let u4 = flat_map (uses property) (map (property_record names) p.properties) in
    let here = entry_of phys_netlist (numbered (place_in table) phys_netlist (phys_record names p)) ∷ [] in
    let h1 = all_parts (Has table) u1 (u2 ++ (u3 ++ (u4 ++ []))) h in
    let h2 = all_parts (Has table) u2 (u3 ++ (u4 ++ [])) h1.1 in
    let h3 = all_parts (Has table) u3 (u4 ++ []) h2.1 in
    let h4 = all_parts (Has table) u4 [] h3.1 in (
      tt,
      all_append StepFits _ _ (each_fits table cell_placement here (placement_record names) (placement_fits names table here) p.placements h1.0)
          (
          all_append StepFits _ _ (each_fits table phys_net here (net_record names) (net_fits names table here) p.nets h2.0)
          (
          all_append StepFits _ _ (each_fits table site_instance here (site_instance_record names) (instance_fits names table here) p.site_insts h3.0)
          (all_append StepFits _ [] (each_fits table property here (property_record names) (property_fits names table here) p.properties h4.0) tt)
          )
          ),
    )

pub none_bad : (names : List Text) (p : Phys) → first_bad phys_netlist (length (table_of phys_netlist (phys_record names p))) (numbers_of phys_netlist (phys_record names p)) ≡ None
none_bad names p =
    let r = phys_record names p in
    let table = table_of phys_netlist r in
    none_unfit [] (record_steps table phys_netlist [] r) (record_fits names table p (first_uses_has [] (uses phys_netlist r)))
