-- The record of a physical netlist is one: its texts are UTF-8 where the names are, and its numbers are in their ranges.
use Rattle.std.proofs.Common.{◌<◌, ◌≤◌, ◌^◌, ℕ, Bool, true, false, List, [], ◌∷◌, length, map, arith, refl, sym, subst, inl, inr, ◌⊎◌}
use Rattle.std.specs.List.{All}
use Rattle.std.proofs.lemmas.Bool.{cases_lt}
use Rattle.std.proofs.lemmas.List.{get_or_past}
use Rattle.std.proofs.lemmas.Str.{IsUtf8-nil, is_utf8-from_IsUtf8}
use Rattle.ix_message.specs.Shape.{Text, Branches, ends, branch}
use Rattle.ix_message.specs.Names.{Datum, the_number, number_for, branches_map}
use Rattle.ix_message.specs.Records.{IsText, AreData, AreBranches, IsRecord, AreParts}
use Rattle.ix_message.specs.Phys.{pin_mapping, cell_placement, site_instance, property, phys_net, phys_netlist, segment}
use Rattle.ix_message_write.specs.Table.{name_text}
use Rattle.ix_message_write.proofs.Fitting.{all_mapped}
use Rattle.ix_rec.specs.declared.phys.PinMapping.{PinMapping}
use Rattle.ix_rec.specs.declared.phys.CellPlacement.{CellPlacement}
use Rattle.ix_rec.specs.declared.phys.SiteInstance.{SiteInstance}
use Rattle.ix_rec.specs.declared.phys.Property.{Property}
use Rattle.ix_rec.specs.declared.phys.PhysNet.{PhysNet}
use Rattle.ix_rec.specs.declared.phys.Segment.{Segment}
use Rattle.ix_rec.specs.declared.phys.Phys.{Phys}
use Rattle.ix_rec.specs.declared.phys.NetType.{NetType}
use Rattle.ix_rec.specs.declared.phys.NetType.TheVariants.{Signal, Gnd, Vcc}
use Rattle.ix_rec.specs.declared.phys.BranchKind.{BranchKind}
use Rattle.ix_rec.specs.declared.phys.BranchKind.TheVariants.{BelPin, SitePin, Pip, SitePip}
use Rattle.ix_phys_write.specs.Trees.{trees_at}
use Rattle.ix_phys_write.specs.Record.{pin_mapping_record, placement_record, site_instance_record, property_record, net_record, phys_record, segment_row, named, third, kind_number, flag_number, type_number}

-- a name's text; past the names it is empty
abbrev pub AreTexts : List Text → Type 0
AreTexts names = (id : ℕ) → IsText (name_text names id)

pub are_texts : (names : List Text) → All IsText names → AreTexts names
are_texts names all id = go (cases_lt id (length names))
  where
    go : (id < length names) ⊎ (length names ≤ id) → IsText (name_text names id)
    go (inl lt) = all id [] lt
    go (inr le) = subst IsText (sym (get_or_past names id [] le)) (is_utf8-from_IsUtf8 [] IsUtf8-nil)

mapping_is : (names : List Text) (place : Text → ℕ) → AreTexts names → (p : PinMapping) → IsRecord place pin_mapping (pin_mapping_record names p)
unfolding IsRecord AreParts
mapping_is names place ok p = ((ok p.cell_pin, (ok p.bel, (ok p.bel_pin, tt))), tt)

placement_is : (names : List Text) (place : Text → ℕ) → AreTexts names → (p : CellPlacement) → IsRecord place cell_placement (placement_record names p)
unfolding IsRecord AreParts
placement_is names place ok p =
    ((ok p.cell_name, (ok p.ty, (ok p.site, (ok p.bel, tt)))), (all_mapped (IsRecord place pin_mapping) (pin_mapping_record names) (mapping_is names place ok) p.pin_map, tt))

instance_is : (names : List Text) (place : Text → ℕ) → AreTexts names → (i : SiteInstance) → IsRecord place site_instance (site_instance_record names i)
unfolding IsRecord AreParts
instance_is names place ok i = ((ok i.site, (ok i.ty, tt)), tt)

property_is : (names : List Text) (place : Text → ℕ) → AreTexts names → (p : Property) → IsRecord place property (property_record names p)
unfolding IsRecord AreParts
property_is names place ok p = ((ok p.key, (ok p.value, tt)), tt)

flag_is : (b : Bool) → flag_number b < 2
flag_is true = omega arith
flag_is false = omega arith

-- a segment's row, by its kind
abbrev pub row_by : List Text → BranchKind → Segment → List Datum
row_by names k s =
    the_number (kind_number k) ∷ named names s.first ∷ named names s.second ∷ third names k s.third ∷ the_number (flag_number s.forward) ∷ []

segment_is : (names : List Text) (place : Text → ℕ) → AreTexts names → (s : Segment) → AreData (map (number_for place) (segment_row names s)) segment (segment_row names s)
segment_is names place ok s = go s.kind
  where
    go : (k : BranchKind) → AreData (map (number_for place) (row_by names k s)) segment (row_by names k s)
    go BelPin = (omega arith, (ok s.first, (ok s.second, (ok s.third, (flag_is s.forward, tt)))))
    go SitePin = (omega arith, (ok s.first, (ok s.second, (refl, (flag_is s.forward, tt)))))
    go Pip = (omega arith, (ok s.first, (ok s.second, (ok s.third, (flag_is s.forward, tt)))))
    go SitePip = (omega arith, (ok s.first, (ok s.second, (ok s.third, (flag_is s.forward, tt)))))

branches_are : (names : List Text) (place : Text → ℕ) → AreTexts names → (t : Branches Segment) → AreBranches place segment (branches_map (segment_row names) t)
branches_are names place ok ends = tt
branches_are names place ok (branch s below beside) = (segment_is names place ok s, branches_are names place ok below, branches_are names place ok beside)

type_is : (t : NetType) → type_number t < 2 ^ 16
type_is Signal = omega arith
type_is Gnd = omega arith
type_is Vcc = omega arith

net_is : (names : List Text) (place : Text → ℕ) → AreTexts names → (n : PhysNet) → IsRecord place phys_net (net_record names n)
unfolding IsRecord AreParts
net_is names place ok n =
    ((ok n.name, (type_is n.ty, tt)), (branches_are names place ok (trees_at 0 n.sources), (branches_are names place ok (trees_at 0 n.stubs), tt)))

pub phys_is : (names : List Text) (place : Text → ℕ) → AreTexts names → (p : Phys) → IsRecord place phys_netlist (phys_record names p)
unfolding IsRecord AreParts
phys_is names place ok p = (
  tt,
  (
    ok p.part,
    (
      all_mapped (IsRecord place cell_placement) (placement_record names) (placement_is names place ok) p.placements,
      (
        all_mapped (IsRecord place phys_net) (net_record names) (net_is names place ok) p.nets,
        (
          all_mapped (IsRecord place site_instance) (site_instance_record names) (instance_is names place ok) p.site_insts,
          (all_mapped (IsRecord place property) (property_record names) (property_is names place ok) p.properties, tt),
        ),
      ),
    ),
  ),
)
