-- The completed netlist.
use Rattle.std.proofs.Common.{◌≡◌, ◌<◌, ◌≤◌, ◌+◌, ◌∙◌, ap, sym, subst, ℕ, arith, inl, inr}
use Rattle.std.proofs.Common.{List, [], ◌∷◌, length, slice_get, slice_index_or, Some}
use Rattle.std.proofs.Common.{Bool, true, false, if◌then◌else◌, nat_eq, Result, Ok, Err, IfOk}
use Rattle.std.specs.List.{All}
use Rattle.std.specs.FinMap.{FinMap, get, get-entries, entries, entries_sorted, len, len-entries}
use Rattle.std.proofs.lemmas.List.{length-append}
use Rattle.std.proofs.lemmas.Option.{same_Some, slice_get_within, get_or_from_slice_get}
use Rattle.std.proofs.lemmas.Option.{slice_get-get_or}
use Rattle.ix_message.specs.Shape.{Text}
use Rattle.ix_strings.specs.Names.{KeepsNumbers}
use Rattle.ix_rec.specs.Maps.{pin_order}
use Rattle.ix_rec.specs.declared.device.DeviceRec.{DeviceRec}
use Rattle.ix_rec.specs.declared.flow.Flat.{Flat}
use Rattle.ix_rec.specs.declared.forest.Branch.{Branch}
use Rattle.ix_rec.specs.declared.phys.CellPlacement.{CellPlacement}
use Rattle.ix_rec.specs.declared.phys.Phys.{Phys}
use Rattle.ix_rec.specs.declared.phys.PhysNet.{PhysNet}
use Rattle.ix_rec.specs.declared.phys.PinMapping.{PinMapping}
use Rattle.ix_rec.specs.declared.phys.Property.{Property}
use Rattle.ix_rec.specs.declared.phys.Segment.{Segment}
use Rattle.ix_rec.specs.declared.phys.SiteInstance.{SiteInstance}
use Rattle.ix_phys_write.specs.Record.{IsPhysNamed, IsMappingNamed, IsPlacementNamed}
use Rattle.ix_phys_write.specs.Record.{IsInstanceNamed, IsPropertyNamed, IsSegmentNamed, IsNetNamed}
use Rattle.ix_device.proofs.NumberedLemmas.{there_is}
use Rattle.ix_device.proofs.OptionLemmas.{position-at}
use Rattle.ix_legal.specs.TableKeys.{table_bits}
use Rattle.ix_ends.proofs.Items.{chained, from_both}
use Rattle.ix_table_keys.specs.Places.{site_of}
use Rattle.ix_table_keys.proofs.Found.{stands_at}
use Rattle.ix_fill_tables.specs.Bits.{clashes}
use Rattle.ix_fill_tables.specs.Completed.{Filling, HasTables, IsCompleted}
use Rattle.ix_fill_tables.specs.Filled.{AreAdded, HaveSites, TellsIt, fillings_of}
use Rattle.ix_fill_tables.specs.Forced.{AreForced, TellsThere}
use Rattle.ix_fill_tables.specs.Whole.{IsWithTables}
use Rattle.ix_fill_tables.specs.declared.forcing.ForcedBits.{ForcedBits}
use Rattle.ix_fill_tables.proofs.Adding.{Entry, filling_of}
use Rattle.ix_fill_tables.proofs.Completing.{are_fillings, entry_found}

-- what follows of what went well
pub if_ok : {A E : Type 0} (P Q : A → Type 0) (r : Result A E) → ((x : A) → P x → Q x)
    → IfOk r P → IfOk r Q
if_ok P Q (Ok x) f p = f x p
if_ok P Q (Err e) f p = tt

-- The entries of placed LUTs are of instances with named sites.
pub have_sites : (names : List Text) (rec : DeviceRec) (phys : Phys) (flat : Flat)
    (forced : FinMap pin_order ForcedBits) → IsPhysNamed names phys
    → AreForced rec phys flat (length phys.placements) forced
    → HaveSites names phys.site_insts (entries forced)
have_sites names rec phys flat forced named are k e at =
    let found : get forced e.0 ≡ Some e.1 = get-entries forced e.0
    ∙ entry_found (entries forced) (entries_sorted forced) k e at in
    let there = (subst (TellsThere rec phys flat (length phys.placements) e.0.0 e.0.1) found
    (are e.0.0 e.0.1)).there in
    let its = position-at (λ x. nat_eq (site_of x) there.placement.site) phys.site_insts e.0.0
    there.is_in.instance_is in
    record {
      instance = its.0;
      instance_is = its.1;
      named = subst (λ (x : SiteInstance). x.site < length names)
          (get_or_from_slice_get phys.site_insts e.0.0 its.0 its.0 its.1)
          (named.site_insts e.0.0 its.0
          (slice_get_within phys.site_insts e.0.0 its.0 its.1)).site;
    }

pub few_fillings : (es : List Entry) → length (fillings_of es) ≤ length es
few_fillings [] = omega arith
few_fillings (e ∷ es) = by (clashes e.1) (few_fillings es)
  where
    by : (b : Bool) → length (fillings_of es) ≤ length es
        → length (if b then fillings_of es else (filling_of e ∷ fillings_of es))
        ≤ length (e ∷ es)
    by true rest = omega (arith, rest)
    by false rest = omega (arith, rest)

-- Names that are there stay there.
module _ (old new : List Text) (more : length old ≤ length new) where
  still : (id : ℕ) → id < length old → id < length new
  still id below = omega (arith, below, more)

  mapping_still : (p : PinMapping) → IsMappingNamed old p → IsMappingNamed new p
  mapping_still p is = record {
    cell_pin = still p.cell_pin is.cell_pin;
    bel = still p.bel is.bel;
    bel_pin = still p.bel_pin is.bel_pin;
  }

  placement_still : (p : CellPlacement) → IsPlacementNamed old p → IsPlacementNamed new p
  placement_still p is = record {
    cell_name = still p.cell_name is.cell_name;
    ty = still p.ty is.ty;
    site = still p.site is.site;
    bel = still p.bel is.bel;
    pin_map = λ k d less. mapping_still (slice_index_or p.pin_map k d) (is.pin_map k d less);
  }

  instance_still : (i : SiteInstance) → IsInstanceNamed old i → IsInstanceNamed new i
  instance_still i is = record { site = still i.site is.site; ty = still i.ty is.ty }

  property_still : (p : Property) → IsPropertyNamed old p → IsPropertyNamed new p
  property_still p is = record { key = still p.key is.key; value = still p.value is.value }

  segment_still : (b : Branch Segment) → IsSegmentNamed old b → IsSegmentNamed new b
  segment_still b is = record {
    first = still b.item.first is.first;
    second = still b.item.second is.second;
    third = still b.item.third is.third;
  }

  net_still : (n : PhysNet) → IsNetNamed old n → IsNetNamed new n
  net_still n is = record {
    name = still n.name is.name;
    sources = λ k d less. segment_still (slice_index_or n.sources k d) (is.sources k d less);
    stubs = λ k d less. segment_still (slice_index_or n.stubs k d) (is.stubs k d less);
  }

  -- and those of added properties are there
  property_there : (instances : List SiteInstance) (f : Filling) (p : Property)
      → TellsIt new instances f p → IsPropertyNamed new p
  property_there instances f p tells =
      let value = chained table_bits (slice_get new p.value) f.bits tells.tells.value_is in
      record {
        key = slice_get_within new p.key _ tells.tells.key_is;
        value = slice_get_within new p.value value.0 value.1;
      }

  properties_named : (instances : List SiteInstance) (before : List Property)
      (fillings : List Filling) (after : List Property) → All (IsPropertyNamed old) before
      → AreAdded new instances before fillings after → All (IsPropertyNamed new) after
  properties_named instances before fillings after named are k d less =
      let at : slice_get after k ≡ Some (slice_index_or after k d) = slice_get-get_or after k d less
      in
      elim (from_both before are.added k (slice_index_or after k d)
      (ap (λ (l : List Property). slice_get l k) (sym are.behind) ∙ at)) [
        | inl first ↦ subst (IsPropertyNamed new)
            (get_or_from_slice_get before k (slice_index_or after k d) d first)
            (property_still (slice_index_or before k d)
            (named k d (slice_get_within before k (slice_index_or after k d) first)))
        | inr second ↦
            let all = are.all in
            let below = slice_get_within are.added second.0 (slice_index_or after k d) second.2 in
            let f = there_is fillings second.0 (omega (arith, all, below)) in
            property_there instances f.0 (slice_index_or after k d)
            (are.each second.0 f.0 (slice_index_or after k d) f.1 second.2)
      ]

  named_with : (phys filled : Phys) (fillings : List Filling) → IsPhysNamed old phys
      → IsWithTables new phys fillings filled → IsPhysNamed new filled
  named_with phys filled fillings named is = subst (IsPhysNamed new) (sym is.rest) record {
    part = still phys.part named.part;
    placements = λ k d less. placement_still (slice_index_or phys.placements k d)
        (named.placements k d less);
    nets = λ k d less. net_still (slice_index_or phys.nets k d) (named.nets k d less);
    site_insts = λ k d less. instance_still (slice_index_or phys.site_insts k d)
        (named.site_insts k d less);
    properties = properties_named phys.site_insts phys.properties fillings filled.properties
        named.properties is.added;
  }

-- No name is lost where numbers are kept.
pub no_fewer : (old new : List Text) → KeepsNumbers old new → length old ≤ length new
no_fewer [] new keeps = omega arith
no_fewer (x ∷ xs) new keeps =
    let last = there_is (x ∷ xs) (length xs) (omega arith) in
    let at = slice_get_within new (length xs) last.0 (keeps (length xs) last.0 last.1) in
    omega (arith, at)

pub named_after : (old new : List Text) → KeepsNumbers old new → (phys : Phys)
    (fillings : List Filling) → IsPhysNamed old phys → (filled : Phys)
    → IsWithTables new phys fillings filled → IsPhysNamed new filled
named_after old new keeps phys fillings named filled is =
    named_with old new (no_fewer old new keeps) phys filled fillings named is

-- a table's key that is there was there
pub had_tables : (old new : List Text) → KeepsNumbers old new → (phys : Phys)
    → IsPhysNamed old phys → HasTables new phys → HasTables old phys
had_tables old new keeps phys named has =
    let k = stands_at phys.properties has.property has.stands in
    let below = subst (λ (p : Property). p.key < length old)
    (get_or_from_slice_get phys.properties k.0 has.property has.property k.1)
    (named.properties k.0 has.property
    (slice_get_within phys.properties k.0 has.property k.1)).key in
    let text = there_is old has.property.key below in
    let same : text.0 ≡ has.key = same_Some text.0 has.key
    (sym (keeps has.property.key text.0 text.1) ∙ has.key_is) in
    record {
      property = has.property;
      stands = has.stands;
      key = has.key;
      key_is = text.1 ∙ ap Some same;
      is_table_key = has.is_table_key;
    }

abbrev with_properties : Phys → List Property → Phys
with_properties p l = record {
  part = p.part;
  placements = p.placements;
  nets = p.nets;
  site_insts = p.site_insts;
  properties = l;
}

pub completed : (old new : List Text) (rec : DeviceRec) (phys : Phys) (flat : Flat)
    (forced : FinMap pin_order ForcedBits) → KeepsNumbers old new → IsPhysNamed old phys
    → (HasTables old phys → ⊥) → AreForced rec phys flat (length phys.placements) forced
    → (filled : Phys) → IsWithTables new phys (fillings_of (entries forced)) filled
    → IsCompleted new rec phys flat filled
completed old new rec phys flat forced keeps named none are filled is = inr record {
  none = λ has. none (had_tables old new keeps phys named has);
  fillings = fillings_of (entries forced);
  are = are_fillings rec phys flat forced are;
  added = is.added.added;
  tell = record {
    all = is.added.all;
    each = λ k f property f_is property_is.
        let tells = is.added.each k f property f_is property_is in
        record {
          instance = tells.instance;
          instance_is = tells.instance_is;
          site = tells.tells.site_text;
          site_is = tells.tells.site_is;
          key_is = tells.tells.key_is;
          value_is = tells.tells.value_is;
        };
  };
  filled_is = is.rest ∙ ap (λ (l : List Property). with_properties phys l) is.added.behind;
}

pub few_properties : (new : List Text) (phys : Phys) (forced : FinMap pin_order ForcedBits)
    (most : ℕ) → len forced ≤ most → (filled : Phys)
    → IsWithTables new phys (fillings_of (entries forced)) filled
    → length filled.properties ≤ length phys.properties + most
few_properties new phys forced most few filled is =
    let behind : length filled.properties ≡ length phys.properties + length is.added.added =
    ap length is.added.behind ∙ length-append phys.properties is.added.added in
    let all = is.added.all in
    let fewer = few_fillings (entries forced) in
    let count = len-entries forced in
    omega (arith, behind, all, fewer, count, few)
