-- The property that has an element's table.
use Rattle.std.proofs.Common.{◌≡◌, ◌∙◌, ap, sym, refl, ℕ, List, ◌++◌, map, take}
use Rattle.std.proofs.Common.{true}
use Rattle.std.specs.Prelude.{nat_eq, slice_get, Option, Some, None, option_and_then, codes}
use Rattle.std.specs.List.{position}
use Rattle.std.specs.Fmt.{decimal}
use Rattle.std.proofs.lemmas.Option.{none-some, same_Some, slice_get_within, get_or_from_slice_get}
use Rattle.ix_message.specs.Shape.{Text}
use Rattle.ix_num.specs.Numbers.{NameNumber}
use Rattle.ix_strings.specs.Names.{AllDiffer}
use Rattle.ix_rec.specs.declared.phys.Phys.{Phys}
use Rattle.ix_rec.specs.declared.phys.Property.{Property}
use Rattle.ix_device_rules.specs.Rules.{is_new}
use Rattle.ix_lut.specs.Places.{ElementBits}
use Rattle.ix_legal.specs.Breaks.{asked_at}
use Rattle.ix_legal.specs.Names.{KeyIsNamed}
use Rattle.ix_legal.specs.Sites.{ElementNumber}
use Rattle.ix_legal.specs.TableKeys.{HasTable, table_key, table_bits}
use Rattle.ix_legal.specs.declared.spot.Spot.TheVariants.{PropertyAt}
use Rattle.ix_table_keys.specs.Places.{key_of}
use Rattle.ix_table_keys.specs.Tables.{IsNamedThere, TellsTable}
use Rattle.ix_table_keys.proofs.Found.{stands_at, none_of_name, one_of_name, found_by_name}

-- a property that is found by a key has it
pub key_there : (properties : List Property) (name place : ℕ) (property : Property)
    → position (λ p. nat_eq (key_of p) name) properties ≡ Some place
    → slice_get properties place ≡ Some property → property.key ≡ name
key_there properties name place property found at =
    let there = found_by_name key_of properties name place found in
    ap key_of (same_Some property there.0 (sym at ∙ there.1)) ∙ there.2

module _ (names : List Text) (phys : Phys) (differ : AllDiffer names) (site : NameNumber)
    (element : ElementNumber) (text key : Text) (text_is : slice_get names site ≡ Some text)
    (key_is : key ≡ table_key text element) (name : NameNumber)
    (name_is : slice_get names name ≡ Some key) where
  -- a table's property has the key's name
  key_name : (bits : ElementBits) (has : HasTable names phys site element bits)
      → has.property.key ≡ name
  key_name bits has = differ has.property.key name key
      (has.key_is ∙ ap (λ t. Some (table_key t element))
      (same_Some has.site_text text (sym has.site_is ∙ text_is)) ∙ ap Some (sym key_is)) name_is

  -- without a property of that key there is no table
  pub no_table : position (λ p. nat_eq (key_of p) name) phys.properties ≡ None
      → TellsTable names phys site element None
  no_table none bits has =
      let at = stands_at phys.properties has.property has.stands in
      none_of_name key_of phys.properties name none at.0 has.property at.1 (key_name bits has)

  module _ (named : IsNamedThere names phys) (place : ℕ) (property : Property)
      (at : slice_get phys.properties place ≡ Some property) (same : property.key ≡ name) where
    text_of_key : slice_get names property.key ≡ Some (table_key text element)
    text_of_key = ap (slice_get names) same ∙ name_is ∙ ap Some key_is

    -- the key is new there
    is_once : (i : ℕ) (p : Property) → slice_get phys.properties i ≡ Some p → p.key ≡ name
        → is_new (map key_of (take i phys.properties)) (key_of p) ≡ true
    is_once i p p_at p_is =
        let told : KeyIsNamed names named.0 phys i p
        = asked_at phys.properties i (KeyIsNamed names named.0 phys i) p p_at
        (named.1 (PropertyAt i)) in
        (told (table_key text element)
        (ap (slice_get names) p_is ∙ name_is ∙ ap Some key_is)
        (text ++ codes "/" ++ decimal element, refl)).once

    -- a table's property is this one
    pub is_this : (bits : ElementBits) (has : HasTable names phys site element bits)
        → has.property ≡ property
    is_this bits has =
        let there = stands_at phys.properties has.property has.stands in
        let one : there.0 ≡ place
        = one_of_name key_of phys.properties there.0 place has.property property there.1 at
        (is_once there.0 has.property there.1 (key_name bits has)) (is_once place property at same)
        (key_name bits has ∙ sym same) in
        same_Some has.property property
        (sym there.1 ∙ ap (slice_get phys.properties) one ∙ at)

    -- what the property's value tells
    pub told_by : (value : Text) → slice_get names property.value ≡ Some value
        → (told : Option ElementBits) → told ≡ table_bits value
        → TellsTable names phys site element told
    told_by value value_is None told_is = λ bits has.
        none-some bits (told_is ∙ sym (ap (option_and_then table_bits)
        (ap (λ p. slice_get names p.value) (is_this bits has) ∙ value_is)) ∙ has.value_is)
    told_by value value_is (Some bits) told_is = record {
      has = record {
        property = property;
        stands = (
          place,
          slice_get_within phys.properties place property at,
          get_or_from_slice_get phys.properties place property property at,
        );
        site_text = text;
        site_is = text_is;
        key_is = text_of_key;
        value_is = ap (option_and_then table_bits) value_is ∙ sym told_is;
      };
      one = λ other has. same_Some other bits
          (sym has.value_is ∙ ap (option_and_then table_bits)
          (ap (λ p. slice_get names p.value) (is_this other has) ∙ value_is) ∙ sym told_is);
    }

-- an element has one table at most
pub one_table : (names : List Text) (phys : Phys) → AllDiffer names → IsNamedThere names phys
    → (site : NameNumber) (element : ElementNumber) (one other : ElementBits)
    → HasTable names phys site element one → HasTable names phys site element other → one ≡ other
one_table names phys differ named site element one other has its =
    let there = stands_at phys.properties has.property has.stands in
    let same : its.property ≡ has.property
    = is_this names phys differ site element has.site_text (table_key has.site_text element)
    has.site_is refl has.property.key has.key_is named there.0 has.property there.1 refl other its in
    same_Some one other (sym has.value_is
    ∙ ap (λ p. option_and_then table_bits (slice_get names p.value)) (sym same) ∙ its.value_is)
