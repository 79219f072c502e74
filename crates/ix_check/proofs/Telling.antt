-- What is told of a netlist, from what was found of it.
use Rattle.std.proofs.Common.{◌≡◌, ◌∙◌, ◌≤◌, ◌<◌, ap, sym, refl, subst, inl, inr, ◌⊎◌, ℕ, List, length}
use Rattle.std.proofs.Common.{[], ◌∷◌, IfOk, Result, Ok, Err, Option, Some, None, Bool, true, false}
use Rattle.std.proofs.Common.{lt_of_lt_of_le}
use Rattle.std.specs.Prelude.{slice_get}
use Rattle.std.specs.FinMap.{entries}
use Rattle.std.specs.List.{AllByRecursion}
use Rattle.std.proofs.lemmas.Option.{slice_get-get_or}
use Rattle.ix_message.specs.Shape.{Text}
use Rattle.ix_strings.specs.Names.{KeepsNumbers}
use Rattle.ix_flat.specs.Range.{IsNamed, IsDriverNamed}
use Rattle.ix_rec.specs.declared.device.DeviceRec.{DeviceRec}
use Rattle.ix_rec.specs.declared.flow.CellPin.{CellPin}
use Rattle.ix_rec.specs.declared.flow.Flat.{Flat}
use Rattle.ix_rec.specs.declared.phys.Phys.{Phys}
use Rattle.ix_rec.specs.declared.phys.Property.{Property}
use Rattle.ix_rec.specs.declared.place.Place.{Place}
use Rattle.ix_rec.specs.declared.place.Rule.{Rule}
use Rattle.ix_phys_write.specs.Record.{IsPhysNamed}
use Rattle.ix_legal.specs.declared.level.Level.{Level}
use Rattle.ix_fill_tables.specs.Completed.{HasTables, IsCompleted}
use Rattle.ix_extract.specs.Extracted.{IsExtracted}
use Rattle.ix_differences.specs.Differences.{IsAnswer}
use Rattle.ix_check.specs.Checked.{IsAccepted, IsDerived, BreaksRule, Differs}
use Rattle.ix_check.specs.Wrong.{IsCompared, IsLegalAndCompared, TellsWrong}

-- how the design that was extracted differs
pub compared : {E : Type 0} (names : List Text) (rec : DeviceRec) (phys : Phys)
    (flat extracted : Flat) (r : Result (Option (Rule × Place)) E) → IsExtracted names rec phys extracted
    → IfOk r (IsAnswer names extracted flat) → IfOk r (IsCompared names rec phys flat)
compared names rec phys flat extracted (Ok answer) is told =
    record { extracted = extracted; is_extracted = is; compared = told }
compared names rec phys flat extracted (Err e) is told = tt

-- Whether there are tables doesn't change as names are added.
more_tables : (old new : List Text) (phys : Phys) → KeepsNumbers old new → HasTables old phys
    → HasTables new phys
more_tables old new phys keeps has = record {
  property = has.property;
  stands = has.stands;
  key = has.key;
  key_is = keeps has.property.key has.key has.key_is;
  is_table_key = has.is_table_key;
}

no_fewer_tables : (old new : List Text) (phys : Phys) → KeepsNumbers old new
    → IsPhysNamed old phys → HasTables new phys → HasTables old phys
no_fewer_tables old new phys keeps named has =
    let within : has.property.key < length old = subst (λ (p : Property). p.key < length old)
    has.stands.2 (named.properties has.stands.0 has.property has.stands.1).key in
    let at = slice_get-get_or old has.property.key [] within in
    record {
      property = has.property;
      stands = has.stands;
      key = has.key;
      key_is = at ∙ sym (keeps has.property.key _ at) ∙ has.key_is;
      is_table_key = has.is_table_key;
    }

pub still_derived : (old new : List Text) (rec : DeviceRec) (phys : Phys) (derived : Bool)
    → KeepsNumbers old new → IsPhysNamed old phys → IsDerived old rec phys derived
    → IsDerived new rec phys derived
still_derived old new rec phys true keeps named is =
    (is.0, λ has. is.1 (no_fewer_tables old new phys keeps named has))
still_derived old new rec phys false keeps named (inl none) = inl none
still_derived old new rec phys false keeps named (inr has) =
    inr (more_tables old new phys keeps has)

module _ (level : Level) (names : List Text) (rec : DeviceRec) (phys completed : Phys) (flat : Flat)
    (is : IsCompleted names rec phys flat completed) where
  pub accepted : TellsWrong level names rec completed flat None
      → IsAccepted level names rec phys flat
  accepted told = record {
    completed = completed;
    is_completed = is;
    legal = told.legal;
    extracted = told.compared.extracted;
    is_extracted = told.compared.is_extracted;
    agree = told.compared.compared;
  }

  pub refused : (rule : Rule) (place : Place)
      → TellsWrong level names rec completed flat (Some (rule, place))
      → BreaksRule level names rec phys flat rule place ⊎ Differs level names rec phys flat rule place
  refused rule place (inl broken) =
      inl record { completed = completed; is_completed = is; broken = broken }
  refused rule place (inr told) = inr record {
    completed = completed;
    is_completed = is;
    legal = told.legal;
    extracted = told.compared.extracted;
    is_extracted = told.compared.is_extracted;
    difference = told.compared.compared;
  }
