use Rattle.std.proofs.Common.{◌≡◌, ℕ, ◌<◌}
use Rattle.std.specs.Prelude.{slice_get, Some}
use Rattle.ix_message.specs.Shape.{Text}
use Rattle.ix_legal.specs.TableKeys.{IsTableKey}
use Rattle.ix_rec.specs.declared.phys.Property.{Property}
use Rattle.ix_fill_tables.proofs.properties.has_tables.Given as goal

abbrev pub invariant-loop-i : goal.invariant-loop-i
invariant-loop-i l = (k : ℕ) (property : Property) (key : Text) → k < l.i
    → slice_get l.phys.properties k ≡ Some property
    → slice_get l.names property.key ≡ Some key → ¬ IsTableKey key
