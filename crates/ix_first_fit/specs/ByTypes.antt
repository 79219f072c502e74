-- Values by cell type.
use Rattle.std.specs.Prelude.{ℕ, Option, nat_eq}
use Rattle.std.specs.HashMap.{get}
use Rattle.ix_first_fit.specs.declared.by_type.ByType.{ByType}

-- the value of a type
abbrev pub of_type : {V : Type 0} → ByType V → ℕ → Option V
of_type values ty = get nat_eq values.values ty
