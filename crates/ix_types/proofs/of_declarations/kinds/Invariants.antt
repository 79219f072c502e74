use Rattle.std.proofs.Common.{◌≡◌, ℕ, length, Some}
use Rattle.std.specs.Prelude.{slice_get}
use Rattle.ix_hierarchy.specs.declared.kind.Kind.{Kind}
use Rattle.ix_hierarchy.specs.Lists.{IsKind}
use Rattle.ix_types.proofs.of_declarations.kinds.Given as goal

abbrev pub invariant-loop-declaration : goal.invariant-loop-declaration
invariant-loop-declaration l = record {
  many : length l.kinds.items ≡ l.declaration;
  each : (d : ℕ) (kind : Kind) → slice_get l.kinds.items d ≡ Some kind → IsKind l.device l.rec d kind;
}
