-- Tests on what an instance is.
use Rattle.std.specs.Prelude.{Bool, true, false}
use Rattle.ix_hierarchy.specs.declared.kind.Kind.{Kind}
use Rattle.ix_hierarchy.specs.declared.kind.Kind.TheVariants.{Inside, Constant, Plain, Unknown}

-- it has a cell
abbrev pub has_inside : Kind → Bool
has_inside (Inside cell) = true
has_inside (Constant constant) = false
has_inside Plain = false
has_inside Unknown = false

-- it is a leaf that is a cell
abbrev pub is_plain : Kind → Bool
is_plain (Inside cell) = false
is_plain (Constant constant) = false
is_plain Plain = true
is_plain Unknown = false
