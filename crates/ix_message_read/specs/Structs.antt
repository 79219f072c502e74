-- Structs behind a pointer.
use Rattle.std.specs.Prelude.{ℕ}
use Rattle.ix_frame.specs.Result.{◌>>=◌}
use Rattle.ix_frame.specs.Target.{Object}
use Rattle.ix_frame.specs.Objects.{struct_at}
use Rattle.ix_message.specs.Shape.{Struct, Value}
use Rattle.ix_message.specs.Reading.{Reads, value_at}

-- the struct behind the pointer in this slot
abbrev pub value_behind : (s : Struct) → Object → ℕ → ℕ → Reads (Value ℕ s)
value_behind s o slot budget = struct_at o slot budget >>= λ inner. value_at s inner.0 inner.1
