-- A reading in two steps.
use Rattle.std.specs.Prelude.{◌≡◌, ℕ, ◌≤◌, List, Result, Ok, Err}
use Rattle.ix_num.specs.declared.fault.FrameFault.{FrameFault}
use Rattle.ix_rec.specs.declared.fault.ReadFault.{ReadFault}
use Rattle.ix_frame.specs.declared.object.Obj.{Obj}
use Rattle.ix_frame.specs.Views.{object_of}
use Rattle.ix_message_read.specs.Tells.{Fails}
use Rattle.ix_frame.specs.Result.{◌>>=◌}
use Rattle.ix_frame.specs.Sound.{endless}
use Rattle.ix_frame.specs.Target.{Object}
use Rattle.ix_message.specs.Shape.{Text, Struct, Value}
use Rattle.ix_message.specs.Reading.{value_at}
use Rattle.ix_schema.specs.Said.{said, table_said}
use Rattle.ix_schema.specs.Passed.{left_at}

-- A struct is read as its first pass, and where that finds no fault, as what it says.
abbrev pub ReadingsSplit : Type 0
ReadingsSplit = (s : Struct) (o : Object) (budget : ℕ) → budget ≤ endless
    → value_at s o budget ≡ (left_at s o budget >>= λ left. Ok (said s o, left))

-- A message was passed over: it says its string table and what its root says, or the first frame
-- fault is this. Want of memory may be told at any time.
abbrev pub PassesMessage : (s : Struct) → Result Obj ReadFault
    → Result (List Text × Value ℕ s) FrameFault → Type 0
PassesMessage s (Ok root) given = given ≡ Ok (
  table_said s (object_of root),
  said s (object_of root),
)
PassesMessage s (Err e) given = Fails e given
