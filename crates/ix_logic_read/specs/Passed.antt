-- What the first pass over a netlist has told of it.
use Rattle.std.specs.Prelude.{ℕ, ◌+◌, ◌^◌, ◌≤◌, List, length}
use Rattle.ix_frame.specs.Target.{Object}
use Rattle.ix_message.specs.Indexes.{Entry, Lists, steps}
use Rattle.ix_message.specs.Netlist.{netlist}
use Rattle.ix_schema.specs.Said.{said, table_said}
use Rattle.ix_take.specs.Walked.{begun_in}

-- no reading of a message may cost more
abbrev pub most_cost : ℕ
most_cost = 2 ^ 28 + 64

-- Neither the structs of a netlist, of which the top instance may cost nothing, nor the texts of
-- its string table are more than a reading may cost.
pub record IsPassed (o : Object) : Type 0 where
  pub structs : (l : Lists) (around : List Entry)
      → begun_in (steps netlist l around (said netlist o)) ≤ most_cost + 2
  pub texts : length (table_said netlist o) ≤ most_cost
