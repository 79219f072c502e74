-- What the first pass over a message has told of its structs: their reading finds no fault.
use Rattle.std.specs.Prelude.{◌≡◌, ℕ, ◌+◌, ◌-◌, ◌^◌, ◌≤◌, ◌<◌, List, [], length, Ok}
use Rattle.ix_frame.specs.Objects.{element_of}
use Rattle.ix_frame.specs.Sound.{sound_elements}
use Rattle.ix_frame.specs.Target.{Object, Elements}
use Rattle.ix_message.specs.Indexes.{Lists, steps}
use Rattle.ix_message.specs.Phys.{segment, phys_net, phys_netlist}
use Rattle.ix_message.specs.Reading.{value_at, branches_from}
use Rattle.ix_message.specs.Shape.{Struct, Branches}
use Rattle.ix_schema.specs.Said.{said, table_said}
use Rattle.ix_take.specs.Walked.{begun_in}

-- no reading of a message may cost more
abbrev pub most_cost : ℕ
most_cost = 2 ^ 28 + 64

-- the struct, with all that is behind its pointers, is read as what it says
pub record IsSound (s : Struct) (o : Object) : Type 0 where
  pub budget : ℕ
  pub left : ℕ
  pub few : budget ≤ most_cost
  pub read : value_at s o budget ≡ Ok (said s o, left)

-- the branches of a list from this one on are read as these trees
pub record AreSound (l : Elements) (i : ℕ) (trees : Branches (List ℕ)) : Type 0 where
  pub bound : ℕ
  pub budget : ℕ
  pub left : ℕ
  pub few : (l.count - i) + budget ≤ most_cost
  pub enough : (l.count - i) + budget < bound
  pub read : branches_from bound segment (l.count - i) l i budget ≡ Ok (trees, left)

-- a struct of which nothing need be known
abbrev pub any_struct : Object → Type 0
any_struct o = Unit {0}

-- What the first pass has told of a root: each net is sound, and neither the structs nor the string
-- table are more than a reading may cost.
pub record IsPassed (o : Object) : Type 0 where
  pub nets : (i : ℕ) → i < (sound_elements o 3).count
      → IsSound phys_net (element_of (sound_elements o 3) i)
  pub structs : (l : Lists) → begun_in (steps phys_netlist l [] (said phys_netlist o))
      ≤ most_cost + 1
  pub texts : length (table_said phys_netlist o) ≤ most_cost
