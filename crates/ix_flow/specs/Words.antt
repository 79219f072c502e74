-- The words that ask for a run of what is built: `check`, and `flow` without options.
use Rattle.std.specs.Prelude.{ℕ, List, Bool, true, false, Option, Some, None}
use Rattle.ix_legal.specs.declared.level.Level.{Level}
use Rattle.ix_legal.specs.declared.level.Level.TheVariants.{Placed, Routed}
use Rattle.ix_words.specs.Tasks.{Task, check, flow, command_of}

-- the files that `flow` is given: the device, the design, and the netlist that it writes
pub record Flow : Type 0 where
  pub device : List ℕ
  pub design : List ℕ
  pub routed : List ℕ

-- the files that `check` is given: the device, the design, and the netlist that it judges; and the
-- level at which it does
pub record Check : Type 0 where
  pub device : List ℕ
  pub design : List ℕ
  pub physical : List ℕ
  pub level : Level

-- what is asked for
pub data Asked : Type 0 where
  flowing : Flow → Asked
  checking : Check → Asked

-- with `--placed` a netlist is judged as far as it is placed
abbrev pub level_of : (is_placed : Bool) → Level
level_of true = Placed
level_of false = Routed

-- options of `flow`, and the other commands, aren't built yet
unfoldable pub asked_of : Option Task → Option Asked
asked_of (Some (flow device design routed None None None None)) =
    Some (flowing (record { device = device; design = design; routed = routed }))
asked_of (Some (check device design physical is_placed)) = Some (checking (record {
  device = device;
  design = design;
  physical = physical;
  level = level_of is_placed;
}))
asked_of other = None

-- the same by the words of a command line; none where they are refused
abbrev pub asked_in : (words : List (List ℕ)) → Option Asked
asked_in words = asked_of (command_of words)
