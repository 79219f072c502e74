-- Whether a net holds a node, step by step.
use Rattle.std.specs.Prelude.{Bool, ◌&&◌, ◌||◌, not, nat_eq}
use Rattle.ix_occupy.specs.declared.steps.Step.{Step}
use Rattle.ix_occupy.specs.declared.steps.Step.TheVariants.{Claim, Release, End}
use Rattle.ix_occupy.specs.Steps.{NetNumber, NodeNumber}

-- whether the net holds the node after a step, by whether it held it before
abbrev pub held_after : Bool → Step → NetNumber → NodeNumber → Bool
held_after held (Claim other place) net node = held || (nat_eq other net && nat_eq place node)
held_after held (Release other place) net node =
    held && not (nat_eq other net && nat_eq place node)
held_after held End net node = held
