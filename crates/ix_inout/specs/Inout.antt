-- The first place that breaks N8.
use Rattle.std.specs.Prelude.{ℕ}
use Rattle.ix_rec.specs.declared.netlist.NetlistRec.{NetlistRec}
use Rattle.ix_hierarchy.specs.Nets.{Occurrence, IsFirstOf}
use Rattle.ix_hierarchy.specs.Walk.{Spot, IsFirst}
use Rattle.ix_hierarchy.specs.Broken.{BreaksN8, IsInoutOn}
use Rattle.ix_hierarchy.specs.Lists.{IsNumber}
use Rattle.ix_joined.specs.declared.joined.Joined.{Joined}
use Rattle.ix_joined.specs.Joining.{Known}

-- the first such place is on the net whose first occurrence has this number
pub record IsFirstInout (known : Known) (design : NetlistRec) (joined : Joined) (net : ℕ)
    : Type 0 where
  pub spot : Spot
  pub first : IsFirst (BreaksN8 design) spot
  pub at : Occurrence
  pub on : IsInoutOn design spot at
  pub first_of : IsFirstOf design at
  pub number_is : IsNumber design joined.instances.items known.paths at net
