-- Which declaration is told where N1 is broken.
use Rattle.std.specs.Prelude.{ℕ, ◌<◌}
use Rattle.ix_rec.specs.declared.netlist.NetlistRec.{NetlistRec}
use Rattle.ix_hierarchy.specs.Broken.{BreaksN1}
use Rattle.ix_reach.specs.declared.whole.ReachFault.{ReachFault}
use Rattle.ix_reach.specs.declared.whole.ReachFault.TheVariants.{Broken, Memory}

-- the first declaration that breaks N1; nothing is said of want of memory
abbrev pub IsReachFault : NetlistRec → ReachFault → Type 0
IsReachFault design (Broken declaration) = BreaksN1 design declaration
    × ((other : ℕ) → other < declaration → ¬ BreaksN1 design other)
IsReachFault design Memory = Unit {0}
