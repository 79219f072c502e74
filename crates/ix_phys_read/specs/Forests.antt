-- Nets whose trees are in preorder.
use Rattle.std.specs.Prelude.{List}
use Rattle.ix_message.specs.Shape.{Text}
use Rattle.ix_phys_write.specs.Record.{IsNetNamed}
use Rattle.ix_rec.specs.Forest.{IsPreorder}
use Rattle.ix_rec.specs.declared.phys.PhysNet.{PhysNet}

-- each depth is one that may come after the one before, among the source trees and the stubs
abbrev pub HasForests : PhysNet → Type 0
HasForests net = IsPreorder net.sources × IsPreorder net.stubs

-- a net that was taken
pub record IsNetTaken (names : List Text) (net : PhysNet) : Type 0 where
  pub named : IsNetNamed names net
  pub forests : HasForests net
