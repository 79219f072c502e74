use Rattle.std.proofs.Common.{◌≡◌, map}
use Rattle.ix_belmap.specs.Pins.{fixing_of}
use Rattle.ix_belmap.proofs.Bits.{bits_of, first_ports}
use Rattle.ix_belmap.proofs.ports.fixings.Given as goal

-- the bits of the ports so far
abbrev pub invariant-loop-i : goal.invariant-loop-i
invariant-loop-i l =
    l.all ≡ map (fixing_of l.names l.device l.pins) (bits_of (first_ports l.design l.top l.i))
