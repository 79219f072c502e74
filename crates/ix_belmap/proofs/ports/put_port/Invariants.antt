use Rattle.std.proofs.Common.{◌≡◌, ◌++◌, map}
use Rattle.std.specs.List.{range_with_len}
use Rattle.ix_belmap.specs.Pins.{fixing_of}
use Rattle.ix_belmap.proofs.ports.put_port.Given as goal

-- the bits so far
abbrev pub invariant-loop-index : goal.invariant-loop-index
invariant-loop-index l =
    l.fixings ≡ l.fn.fixings
    ++ map (λ index. fixing_of l.fn.names l.fn.device l.fn.pins (l.fn.port, index))
    (range_with_len 0 l.index)
