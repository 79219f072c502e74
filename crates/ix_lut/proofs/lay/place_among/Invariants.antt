use Rattle.std.proofs.Common.{◌≡◌, ◌+◌, drop}
use Rattle.ix_lut.specs.Plans.{place_in}
use Rattle.ix_lut.proofs.lay.place_among.Given as goal

abbrev pub invariant-loop-place : goal.invariant-loop-place
invariant-loop-place l = place_in l.lines l.line ≡ l.place + place_in (drop l.place l.lines) l.line
