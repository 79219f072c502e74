use Rattle.std.proofs.Common.{◌≡◌, ◌+◌, ap, length, arith}
use Rattle.std.proofs.lemmas.Bool.{eqb-true}
use Rattle.ix_belmap_cases.proofs.Walked.{bits_end, bits_next, bits_of, cells_in, first_ports}
use Rattle.ix_belmap_cases.proofs.checks.has_bits.Goals as goal

pub loop-i-preserved : goal.loop-i-preserved
loop-i-preserved c =
    let port = c.at-in-loop-i.result.now in
    let more = bits_next c.args.design.now c.at-top.result.now c.loop-i.i c.at.result.now port
    c.at.ensures
    c.at-in-loop-i.ensures in
    let is : c.cells_of-cells.result ≡ cells_in port = c.cells_of-cells.ensures in
    let le = c.if-cells-left.false in
    let before : length (bits_of (first_ports c.args.design.now c.at-top.result.now c.loop-i.i)) +
    c.loop-i.left ≡ c.args.count
    = c.loop-i.invariant in
    omega arith

pub returns : goal.returns
returns c h =
    let none : c.loop-i.left ≡ 0 = eqb-true c.loop-i.left 0 h in
    let before : length (bits_of (first_ports c.args.design.now c.at-top.result.now c.loop-i.i)) +
    c.loop-i.left ≡ c.args.count
    = c.loop-i.invariant in
    let all = ap length (bits_end c.args.design.now c.at-top.result.now c.loop-i.i c.at-top.ensures
    (omega arith)) in
    omega arith
