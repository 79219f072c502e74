use Rattle.std.proofs.Common.{◌≡◌, ◌≤◌, refl, length, arith}
use Rattle.std.specs.FinMap.{len}
use Rattle.ix_belmap_cases.proofs.Walked.{in_range, named}
use Rattle.ix_belmap_cases.proofs.checks.is_design.Goals as goal

pub returns-clause-range : goal.returns-clause-range
returns-clause-range c h =
    let le : c.args.flat.now.ports ≤ length c.args.flat.now.cells =
    (let e = c.len.ensures in let t = c.if-flat-len.false in omega arith) in
    let tables : len c.args.flat.now.tables ≡ 0 =
    (let e = c.len-2.ensures in let t = c.if-len-gt0.false in omega arith) in
    let fixed : len c.args.flat.now.fixed ≡ 0 =
    (let e = c.len-else-len-gt0.ensures in let t = c.if-len-gt0-2.false in omega arith) in
    in_range c.args.flat.now c.args.names le tables fixed (c.if-not-cells_named.ensures refl)
    (c.if-not-nets_fit.ensures refl)
    (c.pins_fit.ensures h)

pub returns-clause-named : goal.returns-clause-named
returns-clause-named c h =
    let le : c.args.flat.now.ports ≤ length c.args.flat.now.cells =
    (let e = c.len.ensures in let t = c.if-flat-len.false in omega arith) in
    let tables : len c.args.flat.now.tables ≡ 0 =
    (let e = c.len-2.ensures in let t = c.if-len-gt0.false in omega arith) in
    let fixed : len c.args.flat.now.fixed ≡ 0 =
    (let e = c.len-else-len-gt0.ensures in let t = c.if-len-gt0-2.false in omega arith) in
    named c.args.flat.now c.args.names le tables fixed (c.if-not-cells_named.ensures refl)
    (c.if-not-nets_fit.ensures refl)
    (c.pins_fit.ensures h)
