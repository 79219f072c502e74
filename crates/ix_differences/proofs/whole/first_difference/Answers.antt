use Rattle.std.proofs.Common.{rules, ◌<◌, ◌≤◌, ◌^◌, arith, length}
use Rattle.ix_differences.proofs.Keyed.{no_more_than_names}
use Rattle.ix_differences.proofs.whole.first_difference.Goals as goal

pub numbers_of-requires : goal.numbers_of-requires
numbers_of-requires c =
    let few : c.len.result < 2 ^ 32 = search rules in
    let within : length c.args.a.now.cells ≤ length c.args.names.now =
    no_more_than_names c.args.a.now.cells (length c.args.names.now) c.requires.named_a.cells
    c.requires.differ_a in
    record { few = omega (arith, few, within, c.len.ensures.count) }

pub numbers_of-requires-2 : goal.numbers_of-requires-2
numbers_of-requires-2 c =
    let few : c.len.result < 2 ^ 32 = search rules in
    let within : length c.args.b.now.cells ≤ length c.args.names.now =
    no_more_than_names c.args.b.now.cells (length c.args.names.now) c.requires.named_b.cells
    c.requires.differ_b in
    record { few = omega (arith, few, within, c.len.ensures.count) }
