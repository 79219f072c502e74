use Rattle.std.proofs.Common.{rules, ◌<◌, ◌+◌, ◌^◌, sym, subst, arith}
use Rattle.ix_num.specs.declared.resource.Res.TheVariants.{Wire}
use Rattle.ix_ends.specs.Numbering.{GivesNumber}
use Rattle.ix_ends.proofs.Giving.{wire_given, wire_below}
use Rattle.ix_ends.proofs.numbers.Numbers.wire.Goals as goal

pub overflow_add-result : goal.overflow_add-result
overflow_add-result c =
    let is = c.get.ensures in
    let low : c.in_ok-base.base + c.args.wire < c.base.new.self.count =
    wire_below c.args.device.now c.args.self.now c.base.new.self c.args.site c.args.wire
    c.in_ok-base.base c.in_ok-base.ensures.given c.requires.there in
    let all : c.base.new.self.count < 2 ^ 32 = c.in_ok-base.ensures.given.numbers.few in
    let few : c.in_ok-base.base + c.get.result < 2 ^ 32 = omega arith in
    search rules

pub returns-clause-given : goal.returns-clause-given
returns-clause-given c =
    subst (λ n. GivesNumber c.args.device.now c.args.self.now c.base.new.self
    (Wire c.args.site c.args.wire) (c.in_ok-base.base + n)) (sym c.get.ensures)
    (wire_given c.args.device.now c.args.self.now c.base.new.self c.args.site c.args.wire
    c.in_ok-base.base c.in_ok-base.ensures.given c.requires.there)
