use Rattle.ix_one_net.proofs.Endings.{ends_of}
use Rattle.ix_one_net.proofs.firsts.first_occurrences.Goals as goal

pub returns-clause-low : goal.returns-clause-low
returns-clause-low c =
    (ends_of c.args.kinds.now c.args.outer.now c.args.inner.now c.args.instances.now c.args.nets
    c.in_ok-above.above.items c.deref_mut.result.now c.join_all.new.above c.deref_mut-2.result.now
    c.settle.new.above c.in_ok-above.above.len
    (λ design paths A. c.numbers_are_order.ensures design c.args.instances.now paths c.args.nets A)
    c.requires c.in_ok-above.ensures.many c.in_ok-above.above.ok.0 c.deref_mut.ensures.value
    c.join_all.ensures.joined c.deref_mut-2.ensures.value c.settle.ensures.many
    c.settle.ensures.roots).low

pub returns-clause-own : goal.returns-clause-own
returns-clause-own c =
    (ends_of c.args.kinds.now c.args.outer.now c.args.inner.now c.args.instances.now c.args.nets
    c.in_ok-above.above.items c.deref_mut.result.now c.join_all.new.above c.deref_mut-2.result.now
    c.settle.new.above c.in_ok-above.above.len
    (λ design paths A. c.numbers_are_order.ensures design c.args.instances.now paths c.args.nets A)
    c.requires c.in_ok-above.ensures.many c.in_ok-above.above.ok.0 c.deref_mut.ensures.value
    c.join_all.ensures.joined c.deref_mut-2.ensures.value c.settle.ensures.many
    c.settle.ensures.roots).own

pub returns-clause-firsts : goal.returns-clause-firsts
returns-clause-firsts c =
    (ends_of c.args.kinds.now c.args.outer.now c.args.inner.now c.args.instances.now c.args.nets
    c.in_ok-above.above.items c.deref_mut.result.now c.join_all.new.above c.deref_mut-2.result.now
    c.settle.new.above c.in_ok-above.above.len
    (λ design paths A. c.numbers_are_order.ensures design c.args.instances.now paths c.args.nets A)
    c.requires c.in_ok-above.ensures.many c.in_ok-above.above.ok.0 c.deref_mut.ensures.value
    c.join_all.ensures.joined c.deref_mut-2.ensures.value c.settle.ensures.many
    c.settle.ensures.roots).are
