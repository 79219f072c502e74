use Rattle.std.proofs.Common.{◌∙◌, ap, max}
use Rattle.std.specs.Int.{bit_at}
use Rattle.ix_fill_tables.specs.Forced.{bits_so_far}
use Rattle.ix_fill_tables.specs.declared.forcing.ForcedBits.{ForcedBits}
use Rattle.ix_fill_tables.proofs.Among.{none_here, one_here}
use Rattle.ix_fill_tables.proofs.Wires.{on_ok}
use Rattle.ix_fill_tables.proofs.forced.add_placement.Goals as goal

pub returns-in-None-clause-forced : goal.returns-in-None-clause-forced
returns-in-None-clause-forced c = none_here c.args.on.now.device.now c.args.on.now.phys.now
    c.args.on.now.flat.now c.args.k c.at-placement.result.now c.at-placement.ensures
    c.args.forced.now c.in-None.ensures c.requires.forced

pub returns-in-Some-clause-forced : goal.returns-in-Some-clause-forced
returns-in-Some-clause-forced c =
    let before = c.so_far-before.ensures ∙ ap bits_so_far c.get.ensures in
    on_ok c.insert.result
    (one_here c.args.on.now.device.now c.args.on.now.phys.now c.args.on.now.flat.now c.args.k
    c.at-placement.result.now c.at-placement.ensures c.in-Some.instance c.in-Some.element
    c.in-Some.ensures c.forced_by.result c.forced_by.ensures c.args.forced.now c.insert.new.self
    c.and-all.result
    (λ at. c.and-all.ensures.ones at ∙ ap (λ (f : ForcedBits). max (bit_at f.ones at)
    (bit_at c.forced_by.result.ones at)) before)
    (λ at. c.and-all.ensures.zeros at ∙ ap (λ (f : ForcedBits). max (bit_at f.zeros at)
    (bit_at c.forced_by.result.zeros at)) before)
    c.insert.ensures.others c.requires.forced) c.insert.ensures.value
