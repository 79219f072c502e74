use Rattle.std.proofs.Common.{sym}
use Rattle.ix_placed_luts.proofs.Holding.{number_within, number_listed, net_listed}
use Rattle.ix_extract.proofs.Wires.{told_without_number, told_without_first, told_by_first}
use Rattle.ix_extract.proofs.held.holder_of.Goals as goal

pub wire-requires-clause-within : goal.wire-requires-clause-within
wire-requires-clause-within c = number_within c.args.on.now.device.now c.args.on.now.phys.now
    c.args.on.now.ends.now c.requires.ready.ends c.args.site c.args.wire c.requires.there

pub first-requires : goal.first-requires
first-requires c = number_listed c.args.on.now.device.now c.args.on.now.phys.now
    c.args.on.now.ends.now c.requires.ready.ends c.args.on.now.holders.now
    c.requires.ready.holders c.args.site c.args.wire c.requires.there c.in-Some.number
    (sym c.in-Some.ensures)

pub as_net-requires-clause-inside : goal.as_net-requires-clause-inside
as_net-requires-clause-inside c = net_listed c.args.on.now.device.now c.args.on.now.phys.now
    c.args.on.now.ends.now c.requires.ready.ends c.args.on.now.holders.now
    c.requires.ready.holders c.args.site c.args.wire c.requires.there c.in-Some.number
    (sym c.in-Some.ensures) c.in-Some-first.net c.in-Some-first.ensures

pub returns-in-None : goal.returns-in-None
returns-in-None c = told_without_number c.args.on.now.device.now c.args.on.now.phys.now
    c.args.on.now.ends.now c.requires.ready.ends c.args.site c.args.wire (sym c.in-None.ensures)

pub returns-in-None-first : goal.returns-in-None-first
returns-in-None-first c = told_without_first c.args.on.now.device.now c.args.on.now.phys.now
    c.args.on.now.ends.now c.requires.ready.ends c.args.site c.args.wire
    c.args.on.now.holders.now c.requires.ready.holders c.requires.there c.in-Some.number
    (sym c.in-Some.ensures) c.in-None-first.ensures

pub returns-in-Some-first : goal.returns-in-Some-first
returns-in-Some-first c = told_by_first c.args.on.now.device.now c.args.on.now.phys.now
    c.args.on.now.ends.now c.requires.ready.ends c.args.site c.args.wire
    c.args.on.now.holders.now c.requires.ready.holders c.requires.there c.in-Some.number
    (sym c.in-Some.ensures) c.requires.ready.one_holder c.in-Some-first.net
    c.in-Some-first.ensures c.as_net.result c.as_net.ensures
