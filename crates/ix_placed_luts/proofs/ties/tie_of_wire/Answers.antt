use Rattle.std.proofs.Common.{sym, subst}
use Rattle.ix_num.specs.declared.resource.Res.TheVariants.{Wire}
use Rattle.ix_legal.specs.LutTables.{IsHeld}
use Rattle.ix_placed_luts.proofs.Holding.{number_within, number_listed, net_listed}
use Rattle.ix_placed_luts.proofs.Holding.{held_by_no_number, held_by_no_first, held_by_first}
use Rattle.ix_placed_luts.proofs.ties.tie_of_wire.Goals as goal

pub wire-requires-clause-within : goal.wire-requires-clause-within
wire-requires-clause-within c = number_within c.args.on.now.device.now c.args.on.now.phys.now
    c.args.on.now.ends.now c.requires.ends c.args.on.now.site c.args.wire c.requires.there

pub first-requires : goal.first-requires
first-requires c = number_listed c.args.on.now.device.now c.args.on.now.phys.now
    c.args.on.now.ends.now c.requires.ends c.args.on.now.holders.now c.requires.holders
    c.args.on.now.site c.args.wire c.requires.there c.in-Some.number (sym c.in-Some.ensures)

pub at-requires : goal.at-requires
at-requires c = net_listed c.args.on.now.device.now c.args.on.now.phys.now
    c.args.on.now.ends.now c.requires.ends c.args.on.now.holders.now c.requires.holders
    c.args.on.now.site c.args.wire c.requires.there c.in-Some.number (sym c.in-Some.ensures)
    c.in-Some-first.net c.in-Some-first.ensures

pub returns-in-None : goal.returns-in-None
returns-in-None c = held_by_no_number c.args.on.now.device.now c.args.on.now.phys.now
    c.args.on.now.ends.now c.requires.ends c.args.on.now.site c.args.wire (sym c.in-None.ensures)

pub returns-in-None-first : goal.returns-in-None-first
returns-in-None-first c = held_by_no_first c.args.on.now.device.now c.args.on.now.phys.now
    c.args.on.now.ends.now c.requires.ends c.args.on.now.holders.now c.requires.holders
    c.args.on.now.site c.args.wire c.requires.there c.in-Some.number (sym c.in-Some.ensures)
    c.in-None-first.ensures

pub returns-in-Some-first : goal.returns-in-Some-first
returns-in-Some-first c =
    let rec = c.args.on.now.device.now in let phys = c.args.on.now.phys.now in
    subst (IsHeld rec phys.nets (Wire c.args.on.now.site c.args.wire)) (sym c.tie_of_net.ensures)
    (held_by_first rec phys c.args.on.now.ends.now c.requires.ends c.args.on.now.holders.now
    c.requires.holders c.args.on.now.site c.args.wire c.requires.there c.in-Some.number
    (sym c.in-Some.ensures) c.requires.one_holder c.in-Some-first.net c.in-Some-first.ensures
    c.at.result.now c.at.ensures)
