use Rattle.std.proofs.Common.{get_or, refl}
use Rattle.ix_hierarchy.specs.declared.kind.Kind.{Kind}
use Rattle.ix_hierarchy.specs.declared.kind.Kind.TheVariants.{Inside}
use Rattle.ix_top_bits.proofs.Found.{is_on, is_on_none, is_pin, kind_is, no_net, row_within}
use Rattle.ix_top_bits.proofs.Found.{starts_there, top_cell}
use Rattle.ix_top_bits.proofs.bits.top_net.Goals as goal

pub net_of-requires : goal.net_of-requires
net_of-requires c =
    let r = c.requires.given in
    starts_there c.args.rec.now r.0 c.args.kinds.now c.args.own.now r.1 r.2 c.args.firsts.now
    c.in-Inside.cell r.3
    (kind_is c.args.rec.now r.0 c.args.kinds.now c.args.own.now r.1 r.2 c.args.firsts.now
    (Inside c.in-Inside.cell) r.3 c.in-Inside.is)

pub bounds-firsts-net : goal.bounds-firsts-net
bounds-firsts-net c =
    let r = c.requires.given in
    let kind = kind_is c.args.rec.now r.0 c.args.kinds.now c.args.own.now r.1 r.2
    c.args.firsts.now (Inside c.in-Inside.cell) r.3 c.in-Inside.is in
    row_within c.args.rec.now r.0 c.args.kinds.now c.args.own.now r.1 r.2 c.args.firsts.now
    c.in-Inside.cell c.args.port c.args.index c.in-Some.net r.3
    (top_cell c.args.rec.now r.0 c.args.kinds.now c.args.own.now r.1 r.2 c.args.firsts.now
    c.in-Inside.cell r.3 kind) c.in-Some.ensures

pub returns-in-Some : goal.returns-in-Some
returns-in-Some c = λ device all paths place seen are bit.
    let kind = kind_is c.args.rec.now device c.args.kinds.now c.args.own.now all paths
    c.args.firsts.now (Inside c.in-Inside.cell) are c.in-Inside.is in
    is_pin c.args.rec.now device c.args.kinds.now c.args.own.now all paths c.args.firsts.now
    c.in-Some.net place c.args.index are
    (is_on c.args.rec.now c.args.own.now c.in-Inside.cell place c.args.index c.in-Some.net
    c.args.port seen
    (top_cell c.args.rec.now device c.args.kinds.now c.args.own.now all paths c.args.firsts.now
    c.in-Inside.cell are kind) c.in-Some.ensures bit)

pub returns-in-None : goal.returns-in-None
returns-in-None c = λ device all paths place seen are bit at on.
    let kind = kind_is c.args.rec.now device c.args.kinds.now c.args.own.now all paths
    c.args.firsts.now (Inside c.in-Inside.cell) are c.in-Inside.is in
    is_on_none c.args.rec.now c.args.own.now c.in-Inside.cell place c.args.index c.args.port seen at
    (top_cell c.args.rec.now device c.args.kinds.now c.args.own.now all paths c.args.firsts.now
    c.in-Inside.cell are kind) c.in-None.ensures bit on

pub returns-in_default : goal.returns-in_default
returns-in_default c = λ device all paths place seen are bit at on.
    let kind : Kind = get_or c.args.kinds.now c.args.rec.now.top_inst.cell (Inside 0) in
    let inner = no_net c.args.rec.now device c.args.kinds.now c.args.own.now all paths
    c.args.firsts.now kind place c.args.index at are
    (kind_is c.args.rec.now device c.args.kinds.now c.args.own.now all paths c.args.firsts.now kind
    are refl) on in
    absurd (c.in_default.not-Inside inner.0 inner.1)
