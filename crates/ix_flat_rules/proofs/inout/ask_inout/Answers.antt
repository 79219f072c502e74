use Rattle.ix_flat_rules.proofs.Telling.{inout_told}
use Rattle.ix_flat_rules.proofs.inout.ask_inout.Goals as goal

pub first_inout-requires : goal.first_inout-requires
first_inout-requires c =
    let ready = c.requires.known.1.ready in
    record { joined = (c.requires.known.0, ready.are, ready.constants_are, ready.top) }

pub broken_at_net-requires-clause-known : goal.broken_at_net-requires-clause-known
broken_at_net-requires-clause-known c =
    (c.requires.known.0, c.requires.known.1.ready.are, c.requires.known.1.names_are)

pub broken_at_net-requires-clause-there : goal.broken_at_net-requires-clause-there
broken_at_net-requires-clause-there c =
    let ready = c.requires.known.1.ready in
    let first = c.in-Some.ensures c.requires.known.0 ready.are ready.constants_are ready.top in
    ready.are.numbered.below first.at c.in-Some.net first.number_is

pub returns-in-Some-clause-broken : goal.returns-in-Some-clause-broken
returns-in-Some-clause-broken c = λ known is keeps.
    let first = c.in-Some.ensures known is.ready.are is.ready.constants_are is.ready.top in
    inout_told known c.args.rec.now c.args.joined.now c.in-Some.net c.broken_at_net.result keeps
    first (c.broken_at_net.ensures known first.at is.ready.are is.names_are first.number_is
    first.first_of)

pub returns-in-None-clause-keeps : goal.returns-in-None-clause-keeps
returns-in-None-clause-keeps c = λ known is keeps.
    (keeps, c.in-None.ensures known is.ready.are is.ready.constants_are is.ready.top)
