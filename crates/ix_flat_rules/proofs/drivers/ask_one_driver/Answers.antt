use Rattle.ix_flat_rules.proofs.Telling.{few_states, twice_told}
use Rattle.ix_flat_rules.proofs.drivers.ask_one_driver.Goals as goal

pub first_driven_twice-requires : goal.first_driven_twice-requires
first_driven_twice-requires c = few_states c.requires.known.0 c.args.rec.now c.args.joined.now
    c.args.states.now c.requires.known.1.joined_is c.requires.known.1.states_are

pub broken_at_net-requires-clause-known : goal.broken_at_net-requires-clause-known
broken_at_net-requires-clause-known c =
    (c.requires.known.0, c.requires.known.1.joined_is, c.requires.known.1.names_are)

pub broken_at_net-requires-clause-there : goal.broken_at_net-requires-clause-there
broken_at_net-requires-clause-there c =
    let is = c.requires.known.1 in
    let first = c.in-Some.ensures c.requires.known.0 c.args.rec.now c.args.joined.now is.joined_is
    is.states_are in
    is.joined_is.numbered.below first.at c.in-Some.net first.number_is

pub returns-in-Some-clause-broken : goal.returns-in-Some-clause-broken
returns-in-Some-clause-broken c = λ known is keeps.
    let first = c.in-Some.ensures known c.args.rec.now c.args.joined.now is.joined_is is.states_are
    in
    twice_told known c.args.rec.now c.args.joined.now c.in-Some.net c.broken_at_net.result keeps
    first (c.broken_at_net.ensures known first.at is.joined_is is.names_are first.number_is
    first.first.here.0)

pub returns-in-None-clause-keeps : goal.returns-in-None-clause-keeps
returns-in-None-clause-keeps c = λ known is keeps.
    (keeps, c.in-None.ensures known c.args.rec.now c.args.joined.now is.joined_is is.states_are)
