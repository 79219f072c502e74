use Rattle.std.proofs.Common.{get_or, arith}
use Rattle.std.proofs.lemmas.Option.{slice_get-get_or}
use Rattle.ix_joined.specs.Roles.{nothing}
use Rattle.ix_hierarchy.specs.Broken.{BreaksN3}
use Rattle.ix_net_states.proofs.Least.{found_first, found_none, none_next, twice_told}
use Rattle.ix_net_states.proofs.firsts.first_driven_twice.Goals as goal

pub loop-net-init : goal.loop-net-init
loop-net-init c = λ k state lt at holds. omega arith

pub loop-net-preserved : goal.loop-net-preserved
loop-net-preserved c =
    none_next (λ state. state.driven_twice) c.args.states.now c.loop-net.net
    (get_or c.args.states.now c.loop-net.net nothing) c.loop-net.invariant
    (slice_get-get_or c.args.states.now c.loop-net.net nothing c.loop-net-test.true)
    c.if-states-net.false

pub returns-then-states-net : goal.returns-then-states-net
returns-then-states-net c = λ known design joined are is.
    found_first known design joined c.args.states.now (BreaksN3 known.names known.device design)
    (λ state. state.driven_twice) c.loop-net.net (get_or c.args.states.now c.loop-net.net nothing)
    are is (twice_told known design joined c.args.states.now are is) c.loop-net.invariant
    (slice_get-get_or c.args.states.now c.loop-net.net nothing c.loop-net-test.true)
    c.if-states-net.true

pub returns : goal.returns
returns c = λ known design joined are is.
    found_none known design joined c.args.states.now (BreaksN3 known.names known.device design)
    (λ state. state.driven_twice) c.loop-net.net are is
    (twice_told known design joined c.args.states.now are is) c.loop-net.invariant
    c.loop-net-test.false
