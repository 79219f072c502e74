use Rattle.std.proofs.Common.{get_or, sym, ◌∙◌, arith}
use Rattle.std.proofs.lemmas.Option.{slice_get-get_or}
use Rattle.ix_joined.specs.Roles.{nothing}
use Rattle.ix_hierarchy.specs.Broken.{BreaksN4}
use Rattle.ix_net_states.specs.Least.{is_undriven}
use Rattle.ix_net_states.proofs.Least.{found_first, found_none, none_next, undriven_told}
use Rattle.ix_net_states.proofs.firsts.first_undriven.Goals as goal

pub loop-net-init : goal.loop-net-init
loop-net-init c = λ k state lt at holds. omega arith

pub loop-net-preserved : goal.loop-net-preserved
loop-net-preserved c =
    none_next is_undriven c.args.states.now c.loop-net.net
    (get_or c.args.states.now c.loop-net.net nothing) c.loop-net.invariant
    (slice_get-get_or c.args.states.now c.loop-net.net nothing c.loop-net-test.true)
    (sym c.is_undriven.ensures ∙ c.if-is_undriven.false)

pub returns-then-is_undriven : goal.returns-then-is_undriven
returns-then-is_undriven c = λ known design joined are is.
    found_first known design joined c.args.states.now (BreaksN4 known.names known.device design)
    is_undriven c.loop-net.net (get_or c.args.states.now c.loop-net.net nothing)
    are is (undriven_told known design joined c.args.states.now are is) c.loop-net.invariant
    (slice_get-get_or c.args.states.now c.loop-net.net nothing c.loop-net-test.true)
    (sym c.is_undriven.ensures ∙ c.if-is_undriven.true)

pub returns : goal.returns
returns c = λ known design joined are is.
    found_none known design joined c.args.states.now (BreaksN4 known.names known.device design)
    is_undriven c.loop-net.net are is
    (undriven_told known design joined c.args.states.now are is) c.loop-net.invariant
    c.loop-net-test.false
