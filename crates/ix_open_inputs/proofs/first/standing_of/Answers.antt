use Rattle.std.proofs.Common.{sym, subst, [], slice_index_or, arith}
use Rattle.ix_open_inputs.specs.Spelling.{IsIndexIn}
use Rattle.ix_open_inputs.specs.Places.{IsFirstStanding}
use Rattle.ix_open_inputs.proofs.Ordered.{found_first, found_none, none_before_next}
use Rattle.ix_open_inputs.proofs.first.standing_of.Goals as goal

pub returns-in-Some : goal.returns-in-Some
returns-in-Some c = found_first c.args.names.now c.args.rec.now c.args.ports.now c.args.input
    c.args.name c.loop-place.place c.at.result.now c.in-Some.index c.at-port.result.now
    c.at.ensures c.at-port.ensures
    (subst (IsIndexIn c.args.names.now c.at-port.result.now c.args.name) c.in-Some.is
    c.in_ok-index.ensures.index) c.in_ok-index.ensures.few c.loop-place.invariant

pub loop-place-preserved : goal.loop-place-preserved
loop-place-preserved c = none_before_next c.args.names.now c.args.rec.now c.args.ports.now
    c.args.name c.loop-place.place c.at.result.now c.at-port.result.now c.at.ensures
    c.at-port.ensures
    (subst (IsIndexIn c.args.names.now c.at-port.result.now c.args.name) c.in_default.is
    c.in_ok-index.ensures.index) c.loop-place.invariant

pub returns : goal.returns
returns c = subst (λ n. IsFirstStanding c.args.names.now c.args.rec.now c.args.ports.now
    c.args.input (slice_index_or c.args.names.now c.args.name [])
    (record { place = n; index = c.args.input })) (sym c.len.ensures)
    (found_none c.args.names.now c.args.rec.now c.args.ports.now c.args.input
    (slice_index_or c.args.names.now c.args.name []) c.loop-place.place
    (omega (arith, c.loop-place-test.false, c.len-place-end.ensures)) c.loop-place.invariant)
