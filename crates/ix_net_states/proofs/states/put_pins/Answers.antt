use Rattle.std.proofs.Common.{◌+◌, ◌∙◌, sym, subst}
use Rattle.std.proofs.Math.ListN.{set}
use Rattle.std.proofs.lemmas.List.{length-set}
use Rattle.ix_joined.specs.declared.state.NetState.{NetState}
use Rattle.ix_net_states.specs.Least.{AreStatesOf}
use Rattle.ix_net_states.specs.Walking.{IsDoneTo}
use Rattle.ix_net_states.proofs.Walks.{pin_there, row_more, rows_done, rows_none}
use Rattle.ix_net_states.proofs.states.put_pins.Goals as goal

pub loop-place-init : goal.loop-place-init
loop-place-init c = (
  c.requires.many,
  λ known path are consts leaf before.
      rows_none known c.args.rec.now c.args.joined.now c.args.instance path c.pins-start.result.0
      c.args.states.now before,
)

pub pin-pin-requires : goal.pin-pin-requires
pin-pin-requires c =
    let r = c.requires.joined in
    let pins = c.pins-start.ensures r.0 c.args.rec.now r.1 r.2 r.4.1 in
    record {
      joined = (
        r.0,
        r.2,
        pins.each c.loop-place.place r.4.2.0 c.loop-place.auto.place
            c.loop-place-test.true r.4.2.1,
      );
    }

pub slice_copy_out-state : goal.slice_copy_out-state
slice_copy_out-state c =
    let r = c.requires.joined in
    let pins = c.pins-start.ensures r.0 c.args.rec.now r.1 r.2 r.4.1 in
    pin_there r.0 c.args.rec.now c.args.joined.now c.args.instance c.loop-place.place
    c.pin-pin.result c.loop-place.states r.2
    (c.pin-pin.ensures r.0 r.2 r.3 (pins.each c.loop-place.place r.4.2.0 c.loop-place.auto.place
    c.loop-place-test.true r.4.2.1)) c.loop-place.invariant.0

pub bounds-states-pin : goal.bounds-states-pin
bounds-states-pin c =
    let r = c.requires.joined in
    let pins = c.pins-start.ensures r.0 c.args.rec.now r.1 r.2 r.4.1 in
    pin_there r.0 c.args.rec.now c.args.joined.now c.args.instance c.loop-place.place
    c.pin-pin.result c.loop-place.states r.2
    (c.pin-pin.ensures r.0 r.2 r.3 (pins.each c.loop-place.place r.4.2.0 c.loop-place.auto.place
    c.loop-place-test.true r.4.2.1)) c.loop-place.invariant.0

pub loop-place-preserved : goal.loop-place-preserved
loop-place-preserved c =
    let found = c.pin-pin.result in
    let place = c.loop-place.place in
    let states = c.loop-place.states in (
      length-set states found.net c.with.result ∙ c.loop-place.invariant.0,
      λ known path are consts leaf before.
          let pins = c.pins-start.ensures known c.args.rec.now path are leaf.1 in
          subst (λ (s : NetState). AreStatesOf known c.args.rec.now c.args.joined.now
          (IsDoneTo known c.args.joined.now c.args.instance path c.pins-start.result.0 (place + 1))
          (set states found.net s)) (sym c.with.ensures)
          (row_more known c.args.rec.now c.args.joined.now c.args.instance path c.pins-start.result.0
          c.pins-start.result.1 place found states are leaf pins c.loop-place.auto.place
          c.loop-place-test.true
          (c.pin-pin.ensures known are consts (pins.each place leaf.2.0 c.loop-place.auto.place
          c.loop-place-test.true leaf.2.1)) (c.loop-place.invariant.1 known path are consts leaf before)),
    )

pub returns : goal.returns
returns c = λ known path are consts leaf before.
    rows_done known c.args.rec.now c.args.joined.now c.args.instance path c.pins-start.result.0
    c.pins-start.result.1 c.loop-place.place c.loop-place.states leaf
    (c.pins-start.ensures known c.args.rec.now path are leaf.1) c.loop-place-test.false
    (c.loop-place.invariant.1 known path are consts leaf before)
