use Rattle.std.proofs.Common.{◌≡◌, ◌⊎◌, ◌<◌, ◌≤◌, subst, inl, inr, arith}
use Rattle.std.proofs.lemmas.Bool.{cases_lt}
use Rattle.ix_hierarchy.specs.Pins.{LeafPin}
use Rattle.ix_hierarchy.specs.Lists.{bit_in}
use Rattle.ix_open_inputs.specs.Joinings.{IsFound}
use Rattle.ix_open_inputs.proofs.Nets.{IsPassedRow, is_joined, net_of_pin, not_joined}
use Rattle.ix_open_inputs.proofs.joining.is_joined.Goals as goal

pub pin-pin-requires : goal.pin-pin-requires
pin-pin-requires c = let g = c.requires.given in let given = g.2 in record {
  joined = (
    g.0,
    given.joined_is,
    (c.pins-start.ensures g.0 c.args.rec.now g.1 given.joined_is
        given.path_is).each c.loop-place.place given.inst
        (omega (arith, c.loop-place.auto.place)) c.loop-place-test.true given.leaf,
  );
}

pub is_found-requires : goal.is_found-requires
is_found-requires c = let g = c.requires.given in let given = g.2 in
    let place = (c.pins-start.ensures g.0 c.args.rec.now g.1 given.joined_is
    given.path_is).each c.loop-place.place given.inst
    (omega (arith, c.loop-place.auto.place)) c.loop-place-test.true given.leaf in
    let found = c.pin-pin.ensures g.0 given.joined_is given.constants_are place in
    let net = net_of_pin g.0 c.args.rec.now c.args.joined.now given.joined_is
    (LeafPin found.at.path (bit_in found.at.row)) c.pin-pin.result.net found.net_is in
    omega (arith, net.below, given.many)

pub returns-then-is_found : goal.returns-then-is_found
returns-then-is_found c known path text given named =
    let place = (c.pins-start.ensures known c.args.rec.now path given.joined_is
    given.path_is).each c.loop-place.place given.inst
    (omega (arith, c.loop-place.auto.place)) c.loop-place-test.true given.leaf in
    let found = c.pin-pin.ensures known given.joined_is given.constants_are place in
    let is = subst (IsFound c.args.states.now c.pin-pin.result c.args.name) c.if-is_found.true
    c.is_found.ensures in
    is_joined known c.args.rec.now c.args.joined.now c.args.states.now c.args.instance
    c.loop-place.place c.pin-pin.result c.args.name path text is.1.0 given.joined_is
    given.are_states given.path_is found is.0 named is.1.1 is.1.2

pub loop-place-preserved : goal.loop-place-preserved
loop-place-preserved c known path given k from to = by (cases_lt k c.loop-place.place)
  where
    by : (k < c.loop-place.place) ⊎ (c.loop-place.place ≤ k) → IsPassedRow known c.args.rec.now
        c.args.joined.now c.args.states.now c.args.instance c.args.name k
    by (inl less) = c.loop-place.invariant known path given k from less
    by (inr le) = let here : c.loop-place.place ≡ k = omega (arith, le, to) in
        let place = (c.pins-start.ensures known c.args.rec.now path given.joined_is
        given.path_is).each c.loop-place.place given.inst
        (omega (arith, c.loop-place.auto.place)) c.loop-place-test.true given.leaf in
        subst (IsPassedRow known c.args.rec.now c.args.joined.now c.args.states.now
        c.args.instance c.args.name) here (
          c.pin-pin.result,
          c.pin-pin.ensures known given.joined_is given.constants_are place,
          subst (IsFound c.args.states.now c.pin-pin.result c.args.name) c.if-is_found.false
              c.is_found.ensures,
        )

pub returns : goal.returns
returns c known path text given named is = not_joined known c.args.rec.now c.args.joined.now
    c.args.states.now c.args.instance c.pins-start.result.0 c.pins-start.result.1 c.args.name path
    text given.joined_is given.are_states given.many given.path_is
    (c.pins-start.ensures known c.args.rec.now path given.joined_is given.path_is) named
    (λ k from to. c.loop-place.invariant known path given k from
    (omega (arith, to, c.loop-place-test.false))) is
