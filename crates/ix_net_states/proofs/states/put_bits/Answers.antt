use Rattle.std.proofs.Common.{◌∙◌, sym, get_or, None}
use Rattle.std.proofs.Common.{subst, List, ◌+◌}
use Rattle.std.proofs.lemmas.Option.{slice_get-get_or}
use Rattle.ix_rec.specs.declared.device.Direction.TheVariants.{Input}
use Rattle.ix_joined.specs.declared.top_bit.TopBit.{TopBit}
use Rattle.ix_joined.specs.declared.state.NetState.{NetState}
use Rattle.ix_net_states.specs.Least.{AreStatesOf}
use Rattle.ix_net_states.specs.Walking.{IsTopDone}
use Rattle.ix_net_states.proofs.Walks.{net_there, none_done}
use Rattle.ix_net_states.proofs.Walks.{top_more, tops_done}
use Rattle.ix_net_states.proofs.states.put_bits.Goals as goal

pub loop-k-init : goal.loop-k-init
loop-k-init c = (
  c.requires.many,
  λ known ready none.
      none_done known c.args.rec.now c.args.joined.now c.args.states.now none,
)

pub put_bit-requires : goal.put_bit-requires
put_bit-requires c =
    let bits = c.args.bits.now in
    let bit : TopBit = get_or bits c.loop-k.k record { port = 0; index = 0; dir = Input; net = None } in
    let ready = c.requires.ready.1 in
    net_there c.requires.ready.0 c.args.rec.now c.args.joined.now bits c.loop-k.k bit c.loop-k.states
    ready.are ready.top (slice_get-get_or bits c.loop-k.k _ c.loop-k-test.true)
    c.loop-k.invariant.0

pub loop-k-preserved : goal.loop-k-preserved
loop-k-preserved c =
    let bits = c.args.bits.now in
    let bit : TopBit = get_or bits c.loop-k.k record { port = 0; index = 0; dir = Input; net = None } in (
      c.put_bit.auto.states ∙ c.loop-k.invariant.0,
      λ known ready none.
          subst (λ (s : List NetState). AreStatesOf known c.args.rec.now c.args.joined.now
          (IsTopDone c.args.rec.now (c.loop-k.k + 1)) s) (sym c.put_bit.ensures)
          (top_more known c.args.rec.now c.args.joined.now bits c.loop-k.k bit c.loop-k.states ready.are
          ready.top (slice_get-get_or bits c.loop-k.k _ c.loop-k-test.true)
          (c.loop-k.invariant.1 known ready none)),
    )

pub returns : goal.returns
returns c = λ known ready none.
    tops_done known c.args.rec.now c.args.joined.now c.args.bits.now c.loop-k.k c.loop-k.states
    ready.are ready.top c.loop-k-test.false (c.loop-k.invariant.1 known ready none)
