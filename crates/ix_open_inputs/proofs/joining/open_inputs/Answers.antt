use Rattle.std.proofs.Common.{◌∙◌, not, arith}
use Rattle.std.proofs.lemmas.List.{length-set}
use Rattle.std.proofs.lemmas.Option.{slice_get_within}
use Rattle.ix_open_inputs.proofs.Marks.{one_more}
use Rattle.ix_open_inputs.proofs.joining.open_inputs.Goals as goal

pub loop-input-preserved : goal.loop-input-preserved
loop-input-preserved c = (
  length-set c.loop-input.open c.loop-input.input (not c.is_joined.result)
      ∙ c.loop-input.invariant.0,
  λ known path given. one_more known c.args.rec.now path c.args.inputs.now c.loop-input.open
      c.loop-input.input c.at.result.now c.is_joined.result
      (omega (
        arith,
        c.loop-input.invariant.0,
        c.loop-input-test.true,
        c.len-input-end.ensures,
        c.requires.most,
      )) c.at.ensures (λ text named. c.is_joined.ensures known path text given named)
      (c.loop-input.invariant.1 known path given),
)

pub returns : goal.returns
returns c known path given input name text at named = c.loop-input.invariant.1 known path given
    input name text (omega (
      arith,
      c.loop-input-test.false,
      c.len-input-end.ensures,
      slice_get_within c.args.inputs.now input name at,
    )) at named
