use Rattle.std.proofs.Common.{◌∙◌, ap, Some, rules, arith}
use Rattle.std.proofs.lemmas.List.{length-map}
use Rattle.ix_job.proofs.Setting.{text_at, all_set, one_more_set}
use Rattle.ix_job.proofs.outputs.write_outputs.Goals as goal

pub loop-i-preserved : goal.loop-i-preserved
loop-i-preserved g c = record {
  files = one_more_set _ c.args.outputs.now c.loop-i.i _ c.as_slice.result.now _ _ _
      (text_at (λ name. name.now) c.args.names.now c.loop-i.i _ (omega arith))
      (c.at.ensures ∙ ap Some (search rules)) c.loop-i.invariant.files c.in-Ok.ensures.all;
  read = search rules;
  write = λ name. omega (arith, c.loop-i.invariant.write name, c.in-Ok.ensures.write_faults name);
  untried = λ h. absurd (omega (arith, h));
}

pub returns-clause-all : goal.returns-clause-all
returns-clause-all g c =
    all_set _ c.args.outputs.now c.loop-i.i _ _
    (omega (
      arith,
      length-map c.args.names.now (λ name. name.now),
      c.min-i-end.ensures,
      c.len.ensures,
      c.loop-i-test.false,
      c.loop-i.auto.i-end,
    ))
    c.loop-i.invariant.files
