use Rattle.std.proofs.Common.{◌∙◌, ap, Err, [], ◌∷◌, length, length-append, rules, arith}
use Rattle.ix_job.proofs.Setting.{text_at, one_more_seen, all_there, later_cause}
use Rattle.ix_job.proofs.inputs.read_inputs.Goals as goal

pub returns-in-Err-Fault-clause-read : goal.returns-in-Err-Fault-clause-read
returns-in-Err-Fault-clause-read g c = record {
  name = _;
  which = text_at (λ name. name.now) c.args.names.now c.loop-i.i record {
    ref_ptr = (0, 0);
    now =
        [];
  } c.loop-i-test.true;
  there = λ files e. all_there _ _ files (c.loop-i.invariant.contents files e);
  cause = later_cause _ _ _ _ _ _ c.loop-i.invariant.files (c.loop-i.invariant.read _)
      (c.in-Err-Fault.ensures.cause (ap Err c.in-Err-Fault.field-0-is));
}

pub loop-i-preserved : goal.loop-i-preserved
loop-i-preserved g c = record {
  count = omega (
    arith,
    ap length c.in-Ok-push.ensures.ok,
    length-append c.loop-i.contents (c.in-Ok.content ∷ []),
    c.loop-i.invariant.count,
  );
  files = search rules;
  read = λ name. omega (arith, c.loop-i.invariant.read name, c.in-Ok.ensures.read_faults name);
  write = search rules;
  contents = λ files e. one_more_seen _ c.loop-i.i _ _ _ _ files
      (text_at (λ name. name.now) c.args.names.now c.loop-i.i _ c.loop-i-test.true)
      c.in-Ok-push.ensures.ok (c.in-Ok.ensures.content files (c.loop-i.invariant.files ∙ e))
      (c.loop-i.invariant.contents files e);
}
