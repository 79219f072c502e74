use Rattle.std.proofs.Common.{◌≡◌, ◌+◌, ℕ, Option, sym, subst, arith}
use Rattle.ix_bit_rows.specs.Table.{end_in}
use Rattle.ix_twice.specs.Repeats.{IsLeast, IsRepeat}
use Rattle.ix_twice.proofs.Least.{repeats_more}
use Rattle.ix_twice.proofs.repeats.first_on_two.Goals as goal

pub loop-place-preserved : goal.loop-place-preserved
loop-place-preserved c = record {
  from = omega (arith, c.loop-place.invariant.from);
  least = subst (λ (o : Option ℕ). IsLeast (IsRepeat c.args.rows.now.rows c.start-start.result (c.loop-place.place + 1)) o) (sym c.least-found.ensures)
      (repeats_more c.args.rows.now.rows c.start-start.result c.loop-place.place c.loop-place.found c.repeat_at.result
      c.loop-place.invariant.from c.loop-place.invariant.least c.repeat_at.ensures);
}

pub returns-after-loop-place : goal.returns-after-loop-place
returns-after-loop-place c =
    let done : c.loop-place.place ≡ c.end-end.result = omega arith in
    subst (λ (n : ℕ). IsLeast (IsRepeat c.args.rows.now.rows n (end_in c.args.rows.now c.args.cell)) c.loop-place.found) c.start-start.ensures.start
    (subst (λ (n : ℕ). IsLeast (IsRepeat c.args.rows.now.rows c.start-start.result n) c.loop-place.found) c.end-end.ensures.end
    (subst (λ (n : ℕ). IsLeast (IsRepeat c.args.rows.now.rows c.start-start.result n) c.loop-place.found) done c.loop-place.invariant.least))
