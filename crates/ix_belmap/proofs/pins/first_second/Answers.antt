use Rattle.std.proofs.Common.{ap, sym, subst, ◌∙◌, is_none, is_some, Some, ◌+◌, arith}
use Rattle.ix_keys.specs.Keys.{name_key, key_eq}
use Rattle.ix_first.specs.First.{or_later, value_at}
use Rattle.ix_belmap.proofs.Failures.{KnowsUsed, none_second, second_here, used_none, used_pin}
use Rattle.ix_belmap.proofs.pins.first_second.Goals as goal
use Rattle.ix_belmap.proofs.pins.first_second.Goals.{in-At+in_ok-put+else-not-branch, in_default}

pub loop-i-init : goal.loop-i-init
loop-i-init c = record {
  apart = λ k lt. absurd (omega arith);
  names = λ pin. ap is_some (c.new-used.ensures (name_key pin));
}

pub returns-then-not-branch : goal.returns-then-not-branch
returns-then-not-branch c =
    let here = c.at.ensures ∙ ap Some c.in-At.is in (
      second_here c.args.all.now (λ pin. value_at c.loop-i.used (name_key pin)) c.loop-i.i
          c.in-At.pin c.in-At.site
          c.in_ok-put.field-0 here c.loop-i.invariant
          (c.in_ok-put.ensures.new ∙ ap (λ k. is_none (value_at c.loop-i.used k)) c.of_name.ensures)
          c.if-not-branch.true,
      omega arith,
    )

pub loop-i-preserved : goal.loop-i-preserved
loop-i-preserved c = elim c.match-at.branch [
  | in-At+in_ok-put+else-not-branch w ↦
      used_pin c.args.all.now (λ pin. value_at c.loop-i.used (name_key pin))
      (λ pin. value_at c.match-at.used (name_key pin)) c.loop-i.i w.in-At.pin w.in-At.site
      w.in_ok-put.field-0
      (c.at.ensures ∙ ap Some w.in-At.is) c.loop-i.invariant
      (w.in_ok-put.ensures.new ∙ ap (λ k. is_none (value_at c.loop-i.used k)) w.of_name.ensures)
      w.if-not-branch.false
      (λ q. ap (λ t. value_at t (name_key q)) w.used-is ∙ w.in_ok-put.ensures.values (name_key q)
      ∙ ap (λ k. or_later (value_at c.loop-i.used (name_key q)) (key_eq k (name_key q)) (tt {0}))
      w.of_name.ensures)
  | in_default w ↦
      subst (λ t. KnowsUsed c.args.all.now (λ pin. value_at t (name_key pin)) (c.loop-i.i + 1))
      (sym w.used-is)
      (used_none c.args.all.now (λ pin. value_at c.loop-i.used (name_key pin)) c.loop-i.i
      c.at.result.now
      c.at.ensures w.in_default.not-At c.loop-i.invariant)
]

pub returns : goal.returns
returns c =
    none_second c.args.all.now (λ pin. value_at c.loop-i.used (name_key pin)) c.loop-i.i
    (omega arith)
    c.loop-i.invariant
