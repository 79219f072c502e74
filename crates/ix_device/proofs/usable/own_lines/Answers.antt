use Rattle.std.proofs.Common.{◌≤◌, ◌∙◌, ap, sym, subst, inl, inr, arith, length, Some}
use Rattle.ix_device.proofs.LineLemmas.{AreFirstLines, input_at, on_no_line, on_one_line, on_many_lines, one_more_input}
use Rattle.ix_device.proofs.usable.own_lines.Goals as goal

pub returns-in-None : goal.returns-in-None
returns-in-None c = inl (on_no_line c.args.pins.now.ty.now c.args.bel.now c.loop-i.i (input_at c.args.pins.now.ty.now c.args.bel.now c.loop-i.i c.at.result.now c.at.ensures ∙ ap Some (sym c.in-None.ensures)))

pub returns-then-has_line : goal.returns-then-has_line
returns-then-has_line c =
    inl (on_one_line c.args.pins.now.ty.now c.args.bel.now c.loop-i.i c.loop-i.lines c.in-Some.line c.loop-i.invariant
    (input_at c.args.pins.now.ty.now c.args.bel.now c.loop-i.i c.at.result.now c.at.ensures ∙ ap Some (sym c.in-Some.ensures)) (sym c.has_line.ensures ∙ c.if-has_line.true))

pub returns-then-len-ge-MOST_LINES : goal.returns-then-len-ge-MOST_LINES
returns-then-len-ge-MOST_LINES c =
    inr (on_many_lines c.args.pins.now.ty.now c.args.bel.now c.loop-i.i c.loop-i.lines c.in-Some.line c.loop-i.invariant
    (input_at c.args.pins.now.ty.now c.args.bel.now c.loop-i.i c.at.result.now c.at.ensures ∙ ap Some (sym c.in-Some.ensures)) (sym c.has_line.ensures ∙ c.if-has_line.false)
    (let many : 12 ≤ length c.loop-i.lines = omega (arith, c.if-len-ge-MOST_LINES.true, c.len.ensures) in many))

pub loop-i-preserved : goal.loop-i-preserved
loop-i-preserved c =
    subst (AreFirstLines c.args.pins.now.ty.now c.args.bel.now _) (sym c.in_ok-push-in-Some.ensures.ok)
    (one_more_input c.args.pins.now.ty.now c.args.bel.now c.loop-i.i c.loop-i.lines c.in-Some.line c.loop-i.invariant
    (input_at c.args.pins.now.ty.now c.args.bel.now c.loop-i.i c.at.result.now c.at.ensures ∙ ap Some (sym c.in-Some.ensures)) (sym c.has_line.ensures ∙ c.if-has_line.false))
