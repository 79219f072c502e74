use Rattle.std.proofs.Common.{◌∙◌, ap, sym, [], ◌∷◌, take}
use Rattle.ix_device.specs.Shapes.{with_line, with_lines}
use Rattle.ix_device.proofs.Walks.{take_next}
use Rattle.ix_device.proofs.LineLemmas.{with_lines-append}
use Rattle.ix_device.proofs.usable.add_lines.Goals as goal

pub loop-i-preserved : goal.loop-i-preserved
loop-i-preserved c =
    c.in_ok-add_line.ensures
    ∙ ap (λ l. with_line l c.at.result.now) c.loop-i.invariant
    ∙ sym (with_lines-append c.args.all.now (take c.loop-i.i c.args.lines.now) (c.at.result.now ∷ []))
    ∙ ap (with_lines c.args.all.now) (sym (take_next c.args.lines.now c.loop-i.i c.at.result.now c.at.ensures))
