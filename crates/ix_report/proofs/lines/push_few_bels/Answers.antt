use Rattle.std.proofs.Common.{◌≡◌, ◌++◌, ap, ◌∙◌, append_assoc, string_bytes, codes}
use Rattle.ix_report.specs.Lines.{needs_text}
use Rattle.ix_report.proofs.lines.push_few_bels.Goals as goal

pub returns : goal.returns
returns c =
    c.in_ok-push_needs.ensures ∙ ap (λ l. l ++ needs_text c.args.cells c.args.bels) c.in_ok-push_two.ensures
    ∙ append_assoc (string_bytes c.args.text.now) (codes "too few bels: " ++ c.args.kind.now) (needs_text c.args.cells c.args.bels)
