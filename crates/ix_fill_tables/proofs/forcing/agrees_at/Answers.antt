use Rattle.std.proofs.Common.{◌∙◌, sym}
use Rattle.ix_fill_tables.proofs.Valued.{used_there}
use Rattle.ix_fill_tables.proofs.forcing.agrees_at.Goals as goal

pub returns-then-is_used : goal.returns-then-is_used
returns-then-is_used c = (
  λ e unused. absurd (unused (used_there c.args.used.now c.args.j
      (sym c.is_used.ensures ∙ c.if-is_used.true))),
  λ agrees. c.if-is_used.true,
)
