use Rattle.std.proofs.Common.{refl, sym, ◌∙◌}
use Rattle.ix_flow.proofs.Unconnected.{alone, not_alone}
use Rattle.ix_flow.proofs.answer.unconnected.Goals as goal

pub returns-then-not-is_unconnected : goal.returns-then-not-is_unconnected
returns-then-not-is_unconnected c names = (
  not_alone c.args.flat (sym c.is_unconnected.ensures ∙ c.if-not-is_unconnected.true),
  refl,
)

pub returns : goal.returns
returns c names =
    (alone c.args.flat (sym c.is_unconnected.ensures ∙ c.if-not-is_unconnected.false), refl)
