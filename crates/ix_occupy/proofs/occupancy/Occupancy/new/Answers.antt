use Rattle.std.proofs.Common.{◌∙◌, ap, arith}
use Rattle.std.proofs.lemmas.Grind.{common_steps}
use Rattle.ix_occupy.specs.declared.loads.NodeLoad.{NodeLoad}
use Rattle.ix_occupy.proofs.Views.{holder_count-view, hist_at-view, blank_kept}
use Rattle.ix_occupy.proofs.occupancy.Occupancy.new.Goals as goal

pub returns-clause-unheld : goal.returns-clause-unheld
returns-clause-unheld c = λ node.
    holder_count-view c.resize.new.self.items node
    ∙ ap (λ (l : NodeLoad). l.holders) (blank_kept c.resize.new.self.items
    (λ k inside. grind (arith, common_steps)) node)

pub returns-clause-unshared : goal.returns-clause-unshared
returns-clause-unshared c = λ node.
    hist_at-view c.resize.new.self.items node
    ∙ ap (λ (l : NodeLoad). l.hist) (blank_kept c.resize.new.self.items
    (λ k inside. grind (arith, common_steps)) node)
