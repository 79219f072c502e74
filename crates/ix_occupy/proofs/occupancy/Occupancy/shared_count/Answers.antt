use Rattle.std.proofs.Common.{◌≡◌, ◌∙◌, sym}
use Rattle.ix_occupy.specs.Loads.{shared_count}
use Rattle.ix_occupy.proofs.Views.{shared_seen}
use Rattle.ix_occupy.proofs.Sharing.{no_shared}
use Rattle.ix_occupy.proofs.occupancy.Occupancy.shared_count.Goals as goal

pub returns-clause-count : goal.returns-clause-count
returns-clause-count c = c.self.invariant.shared
    ∙ sym (shared_seen c.args.self.now c.self.inside.loads.items c.self.view_is)

pub returns-clause-none : goal.returns-clause-none
returns-clause-none c =
    let same : c.self.inside.shared ≡ shared_count c.args.self.now = c.self.invariant.shared
    ∙ sym (shared_seen c.args.self.now c.self.inside.loads.items c.self.view_is) in
    let law : _ = no_shared c.args.self.now c.self.inside.loads.items c.self.view_is in
    ((λ none. law.0 (sym same ∙ none)), (λ few. same ∙ law.1 few))
