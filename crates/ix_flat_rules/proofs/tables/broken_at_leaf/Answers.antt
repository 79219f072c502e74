use Rattle.std.proofs.Common.{◌≡◌, ◌∙◌, ap, sym, subst, List, [], length}
use Rattle.ix_message.specs.Shape.{Text}
use Rattle.ix_rec.specs.declared.place.Rule.TheVariants.{N6}
use Rattle.ix_hierarchy.specs.declared.instance.Instance.{Instance}
use Rattle.ix_hierarchy.specs.Hierarchy.{flat_name}
use Rattle.ix_hierarchy.specs.Lists.{AreInstances}
use Rattle.ix_flat_rules.proofs.Telling.{told_as}
use Rattle.ix_flat_rules.proofs.tables.broken_at_leaf.Goals as goal

pub returns-in-Ok : goal.returns-in-Ok
returns-in-Ok c = λ known path are names at.
    let nets = length c.args.joined.now.firsts.items in
    let all = subst (λ (l : List Instance). AreInstances c.args.rec.now l known.paths nets)
    (sym c.deref.ensures.value) are.are_instances in
    told_as N6 (λ word. word ≡ flat_name known.names c.args.rec.now path []) c.as_str.result.now
    c.broken.result
    (c.as_str.ensures.value ∙ c.in-Ok.ensures known.paths nets path all at
    ∙ ap (λ (ns : List Text). flat_name ns c.args.rec.now path []) (sym names))
    c.broken.ensures
