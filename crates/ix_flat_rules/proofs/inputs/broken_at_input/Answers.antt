use Rattle.std.proofs.Common.{◌∙◌, ap, sym, subst, List, [], ◌∷◌, length, slice_index_or}
use Rattle.ix_message.specs.Shape.{Text}
use Rattle.ix_rec.specs.declared.place.Rule.TheVariants.{N7}
use Rattle.ix_hierarchy.specs.declared.instance.Instance.{Instance}
use Rattle.ix_hierarchy.specs.Hierarchy.{flat_name}
use Rattle.ix_hierarchy.specs.Lists.{AreInstances}
use Rattle.ix_flat_rules.specs.Opens.{IsInputText}
use Rattle.ix_flat_rules.proofs.Telling.{told_as}
use Rattle.ix_flat_rules.proofs.inputs.broken_at_input.Goals as goal

pub returns-in-Ok : goal.returns-in-Ok
returns-in-Ok c = λ known path are names at.
    let nets = length c.args.joined.now.firsts.items in
    let all = subst (λ (l : List Instance). AreInstances c.args.rec.now l known.paths nets)
    (sym c.deref.ensures.value) are.are_instances in
    told_as N7 (IsInputText known.names c.args.rec.now path c.args.name) c.as_str.result.now
    c.broken.result
    (c.as_str.ensures.value ∙ c.in-Ok.ensures known.paths nets path all at
    ∙ ap (λ (ns : List Text). flat_name ns c.args.rec.now path
    (slice_index_or ns c.args.name [] ∷ [])) (sym names))
    c.broken.ensures
