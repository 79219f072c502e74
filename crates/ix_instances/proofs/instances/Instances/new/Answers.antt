use Rattle.std.proofs.Common.{◌≡◌, ◌∙◌, List, [], ◌∷◌, ◌++◌, ap, sym, refl, subst, arith}
use Rattle.ix_hierarchy.specs.declared.instance.Instance.{Instance}
use Rattle.ix_instances.specs.Walked.{IsWalk}
use Rattle.ix_instances.proofs.Walking.{walk_top, listed_one}
use Rattle.ix_instances.proofs.instances.Instances.new.Goals as goal

pub nets_in-nets-requires-clause-few : goal.nets_in-nets-requires-clause-few
nets_in-nets-requires-clause-few c =
    let few = (walk_top c.args.rec.now _ c.requires.few refl).listed.few in
    omega arith

pub loop-next-init : goal.loop-next-init
loop-next-init c =
    let top : Instance = listed_one 0 c.args.rec.now.top_inst.cell 0 0 0 in
    let items : c.push.new.self.items ≡ top ∷ [] =
    c.in_ok-push.ensures.items ∙ ap (λ (l : List Instance). l ++ top ∷ []) c.new-all.ensures.items
    in
    subst (λ (l : List Instance). IsWalk c.args.rec.now l c.nets_in-nets.result 0 0) (sym items)
    (walk_top c.args.rec.now c.nets_in-nets.result c.requires.few c.nets_in-nets.ensures)
