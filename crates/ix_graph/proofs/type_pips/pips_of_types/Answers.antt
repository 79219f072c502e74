use Rattle.std.proofs.Common.{◌∙◌, ap, ◌++◌, ◌∷◌, [], map, take, sym}
use Rattle.ix_graph.specs.Pips.{conventional}
use Rattle.ix_device.proofs.Walks.{map_take_next}
use Rattle.ix_graph.proofs.type_pips.pips_of_types.Goals as goal

pub loop-i-preserved : goal.loop-i-preserved
loop-i-preserved c =
    c.in_ok-push.ensures.ok
    ∙ ap (λ all. all ++ c.in_ok-conventional.field-0 ∷ []) c.loop-i.invariant
    ∙ ap (λ x. map (λ ty. conventional ty.pips) (take c.loop-i.i c.args.types.now) ++ x ∷ []) c.in_ok-conventional.ensures
    ∙ sym (map_take_next (λ ty. conventional ty.pips) c.args.types.now c.loop-i.i c.at.result.now c.at.ensures)
