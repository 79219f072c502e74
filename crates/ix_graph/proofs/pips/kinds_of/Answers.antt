use Rattle.std.proofs.Common.{◌∙◌, ap, sym, ◌++◌, ◌∷◌, []}
use Rattle.ix_device.proofs.Walks.{map_take_next}
use Rattle.ix_graph.proofs.pips.kinds_of.Goals as goal

pub loop-i-preserved : goal.loop-i-preserved
loop-i-preserved c =
    c.in_ok-push.ensures.ok
    ∙ ap (λ kinds. kinds ++ c.at.result.now.ty ∷ []) c.loop-i.invariant
    ∙ sym (map_take_next (λ t. t.ty) c.args.tiles.now c.loop-i.i c.at.result.now c.at.ensures)
