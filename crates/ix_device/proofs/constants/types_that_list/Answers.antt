use Rattle.std.proofs.Common.{ap, sym, ◌∙◌, ◌++◌, ◌∷◌, [], map, take}
use Rattle.ix_device.specs.Sources.{lists_constant}
use Rattle.ix_device.proofs.Walks.{map_take_next}
use Rattle.ix_device.proofs.constants.types_that_list.Goals as goal

pub loop-i-preserved : goal.loop-i-preserved
loop-i-preserved c =
    c.in_ok-push.ensures.ok ∙ ap (λ l. l ++ c.lists_constant-list.result ∷ []) c.loop-i.invariant ∙ ap (λ b. map (lists_constant c.args.c) (take c.loop-i.i c.args.types.now) ++ b ∷ []) c.lists_constant-list.ensures
    ∙ sym (map_take_next (lists_constant c.args.c) c.args.types.now c.loop-i.i c.at.result.now c.at.ensures)
