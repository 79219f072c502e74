use Rattle.std.proofs.Common.{◌∙◌, ◌++◌, ◌∷◌, [], take, map, ap, sym}
use Rattle.std.proofs.lemmas.List.{map-append}
use Rattle.ix_device_rules.specs.Sizes.{size_of}
use Rattle.ix_device_rules.proofs.Steps.{up_to}
use Rattle.ix_device_rules.proofs.tiles_are_few.sizes_of.Goals as goal

pub loop-i-preserved : goal.loop-i-preserved
loop-i-preserved c = c.in_ok-push.ensures.ok ∙ (λ i. c.loop-i.invariant i ++ c.size_of.ensures i ∷ []) ∙ sym (map-append size_of (take c.loop-i.i c.args.types.now) (c.at.result.now ∷ [])) ∙ ap (map size_of) (sym (up_to c.args.types.now c.loop-i.i c.at.result.now c.at.ensures))
