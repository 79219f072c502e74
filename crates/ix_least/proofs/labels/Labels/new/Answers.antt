use Rattle.std.proofs.Common.{◌∙◌, ap, map, arith}
use Rattle.ix_least.specs.Labels.{label_in}
use Rattle.ix_least.proofs.Slots.{map_blank, resized}
use Rattle.ix_least.proofs.labels.Labels.new.Goals as goal

pub returns : goal.returns
returns c =
    ap (map (label_in 1)) (resized c.args.points _ _ _ _ c.new-slots.ensures.items
    c.new-slots.ensures.len c.in_ok-resize.ensures.items)
    ∙ map_blank 1 _ (omega arith) c.args.points
