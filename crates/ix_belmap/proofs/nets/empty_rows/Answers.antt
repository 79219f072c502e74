use Rattle.std.proofs.Common.{[], ap, ◌∙◌, replicate, arith}
use Rattle.ix_belmap.specs.Marks.{lists_of}
use Rattle.ix_belmap.proofs.Pinned.{empty_more}
use Rattle.ix_belmap.proofs.nets.empty_rows.Goals as goal

pub loop-init : goal.loop-init
loop-init c = ap lists_of c.new-rows.ensures.items

pub loop-preserved : goal.loop-preserved
loop-preserved c =
    ap lists_of c.in_ok-push.ensures.items
    ∙ empty_more c.loop.rows.items c.loop.counter c.new.result c.new.ensures.items c.loop.invariant

pub returns : goal.returns
returns c = c.loop.invariant ∙ ap (λ n. replicate n []) (omega arith)
