use Rattle.std.proofs.Common.{◌≡◌, ◌∙◌, ◌+◌, take, ap, sym, arith}
use Rattle.ix_device_rules.specs.Rules
use Rattle.std.specs.List.{sum_by}
use Rattle.ix_device_rules.proofs.SizeLemmas.{sum_more}
use Rattle.ix_device_rules.proofs.Steps.{up_to}
use Rattle.ix_device_rules.proofs.tiles_are_few.pips_of.Goals as goal

pub loop-i-preserved : goal.loop-i-preserved
loop-i-preserved c =
    let x = c.at.result.now in
    let pips = c.args.tile_type.now.pips in
    let more : sum_by (λ p. Rules.directed p.kind p.directional) (take (c.loop-i.i + 1) pips) ≡ c.loop-i.count + c.directed_of-count.result =
    ap (sum_by (λ p. Rules.directed p.kind p.directional)) (up_to pips c.loop-i.i x c.at.ensures) ∙ sum_more (λ p. Rules.directed p.kind p.directional) (take c.loop-i.i pips) x ∙ sym (λ i. c.loop-i.invariant.0 i + c.directed_of-count.ensures.exact i) in
    let few = c.directed_of-count.ensures.few in
    let some = c.loop-i.invariant.1 in
    (sym more, omega arith)
