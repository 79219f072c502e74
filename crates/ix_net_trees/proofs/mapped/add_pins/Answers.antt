use Rattle.std.proofs.Common.{◌≡◌, ◌∙◌, ap, ℕ, arith}
use Rattle.std.specs.Prelude.{length}
use Rattle.ix_keys.specs.Keys.{key, with_key}
use Rattle.ix_net_trees.proofs.Mapping.{adds_more, adds_all}
use Rattle.ix_net_trees.proofs.mapped.add_pins.Goals as goal

pub loop-k-preserved : goal.loop-k-preserved
loop-k-preserved c = adds_more c.args.placement.now c.args.keys.now c.loop-k.keys c.add.new.self
    c.loop-k.k c.at-entry.result.now c.loop-k.invariant c.at-entry.ensures
    (c.in_ok-add.ensures.keys ∙ ap (with_key c.loop-k.keys) (c.new.ensures
    ∙ (ap (λ (site : ℕ). key site c.get-in-loop-k.result c.get-in-loop-k-2.result) c.get.ensures
    ∙ (ap (λ (bel : ℕ). key c.args.placement.now.site bel c.get-in-loop-k-2.result)
    c.get-in-loop-k.ensures
    ∙ ap (key c.args.placement.now.site c.at-entry.result.now.bel) c.get-in-loop-k-2.ensures))))

pub returns : goal.returns
returns c =
    let all : c.loop-k.k ≡ length c.args.placement.now.pin_map =
    let count = c.len-k-end.ensures in
    let past = c.loop-k-test.false in
    let within = c.loop-k.auto.k-end in
    omega (arith, count, past, within) in
    adds_all c.args.placement.now c.args.keys.now c.loop-k.keys c.loop-k.k all c.loop-k.invariant
