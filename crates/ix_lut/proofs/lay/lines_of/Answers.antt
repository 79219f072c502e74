use Rattle.std.proofs.Common.{◌≡◌, ℕ, slice_index, ap, ◌∙◌, arith}
use Rattle.std.proofs.lemmas.List.{length-set}
use Rattle.ix_lut.specs.Items.{item_at, number_in}
use Rattle.ix_lut.specs.declared.uses.Item.{Item}
use Rattle.ix_lut.proofs.Laying.{chosen_next}
use Rattle.ix_lut.proofs.lay.lines_of.Goals as goal

pub loop-i-preserved : goal.loop-i-preserved
loop-i-preserved c =
    let items = c.args.items.now in
    let nets = c.args.cell.now.nets in
    let number : ℕ = c.number_of.result in
    let is : number ≡ number_in items (item_at nets c.loop-i.i) =
    c.number_of.ensures.number ∙ ap (λ (x : Item). number_in items x) c.item_of-item.ensures.item in
    let line : ℕ = slice_index c.args.lines.now number in
    record {
      long = length-set c.loop-i.chosen c.loop-i.i line ∙ c.loop-i.invariant.long;
      chosen = chosen_next (λ i. slice_index c.args.lines.now (number_in items (item_at nets i))) c.loop-i.chosen c.loop-i.i line
          (omega (arith, c.loop-i.invariant.long, c.loop-i-test.true, c.requires.few))
          (ap (slice_index c.args.lines.now) is) c.loop-i.invariant.chosen;
    }
