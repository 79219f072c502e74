use Rattle.std.proofs.Common.{◌≡◌, ℕ, ◌+◌, List, length, slice_index, sym, ap, ◌∙◌, subst, arith, bit_and}
use Rattle.std.proofs.lemmas.List.{length-set}
use Rattle.ix_lut.specs.Items.{item_at, number_in}
use Rattle.ix_lut.specs.Masks.{Narrows}
use Rattle.ix_lut.specs.declared.uses.Item.{Item}
use Rattle.ix_lut.proofs.Masking.{narrow_next, narrow_past}
use Rattle.ix_lut.proofs.masks.narrow.Goals as goal
use Rattle.ix_lut.proofs.masks.narrow.Goals.{then-number-lt48, else-number-lt48}

pub loop-input-preserved : goal.loop-input-preserved
loop-input-preserved c =
    let items = c.args.items.now in
    let nets = c.args.cell.now.nets in
    let n : ℕ = c.loop-input.input in
    let number : ℕ = c.number_of-number.result in
    let after : length c.if-number-lt48.masks ≡ 48 = c.if-number-lt48.array_long in
    let is : number_in items (item_at nets n) ≡ number =
    sym (c.number_of-number.ensures.number ∙ ap (λ (x : Item). number_in items x) c.item_of-item.ensures.item) in
    let P : List ℕ → Type 0 = λ now. Narrows items nets (n + 1) c.args.mask c.args.masks.now now in
    elim c.if-number-lt48.branch [
      | then-number-lt48 w ↦
          let long : length c.loop-input.masks ≡ 48 =
          sym (length-set c.loop-input.masks number (bit_and (slice_index c.loop-input.masks number) c.args.mask)) ∙ sym (ap length w.masks-is) ∙ after in
          subst P (sym w.masks-is)
          (narrow_next items nets c.args.mask c.args.masks.now n number c.loop-input.masks is
          (omega (arith, long, w.if-number-lt48.true)) c.loop-input.invariant)
      | else-number-lt48 w ↦
          let long : length c.loop-input.masks ≡ 48 = sym (ap length w.masks-is) ∙ after in
          subst P (sym w.masks-is)
          (narrow_past items nets c.args.mask c.args.masks.now n number c.loop-input.masks is
          (omega (arith, long, w.if-number-lt48.false)) c.loop-input.invariant)
    ]
