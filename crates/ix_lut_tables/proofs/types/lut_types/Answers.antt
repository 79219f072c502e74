use Rattle.std.proofs.Common.{◌≡◌, Bool, true, false, ◌&&◌, refl, ap, sym, ◌∙◌, nat_eq}
use Rattle.ix_keys.specs.Keys.{name_key, key_eq}
use Rattle.ix_first.specs.First.{value_at, or_later}
use Rattle.ix_device.specs.Elements.{is_lut_cell}
use Rattle.ix_lut_tables.proofs.Places.{one_more_place, none_more_place}
use Rattle.ix_lut_tables.proofs.types.lut_types.Goals.{then-counts_as_lut+in_ok-place+in_ok-put}
use Rattle.ix_lut_tables.proofs.types.lut_types.Goals.{else-counts_as_lut}
use Rattle.ix_lut_tables.proofs.types.lut_types.Goals as goal

and_true : (a b : Bool) → b ≡ true → a ≡ (a && b)
and_true true b h = sym h
and_true false b h = refl

and_false : (a b : Bool) → b ≡ false → (a && b) ≡ false
and_false true b h = h
and_false false b h = refl

pub loop-i-preserved : goal.loop-i-preserved
loop-i-preserved c ty =
    let x = c.at-cell.result.now in
    let cells = c.args.device.now.lut_definitions.lut_cells in
    elim c.if-counts_as_lut.branch [
      | then-counts_as_lut+in_ok-place+in_ok-put w ↦
          ap (λ t. value_at t (name_key ty)) w.table-is
          ∙ w.in_ok-put.ensures.values (name_key ty)
          ∙ ap (λ k. or_later (value_at c.loop-i.table (name_key ty)) (key_eq k (name_key ty))
          w.in_ok-place.place) (w.of_name.ensures ∙ ap name_key w.get.ensures)
          ∙ ap (or_later (value_at c.loop-i.table (name_key ty)) (nat_eq x.cell ty))
          w.in_ok-place.ensures
          ∙ ap (λ b. or_later (value_at c.loop-i.table (name_key ty)) b c.loop-i.i) (and_true
          (nat_eq x.cell ty) _ (sym c.counts_as_lut.ensures ∙ w.if-counts_as_lut.true))
          ∙ ap (λ o. or_later o (is_lut_cell ty x) c.loop-i.i) (c.loop-i.invariant ty)
          ∙ one_more_place (is_lut_cell ty) cells c.loop-i.i x c.at-cell.ensures
      | else-counts_as_lut w ↦ ap (λ t. value_at t (name_key ty)) w.table-is
          ∙ c.loop-i.invariant ty
          ∙ none_more_place (is_lut_cell ty) cells c.loop-i.i x c.at-cell.ensures
          (and_false (nat_eq x.cell ty) _ (sym c.counts_as_lut.ensures ∙ w.if-counts_as_lut.false))
    ]
