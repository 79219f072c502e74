use Rattle.std.proofs.Common.{◌∙◌, ap, sym, [], ◌∷◌, ◌++◌, map, take}
use Rattle.ix_lut_tables.specs.Tables.{table_of_instance}
use Rattle.ix_lut_tables.proofs.Places.{map_take_next}
use Rattle.ix_lut_tables.proofs.of_instances.tables.Goals as goal

pub loop-i-preserved : goal.loop-i-preserved
loop-i-preserved c =
    let f = table_of_instance c.args.names.now c.args.device.now c.args.rec.now in
    let insts = c.args.rec.now.inst_list in (
      c.in_ok-push.ensures.items
          ∙ ap (λ xs. xs ++ c.in_ok-table_at.field-0 ∷ []) c.loop-i.invariant.0
          ∙ ap (λ t. map f (take c.loop-i.i insts) ++ t ∷ []) c.in_ok-table_at.ensures.table
          ∙ sym (map_take_next f insts c.loop-i.i c.at-instance.result.now c.at-instance.ensures),
      c.table_at.ensures.read,
    )
