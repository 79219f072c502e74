use Rattle.std.proofs.Common.{◌∙◌, ap, sym, subst, ◌+◌, ◌∷◌, [], length, slice_get, inl, inr}
use Rattle.std.proofs.lemmas.List.{length-append}
use Rattle.std.proofs.lemmas.Option.{same_Some}
use Rattle.ix_device.specs.TypeTables.{AreTypeTables}
use Rattle.ix_device.proofs.TypeLemmas.{slice_get-push}
use Rattle.ix_device.proofs.types.all_type_tables.Goals as goal

pub loop-i-preserved : goal.loop-i-preserved
loop-i-preserved c = (
  ap length c.in_ok-push.ensures.ok ∙ length-append c.loop-i.all (c.in_ok-type_tables.field-0 ∷ []) ∙ ap (λ n. n + 1) c.loop-i.invariant.0,
  λ i t tables at at_tables. elim (slice_get-push c.loop-i.all c.in_ok-type_tables.field-0 i tables (ap (λ l. slice_get l i) (sym c.in_ok-push.ensures.ok) ∙ at_tables)) [
    | inl there ↦ c.loop-i.invariant.1 i t tables at there
    | inr last ↦
        subst (AreTypeTables c.args.rec.now t) last.1
        (subst (λ u. AreTypeTables c.args.rec.now u c.in_ok-type_tables.field-0) (same_Some c.at.result.now t (sym c.at.ensures ∙ ap (slice_get c.args.rec.now.site_type_list) (sym (last.0 ∙ c.loop-i.invariant.0)) ∙ at)) c.in_ok-type_tables.ensures)
  ],
)
