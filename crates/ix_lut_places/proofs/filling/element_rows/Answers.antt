use Rattle.std.proofs.Common.{◌≡◌, ◌<◌, ◌+◌, ◌∙◌, Some, ap, sym, subst, length, arith, set}
use Rattle.ix_device_rules.specs.Rules.{first_broken}
use Rattle.ix_device.specs.Lookups.{site_type_number}
use Rattle.ix_lut_places.specs.Filled.{HaveElements}
use Rattle.ix_lut_places.specs.Places.{AreElements}
use Rattle.ix_lut_places.proofs.Finding.{row_there}
use Rattle.ix_lut_places.proofs.Turns.{one_more_entry, entry_passed, all_entries, type_within}
use Rattle.ix_lut_places.proofs.filling.element_rows.Goals.{in-Some+in_ok-put_entry, in_default}
use Rattle.ix_lut_places.proofs.filling.element_rows.Goals as goal

pub loop-entry-preserved : goal.loop-entry-preserved
loop-entry-preserved c =
    let rec = c.rec-rec.result.now in
    let valid = ap first_broken c.rec-rec.ensures.same ∙ c.rec-rec.ensures.valid in
    let rows = c.loop-entry.rows.items in
    let number = ap (λ d. site_type_number d c.at.result.now.site) c.rec-rec.ensures.same
    ∙ sym c.site_type.ensures in
    elim c.match-site_type.branch [
      | in-Some+in_ok-put_entry w ↦
          let t = w.in-Some.t in
          let named : site_type_number rec c.at.result.now.site ≡ Some t = number ∙ w.in-Some.is in
          let within : t < length rows =
          omega (
            arith,
            type_within rec c.at.result.now.site t named,
            c.loop-entry.invariant.types,
          ) in
          let here = row_there rows t w.get.result w.index_mut.result.now within w.get.ensures
          w.index_mut.ensures.value in
          let next = one_more_entry rec c.loop-entry.entry c.at.result.now c.at.ensures valid rows
          c.loop-entry.invariant t w.index_mut.result.now w.put_entry.new.row named here
          w.in_ok-put_entry.ensures in
          subst (λ v. HaveElements rec (c.loop-entry.entry + 1) v.items) (sym w.rows-is)
          (subst (λ i. HaveElements rec (c.loop-entry.entry + 1)
          (set rows i w.put_entry.new.row)) (sym w.get.ensures) next)
      | in_default w ↦
          subst (λ v. HaveElements rec (c.loop-entry.entry + 1) v.items) (sym w.rows-is)
          (entry_passed rec c.loop-entry.entry c.at.result.now c.at.ensures valid rows
          c.loop-entry.invariant (number ∙ w.in_default.is))
    ]

pub returns : goal.returns
returns c =
    let end : c.loop-entry.entry ≡ length c.rec-rec.result.now.lut_definitions.lut_elements =
    omega (arith, c.loop-entry-test.false, c.loop-entry.auto.entry-end, c.len-entry-end.ensures) in
    subst (λ d. AreElements d c.loop-entry.rows.items) c.rec-rec.ensures.same
    (all_entries c.rec-rec.result.now c.loop-entry.entry c.loop-entry.rows.items end
    c.loop-entry.invariant)
