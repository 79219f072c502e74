use Rattle.std.proofs.Common.{ap, sym, ◌∙◌, slice_get}
use Rattle.ix_keys.specs.Keys.{name_key}
use Rattle.ix_first.specs.First.{value_at}
use Rattle.ix_device.proofs.Listings.{passed_entry, put_of_entry}
use Rattle.ix_device.proofs.admissions.put_entry.Goals as goal

pub returns-in-None : goal.returns-in-None
returns-in-None c =
    passed_entry c.args.types.now c.args.table.now c.args.map.now c.args.entry.now c.args.pins.now
    (sym (c.requires.named c.args.entry.now.site_type) ∙ ap (value_at c.args.site_types.now) (sym (c.of_name.ensures ∙ ap name_key c.get.ensures)) ∙ sym c.get-2.ensures ∙ c.in-None.is)

pub returns-in_ok-put_bels-in-Some : goal.returns-in_ok-put_bels-in-Some
returns-in_ok-put_bels-in-Some c =
    put_of_entry c.args.types.now c.args.table.now c.put_bels.new.table c.args.map.now c.args.entry.now c.args.pins.now c.in-Some.owner c.at-t.result.now c.requires.differ
    (sym (c.requires.named c.args.entry.now.site_type) ∙ ap (value_at c.args.site_types.now) (sym (c.of_name.ensures ∙ ap name_key c.get.ensures)) ∙ sym c.get-2.ensures ∙ c.in-Some.is)
    (ap (slice_get c.args.types.now) (sym c.get-place.ensures) ∙ c.at-t.ensures) c.in_ok-put_bels-in-Some.ensures
