use Rattle.std.proofs.Common.{arith}
use Rattle.std.proofs.lemmas.List.{get_or_read}
use Rattle.ix_rows.specs.Rows.{filler_rows, row_in, room_in}
use Rattle.ix_rows.proofs.Filling.{place_in, row_after, AreStarts-after, AreEnds-after}
use Rattle.ix_rows.proofs.filler.RowFiller.put.Goals as goal

pub overflow_add-end : goal.overflow_add-end
unfolding filler_rows row_in room_in
overflow_add-end g c =
    let f = c.args.self.now in
    let e = get_or_read f.ends.items c.args.row c.index-end.result.now c.requires.row c.index-end.ensures 0 in
    omega (arith, f.starts_rise.few, place_in f.starts.items f.ends.items f.items.items f.starts_rise f.ends_within c.args.row c.args.item c.requires.row c.requires.room c.index-end.result.now e)

pub invariant_of-self : goal.invariant_of-self
unfolding filler_rows row_in room_in
invariant_of-self g c =
    let f = c.args.self.now in
    let e = get_or_read f.ends.items c.args.row c.index-end.result.now c.requires.row c.index-end.ensures 0 in
    record {
      starts_rise = AreStarts-after f.starts.items f.ends.items f.items.items f.starts_rise f.ends_within c.args.row c.args.item c.requires.row c.requires.room c.index-end.result.now e;
      ends_within = AreEnds-after f.starts.items f.ends.items f.items.items f.starts_rise f.ends_within c.args.row c.args.item c.requires.row c.requires.room c.index-end.result.now e;
    }

pub returns-clause-items : goal.returns-clause-items
unfolding filler_rows row_in room_in
returns-clause-items g c =
    let f = c.args.self.now in
    let e = get_or_read f.ends.items c.args.row c.index-end.result.now c.requires.row c.index-end.ensures 0 in
    row_after f.starts.items f.ends.items f.items.items f.starts_rise f.ends_within c.args.row c.args.item c.requires.row c.requires.room c.index-end.result.now e
