use Rattle.std.proofs.Common.{ap, sym, ◌∙◌, set, slice_get, take, Some}
use Rattle.ix_belmap.specs.Groups.{is_on}
use Rattle.ix_belmap.specs.Marks.{lists_of}
use Rattle.ix_belmap.proofs.Marking.{group_cells, group_told, marks_next, row_cells, row_of}
use Rattle.ix_belmap.proofs.Marking.{taken_now}
use Rattle.ix_belmap.proofs.marks.Marks.group_on.Goals as goal

pub gathered-requires-clause-cells : goal.gathered-requires-clause-cells
gathered-requires-clause-cells c =
    let row = row_of c.args.flat.now c.args.rows.now.items c.args.net c.get-2.result
    c.index-row.result.now
    c.requires.rows c.requires.in_range c.get-2.ensures c.index-row.ensures in
    row_cells c.args.flat.now c.index-row.result.now.items
    (λ cell. is_on c.args.flat.now cell c.args.net) row.is

pub gathered-requires-clause-from : goal.gathered-requires-clause-from
gathered-requires-clause-from c =
    let row = row_of c.args.flat.now c.args.rows.now.items c.args.net c.get-2.result
    c.index-row.result.now
    c.requires.rows c.requires.in_range c.get-2.ensures c.index-row.ensures in
    (c.start-from.ensures c.args.device.now c.args.flat.now
    (lists_of c.args.rows.now.items) c.index-row.result.now.items
    c.requires.marks row.at).0

pub gathered-requires-clause-passed : goal.gathered-requires-clause-passed
gathered-requires-clause-passed c =
    let row = row_of c.args.flat.now c.args.rows.now.items c.args.net c.get-2.result
    c.index-row.result.now
    c.requires.rows c.requires.in_range c.get-2.ensures c.index-row.ensures in
    (c.start-from.ensures c.args.device.now c.args.flat.now
    (lists_of c.args.rows.now.items) c.index-row.result.now.items
    c.requires.marks row.at).1

pub mark-requires : goal.mark-requires
mark-requires c =
    let row = row_of c.args.flat.now c.args.rows.now.items c.args.net c.get-2.result
    c.index-row.result.now
    c.requires.rows c.requires.in_range c.get-2.ensures c.index-row.ensures in
    group_cells c.args.device.now c.args.flat.now c.args.self.now.taken.items c.at.result.now.ty
    c.index-row.result.now.items
    c.in_ok-group.count c.args.port c.in_ok-group.group.items
    (row_cells c.args.flat.now c.index-row.result.now.items
    (λ cell. is_on c.args.flat.now cell c.args.net) row.is)
    c.requires.port c.requires.marks.cells c.in_ok-group.ensures.looked

pub returns-clause-group : goal.returns-clause-group
returns-clause-group c =
    let row = row_of c.args.flat.now c.args.rows.now.items c.args.net c.get-2.result
    c.index-row.result.now
    c.requires.rows c.requires.in_range c.get-2.ensures c.index-row.ensures in
    group_told c.args.device.now c.args.flat.now c.args.self.now.taken.items c.args.port c.args.net
    c.at.result.now
    c.index-row.result.now.items c.in_ok-group.group.items
    (ap (slice_get c.args.flat.now.cells) (sym c.get.ensures) ∙ c.at.ensures) c.requires.net row.is
    c.in_ok-group.ensures.group

pub returns-clause-marks : goal.returns-clause-marks
returns-clause-marks c =
    let row = row_of c.args.flat.now c.args.rows.now.items c.args.net c.get-2.result
    c.index-row.result.now
    c.requires.rows c.requires.in_range c.get-2.ensures c.index-row.ensures in
    marks_next c.args.device.now c.args.flat.now (lists_of c.args.rows.now.items) c.args.self.now _
    c.in_ok-group.group.items c.args.net (record {
      port_type = c.at.result.now.ty;
      count =
          c.in_ok-group.count;
    })
    c.index-row.result.now.items c.mark.ensures.count
    (ap (λ k. set c.args.self.now.passed.items k
    (Some (record { port_type = c.at.result.now.ty; count = c.in_ok-group.count })))
    c.get-3.ensures)
    c.in_ok-group.ensures.known c.mark.ensures.marks row.at c.in_ok-group.ensures.within
    (taken_now c.args.device.now c.args.flat.now c.args.self.now.taken.items c.mark.new.taken.items
    c.at.result.now.ty
    (take c.in_ok-group.count c.index-row.result.now.items) c.args.port c.in_ok-group.group.items
    c.in_ok-group.ensures.looked c.mark.ensures.marks)
    c.requires.marks
