use Rattle.std.proofs.Common.{◌∷◌, ◌++◌, ◌||◌, [], nat_eq, ap, sym, subst, ◌∙◌, Some, None, arith}
use Rattle.std.proofs.lemmas.Option.{same_Some}
use Rattle.ix_belmap.specs.Groups.{net_of_port}
use Rattle.std.specs.List.{list_any}
use Rattle.ix_belmap.specs.Marks.{AreMarks, group_by_marks, is_marked, lists_of}
use Rattle.ix_belmap.proofs.Grouped.{net_there, so_far_end, so_far_next, so_far_start}
use Rattle.ix_belmap.proofs.Marking.{alone_told}
use Rattle.ix_belmap.proofs.grouping.port_groups.Goals as goal
use Rattle.ix_belmap.proofs.grouping.port_groups.Goals.{in-Some+in_ok-group-in-Some}
use Rattle.ix_belmap.proofs.grouping.port_groups.Goals.{in-None+in_ok-group-in-None}

pub loop-port-init : goal.loop-port-init
loop-port-init c =
    so_far_start c.args.device.now c.args.flat.now
    (lists_of c.in_ok-rows.rows.items) c.new-groups.result c.in_ok-marks.marks
    c.new-groups.ensures c.in_ok-marks.ensures.none
    (c.in_ok-marks.ensures.marks c.args.device.now (lists_of c.in_ok-rows.rows.items))

pub group_on-requires-clause-marks : goal.group_on-requires-clause-marks
group_on-requires-clause-marks c = c.loop-port.invariant.are

pub group_on-requires-clause-in_range : goal.group_on-requires-clause-in_range
group_on-requires-clause-in_range c =
    net_there c.args.flat.now c.loop-port.port c.in-Some.net c.requires
    (same_Some (net_of_port c.args.flat.now c.loop-port.port) (Some c.in-Some.net)
    (sym (c.in_ok-nets.ensures c.loop-port.port c.loop-port-test.true) ∙ c.get.ensures
    ∙ ap Some c.in-Some.is))

pub group_alone-requires : goal.group_alone-requires
group_alone-requires c =
    let are = c.loop-port.invariant.are.cells in let le = c.requires.ports in let is =
    c.new-cell.ensures in omega arith

pub loop-port-preserved : goal.loop-port-preserved
loop-port-preserved c =
    let rec = c.args.device.now in
    let flat = c.args.flat.now in
    let old = c.loop-port.marks in
    let port = c.loop-port.port in
    let rows = lists_of c.in_ok-rows.rows.items in
    let pushed = c.in_ok-push.ensures.ok ∙ ap
    (λ g. c.loop-port.groups ++ g ∷ []) c.from_vec.ensures in
    elim c.match-get.branch [
      | in-Some+in_ok-group-in-Some w ↦
          so_far_next rec flat rows c.loop-port.groups c.push.new.self old c.match-get.marks port
          c.match-get.group.items
          c.loop-port.invariant pushed
          (ap (λ v. v.items) w.group-is ∙ w.in_ok-group-in-Some.ensures.group
          ∙ ap (group_by_marks rec flat old.taken.items) c.new-cell.ensures)
          (λ q. ap (λ m. is_marked m.taken.items q) w.marks-is
          ∙ w.in_ok-group-in-Some.ensures.taken q
          ∙ ap (λ v. is_marked old.taken.items q || list_any (nat_eq q) v.items) (sym w.group-is))
          (subst (AreMarks rec flat rows) (sym w.marks-is) w.in_ok-group-in-Some.ensures.marks)
      | in-None+in_ok-group-in-None w ↦
          so_far_next rec flat rows c.loop-port.groups c.push.new.self old c.match-get.marks port
          c.match-get.group.items
          c.loop-port.invariant pushed
          (ap (λ v. v.items) w.group-is ∙ w.in_ok-group-in-None.ensures.group
          ∙ ap (λ p. p ∷ []) c.new-cell.ensures
          ∙ alone_told rec flat old.taken.items port
          (same_Some (net_of_port flat port) None
          (sym (c.in_ok-nets.ensures port c.loop-port-test.true) ∙ c.get.ensures
          ∙ ap Some w.in-None.is)))
          (λ q. ap (λ m. is_marked m.taken.items q) w.marks-is
          ∙ w.in_ok-group-in-None.ensures.taken q
          ∙ ap (λ v. is_marked old.taken.items q || list_any (nat_eq q) v.items) (sym w.group-is))
          (subst (AreMarks rec flat rows) (sym w.marks-is)
          (w.in_ok-group-in-None.ensures.marks rec flat rows c.loop-port.invariant.are))
    ]

pub returns-clause-groups : goal.returns-clause-groups
returns-clause-groups c =
    so_far_end c.args.device.now c.args.flat.now
    (lists_of c.in_ok-rows.rows.items) c.loop-port.groups c.loop-port.marks
    c.loop-port.port c.loop-port.invariant (omega arith)

pub returns-clause-count : goal.returns-clause-count
returns-clause-count c = c.loop-port.invariant.are.cells

pub returns-clause-marks : goal.returns-clause-marks
returns-clause-marks c = c.loop-port.invariant.marked
