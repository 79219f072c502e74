use Rattle.std.proofs.Common.{◌≡◌, ◌<◌, ◌≤◌, ◌∷◌, ◌++◌, ◌-◌, [], ap, sym, ◌∙◌, cond, false, length}
use Rattle.std.proofs.Common.{map, not}
use Rattle.std.proofs.Common.{append-nil, arith}
use Rattle.std.specs.List.{filter, range_with_len}
use Rattle.ix_belmap.specs.Marks.{is_marked}
use Rattle.ix_belmap.proofs.Lists.{within_default}
use Rattle.ix_belmap.proofs.Grouped.{all_groups, alone_next, once}
use Rattle.ix_belmap.proofs.grouping.groups.Goals as goal
use Rattle.ix_belmap.proofs.grouping.groups.Goals.{then-not-index+in_ok-alone+in_ok-push}
use Rattle.ix_belmap.proofs.grouping.groups.Goals.{else-not-index}

pub loop-cell-init : goal.loop-cell-init
loop-cell-init c =
    let none : c.args.flat.now.ports - c.args.flat.now.ports ≡ 0 = omega arith in
    sym (ap (λ n. c.in_ok-groups.groups ++ map (λ q. q ∷ [])
    (filter (λ q. not (is_marked c.in_ok-of_ports.taken.items q))
    (range_with_len c.args.flat.now.ports n))) none
    ∙ append-nil c.in_ok-groups.groups)

pub loop-cell-preserved : goal.loop-cell-preserved
loop-cell-preserved c =
    let taken = c.in_ok-of_ports.taken.items in
    let cell = c.loop-cell.cell in
    let lt : cell < length taken = (let end = c.in_ok-cell-end.ensures in let many =
    c.in_ok-of_ports.ensures.count in
    let len = c.len.ensures in omega arith) in
    let marked : c.index.result.now ≡ is_marked taken cell
    = c.index.ensures ∙ within_default taken cell c.index.result.now false lt in
    let low : c.args.flat.now.ports ≤ cell = c.loop-cell.auto.cell in
    elim c.if-not-index.branch [
      | then-not-index+in_ok-alone+in_ok-push w ↦
          alone_next (λ q. not (is_marked taken q)) c.loop-cell.groups c.if-not-index.groups
          c.in_ok-groups.groups
          c.args.flat.now.ports cell low c.loop-cell.invariant
          (w.groups-is ∙ w.in_ok-push.ensures.ok
          ∙ ap (λ g. c.loop-cell.groups ++ g ∷ [])
          (w.in_ok-alone.ensures ∙ ap (λ q. q ∷ []) w.new.ensures)
          ∙ ap (λ b. c.loop-cell.groups ++ cond (not b) ((cell ∷ []) ∷ []) [])
          (sym w.if-not-index.true ∙ marked))
      | else-not-index w ↦
          alone_next (λ q. not (is_marked taken q)) c.loop-cell.groups c.if-not-index.groups
          c.in_ok-groups.groups
          c.args.flat.now.ports cell low c.loop-cell.invariant
          (w.groups-is ∙ sym (append-nil c.loop-cell.groups)
          ∙ ap (λ b. c.loop-cell.groups ++ cond (not b) ((cell ∷ []) ∷ []) [])
          (sym w.if-not-index.false ∙ marked))
    ]

pub returns-clause-groups : goal.returns-clause-groups
returns-clause-groups c =
    let end : c.loop-cell.cell ≡ length c.args.flat.now.cells =
    (let e = c.in_ok-cell-end.ensures in let l = c.len.ensures in
    let le = c.requires.numbers.ports in omega arith) in
    all_groups c.args.device.now c.args.flat.now c.in_ok-of_ports.of_ports c.loop-cell.groups
    c.in_ok-groups.groups
    c.in_ok-of_ports.taken.items c.in_ok-of_ports.ensures.groups c.in_ok-of_ports.ensures.marks
    c.in_ok-groups.ensures
    (c.loop-cell.invariant ∙ ap (λ n. c.in_ok-groups.groups ++ map (λ q. q ∷ [])
    (filter (λ q. not (is_marked c.in_ok-of_ports.taken.items q))
    (range_with_len c.args.flat.now.ports (n - c.args.flat.now.ports)))) end)

pub returns-clause-once : goal.returns-clause-once
returns-clause-once c =
    once c.args.device.now c.args.flat.now c.loop-cell.groups c.requires.numbers.ports
    (returns-clause-groups c)
