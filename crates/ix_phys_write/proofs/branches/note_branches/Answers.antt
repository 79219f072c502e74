use Rattle.std.proofs.Common.{◌<◌, ◌≤◌, List, length, arith, subst, Err}
use Rattle.ix_message.specs.Shape.{Text}
use Rattle.ix_message_write.specs.Says.{Notes, HasNoted}
use Rattle.ix_message_write.proofs.Turns.{noted_turn, noted_all, note_stops}
use Rattle.ix_phys_write.specs.Record.{segment_row}
use Rattle.ix_phys_write.proofs.Levels.{uses_in_preorder}
use Rattle.ix_phys_write.proofs.branches.note_branches.Goals as goal

pub returns-in-Err : goal.returns-in-Err
returns-in-Err c =
    let names = c.args.names.now in
    let lt : c.loop-i.i < length c.args.forest.now = omega (arith, c.len-i-end.ensures.count, c.loop-i-test.true) in
    subst (λ (u : List Text). Notes {X = Unit {0}} names c.args.strings.now c.note_branch.new.strings u (Err c.in-Err.fault)) (uses_in_preorder (segment_row names) c.args.forest.now c.len-i-end.ensures.preorder)
    (note_stops names _ c.args.forest.now c.loop-i.i c.at.result.now c.args.strings.now c.loop-i.strings c.note_branch.new.strings c.in-Err.fault lt c.at.ensures.branch c.loop-i.invariant c.in-Err.ensures)

pub loop-i-preserved : goal.loop-i-preserved
loop-i-preserved c =
    let lt : c.loop-i.i < length c.args.forest.now = omega (arith, c.len-i-end.ensures.count, c.loop-i-test.true) in
    noted_turn c.args.names.now _ c.args.forest.now c.loop-i.i c.at.result.now c.args.strings.now c.loop-i.strings c.note_branch.new.strings lt c.at.ensures.branch c.loop-i.invariant c.in-Ok.ensures

pub returns : goal.returns
returns c =
    let names = c.args.names.now in
    let le : length c.args.forest.now ≤ c.loop-i.i = omega (arith, c.len-i-end.ensures.count, c.loop-i-test.false) in
    subst (λ (u : List Text). HasNoted names c.args.strings.now c.loop-i.strings u) (uses_in_preorder (segment_row names) c.args.forest.now c.len-i-end.ensures.preorder)
    (noted_all names _ c.args.forest.now c.loop-i.i c.args.strings.now c.loop-i.strings le c.loop-i.invariant)
