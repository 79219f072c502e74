use Rattle.std.proofs.Common.{◌<◌, ◌≤◌, List, length, arith, sym, subst, Err}
use Rattle.std.proofs.lemmas.List.Folds.{flat_map-map}
use Rattle.ix_message.specs.Shape.{Text}
use Rattle.ix_message.specs.Names.{uses}
use Rattle.ix_message_write.specs.Says.{Notes, HasNoted}
use Rattle.ix_message_write.proofs.Turns.{noted_turn, noted_all, note_stops}
use Rattle.ix_message_write.proofs.lists.note_list.Goals as goal

pub returns-in-Err : goal.returns-in-Err
returns-in-Err g c =
    let names = c.args.names.now in
    let lt : c.loop-i.i < length c.args.list.now = omega (arith, c.len-i-end.ensures, c.loop-i-test.true) in
    subst (λ (u : List Text). Notes {X = Unit {0}} names c.args.strings.now c.note.new.strings u (Err c.in-Err.fault))
    (sym (flat_map-map (uses g.T.StructWriter.shape) (g.T.StructWriter.record_by names) c.args.list.now))
    (note_stops names _ c.args.list.now c.loop-i.i c.at.result.now c.args.strings.now c.loop-i.strings c.note.new.strings c.in-Err.fault lt c.at.ensures c.loop-i.invariant c.in-Err.ensures)

pub loop-i-preserved : goal.loop-i-preserved
loop-i-preserved g c =
    let lt : c.loop-i.i < length c.args.list.now = omega (arith, c.len-i-end.ensures, c.loop-i-test.true) in
    noted_turn c.args.names.now _ c.args.list.now c.loop-i.i c.at.result.now c.args.strings.now c.loop-i.strings c.note.new.strings lt c.at.ensures c.loop-i.invariant c.in-Ok.ensures

pub returns : goal.returns
returns g c =
    let names = c.args.names.now in
    let le : length c.args.list.now ≤ c.loop-i.i = omega (arith, c.len-i-end.ensures, c.loop-i-test.false) in
    subst (λ (u : List Text). HasNoted names c.args.strings.now c.loop-i.strings u)
    (sym (flat_map-map (uses g.T.StructWriter.shape) (g.T.StructWriter.record_by names) c.args.list.now))
    (noted_all names _ c.args.list.now c.loop-i.i c.args.strings.now c.loop-i.strings le c.loop-i.invariant)
