use Rattle.std.proofs.Common.{◌≡◌, ◌<◌, ◌≤◌, ℕ, List, [], ◌∷◌, length, arith, subst, refl, Err}
use Rattle.std.specs.Prelude.{Some, slice_get}
use Rattle.std.proofs.lemmas.List.Concat.{flat_map_single}
use Rattle.std.proofs.lemmas.Option.{slice_get_read}
use Rattle.ix_message.specs.Shape.{Text}
use Rattle.ix_message_write.specs.Table.{name_text}
use Rattle.ix_message_write.specs.Says.{Notes, HasNoted}
use Rattle.ix_message_write.proofs.Turns.{noted_turn, noted_all, note_stops}
use Rattle.ix_message_write.proofs.string_table.Strings.note_all.Goals as goal

pub returns-in-Err : goal.returns-in-Err
returns-in-Err c =
    let names = c.args.names.now in
    let ids = c.args.ids.now in
    let id = c.index-ids-i.result in
    let lt : c.loop-i.i < length ids = omega (arith, c.loop-i-test.true) in
    let is : slice_get ids c.loop-i.i ≡ Some id = slice_get_read ids (length ids) c.loop-i.i id refl lt c.index-ids-i.is in
    subst (λ (u : List Text). Notes {X = Unit {0}} names c.args.self.now c.note.new.self u (Err c.in-Err.fault)) (flat_map_single (name_text names) ids)
    (note_stops names (λ (id : ℕ). name_text names id ∷ []) ids c.loop-i.i id c.args.self.now c.loop-i.self c.note.new.self c.in-Err.fault lt is c.loop-i.invariant c.in-Err.ensures)

pub loop-i-preserved : goal.loop-i-preserved
loop-i-preserved c =
    let names = c.args.names.now in
    let ids = c.args.ids.now in
    let id = c.index-ids-i.result in
    let lt : c.loop-i.i < length ids = omega (arith, c.loop-i-test.true) in
    let is : slice_get ids c.loop-i.i ≡ Some id = slice_get_read ids (length ids) c.loop-i.i id refl lt c.index-ids-i.is in
    noted_turn names (λ (id : ℕ). name_text names id ∷ []) ids c.loop-i.i id c.args.self.now c.loop-i.self c.note.new.self lt is c.loop-i.invariant c.in-Ok.ensures

pub returns : goal.returns
returns c =
    let names = c.args.names.now in
    let ids = c.args.ids.now in
    let le : length ids ≤ c.loop-i.i = omega (arith, c.loop-i-test.false) in
    subst (λ (u : List Text). HasNoted names c.args.self.now c.loop-i.self u) (flat_map_single (name_text names) ids)
    (noted_all names (λ (id : ℕ). name_text names id ∷ []) ids c.loop-i.i c.args.self.now c.loop-i.self le c.loop-i.invariant)
