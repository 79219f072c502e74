use Rattle.std.proofs.Common.{◌++◌, List, [], ◌∷◌, map, sym, subst, Err}
use Rattle.std.specs.List.{flat_map}
use Rattle.std.proofs.lemmas.List.{append-nil}
use Rattle.ix_message.specs.Shape.{Text}
use Rattle.ix_message.specs.Names.{uses, part_uses}
use Rattle.ix_message.specs.Phys.{pin_mapping}
use Rattle.ix_message_write.specs.Table.{name_text}
use Rattle.ix_message_write.specs.Says.{Notes, HasNoted}
use Rattle.ix_message_write.proofs.Steps.{noted_then, noted_stop, noted_first}
use Rattle.ix_phys_write.specs.Record.{pin_mapping_record}
use Rattle.ix_phys_write.proofs.cells.PlacementsStructWriter.note.Goals as goal

pub returns-in-Err : goal.returns-in-Err
unfolding uses part_uses
returns-in-Err c =
    let names = c.args.names.now in
    let p = c.args.item.now in
    noted_first names c.args.strings.now c.note_all.new.self (map (name_text names) (p.cell_name ∷ p.ty ∷ p.site ∷ p.bel ∷ [])) (flat_map (uses pin_mapping) (map (pin_mapping_record names) p.pin_map) ++ []) c.in-Err.fault c.in-Err.ensures

pub returns-in-Ok-note_list : goal.returns-in-Ok-note_list
unfolding uses part_uses
returns-in-Ok-note_list c =
    let names = c.args.names.now in
    let p = c.args.item.now in
    let us = map (name_text names) (p.cell_name ∷ p.ty ∷ p.site ∷ p.bel ∷ []) in
    let vs = flat_map (uses pin_mapping) (map (pin_mapping_record names) p.pin_map) in
    subst (λ (t : List Text). HasNoted names c.args.strings.now c.note_list.new.strings (us ++ t)) (sym (append-nil vs)) (noted_then names c.args.strings.now c.note_all.new.self c.note_list.new.strings us vs c.in-Ok.ensures c.in-Ok-note_list.ensures)

pub returns-in-Err-note_list : goal.returns-in-Err-note_list
unfolding uses part_uses
returns-in-Err-note_list c =
    let names = c.args.names.now in
    let p = c.args.item.now in
    let us = map (name_text names) (p.cell_name ∷ p.ty ∷ p.site ∷ p.bel ∷ []) in
    let vs = flat_map (uses pin_mapping) (map (pin_mapping_record names) p.pin_map) in
    subst (λ (t : List Text). Notes {X = Unit {0}} names c.args.strings.now c.note_list.new.strings (us ++ t) (Err c.in-Err-note_list.fault)) (sym (append-nil vs)) (noted_stop names c.args.strings.now c.note_all.new.self c.note_list.new.strings us vs c.in-Err-note_list.fault c.in-Ok.ensures c.in-Err-note_list.ensures)
