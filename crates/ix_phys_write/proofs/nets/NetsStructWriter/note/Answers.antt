use Rattle.std.proofs.Common.{◌++◌, List, [], ◌∷◌, sym, subst}
use Rattle.std.proofs.lemmas.List.{append-nil}
use Rattle.ix_message.specs.Shape.{Text}
use Rattle.ix_message.specs.Names.{uses, part_uses, branch_uses, branches_map}
use Rattle.ix_message_write.specs.Table.{name_text}
use Rattle.ix_message_write.specs.Says.{HasNoted}
use Rattle.ix_message_write.proofs.Steps.{noted_then, noted_stop, noted_first}
use Rattle.ix_phys_write.specs.Trees.{trees_at}
use Rattle.ix_phys_write.specs.Record.{segment_row}
use Rattle.ix_phys_write.proofs.nets.NetsStructWriter.note.Goals as goal

pub returns-in-Err : goal.returns-in-Err
unfolding uses part_uses
returns-in-Err c =
    let names = c.args.names.now in
    let n = c.args.item.now in
    let us = name_text names n.name ∷ [] in
    let vs = branch_uses (branches_map (segment_row names) (trees_at 0 n.sources)) in
    let ws = branch_uses (branches_map (segment_row names) (trees_at 0 n.stubs)) in
    noted_first names c.args.strings.now c.note_all.new.self us (vs ++ (ws ++ [])) c.in-Err.fault c.in-Err.ensures

pub returns-in-Err-note_branches : goal.returns-in-Err-note_branches
unfolding uses part_uses
returns-in-Err-note_branches c =
    let names = c.args.names.now in
    let n = c.args.item.now in
    let us = name_text names n.name ∷ [] in
    let vs = branch_uses (branches_map (segment_row names) (trees_at 0 n.sources)) in
    let ws = branch_uses (branches_map (segment_row names) (trees_at 0 n.stubs)) in
    noted_stop names c.args.strings.now c.note_all.new.self c.note_branches.new.strings us (vs ++ (ws ++ [])) c.in-Err-note_branches.fault c.in-Ok.ensures (noted_first names c.note_all.new.self c.note_branches.new.strings vs (ws ++ []) c.in-Err-note_branches.fault c.in-Err-note_branches.ensures)

pub returns-in-Err-note_branches-2 : goal.returns-in-Err-note_branches-2
unfolding uses part_uses
returns-in-Err-note_branches-2 c =
    let names = c.args.names.now in
    let n = c.args.item.now in
    let us = name_text names n.name ∷ [] in
    let vs = branch_uses (branches_map (segment_row names) (trees_at 0 n.sources)) in
    let ws = branch_uses (branches_map (segment_row names) (trees_at 0 n.stubs)) in
    noted_stop names c.args.strings.now c.note_all.new.self c.note_branches-2.new.strings us (vs ++ (ws ++ [])) c.in-Err-note_branches-2.fault c.in-Ok.ensures (noted_stop names c.note_all.new.self c.note_branches.new.strings c.note_branches-2.new.strings vs (ws ++ []) c.in-Err-note_branches-2.fault c.in-Ok-note_branches.ensures (noted_first names c.note_branches.new.strings c.note_branches-2.new.strings ws [] c.in-Err-note_branches-2.fault c.in-Err-note_branches-2.ensures))

pub returns-in-Ok-note_branches-2 : goal.returns-in-Ok-note_branches-2
unfolding uses part_uses
returns-in-Ok-note_branches-2 c =
    let names = c.args.names.now in
    let n = c.args.item.now in
    let us = name_text names n.name ∷ [] in
    let vs = branch_uses (branches_map (segment_row names) (trees_at 0 n.sources)) in
    let ws = branch_uses (branches_map (segment_row names) (trees_at 0 n.stubs)) in
    noted_then names c.args.strings.now c.note_all.new.self c.note_branches-2.new.strings us (vs ++ (ws ++ [])) c.in-Ok.ensures (noted_then names c.note_all.new.self c.note_branches.new.strings c.note_branches-2.new.strings vs (ws ++ []) c.in-Ok-note_branches.ensures (subst (λ (t : List Text). HasNoted names c.note_branches.new.strings c.note_branches-2.new.strings t) (sym (append-nil ws)) c.in-Ok-note_branches-2.ensures))
