use Rattle.std.proofs.Common.{◌++◌, List, [], map, sym, subst}
use Rattle.std.specs.List.{flat_map}
use Rattle.std.proofs.lemmas.List.{append-nil}
use Rattle.ix_message.specs.Shape.{Text}
use Rattle.ix_message.specs.Names.{uses, part_uses}
use Rattle.ix_message.specs.Phys.{cell_placement, phys_net, site_instance, property}
use Rattle.ix_message_write.specs.Says.{HasNoted}
use Rattle.ix_message_write.proofs.Steps.{noted_then, noted_stop, noted_first}
use Rattle.ix_phys_write.specs.Record.{placement_record, site_instance_record, property_record, net_record}
use Rattle.ix_phys_write.proofs.netlist.NetlistStructWriter.note.Goals as goal

pub returns-in-Err : goal.returns-in-Err
unfolding uses part_uses
returns-in-Err c =
    let names = c.args.names.now in
    let p = c.args.item.now in
    let us = flat_map (uses cell_placement) (map (placement_record names) p.placements) in
    let vs = flat_map (uses phys_net) (map (net_record names) p.nets) in
    let ws = flat_map (uses site_instance) (map (site_instance_record names) p.site_insts) in
    let zs = flat_map (uses property) (map (property_record names) p.properties) in
    noted_first names c.args.strings.now c.note_list.new.strings us (vs ++ (ws ++ (zs ++ []))) c.in-Err.fault c.in-Err.ensures

pub returns-in-Err-note_list : goal.returns-in-Err-note_list
unfolding uses part_uses
returns-in-Err-note_list c =
    let names = c.args.names.now in
    let p = c.args.item.now in
    let us = flat_map (uses cell_placement) (map (placement_record names) p.placements) in
    let vs = flat_map (uses phys_net) (map (net_record names) p.nets) in
    let ws = flat_map (uses site_instance) (map (site_instance_record names) p.site_insts) in
    let zs = flat_map (uses property) (map (property_record names) p.properties) in
    noted_stop names c.args.strings.now c.note_list.new.strings c.note_list-2.new.strings us (vs ++ (ws ++ (zs ++ []))) c.in-Err-note_list.fault c.in-Ok.ensures (noted_first names c.note_list.new.strings c.note_list-2.new.strings vs (ws ++ (zs ++ [])) c.in-Err-note_list.fault c.in-Err-note_list.ensures)

pub returns-in-Err-note_list-2 : goal.returns-in-Err-note_list-2
unfolding uses part_uses
returns-in-Err-note_list-2 c =
    let names = c.args.names.now in
    let p = c.args.item.now in
    let us = flat_map (uses cell_placement) (map (placement_record names) p.placements) in
    let vs = flat_map (uses phys_net) (map (net_record names) p.nets) in
    let ws = flat_map (uses site_instance) (map (site_instance_record names) p.site_insts) in
    let zs = flat_map (uses property) (map (property_record names) p.properties) in
    noted_stop names c.args.strings.now c.note_list.new.strings c.note_list-3.new.strings us (vs ++ (ws ++ (zs ++ []))) c.in-Err-note_list-2.fault c.in-Ok.ensures (noted_stop names c.note_list.new.strings c.note_list-2.new.strings c.note_list-3.new.strings vs (ws ++ (zs ++ [])) c.in-Err-note_list-2.fault c.in-Ok-note_list.ensures (noted_first names c.note_list-2.new.strings c.note_list-3.new.strings ws (zs ++ []) c.in-Err-note_list-2.fault c.in-Err-note_list-2.ensures))

pub returns-in-Err-note_list-3 : goal.returns-in-Err-note_list-3
unfolding uses part_uses
returns-in-Err-note_list-3 c =
    let names = c.args.names.now in
    let p = c.args.item.now in
    let us = flat_map (uses cell_placement) (map (placement_record names) p.placements) in
    let vs = flat_map (uses phys_net) (map (net_record names) p.nets) in
    let ws = flat_map (uses site_instance) (map (site_instance_record names) p.site_insts) in
    let zs = flat_map (uses property) (map (property_record names) p.properties) in
    noted_stop names c.args.strings.now c.note_list.new.strings c.note_list-4.new.strings us (vs ++ (ws ++ (zs ++ []))) c.in-Err-note_list-3.fault c.in-Ok.ensures (noted_stop names c.note_list.new.strings c.note_list-2.new.strings c.note_list-4.new.strings vs (ws ++ (zs ++ [])) c.in-Err-note_list-3.fault c.in-Ok-note_list.ensures (noted_stop names c.note_list-2.new.strings c.note_list-3.new.strings c.note_list-4.new.strings ws (zs ++ []) c.in-Err-note_list-3.fault c.in-Ok-note_list-2.ensures (noted_first names c.note_list-3.new.strings c.note_list-4.new.strings zs [] c.in-Err-note_list-3.fault c.in-Err-note_list-3.ensures)))

pub returns-in-Ok-note_list-3 : goal.returns-in-Ok-note_list-3
unfolding uses part_uses
returns-in-Ok-note_list-3 c =
    let names = c.args.names.now in
    let p = c.args.item.now in
    let us = flat_map (uses cell_placement) (map (placement_record names) p.placements) in
    let vs = flat_map (uses phys_net) (map (net_record names) p.nets) in
    let ws = flat_map (uses site_instance) (map (site_instance_record names) p.site_insts) in
    let zs = flat_map (uses property) (map (property_record names) p.properties) in
    noted_then names c.args.strings.now c.note_list.new.strings c.note_list-4.new.strings us (vs ++ (ws ++ (zs ++ []))) c.in-Ok.ensures (noted_then names c.note_list.new.strings c.note_list-2.new.strings c.note_list-4.new.strings vs (ws ++ (zs ++ [])) c.in-Ok-note_list.ensures (noted_then names c.note_list-2.new.strings c.note_list-3.new.strings c.note_list-4.new.strings ws (zs ++ []) c.in-Ok-note_list-2.ensures (subst (λ (t : List Text). HasNoted names c.note_list-3.new.strings c.note_list-4.new.strings t) (sym (append-nil zs)) c.in-Ok-note_list-3.ensures)))
