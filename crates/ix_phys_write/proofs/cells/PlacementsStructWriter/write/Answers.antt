use Rattle.std.proofs.Common.{◌≡◌, ◌+◌, ◌*◌, ◌∙◌, ℕ, List, [], ◌∷◌, map, ap, arith, subst, refl}
use Rattle.ix_message.specs.Names.{numbered, parts_numbered, place_in}
use Rattle.ix_message.specs.Layout.{section_of, all_laid, data_section, structs_laid}
use Rattle.ix_message.specs.Phys.{pin_mapping, cell_placement}
use Rattle.ix_capw.specs.Growth.{written, pointer_word}
use Rattle.ix_message_write.specs.Table.{table_in, name_text}
use Rattle.ix_message_write.specs.Says.{HasPut}
use Rattle.ix_message_write.proofs.Steps.{put_none, put_then, refused_first, struct_written, struct_refused}
use Rattle.ix_phys_write.specs.Record.{pin_mapping_record, placement_record}
use Rattle.ix_phys_write.proofs.cells.PlacementsStructWriter.write.Goals as goal

pub returns-in-Ok : goal.returns-in-Ok
unfolding section_of all_laid numbered parts_numbered
returns-in-Ok c =
    let names = c.args.names.now in
    let table = table_in names c.args.strings.now in
    let place = λ (id : ℕ). place_in table (name_text names id) in
    let S = c.args.builder.now in
    let p = c.args.at.start in
    let e = section_of table cell_placement (numbered (place_in table) cell_placement (placement_record names c.args.item.now)) in
    let pins = structs_laid (map (section_of table pin_mapping) (map (numbered (place_in table) pin_mapping) (map (pin_mapping_record names) c.args.item.now.pin_map))) in
    let word : pointer_word c.args.at 0 ≡ p + 2 = omega (arith, c.requires.words) in
    let row : c.place.result ∷ c.place-2.result ∷ c.place-3.result ∷ c.place-4.result ∷ [] ≡ place c.args.item.now.cell_name ∷ place c.args.item.now.ty ∷ place c.args.item.now.site ∷ place c.args.item.now.bel ∷ [] = ap (λ (t : ℕ). t ∷ c.place-2.result ∷ c.place-3.result ∷ c.place-4.result ∷ []) c.place.ensures ∙ ap (λ (t : ℕ). place c.args.item.now.cell_name ∷ t ∷ c.place-3.result ∷ c.place-4.result ∷ []) c.place-2.ensures ∙ ap (λ (t : ℕ). place c.args.item.now.cell_name ∷ place c.args.item.now.ty ∷ t ∷ c.place-4.result ∷ []) c.place-3.ensures ∙ ap (λ (t : ℕ). place c.args.item.now.cell_name ∷ place c.args.item.now.ty ∷ place c.args.item.now.site ∷ t ∷ []) c.place-4.ensures in
    let S1 = c.write_row.new.builder in
    let made : S1 ≡ written (8 * p) (8 * 2) (data_section (place c.args.item.now.cell_name ∷ place c.args.item.now.ty ∷ place c.args.item.now.site ∷ place c.args.item.now.bel ∷ [])) S =
    c.write_row.ensures.made ∙ ap (λ (k : ℕ). written (8 * p) (8 * k) (data_section (c.place.result ∷ c.place-2.result ∷ c.place-3.result ∷ c.place-4.result ∷ [])) S) c.requires.words ∙ ap (λ (r : List ℕ). written (8 * p) (8 * 2) (data_section r) S) row in
    let S2 = c.write_list.new.builder in
    let put : HasPut (p + 2) pins S1 S2 = subst (λ (k : ℕ). HasPut k pins S1 S2) word c.in-Ok.ensures in
    struct_written p 2 e S S1 S2 refl made (put_then (p + 2) pins [] S1 S2 S2 put (put_none (p + 2 + 1) S2 put.segment))

pub returns-in-Err : goal.returns-in-Err
unfolding section_of all_laid numbered parts_numbered
returns-in-Err c =
    let names = c.args.names.now in
    let table = table_in names c.args.strings.now in
    let place = λ (id : ℕ). place_in table (name_text names id) in
    let S = c.args.builder.now in
    let p = c.args.at.start in
    let e = section_of table cell_placement (numbered (place_in table) cell_placement (placement_record names c.args.item.now)) in
    let pins = structs_laid (map (section_of table pin_mapping) (map (numbered (place_in table) pin_mapping) (map (pin_mapping_record names) c.args.item.now.pin_map))) in
    let word : pointer_word c.args.at 0 ≡ p + 2 = omega (arith, c.requires.words) in
    let row : c.place.result ∷ c.place-2.result ∷ c.place-3.result ∷ c.place-4.result ∷ [] ≡ place c.args.item.now.cell_name ∷ place c.args.item.now.ty ∷ place c.args.item.now.site ∷ place c.args.item.now.bel ∷ [] = ap (λ (t : ℕ). t ∷ c.place-2.result ∷ c.place-3.result ∷ c.place-4.result ∷ []) c.place.ensures ∙ ap (λ (t : ℕ). place c.args.item.now.cell_name ∷ t ∷ c.place-3.result ∷ c.place-4.result ∷ []) c.place-2.ensures ∙ ap (λ (t : ℕ). place c.args.item.now.cell_name ∷ place c.args.item.now.ty ∷ t ∷ c.place-4.result ∷ []) c.place-3.ensures ∙ ap (λ (t : ℕ). place c.args.item.now.cell_name ∷ place c.args.item.now.ty ∷ place c.args.item.now.site ∷ t ∷ []) c.place-4.ensures in
    let S1 = c.write_row.new.builder in
    let made : S1 ≡ written (8 * p) (8 * 2) (data_section (place c.args.item.now.cell_name ∷ place c.args.item.now.ty ∷ place c.args.item.now.site ∷ place c.args.item.now.bel ∷ [])) S =
    c.write_row.ensures.made ∙ ap (λ (k : ℕ). written (8 * p) (8 * k) (data_section (c.place.result ∷ c.place-2.result ∷ c.place-3.result ∷ c.place-4.result ∷ [])) S) c.requires.words ∙ ap (λ (r : List ℕ). written (8 * p) (8 * 2) (data_section r) S) row in
    let S2 = c.write_list.new.builder in
    struct_refused p 2 e S S1 S2 c.in-Err.fault refl (omega (arith, c.requires.inside, c.requires.words)) made (refused_first (pointer_word c.args.at 0) pins [] S1 S2 c.in-Err.fault c.in-Err.ensures)
