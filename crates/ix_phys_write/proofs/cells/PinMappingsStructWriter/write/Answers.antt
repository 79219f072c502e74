use Rattle.std.proofs.Common.{◌≡◌, ◌+◌, ◌*◌, ◌∙◌, ℕ, List, [], ◌∷◌, ap, refl}
use Rattle.ix_message.specs.Names.{numbered, parts_numbered, place_in}
use Rattle.ix_message.specs.Layout.{section_of, all_laid, data_section}
use Rattle.ix_message.specs.Phys.{pin_mapping}
use Rattle.ix_capw.specs.Growth.{written}
use Rattle.ix_message_write.specs.Table.{table_in, name_text}
use Rattle.ix_message_write.proofs.Steps.{put_none, struct_written}
use Rattle.ix_phys_write.specs.Record.{pin_mapping_record}
use Rattle.ix_phys_write.proofs.cells.PinMappingsStructWriter.write.Goals as goal

pub returns : goal.returns
unfolding section_of all_laid numbered parts_numbered
returns c =
    let names = c.args.names.now in
    let table = table_in names c.args.strings.now in
    let place = λ (id : ℕ). place_in table (name_text names id) in
    let e = section_of table pin_mapping (numbered (place_in table) pin_mapping (pin_mapping_record names c.args.item.now)) in
    let S = c.args.builder.now in
    let p = c.args.at.start in
    let row : c.place.result ∷ c.place-2.result ∷ c.place-3.result ∷ [] ≡ place c.args.item.now.cell_pin ∷ place c.args.item.now.bel ∷ place c.args.item.now.bel_pin ∷ [] = ap (λ (t : ℕ). t ∷ c.place-2.result ∷ c.place-3.result ∷ []) c.place.ensures ∙ ap (λ (t : ℕ). place c.args.item.now.cell_pin ∷ t ∷ c.place-3.result ∷ []) c.place-2.ensures ∙ ap (λ (t : ℕ). place c.args.item.now.cell_pin ∷ place c.args.item.now.bel ∷ t ∷ []) c.place-3.ensures in
    let made : c.write_row.new.builder ≡ written (8 * p) (8 * 2) (data_section (place c.args.item.now.cell_pin ∷ place c.args.item.now.bel ∷ place c.args.item.now.bel_pin ∷ [])) S =
    c.write_row.ensures.made ∙ ap (λ (k : ℕ). written (8 * p) (8 * k) (data_section (c.place.result ∷ c.place-2.result ∷ c.place-3.result ∷ [])) S) c.requires.words ∙ ap (λ (r : List ℕ). written (8 * p) (8 * 2) (data_section r) S) row in
    struct_written p 2 e S c.write_row.new.builder c.write_row.new.builder refl made (put_none (p + 2) c.write_row.new.builder c.write_row.ensures.segment)
