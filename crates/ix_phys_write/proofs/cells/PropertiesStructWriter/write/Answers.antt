use Rattle.std.proofs.Common.{◌≡◌, ◌+◌, ◌*◌, ◌∙◌, ℕ, List, [], ◌∷◌, ap, refl}
use Rattle.ix_message.specs.Names.{numbered, parts_numbered, place_in}
use Rattle.ix_message.specs.Layout.{section_of, all_laid, data_section}
use Rattle.ix_message.specs.Phys.{property}
use Rattle.ix_capw.specs.Growth.{written}
use Rattle.ix_message_write.specs.Table.{table_in, name_text}
use Rattle.ix_message_write.proofs.Steps.{put_none, struct_written}
use Rattle.ix_phys_write.specs.Record.{property_record}
use Rattle.ix_phys_write.proofs.cells.PropertiesStructWriter.write.Goals as goal

pub returns : goal.returns
unfolding section_of all_laid numbered parts_numbered
returns c =
    let names = c.args.names.now in
    let table = table_in names c.args.strings.now in
    let place = λ (id : ℕ). place_in table (name_text names id) in
    let e = section_of table property (numbered (place_in table) property (property_record names c.args.item.now)) in
    let S = c.args.builder.now in
    let p = c.args.at.start in
    let row : c.place.result ∷ c.place-2.result ∷ [] ≡ place c.args.item.now.key ∷ place c.args.item.now.value ∷ [] = ap (λ (t : ℕ). t ∷ c.place-2.result ∷ []) c.place.ensures ∙ ap (λ (t : ℕ). place c.args.item.now.key ∷ t ∷ []) c.place-2.ensures in
    let made : c.write_row.new.builder ≡ written (8 * p) (8 * 1) (data_section (place c.args.item.now.key ∷ place c.args.item.now.value ∷ [])) S =
    c.write_row.ensures.made ∙ ap (λ (k : ℕ). written (8 * p) (8 * k) (data_section (c.place.result ∷ c.place-2.result ∷ [])) S) c.requires.words ∙ ap (λ (r : List ℕ). written (8 * p) (8 * 1) (data_section r) S) row in
    struct_written p 1 e S c.write_row.new.builder c.write_row.new.builder refl made (put_none (p + 1) c.write_row.new.builder c.write_row.ensures.segment)
