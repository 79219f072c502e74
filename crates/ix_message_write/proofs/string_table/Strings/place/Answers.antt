use Rattle.std.proofs.Common.{◌≡◌, ◌<◌, ℕ, ap, arith, length, get_or, sym, ◌∙◌}
use Rattle.std.proofs.lemmas.List.{length-map, get_or_read}
use Rattle.ix_message_write.specs.Table.{name_text, table_in}
use Rattle.ix_message_write.proofs.FirstUses.{place_none, lacks_by_place}
use Rattle.ix_message_write.proofs.string_table.Strings.place.Goals as goal

pub returns-in-0 : goal.returns-in-0
returns-in-0 c =
    let names = c.args.names.now in
    let table = table_in names c.args.self.now in
    let t = name_text names c.args.id in
    let places = c.args.self.now.places.items in
    let lt : c.get.result < length places = omega (arith, c.get.ensures, c.requires.named, c.requires.table.long) in
    let read : c.index.result.now ≡ get_or places c.args.id 0 = get_or_read places c.get.result c.index.result.now lt c.index.ensures 0 ∙ ap (λ (k : ℕ). get_or places k 0) c.get.ensures in
    let count : c.len.result ≡ length c.args.self.now.used.items = omega (arith, c.len.ensures) in
    let placed = c.requires.table.placed c.args.id c.requires.named in
    count ∙ sym (length-map c.args.self.now.used.items (name_text names)) ∙ sym (place_none table t (lacks_by_place table t (sym placed ∙ sym read ∙ c.in-0.is)))
