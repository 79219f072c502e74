use Rattle.std.proofs.Common.{◌≡◌, ◌∙◌, ◌∷◌, [], List, sym, ap, subst, arith}
use Rattle.ix_device_read.specs.Loose.{with_names, AreNumbersOf}
use Rattle.ix_frame.specs.Sound.{sound_list, sound_text}
use Rattle.ix_frame.specs.Target.{Elements}
use Rattle.ix_frame.specs.Views.{object_of, text_elements}
use Rattle.ix_message.specs.Phys.{phys_netlist}
use Rattle.ix_message.specs.Shape.{Text}
use Rattle.ix_schema.specs.Said.{texts_said, table_said}
use Rattle.ix_strings.specs.Names.{with_name}
use Rattle.ix_phys_read.proofs.Texts.{with_names_on, numbers_keep, texts_length}
use Rattle.ix_phys_read.proofs.names.add_names.Goals as goal

pub add_table-requires : goal.add_table-requires
add_table-requires c =
    let l = sound_list 6 (object_of c.args.root) 1 in
    let many = texts_length l.count l 0 in
    let same : (text_elements c.sound_texts.result).count ≡ l.count =
    ap (λ (e : Elements). e.count) c.sound_texts.ensures in
    let room = c.requires in
    omega arith

pub returns-in_err-strings-clause-most : goal.returns-in_err-strings-clause-most
returns-in_err-strings-clause-most c =
    let l = sound_list 6 (object_of c.args.root) 1 in
    let many = texts_length l.count l 0 in
    let same : (text_elements c.sound_texts.result).count ≡ l.count =
    ap (λ (e : Elements). e.count) c.sound_texts.ensures in
    let most = c.in_err-strings.ensures.most in
    omega arith

pub add-requires : goal.add-requires
add-requires c =
    let l = sound_list 6 (object_of c.args.root) 1 in
    let many = texts_length l.count l 0 in
    let same : (text_elements c.sound_texts.result).count ≡ l.count =
    ap (λ (e : Elements). e.count) c.sound_texts.ensures in
    let most = c.in_ok-strings.ensures.most in
    let room = c.requires in
    omega arith

pub returns-in_err-part-clause-most : goal.returns-in_err-part-clause-most
returns-in_err-part-clause-most c =
    let l = sound_list 6 (object_of c.args.root) 1 in
    let many = texts_length l.count l 0 in
    let same : (text_elements c.sound_texts.result).count ≡ l.count =
    ap (λ (e : Elements). e.count) c.sound_texts.ensures in
    let most = c.in_ok-strings.ensures.most in
    let more = c.in_err-part.ensures.one_more in
    omega arith

pub returns-clause-adds : goal.returns-clause-adds
returns-clause-adds c =
    let o = object_of c.args.root in
    let table : List Text = table_said phys_netlist o in
    let added : c.add_table.new.names ≡ with_names c.args.names.now table =
    subst (λ (l : Elements). c.add_table.new.names ≡ with_names c.args.names.now
    (texts_said l.count l 0)) c.sound_texts.ensures c.in_ok-strings.ensures.adds in
    rw c.sound_text.ensures at c.in_ok-part.ensures.names
    ∙ ap (λ (names : List Text). with_name names (sound_text o 0)) added
    ∙ sym (with_names_on c.args.names.now table (sound_text o 0 ∷ []))

pub returns-clause-strings : goal.returns-clause-strings
returns-clause-strings c =
    let table : List Text = table_said phys_netlist (object_of c.args.root) in
    let numbers = subst (λ (l : Elements). AreNumbersOf c.add_table.new.names
    c.in_ok-strings.strings (texts_said l.count l 0)) c.sound_texts.ensures
    c.in_ok-strings.ensures.numbers in
    numbers_keep c.add_table.new.names c.add.new.self c.in_ok-part.ensures.keeps
    c.in_ok-strings.strings table numbers

pub returns-clause-most : goal.returns-clause-most
returns-clause-most c =
    let l = sound_list 6 (object_of c.args.root) 1 in
    let many = texts_length l.count l 0 in
    let same : (text_elements c.sound_texts.result).count ≡ l.count =
    ap (λ (e : Elements). e.count) c.sound_texts.ensures in
    let most = c.in_ok-strings.ensures.most in
    let more = c.in_ok-part.ensures.one_more in
    omega arith
