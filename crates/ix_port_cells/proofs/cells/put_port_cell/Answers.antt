use Rattle.std.proofs.Common.{◌≡◌, ◌∙◌, ◌++◌, ◌∷◌, [], ap, sym, subst, List, slice_get, Some, codes}
use Rattle.ix_rec.specs.declared.flow.FlatCell.{FlatCell}
use Rattle.ix_message.specs.Shape.{Text}
use Rattle.ix_hierarchy.specs.Hierarchy.{written}
use Rattle.ix_hierarchy.specs.FlatDesign.{port_type}
use Rattle.ix_port_cells.specs.CellTexts.{AreCells, named_as, port_cell}
use Rattle.ix_port_cells.proofs.Texts.{cells_keep, push_cell, type_text}
use Rattle.ix_port_cells.proofs.cells.put_port_cell.Goals as goal

pub returns-in_ok-push-clause-cells : goal.returns-in_ok-push-clause-cells
returns-in_ok-push-clause-cells c = λ texts port are h towards before.
    let old = c.args.names.now in
    let new = c.add_name.new.names in
    let keeps = c.add_name.ensures.keeps in
    let ty = type_text old c.args.types.now c.args.bit.now.dir c.in-Some.ty are
    (sym c.of.ensures ∙ c.in-Some.is) in
    let text : Text = codes "$port/" ++ written old port c.args.bit.now.index in
    let cell : FlatCell = record { name = c.in_ok-name.name; ty = c.in-Some.ty } in
    let named : slice_get new c.in_ok-name.name ≡ Some text =
    c.in_ok-name.ensures.text ∙ ap Some (c.as_str.ensures.value ∙ c.in_ok-text.ensures port h) in
    let more = push_cell new c.args.cells.now.items texts cell text ty.0
    (cells_keep old new c.args.cells.now.items texts keeps before) named
    (keeps c.in-Some.ty ty.0 ty.2) in
    let same : (text, ty.0) ∷ [] ≡ port_cell old port c.args.bit.now.index =
    ap (λ o. named_as o text) (sym (ap port_type towards ∙ ty.1)) in
    subst (λ (ts : List (Text × Text)). AreCells new c.push.new.self.items (texts ++ ts)) same
    (subst (λ (cs : List FlatCell). AreCells new cs (texts ++ (text, ty.0) ∷ []))
    (sym c.in_ok-push.ensures.items) more)
