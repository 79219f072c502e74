use Rattle.std.proofs.Common.{rules, ◌≡◌, ◌<◌, Some, length, slice_get, arith, refl}
use Rattle.std.proofs.Common.{sym, ap, ◌∙◌}
use Rattle.std.proofs.lemmas.Option.{slice_get_read}
use Rattle.ix_reach.proofs.CellLemmas.{cells_end, behind_some, behind_none, none_no}
use Rattle.ix_reach.proofs.cells.has_two.Goals as goal

pub index-requires-in-Some : goal.index-requires-in-Some
index-requires-in-Some c =
    let many : length c.args.cells.now.first.items ≡ length c.args.rec.now.cell_decls =
    c.requires.cells.first_many in
    let within : c.args.declaration < length c.args.rec.now.cell_decls = c.requires.within in
    let at : slice_get c.args.cells.now.first.items c.args.declaration ≡ Some c.index.result.now =
    slice_get_read c.args.cells.now.first.items (length c.args.cells.now.first.items)
    c.args.declaration c.index.result.now refl (omega arith) c.index.ensures in
    let lt : c.in-Some.cell < length c.args.cells.now.next.items =
    cells_end c.args.rec.now c.args.cells.now.first.items c.args.cells.now.next.items
    c.args.declaration c.in-Some.cell c.requires.cells (at ∙ ap Some c.in-Some.is) in
    search rules

pub returns-in-Some-clause-yes : goal.returns-in-Some-clause-yes
returns-in-Some-clause-yes c = λ yes.
    let many : length c.args.cells.now.first.items ≡ length c.args.rec.now.cell_decls =
    c.requires.cells.first_many in
    let within : c.args.declaration < length c.args.rec.now.cell_decls = c.requires.within in
    let at : slice_get c.args.cells.now.first.items c.args.declaration ≡ Some c.index.result.now =
    slice_get_read c.args.cells.now.first.items (length c.args.cells.now.first.items)
    c.args.declaration c.index.result.now refl (omega arith) c.index.ensures in
    behind_some c.args.rec.now c.args.cells.now.first.items c.args.cells.now.next.items
    c.args.declaration c.in-Some.cell c.index-in-Some.result.now c.requires.cells
    (at ∙ ap Some c.in-Some.is) c.index-in-Some.ensures (sym c.is_some.ensures ∙ yes)

pub returns-in-Some-clause-no : goal.returns-in-Some-clause-no
returns-in-Some-clause-no c = λ no.
    let many : length c.args.cells.now.first.items ≡ length c.args.rec.now.cell_decls =
    c.requires.cells.first_many in
    let within : c.args.declaration < length c.args.rec.now.cell_decls = c.requires.within in
    let at : slice_get c.args.cells.now.first.items c.args.declaration ≡ Some c.index.result.now =
    slice_get_read c.args.cells.now.first.items (length c.args.cells.now.first.items)
    c.args.declaration c.index.result.now refl (omega arith) c.index.ensures in
    behind_none c.args.rec.now c.args.cells.now.first.items c.args.cells.now.next.items
    c.args.declaration c.in-Some.cell c.index-in-Some.result.now c.requires.cells
    (at ∙ ap Some c.in-Some.is) c.index-in-Some.ensures (sym c.is_some.ensures ∙ no)

pub returns-in-None-clause-no : goal.returns-in-None-clause-no
returns-in-None-clause-no c = λ same.
    let many : length c.args.cells.now.first.items ≡ length c.args.rec.now.cell_decls =
    c.requires.cells.first_many in
    let within : c.args.declaration < length c.args.rec.now.cell_decls = c.requires.within in
    let at : slice_get c.args.cells.now.first.items c.args.declaration ≡ Some c.index.result.now =
    slice_get_read c.args.cells.now.first.items (length c.args.cells.now.first.items)
    c.args.declaration c.index.result.now refl (omega arith) c.index.ensures in
    none_no c.args.rec.now c.args.cells.now.first.items c.args.cells.now.next.items
    c.args.declaration c.requires.cells (at ∙ ap Some c.in-None.is)
