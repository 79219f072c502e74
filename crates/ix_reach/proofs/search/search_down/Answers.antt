use Rattle.std.proofs.Common.{◌≡◌, ◌<◌, length, refl, sym, ap, ◌∙◌, subst, arith}
use Rattle.std.proofs.lemmas.Option.{slice_get_read}
use Rattle.ix_reach.specs.Searching.{IsSearch}
use Rattle.ix_reach.specs.State.{entered}
use Rattle.ix_reach.proofs.Starting.{first_search}
use Rattle.ix_reach.proofs.search.search_down.Goals as goal

pub loop-visit-init : goal.loop-visit-init
loop-visit-init c =
    let lt : c.args.rec.now.top_inst.cell < length c.args.rec.now.cell_decls =
    c.requires.fits.top in
    let many : length c.args.cells.now.first.items ≡ length c.args.rec.now.cell_decls =
    c.requires.cells.first_many in
    subst (λ s. IsSearch c.args.rec.now s)
    (sym (c.in_ok-enter.ensures ∙ ap (λ s. entered s c.args.rec.now.top_inst.cell
    c.index.result.now) c.in_ok-search.ensures))
    (first_search c.args.rec.now c.index.result.now lt
    (c.requires.cells.first_is c.args.rec.now.top_inst.cell c.index.result.now
    (slice_get_read c.args.cells.now.first.items (length c.args.cells.now.first.items)
    c.args.rec.now.top_inst.cell c.index.result.now refl (omega arith) c.index.ensures)))
