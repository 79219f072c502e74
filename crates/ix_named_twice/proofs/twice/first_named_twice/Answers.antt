use Rattle.std.proofs.Common.{◌≡◌, ◌<◌, ◌^◌, ◌∙◌, ap, sym, subst, List, ℕ, length, slice_get}
use Rattle.ix_named_twice.specs.Spots.{FindsSecond, names_of}
use Rattle.ix_named_twice.proofs.Told.{cells_below, cells_few, nets_below, nets_few}
use Rattle.ix_named_twice.proofs.twice.first_named_twice.Goals as goal

pub first_second-requires-clause-few : goal.first_second-requires-clause-few
first_second-requires-clause-few c =
    let given = c.requires.named in
    let named = c.args.named.now in
    let same : c.deref-2.result.now ≡ names_of named.cells.items =
    c.deref-2.ensures.value ∙ c.in_ok-cells.ensures ∙ ap names_of c.deref.ensures.value in
    subst (λ (ids : List ℕ). length ids < 2 ^ 32) (sym same)
    (cells_few given.0 given.1 c.args.joined.now named given.2 given.3 given.4)

pub first_second-requires-clause-inside : goal.first_second-requires-clause-inside
first_second-requires-clause-inside c = λ k name h.
    let given = c.requires.named in
    let named = c.args.named.now in
    let same : c.deref-2.result.now ≡ names_of named.cells.items =
    c.deref-2.ensures.value ∙ c.in_ok-cells.ensures ∙ ap names_of c.deref.ensures.value in
    cells_below given.0 given.1 c.args.joined.now named c.args.count given.3 given.4 given.5 k name
    (ap (λ (ids : List ℕ). slice_get ids k) (sym same) ∙ h)

pub first_second-requires-2-clause-few : goal.first_second-requires-2-clause-few
first_second-requires-2-clause-few c =
    let given = c.requires.named in
    subst (λ (ids : List ℕ). length ids < 2 ^ 32) (sym c.deref-3.ensures.value)
    (nets_few given.0 given.1 c.args.joined.now c.args.named.now given.2 given.3)

pub first_second-requires-2-clause-inside : goal.first_second-requires-2-clause-inside
first_second-requires-2-clause-inside c = λ k name h.
    let given = c.requires.named in
    nets_below given.0 given.1 c.args.joined.now c.args.named.now c.args.count given.3 given.5 k
    name (ap (λ (ids : List ℕ). slice_get ids k) (sym c.deref-3.ensures.value) ∙ h)

pub earlier-requires-clause-cell : goal.earlier-requires-clause-cell
earlier-requires-clause-cell c =
    let named = c.args.named.now in
    let same : c.deref-2.result.now ≡ names_of named.cells.items =
    c.deref-2.ensures.value ∙ c.in_ok-cells.ensures ∙ ap names_of c.deref.ensures.value in
    subst (λ (ids : List ℕ). FindsSecond ids c.in_ok-cell.cell) same c.in_ok-cell.ensures

pub earlier-requires-clause-net : goal.earlier-requires-clause-net
earlier-requires-clause-net c =
    subst (λ (ids : List ℕ). FindsSecond ids c.in_ok-net.net) c.deref-3.ensures.value
    c.in_ok-net.ensures
