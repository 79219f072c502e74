use Rattle.std.proofs.Common.{refl, subst, length}
use Rattle.std.proofs.Common.{Bool}
use Rattle.std.proofs.lemmas.Option.{slice_get_read, slice_get_within}
use Rattle.ix_rec.specs.declared.flow.FlatCell.{FlatCell}
use Rattle.ix_second_names.specs.Seconds.{IsFirstSecond}
use Rattle.ix_named_twice.specs.Spots.{FindsSecond, IsEarlier, names_of}
use Rattle.ix_named_twice.proofs.Indexed.{into_map}
use Rattle.ix_named_twice.proofs.Told.{cell_alone, cell_earlier, cell_within, neither, net_alone}
use Rattle.ix_named_twice.proofs.Told.{net_earlier}
use Rattle.ix_named_twice.proofs.twice.earlier.Goals as goal

pub returns-in-None-None : goal.returns-in-None-None
returns-in-None-None c = λ known design are is places.
    let named = c.args.named.now in
    neither known design c.args.joined.now named are is places
    (subst (FindsSecond (names_of named.cells.items)) c.in-None-None.is-0 c.requires.cell)
    (subst (FindsSecond named.net_names.items) c.in-None-None.is-1 c.requires.net)

pub returns-in-None-Some : goal.returns-in-None-Some
returns-in-None-Some c = λ known design are is places.
    let named = c.args.named.now in
    let ids = named.net_names.items in
    let net = c.in-None-Some.net in
    let first : IsFirstSecond ids net =
    subst (FindsSecond ids) c.in-None-Some.is-1 c.requires.net in
    net_alone known design c.args.joined.now named net c.index.result.now are is places
    (subst (FindsSecond (names_of named.cells.items)) c.in-None-Some.is-0 c.requires.cell) first
    (slice_get_read ids (length ids) net c.index.result.now refl
    (slice_get_within ids net first.second.name first.second.is) c.index.ensures)

pub returns-in-Some-None : goal.returns-in-Some-None
returns-in-Some-None c = λ known design are is places.
    let named = c.args.named.now in
    let cells = named.cells.items in
    let cell = c.in-Some-None.cell in
    let found = c.index-in-Some-None.result.now in
    let first : IsFirstSecond (names_of cells) cell =
    subst (FindsSecond (names_of cells)) c.in-Some-None.is-0 c.requires.cell in
    cell_alone known design c.args.joined.now named cell found.name are is places first
    (subst (FindsSecond named.net_names.items) c.in-Some-None.is-1 c.requires.net)
    (into_map (λ (one : FlatCell). one.name) cells cell found
    (slice_get_read cells (length cells) cell found refl (cell_within cells cell first)
    c.index-in-Some-None.ensures))

pub returns-then-is_cell_first : goal.returns-then-is_cell_first
returns-then-is_cell_first c = λ known design are is places.
    let named = c.args.named.now in
    let cells = named.cells.items in
    let cell = c.in-Some-Some.cell in
    let net = c.in-Some-Some.net in
    let found = c.index-then-is_cell_first.result.now in
    let first : IsFirstSecond (names_of cells) cell =
    subst (FindsSecond (names_of cells)) c.in-Some-Some.is-0 c.requires.cell in
    let second : IsFirstSecond named.net_names.items net =
    subst (FindsSecond named.net_names.items) c.in-Some-Some.is-1 c.requires.net in
    cell_earlier known design c.args.joined.now named cell net found.name are is places first second
    (λ one other x y. subst (λ (t : Bool). IsEarlier t one other) c.if-is_cell_first.true
    (c.is_cell_first.ensures known design is are one other x y))
    (into_map (λ (it : FlatCell). it.name) cells cell found
    (slice_get_read cells (length cells) cell found refl (cell_within cells cell first)
    c.index-then-is_cell_first.ensures))

pub returns-else-is_cell_first : goal.returns-else-is_cell_first
returns-else-is_cell_first c = λ known design are is places.
    let named = c.args.named.now in
    let ids = named.net_names.items in
    let cell = c.in-Some-Some.cell in
    let net = c.in-Some-Some.net in
    let found = c.index-else-is_cell_first.result.now in
    let first : IsFirstSecond (names_of named.cells.items) cell =
    subst (FindsSecond (names_of named.cells.items)) c.in-Some-Some.is-0 c.requires.cell in
    let second : IsFirstSecond ids net =
    subst (FindsSecond ids) c.in-Some-Some.is-1 c.requires.net in
    net_earlier known design c.args.joined.now named cell net found are is places first second
    (λ one other x y. subst (λ (t : Bool). IsEarlier t one other) c.if-is_cell_first.false
    (c.is_cell_first.ensures known design is are one other x y))
    (slice_get_read ids (length ids) net found refl
    (slice_get_within ids net second.second.name second.second.is)
    c.index-else-is_cell_first.ensures)
