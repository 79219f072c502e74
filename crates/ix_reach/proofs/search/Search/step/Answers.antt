use Rattle.std.proofs.Common.{rules, ◌≡◌, ◌<◌, ◌≤◌, length, slice_get, refl}
use Rattle.std.proofs.Common.{sym, subst, arith}
use Rattle.std.proofs.lemmas.Option.{slice_get_read}
use Rattle.ix_reach.specs.Searching.{IsAt, IsSearch, work_of}
use Rattle.ix_reach.specs.State.{IsGone, state_of, with_visit}
use Rattle.ix_reach.proofs.Stepping.{step_left, step_cell, step_in, marked_of}
use Rattle.ix_reach.proofs.Stepping.{differ_of, inside_of, cell_of, place_of, place_is, on_ok}
use Rattle.ix_reach.proofs.Ways.{inner_within}
use Rattle.ix_reach.proofs.search.Search.step.Goals as goal

pub leave-requires-clause-within : goal.leave-requires-clause-within
leave-requires-clause-within c = inside_of c.args.rec.now (state_of c.args.self.now) c.args.visit
    c.requires.search

pub leave-requires-clause-marked : goal.leave-requires-clause-marked
leave-requires-clause-marked c = marked_of c.args.rec.now (state_of c.args.self.now) c.args.visit
    c.requires.search

pub leave-requires-clause-differ : goal.leave-requires-clause-differ
leave-requires-clause-differ c = differ_of c.args.rec.now (state_of c.args.self.now) c.args.visit
    c.requires.search

pub returns-in_default-clause-search : goal.returns-in_default-clause-search
returns-in_default-clause-search c = on_ok c.leave.result c.leave.ensures (λ left.
    (step_left c.args.rec.now (state_of c.args.self.now) (state_of c.leave.new.self) c.args.visit
    c.requires.search c.in_default.is left).0)

pub returns-in_default-clause-work : goal.returns-in_default-clause-work
returns-in_default-clause-work c = on_ok c.leave.result c.leave.ensures (λ left.
    (step_left c.args.rec.now (state_of c.args.self.now) (state_of c.leave.new.self) c.args.visit
    c.requires.search c.in_default.is left).1)

pub at-cell-requires : goal.at-cell-requires
at-cell-requires c =
    cell_of c.args.rec.now (state_of c.args.self.now) c.args.visit c.in-Some.number
    c.requires.search c.in-Some.is

pub index-requires : goal.index-requires
index-requires c =
    let lt : c.in-Some.number < length c.args.rec.now.cell_list =
    cell_of c.args.rec.now (state_of c.args.self.now) c.args.visit c.in-Some.number
    c.requires.search c.in-Some.is in
    let many : length c.args.cells.now.next.items ≡ length c.args.rec.now.cell_list =
    c.requires.cells.next_many in
    let here : c.in-Some.number < length c.args.cells.now.next.items = omega arith in
    search rules

pub returns-then-visit-len-clause-search : goal.returns-then-visit-len-clause-search
returns-then-visit-len-clause-search c =
    let lt : c.in-Some.number < length c.args.rec.now.cell_list =
    cell_of c.args.rec.now (state_of c.args.self.now) c.args.visit c.in-Some.number
    c.requires.search c.in-Some.is in
    let many : length c.args.cells.now.next.items ≡ length c.args.rec.now.cell_list =
    c.requires.cells.next_many in
    let len : c.len.result ≡ length c.at-cell.result.now.insts = c.len.ensures in
    let past : c.len.result ≤ c.args.visit.place = c.if-visit-len.true in
    subst (λ l. IsSearch c.args.rec.now (record (state_of c.args.self.now) { visits = l }))
    (sym c.in_ok-push.ensures.items)
    (step_cell c.args.rec.now (state_of c.args.self.now) c.args.visit _ c.in-Some.number
    c.at-cell.result.now c.args.cells.now.first.items c.args.cells.now.next.items
    c.index.result.now c.requires.cells c.requires.search c.in-Some.is c.at-cell.ensures
    (omega arith)
    (slice_get_read c.args.cells.now.next.items (length c.args.cells.now.next.items)
    c.in-Some.number c.index.result.now refl (omega arith) c.index.ensures) refl).0

pub returns-then-visit-len-clause-work : goal.returns-then-visit-len-clause-work
returns-then-visit-len-clause-work c =
    let lt : c.in-Some.number < length c.args.rec.now.cell_list =
    cell_of c.args.rec.now (state_of c.args.self.now) c.args.visit c.in-Some.number
    c.requires.search c.in-Some.is in
    let many : length c.args.cells.now.next.items ≡ length c.args.rec.now.cell_list =
    c.requires.cells.next_many in
    let len : c.len.result ≡ length c.at-cell.result.now.insts = c.len.ensures in
    let past : c.len.result ≤ c.args.visit.place = c.if-visit-len.true in
    subst (λ l. work_of c.args.rec.now (record (state_of c.args.self.now) { visits = l })
    < work_of c.args.rec.now (with_visit (state_of c.args.self.now) c.args.visit))
    (sym c.in_ok-push.ensures.items)
    (step_cell c.args.rec.now (state_of c.args.self.now) c.args.visit _ c.in-Some.number
    c.at-cell.result.now c.args.cells.now.first.items c.args.cells.now.next.items
    c.index.result.now c.requires.cells c.requires.search c.in-Some.is c.at-cell.ensures
    (omega arith)
    (slice_get_read c.args.cells.now.next.items (length c.args.cells.now.next.items)
    c.in-Some.number c.index.result.now refl (omega arith) c.index.ensures) refl).1

pub declaration_at-inner-requires : goal.declaration_at-inner-requires
declaration_at-inner-requires c =
    let len : c.len.result ≡ length c.at-cell.result.now.insts = c.len.ensures in
    let within : c.args.visit.place < c.len.result = c.if-visit-len.false in
    record {
      there = (place_of c.args.rec.now c.in-Some.number c.args.visit.place c.at-cell.result.now
          c.requires.fits c.at-cell.ensures (omega arith)).2;
    }

pub go_to-requires : goal.go_to-requires
go_to-requires c =
    let len : c.len.result ≡ length c.at-cell.result.now.insts = c.len.ensures in
    let within : c.args.visit.place < c.len.result = c.if-visit-len.false in
    let lt : c.declaration_at-inner.result < length c.args.rec.now.cell_decls =
    inner_within c.args.rec.now c.at-cell.result.now.index c.in-Some.number
    c.args.visit.place c.declaration_at-inner.result c.requires.fits
    (place_is c.args.rec.now c.in-Some.number c.args.visit.place
    c.declaration_at-inner.result c.at-cell.result.now c.requires.fits c.at-cell.ensures
    (omega arith) c.declaration_at-inner.ensures) in
    let many : length c.args.self.now.marks.items ≡ length c.args.rec.now.cell_decls =
    c.requires.search.is.marked.many in
    omega arith

pub index-requires-2 : goal.index-requires-2
index-requires-2 c =
    let len : c.len.result ≡ length c.at-cell.result.now.insts = c.len.ensures in
    let within : c.args.visit.place < c.len.result = c.if-visit-len.false in
    let lt : c.declaration_at-inner.result < length c.args.rec.now.cell_decls =
    inner_within c.args.rec.now c.at-cell.result.now.index c.in-Some.number
    c.args.visit.place c.declaration_at-inner.result c.requires.fits
    (place_is c.args.rec.now c.in-Some.number c.args.visit.place
    c.declaration_at-inner.result c.at-cell.result.now c.requires.fits c.at-cell.ensures
    (omega arith) c.declaration_at-inner.ensures) in
    let many : length c.args.cells.now.first.items ≡ length c.args.rec.now.cell_decls =
    c.requires.cells.first_many in
    let here : c.declaration_at-inner.result < length c.args.cells.now.first.items = omega arith in
    search rules

pub returns-clause-search : goal.returns-clause-search
returns-clause-search c =
    let len : c.len.result ≡ length c.at-cell.result.now.insts = c.len.ensures in
    let within : c.args.visit.place < c.len.result = c.if-visit-len.false in
    let at : IsAt c.args.rec.now c.at-cell.result.now.index c.in-Some.number c.args.visit.place
    c.declaration_at-inner.result = place_is c.args.rec.now c.in-Some.number
    c.args.visit.place c.declaration_at-inner.result c.at-cell.result.now c.requires.fits
    c.at-cell.ensures (omega arith) c.declaration_at-inner.ensures in
    let lt : c.declaration_at-inner.result < length c.args.rec.now.cell_decls =
    inner_within c.args.rec.now c.at-cell.result.now.index c.in-Some.number
    c.args.visit.place c.declaration_at-inner.result c.requires.fits at in
    let many : length c.args.cells.now.first.items ≡ length c.args.rec.now.cell_decls =
    c.requires.cells.first_many in
    on_ok c.go_to.result c.go_to.ensures (λ gone.
    (step_in c.args.rec.now (state_of c.args.self.now) (state_of c.go_to.new.self) c.args.visit _
    c.in-Some.number c.at-cell.result.now c.args.cells.now.first.items
    c.args.cells.now.next.items c.declaration_at-inner.result c.index-2.result.now
    c.requires.cells c.requires.search c.in-Some.is c.at-cell.ensures (omega arith) at
    (slice_get_read c.args.cells.now.first.items (length c.args.cells.now.first.items)
    c.declaration_at-inner.result c.index-2.result.now refl (omega arith) c.index-2.ensures) refl
    (subst (λ l. IsGone (record (state_of c.args.self.now) { visits = l })
    c.declaration_at-inner.result c.index-2.result.now
    (slice_get c.args.self.now.marks.items c.declaration_at-inner.result)
    (state_of c.go_to.new.self)) c.in_ok-push-2.ensures.items gone)).0)

pub returns-clause-work : goal.returns-clause-work
returns-clause-work c =
    let len : c.len.result ≡ length c.at-cell.result.now.insts = c.len.ensures in
    let within : c.args.visit.place < c.len.result = c.if-visit-len.false in
    let at : IsAt c.args.rec.now c.at-cell.result.now.index c.in-Some.number c.args.visit.place
    c.declaration_at-inner.result = place_is c.args.rec.now c.in-Some.number
    c.args.visit.place c.declaration_at-inner.result c.at-cell.result.now c.requires.fits
    c.at-cell.ensures (omega arith) c.declaration_at-inner.ensures in
    let lt : c.declaration_at-inner.result < length c.args.rec.now.cell_decls =
    inner_within c.args.rec.now c.at-cell.result.now.index c.in-Some.number
    c.args.visit.place c.declaration_at-inner.result c.requires.fits at in
    let many : length c.args.cells.now.first.items ≡ length c.args.rec.now.cell_decls =
    c.requires.cells.first_many in
    on_ok c.go_to.result c.go_to.ensures (λ gone.
    (step_in c.args.rec.now (state_of c.args.self.now) (state_of c.go_to.new.self) c.args.visit _
    c.in-Some.number c.at-cell.result.now c.args.cells.now.first.items
    c.args.cells.now.next.items c.declaration_at-inner.result c.index-2.result.now
    c.requires.cells c.requires.search c.in-Some.is c.at-cell.ensures (omega arith) at
    (slice_get_read c.args.cells.now.first.items (length c.args.cells.now.first.items)
    c.declaration_at-inner.result c.index-2.result.now refl (omega arith) c.index-2.ensures) refl
    (subst (λ l. IsGone (record (state_of c.args.self.now) { visits = l })
    c.declaration_at-inner.result c.index-2.result.now
    (slice_get c.args.self.now.marks.items c.declaration_at-inner.result)
    (state_of c.go_to.new.self)) c.in_ok-push-2.ensures.items gone)).1)
