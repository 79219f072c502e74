use Rattle.std.proofs.Common.{◌≡◌, ◌+◌, ◌∙◌, ℕ, List, Vec, Global, ap, sym, subst, arith}
use Rattle.ix_bit_rows.specs.Table.{end_in}
use Rattle.ix_twice.specs.declared.entries.Entry.{Entry}
use Rattle.ix_twice.proofs.Listing.{AreListed, listed_some, listed_none}
use Rattle.ix_twice.proofs.entries.entries_listed.Goals as goal
use Rattle.ix_twice.proofs.entries.entries_listed.Goals.{in-Some+in_ok-push, in_default}

pub loop-place-preserved : goal.loop-place-preserved
loop-place-preserved c =
    let rows = c.args.rows.now.rows in
    let items : Vec Entry Global → List Entry = λ v. v.items in
    record {
      from = omega (arith, c.loop-place.invariant.from);
      listed = elim c.match-entry_at.branch [
        | in-Some+in_ok-push w ↦ listed_some c.args.rows.now.rows c.args.written.now c.start-start.result c.loop-place.place
            c.loop-place.entries.items c.match-entry_at.entries.items w.in-Some.entry c.entry_at.result c.loop-place.invariant.from c.loop-place.invariant.listed
            c.entry_at.ensures w.in-Some.is (ap items w.entries-is ∙ w.in_ok-push.ensures.items)
        | in_default w ↦
            subst (λ (xs : List Entry). AreListed c.args.rows.now.rows c.args.written.now c.start-start.result (c.loop-place.place + 1) xs) (sym (ap items w.entries-is))
            (listed_none c.args.rows.now.rows c.args.written.now c.start-start.result c.loop-place.place
            c.loop-place.entries.items c.entry_at.result c.loop-place.invariant.listed c.entry_at.ensures (λ x e. w.in_default.not-Some x e))
      ];
    }

pub returns : goal.returns
returns c =
    let order = c.start-start.ensures.table.ordered c.args.cell c.requires.cell in
    let done : c.loop-place.place ≡ c.end-end.result = omega (arith, order.0, c.start-start.ensures.start, c.end-end.ensures.end) in
    subst (λ (n : ℕ). AreListed c.args.rows.now.rows c.args.written.now n (end_in c.args.rows.now c.args.cell) c.loop-place.entries.items) c.start-start.ensures.start
    (subst (λ (n : ℕ). AreListed c.args.rows.now.rows c.args.written.now c.start-start.result n c.loop-place.entries.items) c.end-end.ensures.end
    (subst (λ (n : ℕ). AreListed c.args.rows.now.rows c.args.written.now c.start-start.result n c.loop-place.entries.items) done c.loop-place.invariant.listed))
