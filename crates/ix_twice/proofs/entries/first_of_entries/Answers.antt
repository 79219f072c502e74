use Rattle.std.proofs.Common.{◌≡◌, ◌+◌, ℕ, Option, sym, subst, arith, length}
use Rattle.ix_twice.specs.Repeats.{IsLeast}
use Rattle.ix_twice.specs.Entries.{IsEntryRepeat}
use Rattle.ix_twice.proofs.Listing.{entries_more}
use Rattle.ix_twice.proofs.entries.first_of_entries.Goals as goal

pub loop-place-preserved : goal.loop-place-preserved
loop-place-preserved c = record {
  from = omega (arith, c.loop-place.invariant.from);
  least = subst (λ (o : Option ℕ). IsLeast (IsEntryRepeat c.args.entries.now (c.loop-place.place + 1)) o) (sym c.least-found.ensures)
      (entries_more c.args.entries.now c.loop-place.place c.loop-place.found c.entry_repeat_at.result
      c.loop-place.invariant.from c.loop-place.invariant.least c.entry_repeat_at.ensures);
}

pub returns-after-loop-place : goal.returns-after-loop-place
returns-after-loop-place c =
    let done : c.loop-place.place ≡ length c.args.entries.now = omega arith in
    subst (λ (n : ℕ). IsLeast (IsEntryRepeat c.args.entries.now n) c.loop-place.found) done c.loop-place.invariant.least
