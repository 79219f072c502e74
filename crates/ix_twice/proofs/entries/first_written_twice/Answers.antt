use Rattle.std.proofs.Common.{List, subst, length}
use Rattle.ix_twice.specs.declared.entries.Entry.{Entry}
use Rattle.ix_twice.specs.Repeats.{IsLeast}
use Rattle.ix_twice.specs.Entries.{IsEntryRepeat}
use Rattle.ix_twice.proofs.entries.first_written_twice.Goals as goal

pub returns : goal.returns
returns c = (
  c.in_ok-entries.entries.items,
  c.in_ok-entries.ensures,
  subst (λ (xs : List Entry). IsLeast (IsEntryRepeat xs (length xs)) c.first_of_entries.result) c.deref.ensures.value c.first_of_entries.ensures,
)
