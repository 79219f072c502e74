use Rattle.std.proofs.Common.{◌≡◌, ◌≤◌, ◌<◌, ◌+◌, true, false, length, vec_len}
use Rattle.ix_reach.specs.State.{IsClosedFrom}
use Rattle.ix_reach.proofs.search.close_part.Given as goal

abbrev pub invariant-loop-opened : goal.invariant-loop-opened
invariant-loop-opened l = record {
  most : length l.opened.items ≤ length l.fn.opened.items;
  least : l.place ≤ length l.opened.items;
  is : IsClosedFrom
      record {
        marks = l.fn.marks.items;
        open_ones = l.fn.opened.items;
        closed = l.fn.closed.items;
        looped = l.fn.looped;
      }
      l.place (length l.opened.items)
      record {
        marks = l.marks.items;
        open_ones = l.opened.items;
        closed = l.closed.items;
        looped =
            l.least;
      };
  yes : l.several ≡ true → l.place + 1 < length l.fn.opened.items;
  no : l.several ≡ false → length l.fn.opened.items ≤ l.place + 1;
}

abbrev pub decreases-loop-opened : goal.decreases-loop-opened
decreases-loop-opened l = vec_len l.opened
