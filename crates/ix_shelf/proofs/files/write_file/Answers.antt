use Rattle.std.proofs.Common.{ℕ, List, drop, arith, rules}
use Rattle.ix_shelf.proofs.Pieces.{written-more, take-piece, within-piece}
use Rattle.ix_shelf.proofs.files.write_file.Goals as goal

pub loop-at-preserved : goal.loop-at-preserved
loop-at-preserved g c =
    let bytes : List ℕ = c.args.bytes.now in
    let at : ℕ = c.loop-at.at in
    let n : ℕ = c.in-Ok.taken in
    let piece : List ℕ = c.next_piece.result.now in
    record {
      in_range = within-piece bytes piece at n 65536 c.next_piece.ensures c.in-Ok.ensures.taken c.loop-at.invariant.in_range;
      written = written-more c.args.name.now bytes piece at n (g.S.Shelf.files c.args.shelf.now) (g.S.Shelf.files c.loop-at.shelf) (g.S.Shelf.files c.append.new.self) (omega arith) (take-piece (drop at bytes) piece n 65536 c.next_piece.ensures c.in-Ok.ensures.taken) c.loop-at.invariant.written c.in-Ok.ensures.added;
      read_faults = search rules;
      write_faults = search rules;
    }
