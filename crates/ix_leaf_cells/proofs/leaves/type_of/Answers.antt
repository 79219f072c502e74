use Rattle.std.proofs.Common.{refl, length}
use Rattle.std.proofs.lemmas.Option.{slice_get_read}
use Rattle.ix_leaf_cells.proofs.More.{declared}
use Rattle.ix_leaf_cells.proofs.leaves.type_of.Goals as goal

pub at-requires : goal.at-requires
at-requires c =
    let all = c.args.joined.now.instances.items in
    declared c.requires.joined.0 c.args.rec.now c.args.joined.now c.args.instance c.index.result.now
    c.requires.joined.1
    (slice_get_read all (length all) c.args.instance c.index.result.now refl c.requires.there
    c.index.ensures)

pub returns : goal.returns
returns c =
    let all = c.args.joined.now.instances.items in
    record {
      one = c.index.result.now;
      one_is = slice_get_read all (length all) c.args.instance c.index.result.now refl
          c.requires.there c.index.ensures;
      declared = c.at.result.now;
      declared_is = c.at.ensures;
      type_is = refl;
    }
