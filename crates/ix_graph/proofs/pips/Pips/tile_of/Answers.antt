use Rattle.ix_graph.proofs.StartLemmas.{not_first, tile_begins, tile_ends}
use Rattle.ix_graph.proofs.pips.Pips.tile_of.Goals as goal

pub overflow_sub-result : goal.overflow_sub-result
overflow_sub-result c =
    let p = c.args.self.now in
    not_first p.types p.kinds p.starts c.requires.tables.starts c.args.number c.begun.result c.begun.ensures.point c.begun.ensures.most c.requires.there

pub returns-clause-begins : goal.returns-clause-begins
returns-clause-begins c =
    let p = c.args.self.now in
    tile_begins p.types p.kinds p.starts c.requires.tables.starts c.args.number c.begun.result c.begun.ensures.point c.begun.ensures.most c.requires.there

pub returns-clause-ends : goal.returns-clause-ends
returns-clause-ends c =
    let p = c.args.self.now in
    tile_ends p.types p.kinds p.starts c.requires.tables.starts c.args.number c.begun.result c.begun.ensures.point c.begun.ensures.most c.requires.there
