use Rattle.std.proofs.lemmas.Result.{IfOk-weaker}
use Rattle.ix_twice.proofs.Walking.{told}
use Rattle.ix_twice.proofs.first.first_twice.Goals as goal

pub returns : goal.returns
returns c = IfOk-weaker c.first_of_cells.result _ _
    (λ found h. told c.args.names.now c.args.rec.now c.args.met.now c.requires.met found h) c.first_of_cells.ensures
