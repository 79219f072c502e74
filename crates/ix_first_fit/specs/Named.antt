-- That the names of cells are names of the run.
use Rattle.std.specs.Prelude.{ℕ, ◌<◌}
use Rattle.ix_rec.specs.declared.flow.FlatCell.{FlatCell}

pub record CellNamed (n : ℕ) (c : FlatCell) : Type 0 where
  pub name : c.name < n
  pub ty : c.ty < n
