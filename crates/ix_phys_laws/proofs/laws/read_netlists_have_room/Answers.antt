use Rattle.ix_phys_laws.proofs.Small.{read_has_room}
use Rattle.ix_phys_laws.proofs.laws.read_netlists_have_room.Goals as goal

pub returns : goal.returns
returns c = λ names all phys short read. read_has_room names all phys short read
