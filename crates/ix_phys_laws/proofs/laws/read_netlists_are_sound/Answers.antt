use Rattle.ix_phys_laws.proofs.Small.{read_sound}
use Rattle.ix_phys_laws.proofs.laws.read_netlists_are_sound.Goals as goal

pub returns : goal.returns
returns c =
    λ names all phys short read named forests differ. read_sound names all phys short read named
    forests differ
