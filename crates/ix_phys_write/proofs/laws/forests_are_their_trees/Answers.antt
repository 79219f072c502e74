use Rattle.ix_phys_write.proofs.Levels.{trees_in_preorder}
use Rattle.ix_phys_write.proofs.laws.forests_are_their_trees.Goals as goal

pub returns : goal.returns
returns c = λ bs h. trees_in_preorder bs h
