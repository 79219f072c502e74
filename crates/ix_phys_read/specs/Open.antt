-- Lists of branches that aren't done, on a stack.
use Rattle.std.specs.Prelude.{◌≡◌, ◌≤◌, ◌⊎◌, List, [], ◌∷◌, ◌++◌}
use Rattle.ix_frame.specs.Views.{elements_of}
use Rattle.ix_phys_read.specs.declared.branches.Open.{Open}

-- A list is on top of the stack now, or it is done and the stack is as it was.
abbrev pub Puts : Open → (old new : List Open) → Type 0
Puts x old new = (new ≡ old ++ x ∷ []) ⊎ ((elements_of x.list).count ≤ x.next × (new ≡ old))
