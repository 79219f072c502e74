use Rattle.std.proofs.Common.{◌∙◌, refl}
use Rattle.std.proofs.lemmas.List.Sorted.{searched}
use Rattle.ix_logic_read.proofs.Lookup.{has_from_search}
use Rattle.ix_logic_read.proofs.sorted.Sorted.has.Goals as goal

pub returns : goal.returns
returns c =
    let xs = c.self.inside.numbers.items in
    c.is_ok.ensures.value ∙ has_from_search xs c.args.n c.binary_search.result
    (searched xs c.args.n c.binary_search.result
    (rw c.deref.ensures.value at c.binary_search.ensures.position)
    (λ i j le lt. c.self.invariant i j 0 le lt)) ∙ rw c.self.view_is refl
