use Rattle.std.proofs.Common.{◌≡◌, ◌+◌, ◌-◌, ◌∙◌, length, slice_get, ap, arith}
use Rattle.std.proofs.lemmas.Bool.Decides.{nat_tests}
use Rattle.ix_rec.specs.Forest.{next_limit}
use Rattle.ix_rec.proofs.ForestLemmas.{next_limit-last}
use Rattle.ix_rec.proofs.forest.Forest.takes.Goals as goal

pub returns-else-depth-eq0 : goal.returns-else-depth-eq0
returns-else-depth-eq0 g c =
    let limit : next_limit c.args.self.now ≡ c.in-Some.last.now.depth + 1 =
    next_limit-last c.args.self.now c.in-Some.last.now (c.in-Some.ensures.value ∙ ap (λ bs. slice_get bs (length bs - 1)) (c.as_slice.ensures.value ∙ c.self.view_is)) in
    grind (arith, nat_tests)
