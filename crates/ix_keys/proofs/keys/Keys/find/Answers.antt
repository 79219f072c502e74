use Rattle.std.proofs.Common.{slice_get, ap, sym, ◌∙◌}
use Rattle.ix_keys.proofs.KeyLemmas.{stands}
use Rattle.ix_keys.proofs.keys.Keys.find.Goals as goal

pub returns-in-Some-clause-key : goal.returns-in-Some-clause-key
returns-in-Some-clause-key c =
    ap (λ keys. slice_get keys c.in-Some.place) (sym c.self.view_is) ∙ stands c.self.inside.keys.keys c.args.key c.in-Some.place c.in-Some.ensures.index
