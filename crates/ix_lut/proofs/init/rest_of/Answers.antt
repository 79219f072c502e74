use Rattle.std.proofs.lemmas.Bool.{eqb-true, eq-eqb}
use Rattle.ix_lut.proofs.Inits.{stripped}
use Rattle.std.proofs.lemmas.Slice.Eq.{strip_prefix_is}
use Rattle.ix_lut.proofs.init.rest_of.Goals as goal

-- src/init.rt:65:1
pub returns : goal.returns
returns c = stripped c.args.text.now c.args.front.now c.strip_prefix.result
    (strip_prefix_is (λ a b. (eqb-true a b, eq-eqb a b)) c.args.text.now c.args.front.now
    c.strip_prefix.result c.strip_prefix.ensures.cases)
