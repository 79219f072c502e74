use Rattle.std.proofs.Common.{◌∙◌, sym, subst}
use Rattle.std.proofs.lemmas.Option.{none-some}
use Rattle.ix_legal.specs.Names.{NetIsNamed}
use Rattle.ix_walk.specs.Firsts.{TellsMisfit}
use Rattle.ix_named_there.specs.Ends.{TellsEnds}
use Rattle.ix_named_there.proofs.Told.{nets_kept, net_first, segment_first}
use Rattle.ix_named_there.proofs.whole.first_of_nets.Goals as goal

pub returns-in-None-None : goal.returns-in-None-None
returns-in-None-None c rec phys nets ends = nets_kept rec phys
    (subst (TellsMisfit (NetIsNamed phys) phys.nets) c.in-None-None.is-0 nets)
    (subst (TellsEnds rec phys) c.in-None-None.is-1 ends)

pub returns-in-None-Some : goal.returns-in-None-Some
returns-in-None-Some c rec phys nets ends = segment_first rec phys c.in-None-Some.m
    c.in-None-Some.k c.args.net nets (subst (TellsEnds rec phys) c.in-None-Some.is-1 ends)
    (λ n is. absurd (none-some n (sym c.in-None-Some.is-0 ∙ is)))

pub returns-in-Some-None : goal.returns-in-Some-None
returns-in-Some-None c rec phys nets ends = net_first rec phys c.in-Some-None.n c.args.segment
    (subst (TellsMisfit (NetIsNamed phys) phys.nets) c.in-Some-None.is-0 nets) ends
    (λ m k is. absurd (none-some (m, k) (sym c.in-Some-None.is-1 ∙ is)))
