use Rattle.std.proofs.Common.{ap, subst, ◌+◌}
use Rattle.std.proofs.lemmas.Result.{on_ok_weaker}
use Rattle.ix_ends.specs.Pairs.{StopsAt}
use Rattle.ix_ends.proofs.Pairing.{both_added, stops_second}
use Rattle.ix_ends.proofs.pairs.Pairs.add_net.Goals as goal

pub returns-in-Err-NoEnds-clause-stopped : goal.returns-in-Err-NoEnds-clause-stopped
returns-in-Err-NoEnds-clause-stopped c =
    stops_second c.args.device.now c.args.net.now.sources c.args.net.now.stubs c.in-Err-NoEnds.k
    (c.len.result + c.in-Err-NoEnds.k) c.args.self.now c.add_trees.new.self
    (ap (λ n. n + c.in-Err-NoEnds.k) c.len.ensures.count) c.in_ok-add_trees.ensures.added
    (subst (StopsAt c.args.device.now c.args.net.now.stubs) c.in-Err-NoEnds.field-0-is
    c.in-Err-NoEnds.ensures.stopped)

pub returns-in_default-2-clause-added : goal.returns-in_default-2-clause-added
returns-in_default-2-clause-added c =
    on_ok_weaker c.add_trees-2.result
    (both_added c.args.device.now c.args.net.now.sources c.args.net.now.stubs c.args.self.now
    c.add_trees.new.self c.add_trees-2.new.self c.in_ok-add_trees.ensures.added)
    c.add_trees-2.ensures.added
