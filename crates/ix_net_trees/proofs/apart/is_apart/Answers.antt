use Rattle.std.proofs.Common.{◌≡◌, ◌↔◌, ◌∙◌, ap, sym, subst, true, length, arith}
use Rattle.ix_graph.specs.Graph.{Graph}
use Rattle.ix_legal.specs.Holders.{constant_of_net}
use Rattle.ix_net_trees.specs.Constants.{IsOfConstant}
use Rattle.ix_net_trees.proofs.Numbers.{stands}
use Rattle.ix_net_trees.proofs.Marking.{with_mark_many}
use Rattle.ix_net_trees.proofs.Meeting.{IsStep, IsTurn, turn_met, turn_tells}
use Rattle.ix_net_trees.proofs.apart.is_apart.Goals as goal

pub begin-begins-requires-clause-entered : goal.begin-begins-requires-clause-entered
begin-begins-requires-clause-entered c =
    let few = (stands c.args.wiring.now.device.now c.args.wiring.now.ends.now c.args.net.now
    c.args.k
    c.branch_at.result.now c.args.pair c.requires.numbers
    c.branch_at.ensures).numbers.from_is.within in
    let many = c.requires.met.whole.entered in
    omega (arith, few, many)

pub begin-begins-requires-clause-begun : goal.begin-begins-requires-clause-begun
begin-begins-requires-clause-begun c =
    let few = (stands c.args.wiring.now.device.now c.args.wiring.now.ends.now c.args.net.now
    c.args.k
    c.branch_at.result.now c.args.pair c.requires.numbers
    c.branch_at.ensures).numbers.from_is.within in
    let many = c.requires.met.whole.begun in
    omega (arith, few, many)

pub enter-goes_on-requires-clause-entered : goal.enter-goes_on-requires-clause-entered
enter-goes_on-requires-clause-entered c =
    let few = (stands c.args.wiring.now.device.now c.args.wiring.now.ends.now c.args.net.now
    c.args.k
    c.branch_at.result.now c.args.pair c.requires.numbers c.branch_at.ensures).numbers.to_is.within
    in
    let many = c.requires.met.whole.entered in
    let same = ap length c.begin-begins.ensures.entered in
    omega (arith, few, many, same)

pub enter-goes_on-requires-clause-begun : goal.enter-goes_on-requires-clause-begun
enter-goes_on-requires-clause-begun c =
    let few = (stands c.args.wiring.now.device.now c.args.wiring.now.ends.now c.args.net.now
    c.args.k
    c.branch_at.result.now c.args.pair c.requires.numbers c.branch_at.ensures).numbers.to_is.within
    in
    let many = c.requires.met.whole.begun in
    let same = ap length c.begin-begins.ensures.begun in
    let kept = with_mark_many c.is_source_root-is_root.result c.args.met.now.begun c.args.pair.from
    c.args.mark in
    omega (arith, few, many, same, kept)

pub enters_constant-of_constant-requires : goal.enters_constant-of_constant-requires
enters_constant-of_constant-requires c = c.requires.ends.nodes_are
    ∙ sym (ap (λ (graph : Graph). length graph.firsts) c.requires.graph
    ∙ c.graph_has_nodes.ensures.law c.args.wiring.now.device.now)

pub returns : goal.returns
returns c =
    let S : IsStep c.args.wiring.now.device.now c.args.wiring.now.phys.now
    c.args.wiring.now.ends.now c.args.net.now c.args.k c.branch_at.result.now c.args.pair
    c.is_source_root-is_root.result c.enters-enters.result = record {
      stands = stands c.args.wiring.now.device.now c.args.wiring.now.ends.now c.args.net.now
          c.args.k
          c.branch_at.result.now c.args.pair c.requires.numbers c.branch_at.ensures;
      root_is = c.is_source_root-is_root.ensures;
      enters_is = c.enters-enters.ensures;
    } in
    let T : IsTurn c.args.wiring.now.device.now c.args.wiring.now.ends.now c.args.net.now
    c.args.pair c.is_source_root-is_root.result c.enters-enters.result c.args.mark c.args.met.now
    c.begin-begins.new.self c.enter-goes_on.new.self c.begin-begins.result c.enter-goes_on.result
    c.enters_constant-of_constant.result = record {
      begins_is = c.begin-begins.ensures.alone;
      mid_entered = c.begin-begins.ensures.entered;
      mid_begun = c.begin-begins.ensures.begun;
      goes_is = c.enter-goes_on.ensures.alone;
      after_entered = c.enter-goes_on.ensures.entered;
      after_begun = c.enter-goes_on.ensures.begun;
      constant_is = subst (λ (graph : Graph). (c.enters_constant-of_constant.result ≡ true)
          ↔ ((c.enters-enters.result ≡ true) × IsOfConstant graph c.args.wiring.now.ends.now
          c.args.pair.to (constant_of_net c.args.net.now.ty)))
          c.requires.graph c.enters_constant-of_constant.ensures;
    } in
    record {
      apart = turn_tells c.args.wiring.now.device.now c.args.wiring.now.phys.now
          c.args.wiring.now.ends.now c.args.net.now c.requires.ends
          c.graph_has_constants.ensures.law c.args.k c.branch_at.result.now
          c.args.pair c.is_source_root-is_root.result c.enters-enters.result S c.args.mark
          c.args.met.now c.begin-begins.new.self c.enter-goes_on.new.self c.begin-begins.result
          c.enter-goes_on.result c.enters_constant-of_constant.result c.requires.met T;
      met = turn_met c.args.wiring.now.device.now c.args.wiring.now.phys.now
          c.args.wiring.now.ends.now c.args.net.now c.requires.ends
          c.graph_has_constants.ensures.law c.args.k c.branch_at.result.now
          c.args.pair c.is_source_root-is_root.result c.enters-enters.result S c.args.mark
          c.args.met.now c.begin-begins.new.self c.enter-goes_on.new.self c.begin-begins.result
          c.enter-goes_on.result c.enters_constant-of_constant.result c.requires.met T;
    }
