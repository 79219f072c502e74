use Rattle.std.proofs.Common.{ap, ◌∙◌, nat_eq, option_map}
use Rattle.ix_first.specs.First.{or_later, value_of}
use Rattle.ix_belmap.proofs.Pinned.{nets_constant, nets_end, nets_signal, nets_start}
use Rattle.ix_belmap.proofs.nets.port_nets.Goals as goal

pub loop-cell-init : goal.loop-cell-init
loop-cell-init c =
    nets_start c.args.flat.now (value_of c.in_ok-nets.nets) c.into_iter-cell-iterator.result
    (c.into_iter-cell-iterator.ensures.into_iter_gives ∙ c.iter-cell-items.ensures.entries)
    c.in_ok-nets.ensures

pub loop-cell-preserved-in-Signal : goal.loop-cell-preserved-in-Signal
loop-cell-preserved-in-Signal c =
    nets_signal c.args.flat.now (value_of c.loop-cell.nets)
    (value_of c.put.new.self) c.loop-cell.cell-iterator
    c.next.new.self (c.in-Some.field-0-0.now, c.in-Some.net.now) c.in-Signal.net
    c.loop-cell.invariant
    c.in-Some.ensures.steps c.in-Signal.is
    (λ i. c.put.ensures i
    ∙ ap (λ n. option_map (λ v. or_later v (nat_eq n i) c.in-Signal.net)
    (value_of c.loop-cell.nets i)) c.get.ensures)

pub loop-cell-preserved : goal.loop-cell-preserved
loop-cell-preserved c =
    nets_constant c.args.flat.now (value_of c.loop-cell.nets) c.loop-cell.cell-iterator
    c.next.new.self (c.in-Some.field-0-0.now, c.in-Some.net.now) c.loop-cell.invariant
    c.in-Some.ensures.steps c.in_default.not-Signal

pub returns : goal.returns
returns c port lt =
    nets_end c.args.flat.now (value_of c.loop-cell.nets) c.loop-cell.cell-iterator
    c.loop-cell.invariant
    c.in-None.ensures.steps.0 port lt
