use Rattle.std.proofs.Common.{◌≡◌, ◌<◌, ℕ, List, sym, subst, arith, length}
use Rattle.ix_flat_pins.specs.Items.{IsPinOfPort, IsPinOfLeaves, IsReady}
use Rattle.ix_flat_pins.proofs.Ready.{signal_low, signals_apart, ready, joined_items}
use Rattle.ix_flat_pins.proofs.all.flat_pins.Goals as goal

pub numbers_of-requires-clause-within : goal.numbers_of-requires-clause-within
numbers_of-requires-clause-within c n number is =
    let r = c.requires.listed in
    let low : number < length c.args.joined.now.firsts.items =
    signal_low r.0 c.args.rec.now c.args.joined.now c.args.constants.now c.args.states.now c.args.signals.now r.1 r.2 n number is in
    omega (arith, c.len.ensures, c.args.joined.now.firsts.ok)

pub numbers_of-requires-clause-differ : goal.numbers_of-requires-clause-differ
numbers_of-requires-clause-differ c =
    let r = c.requires.listed in
    signals_apart r.0 c.args.rec.now c.args.joined.now c.args.constants.now c.args.states.now c.args.signals.now r.1 r.2

pub returns : goal.returns
returns c known parts listed leaves bits names_are =
    let many : length c.in_ok-numbers.numbers.items ≡ length c.args.joined.now.firsts.items = omega (arith, c.in_ok-numbers.ensures.many, c.len.ensures, c.args.joined.now.firsts.ok) in
    let are : IsReady known c.args.rec.now c.args.joined.now c.args.constants.now c.args.states.now c.in_ok-numbers.numbers.items parts =
    ready known c.args.rec.now c.args.joined.now c.args.constants.now c.args.states.now c.args.signals.now c.in_ok-numbers.numbers.items parts
    listed c.in_ok-numbers.ensures.numbers many in
    let one = subst (λ (xs : List ℕ). IsReady known c.args.rec.now c.args.joined.now c.args.constants.now c.args.states.now xs parts) (sym c.deref.ensures.value) are in
    let two = subst (λ (xs : List ℕ). IsReady known c.args.rec.now c.args.joined.now c.args.constants.now c.args.states.now xs parts) (sym c.deref-2.ensures.value) are in
    joined_items known c.args.rec.now parts
    (IsPinOfPort c.args.rec.now c.args.types.now c.args.bits.now (length c.args.bits.now))
    (IsPinOfLeaves parts.cells c.args.ports (length c.args.leaves.now))
    c.new-items.result.items c.put_ports.new.items.items c.put_leaves.new.items.items c.new-items.ensures.items
    (c.in_ok-put_ports.ensures known parts one bits names_are)
    (c.in_ok-put_leaves.ensures known parts two leaves)
