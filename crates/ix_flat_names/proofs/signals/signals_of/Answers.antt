use Rattle.std.proofs.Common.{◌≡◌, ap, sym, subst, List, ℕ, length, arith}
use Rattle.ix_flat_names.specs.Signals.{AreSignalsTo}
use Rattle.ix_flat_names.proofs.Walked.{all_signals, none_yet}
use Rattle.ix_flat_names.proofs.signals.signals_of.Goals as goal

pub loop-net-init : goal.loop-net-init
loop-net-init c = λ known design joined are firsts is.
    subst (λ (l : List ℕ). AreSignalsTo known design joined 0 l) (sym c.new-signals.ensures.items)
    (none_yet known design joined)

pub loop-net-preserved : goal.loop-net-preserved
loop-net-preserved c = λ known design joined are firsts is.
    c.in_ok-put_signal.ensures known design joined are firsts is
    (c.loop-net.invariant known design joined are firsts is)

pub returns : goal.returns
returns c = λ known design joined are firsts is.
    let many : length joined.firsts.items ≡ length c.args.firsts.now = ap length firsts in
    all_signals known design joined c.loop-net.net c.loop-net.signals.items are (omega arith)
    (c.loop-net.invariant known design joined are firsts is)
