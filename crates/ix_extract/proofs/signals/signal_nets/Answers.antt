use Rattle.std.proofs.Common.{◌≤◌, ◌<◌, ◌^◌, ◌+◌, ◌∙◌, rules, ap, arith, length}
use Rattle.std.proofs.Common.{◌++◌, [], ◌∷◌}
use Rattle.ix_rec.specs.declared.phys.NetType.TheVariants.{Signal}
use Rattle.ix_legal.specs.Holders.{is_of_type}
use Rattle.ix_extract.specs.Extracted.{net_of}
use Rattle.ix_extract.proofs.Counting.{few_signals, not_signal, other_next, signal_next}
use Rattle.ix_extract.proofs.Counting.{signals_so}
use Rattle.ix_extract.proofs.signals.signal_nets.Goals as goal
use Rattle.ix_extract.proofs.signals.signal_nets.Goals.{in-Signal+in_ok-push-2, in_default}

pub overflow_cast-len : goal.overflow_cast-len
overflow_cast-len c =
    let nets = c.args.phys.now.nets in
    let lt = c.loop-n-test.true in
    let all = c.len-n-end.ensures in
    let short = c.requires.small.nets in
    let within : c.loop-n.n ≤ length nets = omega (arith, lt, all) in
    let few = few_signals nets c.loop-n.n c.loop-n.nets c.loop-n.ranks.items within
    c.loop-n.invariant in
    let len = c.len.ensures in
    let fits : c.len.result < 2 ^ 32 = omega (arith, few, within, short, len) in
    search rules

pub loop-n-preserved : goal.loop-n-preserved
loop-n-preserved c =
    let nets = c.args.phys.now.nets in let net = c.at-net.result.now in
    let before = c.loop-n.nets in let ranks = c.loop-n.ranks.items in
    let pushed = c.in_ok-push.ensures.items ∙ ap (λ k. ranks ++ k ∷ []) c.len.ensures in
    elim c.match-net.branch [
      | in-Signal+in_ok-push-2 w ↦ signals_so nets (c.loop-n.n + 1) (before ++ net_of net ∷ [])
          c.match-net.nets (ranks ++ length before ∷ []) c.push.new.self.items
          (w.nets-is ∙ w.in_ok-push-2.ensures.ok) pushed
          (signal_next nets c.loop-n.n net before ranks c.at-net.ensures c.loop-n.invariant
          (ap (is_of_type Signal) w.in-Signal.is))
      | in_default w ↦ signals_so nets (c.loop-n.n + 1) before c.match-net.nets
          (ranks ++ length before ∷ []) c.push.new.self.items w.nets-is pushed
          (other_next nets c.loop-n.n net before ranks c.at-net.ensures c.loop-n.invariant
          (not_signal net.ty w.in_default.not-Signal))
    ]
