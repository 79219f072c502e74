use Rattle.std.proofs.Common.{◌≡◌, ◌∙◌, ap, sym, subst, List, ℕ, length, ◌+◌, ◌<◌, arith}
use Rattle.ix_flat_names.specs.Signals.{AreSignalsTo, is_first_signal}
use Rattle.ix_flat_names.proofs.Walked.{no_signal, one_signal}
use Rattle.ix_flat_names.proofs.signals.put_signal.Goals as goal

pub returns-in_ok-push : goal.returns-in_ok-push
returns-in_ok-push c = λ known design joined are firsts is to.
    let states = c.args.states.now in
    let net = c.args.net in
    let long : length states ≡ length joined.firsts.items =
    c.requires.many ∙ sym (ap length firsts) in
    let many : length joined.firsts.items ≡ length c.args.firsts.now = ap length firsts in
    let there : net < length c.args.firsts.now = c.requires.there in
    let lt : net < length joined.firsts.items = omega arith in
    subst (λ (l : List ℕ). AreSignalsTo known design joined (net + 1) l)
    (sym c.in_ok-push.ensures.items)
    (one_signal known design joined states net c.args.signals.now.items are is long lt
    (ap (λ (l : List ℕ). is_first_signal l states net) firsts ∙ sym c.is_first_signal.ensures
    ∙ c.if-is_first_signal.true) to)

pub returns-else-is_first_signal : goal.returns-else-is_first_signal
returns-else-is_first_signal c = λ known design joined are firsts is to.
    let states = c.args.states.now in
    let net = c.args.net in
    let long : length states ≡ length joined.firsts.items =
    c.requires.many ∙ sym (ap length firsts) in
    no_signal known design joined states net c.args.signals.now.items are is long
    (ap (λ (l : List ℕ). is_first_signal l states net) firsts ∙ sym c.is_first_signal.ensures
    ∙ c.if-is_first_signal.false) to
