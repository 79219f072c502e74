use Rattle.std.proofs.Common.{◌∙◌, sym, nat_eq, arith}
use Rattle.ix_lut_tables.proofs.Places.{none_further, none_at_end, stops_at}
use Rattle.ix_lut_tables.proofs.of_instances.entry_of.Goals as goal

pub returns-then-eq-clause-place : goal.returns-then-eq-clause-place
returns-then-eq-clause-place c = sym (stops_at (λ e. nat_eq e.key c.args.key)
    c.args.properties.now.entries c.loop-i.i c.at.result.now c.loop-i.invariant c.at.ensures
    (sym c.eq.ensures ∙ c.if-eq.true))

pub loop-i-preserved : goal.loop-i-preserved
loop-i-preserved c = none_further (λ e. nat_eq e.key c.args.key) c.args.properties.now.entries
    c.loop-i.i c.at.result.now c.loop-i.invariant c.at.ensures (sym c.eq.ensures ∙ c.if-eq.false)

pub returns-clause-place : goal.returns-clause-place
returns-clause-place c = sym (none_at_end (λ e. nat_eq e.key c.args.key)
    c.args.properties.now.entries c.loop-i.i c.loop-i.invariant
    (omega (arith, c.loop-i-test.false, c.len-i-end.ensures)))
