use Rattle.std.proofs.Common.{◌∙◌, ◌+◌, arith, ap, sym, drop, not, ◌||◌, nat_eq}
use Rattle.std.specs.List.{list_any}
use Rattle.std.proofs.Math.ListN.{drop_of_length-le}
use Rattle.ix_device_rules.specs.Rules.{is_new}
use Rattle.ix_lut_tables.proofs.Places.{drop_at, nat_eq_sym}
use Rattle.ix_lut_tables.proofs.types.is_new.Goals as goal

pub returns-then-eq : goal.returns-then-eq
returns-then-eq c = let names = c.args.names.now in let name = c.args.name in
    sym (c.loop-j.invariant
    ∙ ap (λ xs. is_new xs name) (drop_at names c.loop-j.j c.at.result.now c.at.ensures)
    ∙ ap (λ b. not (b || list_any (nat_eq name) (drop (c.loop-j.j + 1) names)))
    (nat_eq_sym name c.at.result.now ∙ sym c.eq.ensures ∙ c.if-eq.true))

pub loop-j-preserved : goal.loop-j-preserved
loop-j-preserved c = let names = c.args.names.now in let name = c.args.name in
    c.loop-j.invariant
    ∙ ap (λ xs. is_new xs name) (drop_at names c.loop-j.j c.at.result.now c.at.ensures)
    ∙ ap (λ b. not (b || list_any (nat_eq name) (drop (c.loop-j.j + 1) names)))
    (nat_eq_sym name c.at.result.now ∙ sym c.eq.ensures ∙ c.if-eq.false)

pub returns : goal.returns
returns c = sym (c.loop-j.invariant ∙ ap (λ xs. is_new xs c.args.name)
    (drop_of_length-le c.args.names.now (omega (arith, c.loop-j-test.false, c.len-j-end.ensures))))
