use Rattle.std.proofs.Common.{ap, sym, ◌∙◌, option_map, unwrap_or, nat_eq, [], arith}
use Rattle.std.specs.List.{find}
use Rattle.ix_belmap.proofs.Values.{find_next, find_here, take_end}
use Rattle.ix_belmap.proofs.properties.pins_of_package.Goals as goal

pub loop-i-preserved : goal.loop-i-preserved
loop-i-preserved c = find_next (λ p. nat_eq p.name c.args.name) c.args.packages.now c.loop-i.i
    c.at-package.result.now c.at-package.ensures c.loop-i.invariant
    (sym c.eq.ensures ∙ c.if-eq.false)

pub returns-then-eq : goal.returns-then-eq
returns-then-eq c = c.as_slice.ensures ∙ sym
    (ap (λ o. unwrap_or (option_map (λ p. p.package_pins) o) [])
    (find_here (λ p. nat_eq p.name c.args.name) c.args.packages.now c.loop-i.i
    c.at-package.result.now c.at-package.ensures c.loop-i.invariant
    (sym c.eq.ensures ∙ c.if-eq.true)))

pub returns : goal.returns
returns c =
    let none = ap (find (λ p. nat_eq p.name c.args.name))
    (sym (take_end c.args.packages.now c.loop-i.i (omega arith))) ∙ c.loop-i.invariant in
    sym (ap (λ o. unwrap_or (option_map (λ p. p.package_pins) o) []) none)
