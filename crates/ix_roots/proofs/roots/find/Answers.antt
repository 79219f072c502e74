use Rattle.std.proofs.Common.{ℕ, sym, subst, set, get_or, get_or-set_same}
use Rattle.ix_roots.proofs.Finding.{IsFinding, finding_more}
use Rattle.ix_roots.proofs.roots.find.Goals as goal

pub loop-above-preserved : goal.loop-above-preserved
loop-above-preserved c =
    let above = c.loop-above.above in
    let far : ℕ = get_or above (get_or above c.loop-above.at 0) 0 in
    subst (λ (n : ℕ). IsFinding c.args.above.now (set above c.loop-above.at far) c.args.number n)
    (sym (get_or-set_same above c.loop-above.at far 0 c.loop-above.invariant.inside))
    (finding_more c.args.above.now above c.args.number c.loop-above.at c.loop-above-test.true
    c.loop-above.invariant)
