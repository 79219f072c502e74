use Rattle.std.proofs.Common.{◌-◌, get_or, sym, subst}
use Rattle.ix_lut.proofs.Words.{AllowsIn, allows_free, allows_vcc, allows_gnd, one_words}
use Rattle.ix_lut.specs.declared.shape.Tie.{Tie}
use Rattle.ix_lut.proofs.agreeing.allowed.Goals as goal

pub returns-in-Free : goal.returns-in-Free
returns-in-Free c =
    let held = subst (λ (t : Tie). AllowsIn t c.args.j 18446744073709551615) (sym c.in-Free.is) (allows_free c.args.j) in
    record { only = held.only; every = held.every }

pub returns-in-Vcc : goal.returns-in-Vcc
unfolding one_words
returns-in-Vcc c =
    let held = subst (λ (t : Tie). AllowsIn t c.args.j (get_or one_words c.args.j 0)) (sym c.in-Vcc.is) (allows_vcc c.args.j c.requires) in
    record { only = held.only; every = held.every }

pub returns-in-Gnd : goal.returns-in-Gnd
unfolding one_words
returns-in-Gnd c =
    let held = subst (λ (t : Tie). AllowsIn t c.args.j (18446744073709551615 - get_or one_words c.args.j 0)) (sym c.in-Gnd.is) (allows_gnd c.args.j c.requires) in
    record { only = held.only; every = held.every }
