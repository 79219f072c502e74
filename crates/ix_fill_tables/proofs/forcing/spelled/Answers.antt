use Rattle.std.proofs.Common.{◌≡◌, ◌<◌, take, arith, ap, ◌∙◌, rules, ◌+◌, ◌*◌, ◌/◌, ◌%◌, ◌^◌, ℕ}
use Rattle.std.proofs.Common.{slice_index, bit_and, List}
use Rattle.std.proofs.lemmas.List.{take_all, length-take}
use Rattle.ix_lut.specs.Tables.{spelled}
use Rattle.ix_lut.proofs.Spelling.{spelled_next, spelled_below_64}
use Rattle.ix_fill_tables.proofs.forcing.spelled.Goals as goal

-- what an input adds
abbrev bit : (used : List ℕ) (values i : ℕ) → ℕ
bit used values i = bit_and (values / 2 ^ slice_index used i) 1 * 2 ^ i % 2 ^ 32

pub overflow_add-n : goal.overflow_add-n
overflow_add-n c =
    let used : List ℕ = c.args.used.now in let values : ℕ = c.args.values in
    let i : ℕ = c.loop-i.i in
    let e = ap (λ n. n + bit used values i) c.loop-i.invariant
    ∙ spelled_next used i values c.loop-i-test.true c.requires.few in
    let small = spelled_below_64 (take (i + 1) used) values
    (omega (arith, length-take (i + 1) used)) in
    let fits : c.loop-i.n + bit used values i < 2 ^ 32 = omega (arith, e, small) in
    search rules

pub loop-i-preserved : goal.loop-i-preserved
loop-i-preserved c =
    let used : List ℕ = c.args.used.now in let values : ℕ = c.args.values in
    ap (λ n. n + bit used values c.loop-i.i) c.loop-i.invariant
    ∙ spelled_next used c.loop-i.i values c.loop-i-test.true c.requires.few

pub returns-clause-small : goal.returns-clause-small
returns-clause-small c =
    let e = take_all c.loop-i.i c.args.used.now c.loop-i-test.false in
    let is = c.loop-i.invariant ∙ ap (λ xs. spelled xs c.args.values) e in
    let small = spelled_below_64 c.args.used.now c.args.values c.requires.few in
    omega (arith, is, small)
