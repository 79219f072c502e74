use Rattle.std.proofs.Common.{◌≡◌, ◌∙◌, ◌++◌, ap, sym, true≢false, Ok, Err, ℕ, Result, arith}
use Rattle.std.specs.Fmt.{decimal}
use Rattle.std.proofs.lemmas.Fmt.{parse-decimal}
use Rattle.std.proofs.lemmas.Bool.Decides.{Decides-eqb}
use Rattle.std.proofs.lemmas.Slice.Eq.{slice_eq-Decides}
use Rattle.ix_open_inputs.proofs.index.number_of.Goals as goal

abbrev number : {E : Type 0} → Result ℕ E → ℕ
number (Ok n) = n
number (Err e) = 0

pub returns-in_default : goal.returns-in_default
returns-in_default c index below is = c.in_default.not-Ok index
    (parse-decimal 32 index c.args.digits.now c.parse.result below (omega (arith, below)) is
    c.parse.ensures.value.0)

pub returns : goal.returns
returns c index below is =
    let parsed = parse-decimal 32 index c.args.digits.now c.parse.result below
    (omega (arith, below)) is c.parse.ensures.value.0 in
    let same : c.in-Ok.number ≡ index = ap number (sym c.in-Ok.is ∙ parsed) in
    let tells = slice_eq-Decides Decides-eqb c.as_str.result.now c.args.digits.now c.eq.result
    c.eq.ensures in
    true≢false (sym (tells.1 (c.as_str.ensures.value ∙ c.in_ok-write.ensures.bytes
    ∙ ap (λ front. front ++ decimal c.in-Ok.number) c.new-written.ensures.bytes
    ∙ ap decimal same ∙ sym is)) ∙ c.if-eq.false)
