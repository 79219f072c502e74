use Rattle.std.proofs.Common.{◌≡◌, ◌∙◌, ℕ, length, inl, inr, sym, ap, subst, arith}
use Rattle.std.proofs.lemmas.Bool.{cases_lt, false≢true}
use Rattle.std.proofs.lemmas.Option.{same_Some}
use Rattle.ix_rec.specs.declared.netlist.Cell.{Cell}
use Rattle.ix_unknown.specs.Marked.{IsMarked}
use Rattle.ix_unknown.proofs.way.first_marked.Goals as goal

pub returns-then-is_marked : goal.returns-then-is_marked
returns-then-is_marked c = λ cell is.
    ((c.is_marked.ensures cell is).0 c.if-is_marked.true, c.loop-place.invariant cell is)

pub loop-place-preserved : goal.loop-place-preserved
loop-place-preserved c = λ cell is place few M. elim (cases_lt place c.loop-place.place) [
  | inl before ↦ c.loop-place.invariant cell is place before M
  | inr last ↦
      let e : place ≡ c.loop-place.place = omega arith in
      let N : IsMarked c.args.rec.now c.args.marks.now cell c.loop-place.place =
      subst (λ (k : ℕ). IsMarked c.args.rec.now c.args.marks.now cell k) e M in
      false≢true (sym c.if-is_marked.false ∙ (c.is_marked.ensures cell is).1 N)
]

pub returns : goal.returns
returns c = λ cell is place few M.
    let same : c.at.result.now ≡ cell = same_Some c.at.result.now cell (sym c.at.ensures ∙ is) in
    let many : length c.at.result.now.insts ≡ length cell.insts =
    ap (λ (x : Cell). length x.insts) same in
    let end = c.len-place-end.ensures in
    let past = c.loop-place-test.false in
    c.loop-place.invariant cell is place (omega arith) M
