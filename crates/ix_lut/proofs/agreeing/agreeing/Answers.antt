use Rattle.std.proofs.Common.{◌≡◌, ℕ, ◌-◌, ◌≤◌, ◌^◌, length, Contains, subst, ap, ◌∙◌, arith}
use Rattle.std.proofs.Math.Pow.{pow_mono}
use Rattle.std.proofs.lemmas.Nat.Bits.{ones_shr}
use Rattle.ix_lut.specs.Shapes.{held_by}
use Rattle.ix_lut.proofs.Bits.{values_fit}
use Rattle.ix_lut.proofs.Words.{IsWordBelow, agrees_first, agrees_only, agrees_every, agrees_used, agrees_unused}
use Rattle.ix_lut.proofs.agreeing.agreeing.Goals as goal
use Rattle.ix_lut.proofs.agreeing.agreeing.Goals.{then-is_unused, else-is_unused}

pub loop-j-init : goal.loop-j-init
loop-j-init c =
    let n = c.args.bel.now.inputs in
    let room : 2 ^ n ≤ 64 = pow_mono c.requires.bel.few in
    let count = values_fit n c.requires.bel.few in
    agrees_first c.args.bel.now.lines c.args.places.now (held_by c.args.held.now) n c.requires.bel.few _
    (rw (values_fit n c.requires.bel.few) (ones_shr 64 (64 - 2 ^ n) (omega arith) ∙ ap (λ k. 2 ^ k - 1) (omega (arith, room))))

pub loop-j-preserved : goal.loop-j-preserved
loop-j-preserved c = elim c.if-is_unused.branch [
  | then-is_unused w ↦
      let unused = λ (used : Contains c.args.places.now c.loop-j.j). absurd (omega (
        arith,
        c.used_inputs-used.ensures.every c.loop-j.j used,
        c.is_unused.ensures.yes w.if-is_unused.true,
      )) in
      rw w.word-is (agrees_unused c.args.bel.now.lines c.args.places.now (held_by c.args.held.now) c.args.bel.now.inputs
      c.requires.bel.few c.loop-j.j c.loop-j.word w.allowed-word.result c.loop-j-test.true unused
      record { only = w.allowed-word.ensures.only; every = w.allowed-word.ensures.every } c.loop-j.invariant)
  | else-is_unused w ↦
      let used = c.used_inputs-used.ensures.only c.loop-j.j (c.is_unused.ensures.no w.if-is_unused.false) in
      rw w.word-is (agrees_used c.args.bel.now.lines c.args.places.now (held_by c.args.held.now) c.args.bel.now.inputs
      c.requires.bel.few c.loop-j.j c.loop-j.word used c.loop-j.invariant)
]

pub returns : goal.returns
returns c =
    let long : length c.args.bel.now.lines ≡ 6 = omega arith in
    let done : c.loop-j.j ≡ c.args.bel.now.inputs = omega arith in
    let is = subst (λ (n : ℕ). IsWordBelow c.args.bel.now.lines c.args.places.now (held_by c.args.held.now) c.args.bel.now.inputs n c.loop-j.word) done c.loop-j.invariant in
    record {
      table = is.table;
      only = agrees_only c.args.bel.now c.args.places.now (held_by c.args.held.now) long c.requires.bel.few c.loop-j.word is;
      every = agrees_every c.args.bel.now c.args.places.now (held_by c.args.held.now) long c.requires.bel.few c.loop-j.word is;
    }
