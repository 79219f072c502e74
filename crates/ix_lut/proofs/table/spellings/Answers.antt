use Rattle.std.proofs.Common.{◌≡◌, ℕ, ◌*◌, ◌%◌, ◌^◌, ◌<◌, ◌≤◌, arith, refl, sym, subst}
use Rattle.std.proofs.Math.Pow.{pow_mono}
use Rattle.ix_lut.proofs.Bits.{values_fit}
use Rattle.ix_lut.proofs.Spelling.{spelled_zero, spelled_doubled, spelled_below_64}
use Rattle.ix_lut.proofs.table.spellings.Goals as goal

pub loop-j-init : goal.loop-j-init
loop-j-init c = record {
  long = refl;
  spelled = λ v h. let none : v ≡ 0 = omega (arith, h) in rw none (sym (spelled_zero c.args.places.now));
}

pub double-requires-clause-half : goal.double-requires-clause-half
double-requires-clause-half c =
    let few : c.loop-j.j ≤ 5 = omega (arith, c.loop-j-test.true, c.requires.small) in
    let room : 2 ^ c.loop-j.j ≤ 2 ^ 5 = pow_mono few in
    rw (values_fit c.loop-j.j (omega (arith, few))) room

pub double-requires-clause-small : goal.double-requires-clause-small
double-requires-clause-small c = λ v h.
    let few : c.loop-j.j ≤ 6 = omega (arith, c.loop-j-test.true, c.requires.small) in
    let below : v < 2 ^ c.loop-j.j = subst (λ (n : ℕ). v < n) (values_fit c.loop-j.j few) h in
    omega (arith, c.loop-j.invariant.spelled v below, spelled_below_64 c.args.places.now v c.requires.few)

pub double-requires-clause-more : goal.double-requires-clause-more
double-requires-clause-more c =
    omega (arith, c.spelled_at.ensures.small, pow_mono c.requires.few)

pub loop-j-preserved : goal.loop-j-preserved
loop-j-preserved c =
    let few : c.loop-j.j ≤ 6 = omega (arith, c.loop-j-test.true, c.requires.small) in
    record {
      long = c.double.ensures.long;
      spelled = spelled_doubled c.args.places.now c.loop-j.j (1 * 2 ^ c.loop-j.j % 4294967296) c.loop-j.spells c.double.new.spells
          c.spelled_at.result (values_fit c.loop-j.j few) c.spelled_at.ensures.value c.loop-j.invariant.spelled
          c.double.ensures.kept c.double.ensures.added;
    }
