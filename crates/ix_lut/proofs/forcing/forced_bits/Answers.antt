use Rattle.std.proofs.Common.{ℕ, ◌≤◌, ◌+◌, ◌^◌, length}
use Rattle.ix_lut.specs.Shapes.{held_by, input_lines}
use Rattle.ix_lut.specs.Forcing.{lut_at, place_of, IsReady}
use Rattle.ix_lut.proofs.ForcedWords.{forced_none, forced_next, word_ones, word_zeros, values_only, values_every}
use Rattle.ix_lut.proofs.forcing.forced_bits.Goals as goal

pub loop-lut-init : goal.loop-lut-init
loop-lut-init c = record { zeros = forced_none c.args.luts.now (held_by c.args.held.now) 0; ones = forced_none c.args.luts.now (held_by c.args.held.now) 1 }

pub loop-lut-preserved : goal.loop-lut-preserved
loop-lut-preserved c =
    let u : ℕ = c.loop-lut.lut-index in
    let luts = c.args.luts.now in
    let held = held_by c.args.held.now in
    let lut = lut_at luts u in
    let ready : IsReady lut = c.requires u c.loop-lut-test.true in
    let read : ℕ = c.agreeing-read.result in
    let room : lut.bel.low + 2 ^ length (input_lines lut.bel) ≤ 64 = rw ready.long ready.bel.within in
    let ones = word_ones lut ready held read c.agreeing-read.ensures.table c.agreeing-read.ensures.only c.agreeing-read.ensures.every in
    let zeros = word_zeros lut ready held read c.agreeing-read.ensures.table c.agreeing-read.ensures.only c.agreeing-read.ensures.every in
    record {
      zeros = forced_next luts held 0 u c.loop-lut.zeros _
          (values_only (place_of lut) lut.table held 0 _ room zeros) (values_every (place_of lut) lut.table held 0 _ room zeros) c.loop-lut.invariant.zeros;
      ones = forced_next luts held 1 u c.loop-lut.ones _
          (values_only (place_of lut) lut.table held 1 _ room ones) (values_every (place_of lut) lut.table held 1 _ room ones) c.loop-lut.invariant.ones;
    }
