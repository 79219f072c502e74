use Rattle.std.proofs.Common.{ℕ, List, Contains, subst, sym, arith}
use Rattle.std.proofs.lemmas.List.{take_all}
use Rattle.ix_lut.proofs.Masking.{has_none, has_next, has_only, has_every}
use Rattle.ix_lut.proofs.agreeing.used_inputs.Goals as goal

pub loop-place-init : goal.loop-place-init
loop-place-init c = has_none c.args.places.now

pub loop-place-preserved : goal.loop-place-preserved
loop-place-preserved c =
    let small = c.requires c.loop-place.place-index c.loop-place-test.true in
    has_next c.args.places.now c.loop-place.place-index c.loop-place.used (omega (arith, small)) c.loop-place.invariant

pub returns : goal.returns
returns c =
    let n : ℕ = c.loop-place.place-index in
    let xs : List ℕ = c.args.places.now in
    let all = take_all n xs c.loop-place-test.false in
    record {
      only = λ j one. subst (λ (ys : List ℕ). Contains ys j) all (has_only xs n c.loop-place.used c.loop-place.auto.place-index-end c.loop-place.invariant j one);
      every = λ j at. has_every xs n c.loop-place.used c.loop-place.invariant j (subst (λ (ys : List ℕ). Contains ys j) (sym all) at);
    }
