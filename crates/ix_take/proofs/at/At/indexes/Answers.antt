use Rattle.std.proofs.Common.{◌≡◌, ◌<◌, ◌+◌, ◌++◌, ◌∷◌, ◌∙◌, [], length, take, true, refl, arith}
use Rattle.std.specs.Prelude.{nat_lt, slice_index}
use Rattle.std.proofs.lemmas.Bool.Decides.{nat_tests}
use Rattle.std.proofs.lemmas.List.{take_more}
use Rattle.std.proofs.lemmas.List.Elements.{All-push}
use Rattle.std.proofs.lemmas.List.Folds.{list_all-append}
use Rattle.ix_frame.specs.Views.{numbers_of}
use Rattle.ix_take.proofs.at.At.indexes.Goals as goal

pub loop-i-preserved : goal.loop-i-preserved
loop-i-preserved c =
    let ns = numbers_of c.args.l in
    let lt : c.loop-i.i < length ns = omega arith in
    let more : take (c.loop-i.i + 1) ns ≡ take c.loop-i.i ns ++ slice_index ns c.loop-i.i ∷ [] =
    take_more ns c.loop-i.i 0 lt in
    let below : slice_index ns c.loop-i.i < c.args.many =
    omega (arith, c.at-n.ensures, c.if-n-many.false) in
    let test : nat_lt (slice_index ns c.loop-i.i) c.args.many ≡ true = grind (arith, nat_tests) in
    record {
      found = rw (c.in_ok-push.ensures.ok, more, c.loop-i.invariant.found, c.at-n.ensures) refl;
      fit = rw more (list_all-append (λ n. nat_lt n c.args.many) (take c.loop-i.i ns)
          (slice_index ns c.loop-i.i ∷ []) ∙ rw (c.loop-i.invariant.fit, test) refl);
      below = rw c.in_ok-push.ensures.ok (All-push
          (λ n. n < c.args.many) c.loop-i.found c.at-n.result c.loop-i.invariant.below
          (rw c.at-n.ensures below));
    }
