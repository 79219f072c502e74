use Rattle.std.proofs.Common.{List, ℕ, Option, ◌-◌, take, drop, length, ap, ◌∙◌, rules}
use Rattle.ix_shelf.specs.Sink.{with_bytes}
use Rattle.ix_shelf.proofs.Pieces.{with_bytes-more, take-rest}
use Rattle.ix_shelf.proofs.sink.say.Goals as goal

pub loop-at-preserved : goal.loop-at-preserved
loop-at-preserved g c =
    let bytes : List ℕ = c.args.bytes.now in
    let at : ℕ = c.loop-at.at in
    let n : ℕ = c.in_ok-taken.taken in
    let piece : List ℕ = take (length bytes - at) (drop at bytes) in
    record {
      in_range = search rules;
      put = c.in_ok-taken.ensures.put ∙ ap (λ (t : Option (List ℕ)). with_bytes (take n piece) t) c.loop-at.invariant.put ∙ with_bytes-more bytes piece at n (g.O.Sink.told c.args.out.now) (take-rest bytes at n);
      faults = search rules;
    }
