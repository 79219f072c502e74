use Rattle.std.proofs.Common.{◌∙◌, ap, length, arith}
use Rattle.std.proofs.lemmas.Option.{slice_get-get_or}
use Rattle.std.proofs.lemmas.List.{length-map}
use Rattle.ix_least.proofs.Starting.{starting_none, starting_more}
use Rattle.ix_least.proofs.front.start.Goals as goal

pub loop-source-init : goal.loop-source-init
loop-source-init g c = record {
  starting = starting_none c.args.sources.now _ c.args.labels.now c.begin.new.self
      (g.Q.Queue.entries c.clear.new.self) c.begin.ensures c.clear.ensures;
  size = ap length c.begin.ensures ∙ length-map _ _;
}

pub loop-source-preserved : goal.loop-source-preserved
loop-source-preserved g c =
    let more = starting_more c.args.sources.now c.loop-source.source-index _ c.loop-source.labels
    c.offer.new.labels (g.Q.Queue.entries c.loop-source.queue)
    (g.Q.Queue.entries c.offer.new.queue) _ (slice_get-get_or c.args.sources.now
    c.loop-source.source-index 0 c.loop-source-test.true)
    (omega (
      arith,
      c.requires.sources c.loop-source.source-index 0 c.loop-source-test.true,
      c.loop-source.invariant.size,
    )) c.loop-source.invariant.starting
    c.in_ok-offer.ensures.offered in
    record {
      starting = more.0;
      size = more.1 ∙ c.loop-source.invariant.size;
    }
