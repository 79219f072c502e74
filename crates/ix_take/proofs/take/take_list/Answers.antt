use Rattle.std.proofs.Common.{◌≤◌, ◌<◌, arith}
use Rattle.std.proofs.lemmas.List.Elements.{All-nil, All-push}
use Rattle.ix_frame.specs.Objects.{element_of}
use Rattle.ix_frame.specs.Views.{elements_of}
use Rattle.ix_schema.specs.Said.{said}
use Rattle.ix_take.specs.Views.{Stops}
use Rattle.ix_take.specs.Walked.{walked}
use Rattle.ix_take.proofs.Lists.{nothing_taken, one_taken, one_stops, all_taken}
use Rattle.ix_take.proofs.take.take_list.Goals as goal

pub loop-i-init : goal.loop-i-init
loop-i-init g c =
    let ctx = c.args.ctx.now in
    record {
      taken = rw c.in_ok-found.ensures (nothing_taken g.T.Take.structs (said g.T.Take.shape)
          (g.T.Take.asks ctx) (g.T.Take.made ctx) (g.T.Take.record_by ctx)
          (elements_of c.args.l) c.args.walk.now);
      named = rw c.in_ok-found.ensures (All-nil (g.T.Take.named ctx));
    }

pub returns-in-Err-clause-made : goal.returns-in-Err-clause-made
returns-in-Err-clause-made g c =
    let ctx = c.args.ctx.now in
    let l = elements_of c.args.l in
    let i = c.loop-i.i in
    let say = said g.T.Take.shape in
    let asks = g.T.Take.asks ctx in
    let lt : i < l.count = omega arith in
    let here : Stops g.T.Take.structs c.in-Err.stop
    (walked g.T.Take.structs c.loop-i.walk (asks (say (element_of l i)))) =
    rw c.at.ensures at c.in-Err.ensures.made in
    one_stops g.T.Take.structs say asks (g.T.Take.made ctx)
    (g.T.Take.record_by ctx) l c.args.walk.now c.in-Err.stop i c.loop-i.found c.loop-i.walk lt
    here c.loop-i.invariant.taken

pub loop-i-preserved : goal.loop-i-preserved
loop-i-preserved g c =
    let ctx = c.args.ctx.now in
    let l = elements_of c.args.l in
    let i = c.loop-i.i in
    let lt : i < l.count = omega arith in
    let here = rw c.at.ensures at c.in-Ok.ensures.made in
    record {
      taken = rw c.in_ok-push.ensures.ok (one_taken g.T.Take.structs (said g.T.Take.shape)
          (g.T.Take.asks ctx) (g.T.Take.made ctx)
          (g.T.Take.record_by ctx) l c.args.walk.now i c.loop-i.found c.loop-i.walk c.take.new.walk
          c.in-Ok.one lt here.0 here.1 c.loop-i.invariant.taken);
      named = rw c.in_ok-push.ensures.ok (All-push
          (g.T.Take.named ctx) c.loop-i.found c.in-Ok.one c.loop-i.invariant.named
          c.in-Ok.ensures.named);
    }

pub returns-clause-made : goal.returns-clause-made
returns-clause-made g c =
    let ctx = c.args.ctx.now in
    let l = elements_of c.args.l in
    let le : l.count ≤ c.loop-i.i = omega arith in
    all_taken g.T.Take.structs (said g.T.Take.shape) (g.T.Take.asks ctx) (g.T.Take.made ctx)
    (g.T.Take.record_by ctx) l c.args.walk.now c.loop-i.i c.loop-i.found c.loop-i.walk le
    c.loop-i.invariant.taken
