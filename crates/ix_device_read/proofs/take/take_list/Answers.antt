use Rattle.std.proofs.Common.{◌≡◌, ◌≤◌, ◌<◌, ◌-◌, ◌+◌, ◌++◌, ◌∷◌, [], map, arith}
use Rattle.std.proofs.lemmas.List.{map_push}
use Rattle.ix_frame.specs.Objects.{element_of}
use Rattle.ix_frame.specs.Views.{elements_of}
use Rattle.ix_schema.specs.Said.{said, each_said}
use Rattle.ix_device_read.specs.Finish.{finish_at}
use Rattle.ix_device_read.specs.Named.{limit_of}
use Rattle.ix_device_read.specs.Views.{sizes_of, Stops}
use Rattle.ix_device_read.proofs.Each.{one_more, one_stops, all_done}
use Rattle.ix_device_read.proofs.Naming.{all_push}
use Rattle.ix_device_read.proofs.Said.{said_next, said_no_more}
use Rattle.ix_device_read.proofs.take.take_list.Goals as goal

pub returns-in-Err-clause-made : goal.returns-in-Err-clause-made
returns-in-Err-clause-made g c =
    let l = elements_of c.args.l in
    let i = c.loop-i.i in
    let say = said g.T.Take.shape in
    let lt : i < l.count = omega arith in
    let here : Stops c.in-Err.stop (finish_at g.T.Take.shape (sizes_of c.args.ctx.now c.args.scope) (say (element_of l i)) c.loop-i.walk) = rw c.at.ensures at c.in-Err.ensures.made in
    one_stops c.in-Err.stop (finish_at g.T.Take.shape (sizes_of c.args.ctx.now c.args.scope)) (map (g.T.Take.record_by c.args.ctx.now.names.now) c.loop-i.found) (say (element_of l i)) (each_said say (l.count - (i + 1)) l (i + 1)) (each_said say (l.count - i) l i) c.loop-i.walk _ (said_next say l.count l i lt) here c.loop-i.invariant.is

pub loop-i-preserved : goal.loop-i-preserved
loop-i-preserved g c =
    let l = elements_of c.args.l in
    let i = c.loop-i.i in
    let say = said g.T.Take.shape in
    let lt : i < l.count = omega arith in
    let e : map (g.T.Take.record_by c.args.ctx.now.names.now) c.push.new.self ≡ map (g.T.Take.record_by c.args.ctx.now.names.now) c.loop-i.found ++ g.T.Take.record_by c.args.ctx.now.names.now c.in-Ok.one ∷ [] = rw c.in_ok-push.ensures.ok (map_push (g.T.Take.record_by c.args.ctx.now.names.now) c.loop-i.found c.in-Ok.one) in record {
      is = rw e (one_more (finish_at g.T.Take.shape (sizes_of c.args.ctx.now c.args.scope)) (map (g.T.Take.record_by c.args.ctx.now.names.now) c.loop-i.found) (say (element_of l i)) (each_said say (l.count - (i + 1)) l (i + 1)) (each_said say (l.count - i) l i) c.loop-i.walk (g.T.Take.record_by c.args.ctx.now.names.now c.in-Ok.one) c.take.new.walk _ (said_next say l.count l i lt) (rw c.at.ensures at c.in-Ok.ensures.made) c.loop-i.invariant.is);
      named = rw c.in_ok-push.ensures.ok (all_push (g.T.Take.named (limit_of c.args.ctx.now)) c.loop-i.found c.in-Ok.one c.loop-i.invariant.named c.in-Ok.ensures.named);
    }

pub returns-clause-made : goal.returns-clause-made
returns-clause-made g c =
    let l = elements_of c.args.l in
    let say = said g.T.Take.shape in
    let le : l.count ≤ c.loop-i.i = omega arith in
    all_done (finish_at g.T.Take.shape (sizes_of c.args.ctx.now c.args.scope)) (map (g.T.Take.record_by c.args.ctx.now.names.now) c.loop-i.found) (each_said say (l.count - c.loop-i.i) l c.loop-i.i) c.loop-i.walk _ (said_no_more say l.count l c.loop-i.i le) c.loop-i.invariant.is
