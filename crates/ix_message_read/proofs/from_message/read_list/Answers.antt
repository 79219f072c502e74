use Rattle.std.proofs.Common.{◌≡◌, ◌≤◌, ◌<◌, ◌++◌, ◌∷◌, [], map, arith}
use Rattle.std.proofs.lemmas.List.{map_push}
use Rattle.ix_message.specs.Reading.{value_at, each_from}
use Rattle.ix_frame.specs.Views.{object_of, elements_of}
use Rattle.ix_message_read.specs.Tells.{Fails}
use Rattle.ix_message.proofs.Lists.{goes_on, is_done}
use Rattle.ix_message_read.proofs.Failing.{fails_on}
use Rattle.ix_message_read.proofs.from_message.read_list.Goals as goal

pub returns-in-Err : goal.returns-in-Err
returns-in-Err g c =
    let lt : c.loop-i.i < (elements_of c.args.l).count = omega arith in
    let here : Fails c.in-Err.fault (value_at g.T.FromMessage.shape (object_of c.at.result) c.loop-i.budget) = c.in-Err.ensures in
    fails_on c.in-Err.fault (value_at g.T.FromMessage.shape) (elements_of c.args.l) (map g.T.FromMessage.value c.loop-i.found) (elements_of c.args.l).count c.loop-i.i c.loop-i.budget (each_from (value_at g.T.FromMessage.shape) (elements_of c.args.l).count (elements_of c.args.l) 0 c.args.budget.now) lt (rw c.at.ensures at here) c.loop-i.invariant

pub loop-i-preserved : goal.loop-i-preserved
loop-i-preserved g c =
    let lt : c.loop-i.i < (elements_of c.args.l).count = omega arith in
    let one = c.in-Ok.one in
    let e : map g.T.FromMessage.value c.push.new.self ≡ map g.T.FromMessage.value c.loop-i.found ++ g.T.FromMessage.value one ∷ [] = rw c.in_ok-push.ensures.ok (map_push _ c.loop-i.found one) in
    rw e (goes_on (value_at g.T.FromMessage.shape) (elements_of c.args.l) (map g.T.FromMessage.value c.loop-i.found) (elements_of c.args.l).count c.loop-i.i c.loop-i.budget (g.T.FromMessage.value one) c.read.new.budget (each_from (value_at g.T.FromMessage.shape) (elements_of c.args.l).count (elements_of c.args.l) 0 c.args.budget.now) lt (rw c.at.ensures at c.in-Ok.ensures) c.loop-i.invariant)

pub returns : goal.returns
returns g c =
    let le : (elements_of c.args.l).count ≤ c.loop-i.i = omega arith in
    is_done (value_at g.T.FromMessage.shape) (elements_of c.args.l) (map g.T.FromMessage.value c.loop-i.found) (elements_of c.args.l).count c.loop-i.i c.loop-i.budget (each_from (value_at g.T.FromMessage.shape) (elements_of c.args.l).count (elements_of c.args.l) 0 c.args.budget.now) le c.loop-i.invariant
