use Rattle.std.proofs.Common.{◌≡◌, ◌≤◌, ◌<◌, ◌++◌, ◌∷◌, [], List, ℕ, map, arith, Bor}
use Rattle.std.proofs.lemmas.List.{map_push}
use Rattle.ix_message.specs.Reading.{texts_from}
use Rattle.ix_frame.specs.Views.{text_elements}
use Rattle.ix_message_read.proofs.TextLists.{text_goes_on, text_stops, texts_done}
use Rattle.ix_message_read.proofs.texts.texts_of.Goals as goal

pub returns-in-Err : goal.returns-in-Err
returns-in-Err c =
    let lt : c.loop-i.i < (text_elements c.args.l).count = omega arith in
    text_stops c.in-Err.fault (text_elements c.args.l) (map (λ t. t.now) c.loop-i.found) (text_elements c.args.l).count c.loop-i.i c.loop-i.budget (texts_from (text_elements c.args.l).count (text_elements c.args.l) 0 c.args.budget.now) lt c.in-Err.ensures.exact.0 c.loop-i.invariant

pub loop-i-preserved : goal.loop-i-preserved
loop-i-preserved c =
    let lt : c.loop-i.i < (text_elements c.args.l).count = omega arith in
    let front = map {A = Bor (List ℕ)} {B = List ℕ} (λ t. t.now) c.loop-i.found in
    let e : map {A = Bor (List ℕ)} {B = List ℕ} (λ t. t.now) c.push.new.self ≡ front ++ c.in-Ok.text.now ∷ [] = rw c.in_ok-push.ensures.ok (map_push (λ (t : Bor (List ℕ)). t.now) c.loop-i.found c.in-Ok.text) in
    rw e (text_goes_on (text_elements c.args.l) front (text_elements c.args.l).count c.loop-i.i c.loop-i.budget c.in-Ok.text.now c.at.new.budget (texts_from (text_elements c.args.l).count (text_elements c.args.l) 0 c.args.budget.now) lt c.in-Ok.ensures.exact c.loop-i.invariant)

pub returns : goal.returns
returns c =
    let le : (text_elements c.args.l).count ≤ c.loop-i.i = omega arith in
    texts_done (text_elements c.args.l) (map (λ t. t.now) c.loop-i.found) (text_elements c.args.l).count c.loop-i.i c.loop-i.budget (texts_from (text_elements c.args.l).count (text_elements c.args.l) 0 c.args.budget.now) le c.loop-i.invariant
