use Rattle.std.proofs.Common.{◌<◌, ◌≤◌, refl, subst, length, arith}
use Rattle.std.proofs.lemmas.Option.{slice_get_read}
use Rattle.ix_belmap.specs.Marks.{IsNetBelow}
use Rattle.ix_belmap.proofs.Pinned.{put_told}
use Rattle.ix_belmap.proofs.nets.put_pin.Goals as goal

pub returns-in_ok-put-clause-rows : goal.returns-in_ok-put-clause-rows
returns-in_ok-put-clause-rows c =
    let rows = c.args.rows.now.items in
    let below : c.in-Signal.net < length rows =
    subst (IsNetBelow (length rows)) c.in-Signal.is c.requires in
    let lt : c.get-then-get-ports.result < length rows =
    (let e = c.get-then-get-ports.ensures in omega arith) in
    let inner : c.args.ports ≤ c.args.cell =
    (let e = c.get.ensures in let t = c.if-get-ports.true in omega arith) in
    put_told rows c.args.ports c.args.cell c.args.net c.in-Signal.net c.get-then-get-ports.result
    c.index_mut.result.now c.put.new.row c.in-Signal.is c.get-then-get-ports.ensures lt inner
    (slice_get_read rows (length rows) c.get-then-get-ports.result c.index_mut.result.now refl lt
    c.index_mut.ensures.value)
    c.in_ok-put.ensures
