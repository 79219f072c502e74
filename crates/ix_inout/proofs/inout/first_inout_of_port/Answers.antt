use Rattle.std.proofs.Common.{◌≡◌, ◌∙◌, sym, ap, arith, rules}
use Rattle.std.proofs.lemmas.Option.{same_Some}
use Rattle.ix_rec.specs.declared.device.Direction.TheVariants.{Inout}
use Rattle.ix_hierarchy.specs.declared.row.Row.{Row}
use Rattle.ix_inout.proofs.Leaves.{pin_place, port_first, port_none}
use Rattle.ix_inout.proofs.inout.first_inout_of_port.Goals as goal
use Rattle.ix_inout.proofs.inout.first_inout_of_port.Goals.{else-place-end-via-then-place-end+else-at-port}
use Rattle.ix_inout.proofs.inout.first_inout_of_port.Goals.{else-place-end-via-else-place-end}

pub pin-requires : goal.pin-requires
pin-requires c =
    let A = c.requires.leaf.2 in
    let P = c.pins-start.ensures c.requires.leaf.0 c.args.rec.now c.requires.leaf.1 A.is_joined
    A.path_is in
    record {
      joined = pin_place c.requires.leaf.0 c.args.rec.now c.args.joined.now c.args.instance
          c.requires.leaf.1 c.pins-start.result.0 c.pins-start.result.1 c.from_port-place.result A P
          c.from_port-place.ensures.from c.if-place-end.true;
    }

pub returns-then-at-port : goal.returns-then-at-port
returns-then-at-port c = λ known path A constants.
    let P = c.pins-start.ensures known c.args.rec.now path A.is_joined A.path_is in
    let n = c.ne.ensures in
    let m = c.if-ne.false in
    let o = c.if-at-port.true in
    let at = P.each c.from_port-place.result A.inst c.from_port-place.ensures.from
    c.if-place-end.true A.leaf in
    let F = c.pin.ensures known A.is_joined constants at in
    let inout : c.at.result.now.dir ≡ Inout = search rules in
    let of_port : c.at-then-place-end.result.port ≡ c.args.port = c.if-at-port.true in
    port_first known c.args.rec.now c.args.joined.now c.args.instance path c.pins-start.result.0
    c.pins-start.result.1 c.from_port-place.result c.args.port c.at-then-place-end.result
    c.at.result.now c.pin.result A P c.from_port-place.ensures c.if-place-end.true
    c.at-then-place-end.ensures of_port c.at.ensures inout F

pub returns-else-place-end : goal.returns-else-place-end
returns-else-place-end c = λ known path A constants.
    let P = c.pins-start.ensures known c.args.rec.now path A.is_joined A.path_is in
    port_none known c.args.rec.now c.args.joined.now c.args.instance path c.pins-start.result.0
    c.pins-start.result.1 c.from_port-place.result c.args.port P c.from_port-place.ensures
    (λ row few is of_port. elim c.else-place-end.branch [
      | else-place-end-via-then-place-end+else-at-port w ↦
          let h = w.if-at-port.false in
          let s : w.at-then-place-end.result ≡ row =
          same_Some w.at-then-place-end.result row (sym w.at-then-place-end.ensures ∙ is) in
          let p : w.at-then-place-end.result.port ≡ row.port = ap (λ (r : Row). r.port) s in
          h (p ∙ of_port)
      | else-place-end-via-else-place-end w ↦ let h = w.if-place-end.false in omega arith
    ])
