use Rattle.std.proofs.Common.{◌≡◌, ◌<◌, refl, ap, sym, length, arith}
use Rattle.ix_belmap.proofs.Staying.{next_passes, fails, all_pass, no_home, home_too, home_alone}
use Rattle.ix_belmap.proofs.stays.stays_with.Goals as goal
use Rattle.ix_belmap.proofs.stays.stays_with.Goals.{then-is_home+else-not-is_home, else-is_home}

pub loop-place-init : goal.loop-place-init
loop-place-init c = refl

pub loop-place-preserved : goal.loop-place-preserved
loop-place-preserved c =
    let lt : c.loop-place.place < length c.args.device.now.site_type_list =
    (let same = ap (λ r. length r.site_type_list) c.rec.ensures.same in omega arith) in
    next_passes c.args.device.now c.args.port_type c.args.ty c.loop-place.place lt
    c.loop-place.invariant (λ t at. elim c.if-is_home.branch [
      | then-is_home+else-not-is_home w ↦ home_too c.args.device.now c.args.port_type c.args.ty
          c.loop-place.place w.is_home-then-is_home.result t w.is_home-then-is_home.ensures
          w.if-not-is_home.false at
      | else-is_home w ↦ no_home c.args.device.now c.args.port_type c.args.ty c.loop-place.place
          c.is_home.result t c.is_home.ensures w.if-is_home.false at
    ])

pub returns-then-not-is_home : goal.returns-then-not-is_home
returns-then-not-is_home c =
    let lt : c.loop-place.place < length c.args.device.now.site_type_list =
    (let same = ap (λ r. length r.site_type_list) c.rec.ensures.same in omega arith) in
    sym (fails c.args.device.now c.args.port_type c.args.ty c.loop-place.place lt (λ t at.
    home_alone c.args.device.now c.args.port_type c.args.ty c.loop-place.place c.is_home.result
    c.is_home-then-is_home.result t c.is_home.ensures c.if-is_home.true
    c.is_home-then-is_home.ensures c.if-not-is_home.true at))

pub returns : goal.returns
returns c =
    let end : c.loop-place.place ≡ length c.args.device.now.site_type_list =
    (let same = ap (λ r. length r.site_type_list) c.rec.ensures.same in omega arith) in
    sym (all_pass c.args.device.now c.args.port_type c.args.ty c.loop-place.place end
    c.loop-place.invariant)
