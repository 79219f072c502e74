use Rattle.std.proofs.Common.{◌≤◌, ◌+◌, ◌∙◌, ap, sym, subst, arith, length, Option}
use Rattle.ix_device.specs.PinsListed.{pins_listed}
use Rattle.ix_rec.specs.declared.device.LutCell.{LutCell}
use Rattle.ix_extract.specs.Extracted.{is_lut_input}
use Rattle.ix_extract.specs.Taken.{AddsPins, IsListed}
use Rattle.ix_extract.proofs.Finding.{listed_inside}
use Rattle.ix_extract.proofs.Growing.{all_listed, listed_next, listed_passed, listed_pin}
use Rattle.ix_extract.proofs.Growing.{type_there}
use Rattle.ix_extract.proofs.pins.put_listed.Goals as goal
use Rattle.ix_extract.proofs.pins.put_listed.Goals.{then-not-is_lut_input+in_ok-put_pin}
use Rattle.ix_extract.proofs.pins.put_listed.Goals.{else-not-is_lut_input}

pub put_pin-requires-clause-pin : goal.put_pin-requires-clause-pin
put_pin-requires-clause-pin c =
    let at = c.args.at.now in let placement = at.placement.now in
    listed_pin c.args.on.now.device.now c.args.on.now.phys.now at.cell placement at.site at.ty
    c.requires.at (pins_listed c.args.list.now) c.requires.list c.loop-j.j c.at-name.result
    c.at-name.ensures (ap (λ (o : Option LutCell). is_lut_input o c.at-name.result.0)
    (sym c.requires.lut) ∙ sym c.is_lut_input.ensures ∙ c.if-not-is_lut_input.true)

pub put_pin-requires-clause-inside : goal.put_pin-requires-clause-inside
put_pin-requires-clause-inside c =
    let at = c.args.at.now in let placement = at.placement.now in
    listed_inside c.args.on.now.device.now placement.site at.ty
    (type_there c.args.on.now.device.now c.args.on.now.phys.now at.cell placement at.site at.ty
    c.requires.at) placement.ty placement.bel (pins_listed c.args.list.now) c.requires.list
    c.loop-j.j c.at-name.result c.at-name.ensures

pub loop-j-preserved : goal.loop-j-preserved
loop-j-preserved c =
    let rec = c.args.on.now.device.now in let phys = c.args.on.now.phys.now in
    let at = c.args.at.now in let placement = at.placement.now in
    let list = pins_listed c.args.list.now in
    elim c.if-not-is_lut_input.branch [
      | then-not-is_lut_input+in_ok-put_pin w ↦
          subst (AddsPins rec phys at.cell (IsListed rec placement list (c.loop-j.j + 1))
          c.args.pins.now) (sym w.pins-is)
          (listed_next rec phys at.cell placement at.site at.ty c.requires.at list c.requires.list
          c.loop-j.j c.at-name.result c.args.pins.now c.loop-j.pins w.put_pin.new.pins
          c.at-name.ensures c.loop-j.invariant w.in_ok-put_pin.ensures)
      | else-not-is_lut_input w ↦
          subst (AddsPins rec phys at.cell (IsListed rec placement list (c.loop-j.j + 1))
          c.args.pins.now) (sym w.pins-is)
          (listed_passed rec phys at.cell placement at.site at.ty c.requires.at list
          c.requires.list c.loop-j.j c.at-name.result c.args.pins.now c.loop-j.pins
          c.at-name.ensures (ap (λ (o : Option LutCell). is_lut_input o c.at-name.result.0)
          (sym c.requires.lut) ∙ sym c.is_lut_input.ensures ∙ w.if-not-is_lut_input.false)
          c.loop-j.invariant)
    ]

pub returns : goal.returns
returns c =
    let at = c.args.at.now in let placement = at.placement.now in
    let list = pins_listed c.args.list.now in
    let all = c.len-j-end.ensures in
    let past = c.loop-j-test.false in
    let end : length list ≤ c.loop-j.j = omega (arith, all, past) in
    all_listed c.args.on.now.device.now c.args.on.now.phys.now at.cell placement at.site at.ty
    c.requires.at list c.requires.list c.loop-j.j end c.args.pins.now c.loop-j.pins
    c.loop-j.invariant
