use Rattle.std.proofs.Common.{◌≡◌, ◌<◌, ◌∙◌, ap, sym, subst, arith, ◌+◌, ◌++◌, ◌∷◌, [], length, nat_eq, take, Some}
use Rattle.std.specs.List.{list_any}
use Rattle.std.proofs.lemmas.List.{length-set, take_more_set}
use Rattle.ix_device.proofs.LineLemmas.{AreFirstLines, input_at, on_no_line, on_one_line, one_more_input}
use Rattle.ix_device.proofs.shapes.own_wires.Goals as goal

pub returns-in-None-clause-none : goal.returns-in-None-clause-none
returns-in-None-clause-none c = on_no_line c.args.pins.now.ty.now c.args.bel.now c.loop-j.j (input_at c.args.pins.now.ty.now c.args.bel.now c.loop-j.j c.at.result.now c.at.ensures ∙ ap Some (sym c.in-None.ensures))

pub returns-then-has_wire-clause-none : goal.returns-then-has_wire-clause-none
returns-then-has_wire-clause-none c =
    on_one_line c.args.pins.now.ty.now c.args.bel.now c.loop-j.j (take c.loop-j.j c.loop-j.wires) c.in-Some.line c.loop-j.invariant.0
    (input_at c.args.pins.now.ty.now c.args.bel.now c.loop-j.j c.at.result.now c.at.ensures ∙ ap Some (sym c.in-Some.ensures))
    (ap (λ w. list_any (nat_eq w) (take c.loop-j.j c.loop-j.wires)) (sym c.get.ensures) ∙ sym c.if-has_wire.ensures)

pub loop-j-preserved : goal.loop-j-preserved
loop-j-preserved c =
    let room : c.loop-j.j < length c.loop-j.wires = omega (arith, c.loop-j-test.true, c.requires.few, c.loop-j.invariant.1, c.len-j-end.ensures) in (
      subst (AreFirstLines c.args.pins.now.ty.now c.args.bel.now (c.loop-j.j + 1)) (sym (take_more_set c.loop-j.wires c.loop-j.j c.get-in-Some.result room ∙ ap (λ w. take c.loop-j.j c.loop-j.wires ++ w ∷ []) c.get-in-Some.ensures))
          (one_more_input c.args.pins.now.ty.now c.args.bel.now c.loop-j.j (take c.loop-j.j c.loop-j.wires) c.in-Some.line c.loop-j.invariant.0
          (input_at c.args.pins.now.ty.now c.args.bel.now c.loop-j.j c.at.result.now c.at.ensures ∙ ap Some (sym c.in-Some.ensures))
          (ap (λ w. list_any (nat_eq w) (take c.loop-j.j c.loop-j.wires)) (sym c.get.ensures) ∙ sym c.has_wire.ensures ∙ c.if-has_wire.false)),
      length-set c.loop-j.wires c.loop-j.j c.get-in-Some.result ∙ c.loop-j.invariant.1,
    )
