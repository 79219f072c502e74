use Rattle.std.proofs.Common.{◌∙◌, ◌<◌, ap, sym, subst, Some}
use Rattle.std.proofs.Common.{length, false, ◌+◌, arith}
use Rattle.std.proofs.lemmas.Option.{slice_get-get_or}
use Rattle.ix_open_inputs.specs.Places.{IsBest}
use Rattle.ix_open_inputs.proofs.Ordered.{at_place, best_next, best_stays}
use Rattle.ix_open_inputs.proofs.Ordered.{best_told}
use Rattle.ix_open_inputs.proofs.first.first_open.Goals.{then-unjoined-input+in_ok-at}
use Rattle.ix_open_inputs.proofs.first.first_open.Goals.{else-unjoined-input}
use Rattle.ix_open_inputs.proofs.first.first_open.Goals as goal

pub loop-input-preserved : goal.loop-input-preserved
loop-input-preserved c =
    let names = c.args.names.now in let design = c.args.rec.now in
    let ports = c.args.ports.now in let pins = c.args.pins.now in
    let unjoined = c.args.unjoined.now in let n = c.loop-input.input in
    let inside : n < length unjoined =
    omega (arith, c.loop-input-test.true, c.len-input-end.ensures, c.requires.few) in
    elim c.if-unjoined-input.branch [
      | then-unjoined-input+in_ok-at w ↦
          subst (IsBest names design ports pins unjoined (n + 1)) (sym w.best-is)
          (best_next names design ports pins unjoined n w.at-name.result.now w.in_ok-at.at
          c.loop-input.best w.better.result
          (slice_get-get_or unjoined n false inside ∙ ap Some w.if-unjoined-input.true)
          w.at-name.ensures
          (at_place (λ pin. pin < length names) pins n w.at-name.result.now c.requires.pins
          w.at-name.ensures)
          w.in_ok-at.ensures c.loop-input.invariant w.better.ensures)
      | else-unjoined-input w ↦
          subst (IsBest names design ports pins unjoined (n + 1)) (sym w.best-is)
          (best_stays names design ports pins unjoined n c.loop-input.best
          (slice_get-get_or unjoined n false inside ∙ ap Some w.if-unjoined-input.false)
          c.loop-input.invariant)
    ]

pub returns-in-Some : goal.returns-in-Some
returns-in-Some c =
    let names = c.args.names.now in let design = c.args.rec.now in
    let ports = c.args.ports.now in let pins = c.args.pins.now in
    let unjoined = c.args.unjoined.now in
    best_told names design ports pins unjoined c.loop-input.input c.in-Some.best
    (omega (arith, c.loop-input-test.false, c.len-input-end.ensures))
    (subst (IsBest names design ports pins unjoined c.loop-input.input) c.in-Some.is
    c.loop-input.invariant)
