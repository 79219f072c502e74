use Rattle.std.proofs.Common.{◌≡◌, ◌∙◌, ap, sym, subst, ℕ, List, ◌+◌, ◌++◌, ◌<◌, map, length, take, drop, arith, get_or}
use Rattle.std.proofs.Math.Seq.{take-length}
use Rattle.std.proofs.lemmas.List.{length-set, take-append-drop}
use Rattle.std.proofs.lemmas.Option.{slice_get-get_or}
use Rattle.ix_device.specs.Shapes.{line_number, with_lines}
use Rattle.ix_device.proofs.Numbering.{still_many, lines_next, numbers_next}
use Rattle.ix_device.proofs.lines.numbers_of_lines.Goals as goal

pub returns-in-None : goal.returns-in-None
returns-in-None c = record {
  added = tt;
  numbers = tt;
  none = still_many c.args.lines.now c.loop-j.lines c.args.wires.now c.loop-j.j (get_or c.args.wires.now c.loop-j.j 0) (slice_get-get_or c.args.wires.now c.loop-j.j 0 c.loop-j-test.true)
      c.loop-j.invariant.0 c.in-None.ensures.none (drop (c.loop-j.j + 1) c.args.wires.now) (sym (take-append-drop (c.loop-j.j + 1) c.args.wires.now));
}

pub loop-j-preserved : goal.loop-j-preserved
loop-j-preserved c =
    let at = slice_get-get_or c.args.wires.now c.loop-j.j 0 c.loop-j-test.true in
    let room : c.loop-j.j < length c.loop-j.numbers = omega (arith, c.loop-j-test.true, c.requires, c.loop-j.invariant.1.1) in (
      lines_next c.args.lines.now c.loop-j.lines c.number_of_line.new.lines c.args.wires.now c.loop-j.numbers c.loop-j.j (get_or c.args.wires.now c.loop-j.j 0) c.in-Some.number at c.in-Some.ensures.added c.loop-j.invariant.0,
      (
        numbers_next c.args.lines.now c.loop-j.lines c.number_of_line.new.lines c.args.wires.now c.loop-j.numbers c.loop-j.j (get_or c.args.wires.now c.loop-j.j 0) c.in-Some.number at c.in-Some.ensures.added c.in-Some.ensures.number room c.loop-j.invariant.1.0,
        length-set c.loop-j.numbers c.loop-j.j c.in-Some.number ∙ c.loop-j.invariant.1.1,
      ),
    )

pub returns : goal.returns
returns c =
    let end : c.loop-j.j ≡ length c.args.wires.now = omega (arith, c.loop-j-test.false, c.loop-j.auto.j-end) in
    let whole : take c.loop-j.j c.args.wires.now ≡ c.args.wires.now = ap (λ n. take n c.args.wires.now) end ∙ take-length c.args.wires.now in
    record {
      added = c.loop-j.invariant.0 ∙ ap (with_lines c.args.lines.now) whole;
      numbers = λ more. ap (map (line_number (c.loop-j.lines ++ more))) (sym whole) ∙ c.loop-j.invariant.1.0 more ∙ ap (λ n. take n c.loop-j.numbers) end;
      none = tt;
    }
