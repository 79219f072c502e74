use Rattle.std.proofs.Common.{◌+◌, ◌*◌, ◌≤◌, ◌∙◌, ap, arith, length, drop, length-drop}
use Rattle.ix_message.specs.Layout.{number_bytes}
use Rattle.ix_capw.specs.Growth.{written}
use Rattle.ix_capw.proofs.Objects.{view_written}
use Rattle.ix_capw.proofs.builder.Builder.write_numbers.Goals as goal

pub returns-clause-made : goal.returns-clause-made
returns-clause-made c =
    let items = c.self.inside.bytes.items in
    let v = c.args.numbers.now in
    let inside : 8 + c.args.place ≤ length items = omega (arith, length-drop 8 items, ap length c.self.view_is) in
    ap (drop 8) c.set_numbers.ensures.made ∙ view_written items (number_bytes v) c.args.place (4 * length v) inside
    ∙ ap (written c.args.place (4 * length v) (number_bytes v)) c.self.view_is
