use Rattle.std.proofs.Common.{◌+◌, ◌≤◌, ◌∙◌, ap, arith, length, drop, length-drop}
use Rattle.ix_capw.specs.Growth.{written}
use Rattle.ix_capw.proofs.Objects.{view_written}
use Rattle.ix_capw.proofs.builder.Builder.write_bytes.Goals as goal

pub returns-clause-made : goal.returns-clause-made
returns-clause-made c =
    let items = c.self.inside.bytes.items in
    let inside : 8 + c.args.place ≤ length items = omega (arith, length-drop 8 items, ap length c.self.view_is) in
    ap (drop 8) c.set_bytes.ensures ∙ view_written items c.args.bytes.now c.args.place (length c.args.bytes.now) inside
    ∙ ap (written c.args.place (length c.args.bytes.now) c.args.bytes.now) c.self.view_is
