use Rattle.std.proofs.Common.{refl, ap, sym, ◌∙◌, length, slice_get, Some, arith}
use Rattle.std.proofs.lemmas.Bool.{eqb-true}
use Rattle.std.proofs.lemmas.Option.{slice_get_read}
use Rattle.ix_belmap.proofs.Marking.{passed_from}
use Rattle.ix_belmap.proofs.marks.Marks.start.Goals as goal

pub returns-then-eq : goal.returns-then-eq
returns-then-eq c rec flat rows row are here =
    let all = c.args.self.now.passed.items in
    let at = slice_get_read all (length all) c.get.result c.index.result.now refl (let e =
    c.get.ensures in omega arith) c.index.ensures in
    passed_from rec flat rows row c.args.self.now c.args.net c.args.port_type c.in-Some.passed are
    here
    (ap (slice_get all) (sym c.get.ensures) ∙ at ∙ ap Some c.in-Some.is)
    (eqb-true c.in-Some.passed.port_type c.args.port_type (sym c.eq.ensures ∙ c.if-eq.true))
