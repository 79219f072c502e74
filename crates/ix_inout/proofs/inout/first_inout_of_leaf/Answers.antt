use Rattle.std.proofs.Common.{◌≡◌, ◌∙◌, ℕ, List, length, slice_get, sym, ap, subst, arith}
use Rattle.ix_inout.proofs.Firsts.{IsDeclared, declared, none_port_more, leaf_none, leaf_first}
use Rattle.ix_inout.proofs.Firsts.{NoneBeforePort, one_at, at_declared, told_some, told_none}
use Rattle.ix_inout.proofs.inout.first_inout_of_leaf.Goals as goal

pub returns-in-Some : goal.returns-in-Some
returns-in-Some c = λ known path A constants.
    let one = one_at known c.args.rec.now c.args.joined.now c.args.instance path A
    c.index.result.now c.index.ensures in
    let D : IsDeclared c.args.rec.now A.inst c.index.result.now =
    declared known c.args.rec.now c.args.joined.now c.args.instance path c.index.result.now A one in
    let ports : c.at.result.now.ports ≡ D.declared.ports =
    at_declared c.args.rec.now A.inst c.index.result.now D c.at.result.now c.at.ensures in
    leaf_first known c.args.rec.now c.args.joined.now c.args.instance path c.index.result.now
    c.loop-place.place c.at-port.result.now c.in-Some.net A D
    (subst (λ (l : List ℕ). NoneBeforePort c.args.rec.now path l c.loop-place.place) ports
    (c.loop-place.invariant known path A constants))
    (ap (λ (l : List ℕ). slice_get l c.loop-place.place) (sym ports) ∙ c.at-port.ensures)
    (told_some c.first_inout_of_port.result _ _ c.in-Some.net c.in-Some.is
    (c.first_inout_of_port.ensures known path A constants))

pub loop-place-preserved : goal.loop-place-preserved
loop-place-preserved c = λ known path A constants.
    none_port_more c.args.rec.now path c.at.result.now.ports c.loop-place.place
    c.at-port.result.now (c.loop-place.invariant known path A constants) c.at-port.ensures
    (told_none c.first_inout_of_port.result _ _ c.in_default.not-Some
    (c.first_inout_of_port.ensures known path A constants))

pub returns : goal.returns
returns c = λ known path A constants.
    let one = one_at known c.args.rec.now c.args.joined.now c.args.instance path A
    c.index.result.now c.index.ensures in
    let D : IsDeclared c.args.rec.now A.inst c.index.result.now =
    declared known c.args.rec.now c.args.joined.now c.args.instance path c.index.result.now A one in
    let ports : c.at.result.now.ports ≡ D.declared.ports =
    at_declared c.args.rec.now A.inst c.index.result.now D c.at.result.now c.at.ensures in
    let many : length c.at.result.now.ports ≡ length D.declared.ports = ap length ports in
    let end = c.len-place-end.ensures in
    let past = c.loop-place-test.false in
    leaf_none known c.args.rec.now c.args.joined.now c.args.instance path c.index.result.now
    c.loop-place.place A D
    (subst (λ (l : List ℕ). NoneBeforePort c.args.rec.now path l c.loop-place.place) ports
    (c.loop-place.invariant known path A constants))
    (omega arith)
