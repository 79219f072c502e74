use Rattle.std.proofs.Common.{◌∙◌, sym}
use Rattle.std.proofs.lemmas.Bool.{false≢true}
use Rattle.ix_net_states.proofs.Walks.{no_leaf, path_of}
use Rattle.ix_net_states.proofs.states.put_instance.Goals as goal

pub put_pins-requires-clause-joined : goal.put_pins-requires-clause-joined
put_pins-requires-clause-joined c =
    let r = c.requires.joined in
    let path = path_of r.0 c.args.rec.now c.args.joined.now c.args.instance r.1 c.requires.there in
    let leaf = (c.is_leaf.ensures r.0 c.args.rec.now path.0 r.1 path.1).0 c.if-is_leaf.true in
    (r.0, path.0, r.1, r.2, (c.requires.below, path.1, leaf))

pub returns-then-is_leaf : goal.returns-then-is_leaf
returns-then-is_leaf c = λ known are consts before.
    let path = path_of known c.args.rec.now c.args.joined.now c.args.instance are c.requires.there in
    let leaf = (c.is_leaf.ensures known c.args.rec.now path.0 are path.1).0 c.if-is_leaf.true in
    c.put_pins.ensures known path.0 are consts (c.requires.below, path.1, leaf) before

pub returns-else-is_leaf : goal.returns-else-is_leaf
returns-else-is_leaf c = λ known are consts before.
    let path = path_of known c.args.rec.now c.args.joined.now c.args.instance are c.requires.there in
    no_leaf known c.args.rec.now c.args.joined.now c.args.instance path.0 c.args.states.now path.1
    (λ leaf. false≢true (sym c.if-is_leaf.false
    ∙ (c.is_leaf.ensures known c.args.rec.now path.0 are path.1).1 leaf)) before
