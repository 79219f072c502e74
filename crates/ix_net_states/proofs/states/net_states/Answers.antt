use Rattle.std.proofs.Common.{◌≡◌, ◌<◌, ◌∙◌, ◌++◌, ap, sym, subst, take, drop, length, List, arith}
use Rattle.std.proofs.Common.{slice_get, Some, refl}
use Rattle.std.proofs.Math.Seq.{take-append_seam}
use Rattle.std.proofs.lemmas.Option.{get_or_from_slice_get, slice_get_within}
use Rattle.ix_joined.specs.Joining.{Known}
use Rattle.ix_joined.specs.declared.state.NetState.{NetState}
use Rattle.ix_joined.specs.States.{AreStates, AreNetStates}
use Rattle.ix_net_states.specs.Walking.{AreReady}
use Rattle.ix_net_states.proofs.Walks.{all_nothing, by_nets}
use Rattle.ix_net_states.proofs.states.net_states.Goals as goal

-- all that is returned
whole : (c : goal.After-states-3-1) → take c.resize.new.self.len
    (c.put_all.new.states ++ drop (length c.put_all.new.states) c.resize.new.self.items)
    ≡ c.put_all.new.states
whole c =
    let new = c.put_all.new.states in
    let first : length new ≡ length c.deref_mut.result.now = c.put_all.auto.states in
    let second : length c.deref_mut.result.now ≡ c.resize.new.self.len = c.deref_mut.ensures.len in
    ap (λ n. take n (new ++ drop (length new) c.resize.new.self.items)) (sym (first ∙ second))
    ∙ take-append_seam new (drop (length new) c.resize.new.self.items)

numbered : (c : goal.After-states-3-1) (known : Known)
    → AreReady known c.args.rec.now c.args.joined.now c.args.constants.now c.args.bits.now
    → AreStates known c.args.rec.now c.args.joined.now c.put_all.new.states
numbered c known ready =
    let h = c.in_ok-resize.ensures in
    let items = c.resize.new.self.items in
    let value : c.deref_mut.result.now ≡ items = c.deref_mut.ensures.value in
    let len : c.resize.new.self.len ≡ c.len.result = h.len in
    let own : c.resize.new.self.len ≡ length items = c.resize.new.self.ok.0 in
    let firsts : c.args.joined.now.firsts.len ≡ length c.args.joined.now.firsts.items =
    c.args.joined.now.firsts.ok.0 in
    let count : c.len.result ≡ c.args.joined.now.firsts.len = c.len.ensures in
    let long : length items ≡ length c.args.joined.now.firsts.items = omega arith in
    let empty : c.new-states.result.len ≡ 0 = c.new-states.ensures.len in
    c.put_all.ensures known ready
    (all_nothing known c.args.rec.now c.args.joined.now c.deref_mut.result.now
    (ap length value ∙ long)
    (λ net state at.
    let there : slice_get items net ≡ Some state =
    ap (λ (l : List NetState). slice_get l net) (sym value) ∙ at in
    let less : net < length items = slice_get_within items net state there in
    sym (get_or_from_slice_get items net state state there)
    ∙ h.by_index.1 net state refl (omega arith) (omega arith) ∙ c.nothing.ensures))

pub returns-clause-by_number : goal.returns-clause-by_number
returns-clause-by_number c = λ known ready.
    subst (AreStates known c.args.rec.now c.args.joined.now) (sym (whole c)) (numbered c known ready)

pub returns-clause-by_net : goal.returns-clause-by_net
returns-clause-by_net c = λ known ready.
    subst (AreNetStates known c.args.rec.now c.args.joined.now) (sym (whole c))
    (by_nets known c.args.rec.now c.args.joined.now c.put_all.new.states ready.are
    (numbered c known ready))
