use Rattle.std.proofs.Common.{◌≡◌, ◌<◌, ◌≤◌, ◌∙◌, sym, subst, ℕ, List, length, map}
use Rattle.std.specs.Vec.{vec_capacity, with_items}
use Rattle.std.specs.List.{All}
use Rattle.std.proofs.lemmas.List.{with_items_is}
use Rattle.ix_occupy.specs.declared.loads.NodeLoad.{NodeLoad}
use Rattle.ix_occupy.specs.Steps.{times}
use Rattle.ix_occupy.specs.Loads.{EndsRound}
use Rattle.ix_occupy.specs.Kept.{load_of, IsKept, EndsAt}
use Rattle.ix_occupy.proofs.Sharing.{touched_inside, touched_once}
use Rattle.ix_occupy.proofs.Ending.{kept_end, ends_round}
use Rattle.ix_occupy.proofs.occupancy.Occupancy.end_round.Goals as goal

pub end_at-requires-clause-inside : goal.end_at-requires-clause-inside
end_at-requires-clause-inside c =
    let inside : All (λ n. n < length c.self.inside.loads.items) c.self.inside.touched.items =
    touched_inside c.self.inside.loads.items c.self.inside.touched.items
    (vec_capacity c.self.inside.touched) c.self.inside.shared c.self.invariant in
    subst (λ (ls : List NodeLoad). All (λ n. n < length ls) c.deref.result.now)
    (sym c.deref_mut.ensures.value)
    (subst (λ (ns : List ℕ). All (λ n. n < length c.self.inside.loads.items) ns)
    (sym c.deref.ensures.value) inside)

pub end_at-requires-clause-once : goal.end_at-requires-clause-once
end_at-requires-clause-once c =
    subst (λ (ns : List ℕ). (node : ℕ) → times node ns ≤ 1) (sym c.deref.ensures.value)
    (touched_once c.self.inside.loads.items c.self.inside.touched.items
    (vec_capacity c.self.inside.touched) c.self.inside.shared c.self.invariant)

pub invariant_of-self : goal.invariant_of-self
invariant_of-self c =
    let ends : EndsAt c.self.inside.loads.items c.end_at.new.loads c.self.inside.touched.items =
    subst (λ (ls : List NodeLoad). EndsAt ls c.end_at.new.loads c.self.inside.touched.items)
    c.deref_mut.ensures.value
    (subst (λ (ns : List ℕ). EndsAt c.deref_mut.result.now c.end_at.new.loads ns)
    c.deref.ensures.value c.end_at.ensures) in
    let same : (with_items c.self.inside.loads c.end_at.new.loads).items ≡ c.end_at.new.loads =
    with_items_is c.self.inside.loads c.end_at.new.loads
    (ends.nodes ∙ sym c.self.inside.loads.ok.0) in
    subst (λ (ls : List NodeLoad). IsKept ls c.self.inside.touched.items
    (vec_capacity c.self.inside.touched) c.self.inside.shared) (sym same)
    (kept_end c.self.inside.loads.items c.end_at.new.loads c.self.inside.touched.items
    (vec_capacity c.self.inside.touched) c.self.inside.shared c.self.invariant ends)

pub returns : goal.returns
returns c =
    let ends : EndsAt c.self.inside.loads.items c.end_at.new.loads c.self.inside.touched.items =
    subst (λ (ls : List NodeLoad). EndsAt ls c.end_at.new.loads c.self.inside.touched.items)
    c.deref_mut.ensures.value
    (subst (λ (ns : List ℕ). EndsAt c.deref_mut.result.now c.end_at.new.loads ns)
    c.deref.ensures.value c.end_at.ensures) in
    let same : (with_items c.self.inside.loads c.end_at.new.loads).items ≡ c.end_at.new.loads =
    with_items_is c.self.inside.loads c.end_at.new.loads
    (ends.nodes ∙ sym c.self.inside.loads.ok.0) in
    subst (λ (ls : List NodeLoad). EndsRound c.args.self.now (map load_of ls)) (sym same)
    (ends_round c.args.self.now c.self.inside.loads.items c.end_at.new.loads
    c.self.inside.touched.items (vec_capacity c.self.inside.touched) c.self.inside.shared
    c.self.view_is c.self.invariant ends)
