use Rattle.std.proofs.Common.{◌≡◌, ◌<◌, ◌∙◌, sym, subst, refl, ℕ, List, length}
use Rattle.std.specs.Vec.{vec_capacity}
use Rattle.std.specs.List.{All}
use Rattle.ix_occupy.specs.declared.loads.NodeLoad.{NodeLoad}
use Rattle.ix_occupy.specs.Loads.{shared_count}
use Rattle.ix_occupy.specs.Kept.{IsLeastShared}
use Rattle.ix_occupy.proofs.Views.{shared_seen}
use Rattle.ix_occupy.proofs.Sharing.{touched_inside, first_of_all, none_of_all}
use Rattle.ix_occupy.proofs.occupancy.Occupancy.first_shared.Goals as goal

pub returns-then-self-eq0-clause-none : goal.returns-then-self-eq0-clause-none
returns-then-self-eq0-clause-none c =
    let none : shared_count c.args.self.now ≡ 0 =
    shared_seen c.args.self.now c.self.inside.loads.items c.self.view_is
    ∙ (sym c.self.invariant.shared ∙ c.if-self-eq0.true) in
    ((λ _. none), (λ _. refl))

pub least_shared-requires : goal.least_shared-requires
least_shared-requires c =
    let inside : All (λ n. n < length c.self.inside.loads.items) c.self.inside.touched.items =
    touched_inside c.self.inside.loads.items c.self.inside.touched.items
    (vec_capacity c.self.inside.touched) c.self.inside.shared c.self.invariant in
    record {
      inside = subst (λ (ls : List NodeLoad). All (λ n. n < length ls) c.deref-2.result.now)
          (sym c.deref.ensures.value)
          (subst (λ (ns : List ℕ). All (λ n. n < length c.self.inside.loads.items) ns)
          (sym c.deref-2.ensures.value) inside);
    }

pub returns-clause-least : goal.returns-clause-least
returns-clause-least c =
    let least : IsLeastShared c.self.inside.loads.items c.self.inside.touched.items
    c.least_shared.result =
    subst (λ (ls : List NodeLoad). IsLeastShared ls c.self.inside.touched.items
    c.least_shared.result) c.deref.ensures.value
    (subst (λ (ns : List ℕ). IsLeastShared c.deref.result.now ns c.least_shared.result)
    c.deref-2.ensures.value c.least_shared.ensures) in
    first_of_all c.args.self.now c.self.inside.loads.items c.self.inside.touched.items
    (vec_capacity c.self.inside.touched) c.self.inside.shared c.least_shared.result
    c.self.view_is c.self.invariant least

pub returns-clause-none : goal.returns-clause-none
returns-clause-none c =
    let least : IsLeastShared c.self.inside.loads.items c.self.inside.touched.items
    c.least_shared.result =
    subst (λ (ls : List NodeLoad). IsLeastShared ls c.self.inside.touched.items
    c.least_shared.result) c.deref.ensures.value
    (subst (λ (ns : List ℕ). IsLeastShared c.deref.result.now ns c.least_shared.result)
    c.deref-2.ensures.value c.least_shared.ensures) in
    none_of_all c.args.self.now c.self.inside.loads.items c.self.inside.touched.items
    (vec_capacity c.self.inside.touched) c.self.inside.shared c.least_shared.result
    c.self.view_is c.self.invariant least
