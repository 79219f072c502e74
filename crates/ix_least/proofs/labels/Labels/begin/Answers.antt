use Rattle.std.proofs.Common.{◌≡◌, ℕ, ◌+◌, ◌≢◌, List, arith, ◌∙◌, refl, length, sym, subst, All}
use Rattle.std.proofs.Common.{take, drop, ◌++◌}
use Rattle.ix_least.specs.declared.labels.Slot.{Slot}
use Rattle.ix_least.specs.declared.labels.Labels.TheInside.{Inside}
use Rattle.ix_least.proofs.Slots.{begin_labels, refilled}
use Rattle.ix_least.proofs.labels.Labels.begin.Goals as goal
use Rattle.ix_least.proofs.labels.Labels.begin.Goals.{then-self, else-self}

-- as many slots as before, none of the next search
AreReady : ℕ → List Slot → ℕ → Type 0
AreReady count slots search = (length slots ≡ count) × All (λ slot. slot.search ≢ search + 1) slots

pub returns : goal.returns
unfolding AreReady
returns c =
    let P : Inside → Type 0 = λ i. AreReady (length c.self.inside.slots.items) i.slots.items
    i.search in
    let ready : AreReady (length c.self.inside.slots.items) c.if-self.self-inside.slots.items
    c.if-self.self-inside.search =
    elim c.if-self.branch [
      | then-self w ↦
          let few : length w.forget.new.slots ≡ length c.self.inside.slots.items =
          w.forget.auto.slots ∙ (w.deref_mut.ensures.len ∙ c.self.inside.slots.ok.0) in
          let is : take c.self.inside.slots.len (w.forget.new.slots ++ drop
          (length w.forget.new.slots) c.self.inside.slots.items) ≡ w.forget.new.slots =
          refilled c.self.inside.slots.len w.forget.new.slots c.self.inside.slots.items
          c.self.inside.slots.ok.0 few in
          let Q : List Slot → Type 0 = λ slots. AreReady (length c.self.inside.slots.items) slots 0
          in
          subst P (sym w.self-inside-is) (subst Q (sym is)
          (few, λ k d below e. omega (arith, w.forget.ensures k d below)))
      | else-self w ↦ subst P (sym w.self-inside-is) (
        refl,
        λ k d below e. omega
            (arith, c.self.invariant k d below),
      )
    ] in
    begin_labels c.self.inside.search (c.if-self.self-inside.search + 1) c.self.inside.slots.items
    c.if-self.self-inside.slots.items c.args.self.now c.self.view_is ready.0 ready.1
