-- The walk over steps finds the first field that doesn't fit.
use Rattle.std.proofs.Common.{◌≡◌, ◌∙◌, ◌++◌, ◌∷◌, ◌-◌, ◌&&◌, [], ℕ, Bool, true, false, true≢false, codes, List, replicate, Option, Some, None, Result, Ok, Err, IfOk, ap, refl, sym, subst}
use Rattle.std.specs.List.{list_all}
use Rattle.ix_message.specs.Indexes.{Step, begun, asked, Item, first_unfit}
use Rattle.ix_device_rules.specs.Kinds.{kinds}
use Rattle.ix_num.specs.declared.fault.Memory.{Memory as WantOfMemory}
use Rattle.ix_rec.specs.declared.place.Place.{Place}
use Rattle.ix_rec.specs.declared.place.Place.TheVariants as P
use Rattle.ix_rec.specs.declared.place.Rule.{Rule}
use Rattle.ix_device_rules.specs.declared.stop.Stop.{Stop}
use Rattle.ix_device_rules.specs.declared.stop.Stop.TheVariants.{Broken, Memory}
use Rattle.ix_device_rules.specs.Rules.{or_later}
use Rattle.ix_device_rules.specs.Broken.{IsBreach, Shows, IsBrokenBy}
use Rattle.ix_device_rules.specs.Walks.{Walks, walked}
use Rattle.ix_device_rules.proofs.Counts.{has_kind, is_known, Known, Differ, counts_in, counts_more, index_at}

pub kinds_differ : Differ kinds
kinds_differ = (refl, (refl, (refl, (refl, (refl, (refl, (refl, (refl, (refl, (refl, (refl, (refl, (refl, (refl, (refl, tt)))))))))))))))

pub unfit : Result (List ℕ) Item → Option Item
unfit (Ok counts) = None
unfit (Err item) = Some item

both : (a b : Bool) → (a && b) ≡ true → (a ≡ true) × (b ≡ true)
both true b h = (refl, h)
both false b h = absurd (true≢false (sym h))

walked_is : (steps before : List Step) → list_all is_known steps ≡ true → unfit (walked steps (counts_in kinds before)) ≡ first_unfit before steps
unfolding walked first_unfit unfit
walked_is [] before known = refl
walked_is (begun kind ∷ rest) before known =
    ap (λ c. unfit (walked rest c)) (counts_more kinds kinds_differ kind before) ∙ walked_is rest (before ++ begun kind ∷ []) known
walked_is (asked kind field true ∷ rest) before known = walked_is rest before (both (has_kind kinds kind) (list_all is_known rest) known).1
walked_is (asked kind field false ∷ rest) before known =
    ap (λ (n : ℕ). Some (record { kind = codes kind; field = codes field; index = n - 1 })) (index_at kinds kind before (both (has_kind kinds kind) (list_all is_known rest) known).0)

first_is : (steps : List Step) → Known steps → (given : Result (List ℕ) Item) → walked steps (replicate 15 0) ≡ given → unfit given ≡ first_unfit [] steps
first_is steps known given is = ap unfit (sym is) ∙ walked_is steps [] known.all

pub first_none : (steps : List Step) → Known steps → (now : List ℕ) → walked steps (replicate 15 0) ≡ Ok now → first_unfit [] steps ≡ None
unfolding unfit
first_none steps known now is = sym (first_is steps known (Ok now) is)

pub first_some : (steps : List Step) → Known steps → (item : Item) → walked steps (replicate 15 0) ≡ Err item → first_unfit [] steps ≡ Some item
unfolding unfit
first_some steps known item is = sym (first_is steps known (Err item) is)

-- A rule that is kept is passed over, and of one that isn't the first field is told.

module _ {X : Type 0} (rule : Rule) (steps : List Step) (known : Known steps) (later : Option (Rule × Item)) (counts : List ℕ) (is_new : counts ≡ replicate 15 0) (now : List ℕ) where
  pub kept : (x : X) → Walks steps counts (Ok x) now → (told : Result (Option (Rule × Place)) WantOfMemory) → IfOk told (Shows later) → IfOk told (Shows (or_later rule (first_unfit [] steps) later))
  kept x h told rest =
      let none = first_none steps known now (ap (walked steps) (sym is_new) ∙ h.tells) in
      subst (λ o. IfOk told (Shows (or_later rule o later))) (sym none) rest

  at_place : (place : Place) → Walks {X = X} steps counts (Err (Broken place)) now → IsBreach (or_later rule (first_unfit [] steps) later) rule place
  at_place (P.Item k f i) h = ap (λ o. or_later rule o later) (first_some steps known (record { kind = k; field = f; index = i }) (ap (walked steps) (sym is_new) ∙ h.tells))
  at_place _ h = h.tells

  pub told : (stop : Stop) (result : Result (Option (Rule × Place)) WantOfMemory) → Walks {X = X} steps counts (Err stop) now → IsBrokenBy rule stop result → IfOk result (Shows (or_later rule (first_unfit [] steps) later))
  told Memory (Ok r) h by = absurd by
  told Memory (Err e) h by = tt
  told (Broken place) result h by = subst (λ r. IfOk r (Shows (or_later rule (first_unfit [] steps) later))) (sym by) (at_place place h)
