-- Taking the structs of a list one after the other.
use Rattle.std.proofs.Common.{◌≡◌, ◌≤◌, ◌<◌, ◌+◌, ◌-◌, ◌++◌, ◌∙◌, ℕ, suc, List, [], ◌∷◌, map, Ok}
use Rattle.std.proofs.Common.{refl, sym, ap, arith, append_assoc}
use Rattle.std.specs.List.{flat_map}
use Rattle.std.proofs.lemmas.List.{append-nil, map_push}
use Rattle.ix_frame.specs.Objects.{element_of}
use Rattle.ix_frame.specs.Target.{Object, Elements}
use Rattle.ix_message.specs.Indexes.{Step}
use Rattle.ix_schema.specs.Said.{each_said}
use Rattle.ix_take.specs.Views.{Stops}
use Rattle.ix_take.specs.Walked.{walked}
use Rattle.ix_take.specs.declared.stop.Stop.{Stop}
use Rattle.ix_message.specs.Shape.{Struct}
use Rattle.ix_take.specs.Going.{stops_on, walked_then, walked_fails}

-- the i-th struct of a list, and those after it
said_next : {A : Type 0} (say : Object → A) (l : Elements) (i : ℕ) → i < l.count
    → each_said say (l.count - i) l i ≡ say (element_of l i) ∷ each_said say (l.count - (i + 1)) l
    (i + 1)
unfolding each_said
said_next say l i lt = let k : l.count - i ≡ suc (l.count - (i + 1)) = omega arith in rw k refl

said_no_more : {A : Type 0} (say : Object → A) (l : Elements) (i : ℕ) → l.count ≤ i
    → each_said say (l.count - i) l i ≡ []
unfolding each_said
said_no_more say l i le = let k : l.count - i ≡ 0 = omega arith in rw k refl

-- what was taken of the first structs, and what the others say, are the whole
pub record TakenUpTo (ss : List Struct) {V X Y : Type 0} (say : Object → V) (steps : V → List Step)
    (made : V → Y) (view : X → Y) (l : Elements) (before : List ℕ) (i : ℕ) (found : List X)
    (now : List ℕ) : Type 0 where
  pub made_is : map made (each_said say l.count l 0) ≡ map view found ++ map made
      (each_said say (l.count - i) l i)
  pub steps_are : walked ss before (flat_map steps (each_said say l.count l 0)) ≡ walked ss now
      (flat_map steps (each_said say (l.count - i) l i))

module _ (ss : List Struct) {V X Y : Type 0} (say : Object → V) (steps : V → List Step) (made : V
    → Y) (view : X → Y) (l : Elements) (before : List ℕ) where
  abbrev UpTo : ℕ → List X → List ℕ → Type 0
  UpTo i found now = TakenUpTo ss say steps made view l before i found now

  pub nothing_taken : UpTo 0 [] before
  nothing_taken =
      let all : l.count - 0 ≡ l.count = omega arith in
      record { made_is = rw all refl; steps_are = rw all refl }

  pub one_taken : (i : ℕ) (found : List X) (now then_ : List ℕ) (x : X) → i < l.count
      → made (say (element_of l i)) ≡ view x
      → walked ss now (steps (say (element_of l i))) ≡ Ok then_ → UpTo i found now
      → UpTo (i + 1) (found ++ x ∷ []) then_
  one_taken i found now then_ x lt is fits h =
      let next = said_next say l i lt in
      let rest = each_said say (l.count - (i + 1)) l (i + 1) in
      record {
        made_is = h.made_is ∙ ap (λ (vs : List V). map view found ++ map made vs) next
            ∙ ap (λ (y : Y). map view found ++ y ∷ map made rest) is
            ∙ sym (append_assoc (map view found) (view x ∷ []) (map made rest))
            ∙ ap (λ (ys : List Y). ys ++ map made rest) (sym (map_push view found x));
        steps_are = h.steps_are ∙ ap (λ (vs : List V). walked ss now (flat_map steps vs)) next
            ∙ walked_then ss now then_ (steps (say (element_of l i))) (flat_map steps rest) fits;
      }

  pub one_stops : (e : Stop) (i : ℕ) (found : List X) (now : List ℕ) → i < l.count
      → Stops ss e (walked ss now (steps (say (element_of l i)))) → UpTo i found now
      → Stops ss e (walked ss before (flat_map steps (each_said say l.count l 0)))
  one_stops e i found now lt here h =
      let one = steps (say (element_of l i)) in
      let rest = flat_map steps (each_said say (l.count - (i + 1)) l (i + 1)) in
      stops_on ss e (walked ss now one) (walked ss before
      (flat_map steps (each_said say l.count l 0))) here
      (λ bad fails. h.steps_are ∙ ap (λ (vs : List V). walked ss now (flat_map steps vs))
      (said_next say l i lt) ∙ walked_fails ss now one rest bad fails)

  pub all_taken : (i : ℕ) (found : List X) (now : List ℕ) → l.count ≤ i → UpTo i found now
      → (map made (each_said say l.count l 0) ≡ map view found)
      × (walked ss before (flat_map steps (each_said say l.count l 0)) ≡ Ok now)
  unfolding walked
  all_taken i found now le h = (
    h.made_is ∙ ap (λ (vs : List V). map view found ++ map made vs) (said_no_more say l i le)
        ∙ append-nil (map view found),
    h.steps_are ∙ ap (λ (vs : List V). walked ss now (flat_map steps vs)) (said_no_more say l i le),
  )
