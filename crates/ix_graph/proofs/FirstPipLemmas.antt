-- The tables of the first PIPs between two wires, PIP by PIP and type by type.
use Rattle.std.proofs.Common.{◌≡◌, ◌≢◌, ◌<◌, ◌≤◌, refl, ap, sym, ◌∙◌, ℕ, ◌+◌, Bool, true, false, not, ◌&&◌, nat_eq, List, [], take, length, slice_get, position, Option, Some, None, get_or, inl, inr, arith}
use mathlib.Core.Logic.{◌⊎◌}
use Rattle.std.proofs.lemmas.Bool.{eqb-true, eqb-false, cases_lt}
use Rattle.std.proofs.lemmas.List.{get_or-take, get_or_past, length-take-le}
use Rattle.std.proofs.lemmas.Option.{slice_get_within, unwrap_or-slice_get, get_or_from_slice_get}
use Rattle.ix_keys.specs.declared.key.Key.{Key}
use Rattle.ix_keys.specs.Keys.{key, key_eq}
use Rattle.ix_first.specs.First.{or_later, or_found}
use Rattle.ix_device.proofs.FirstPlaces.{one_more_place}
use Rattle.ix_graph.specs.declared.type_pips.TilePip.{TilePip}
use Rattle.ix_graph.specs.Pips.{pips_of_type}
use Rattle.ix_graph.specs.Tables.{joins, joins_back}

module _ (test : Key → TilePip → Bool) where
  found_later : (o f : Option ℕ) (a l : Bool) (v : ℕ) → or_later (or_found o a f) (a && l) v ≡ or_found o a (or_later f l v)
  found_later (Some w) f a l v = refl
  found_later None (Some g) true l v = refl
  found_later None None true l v = refl
  found_later None f false l v = refl

  -- one more PIP of a tile type was put
  pub one_more_first : (ty i : ℕ) (pips : List TilePip) (x : TilePip) (old now new : Key → Option ℕ) → slice_get pips i ≡ Some x
      → ((q : Key) → now q ≡ or_found (old q) (nat_eq ty q.owner) (position (test q) (take i pips))) → ((q : Key) → new q ≡ or_later (now q) (nat_eq ty q.owner && test q x) i)
      → (q : Key) → new q ≡ or_found (old q) (nat_eq ty q.owner) (position (test q) (take (i + 1) pips))
  one_more_first ty i pips x old now new at before step q =
      step q ∙ ap (λ o. or_later o (nat_eq ty q.owner && test q x) i) (before q)
      ∙ found_later (old q) (position (test q) (take i pips)) (nat_eq ty q.owner) (test q x) i
      ∙ ap (or_found (old q) (nat_eq ty q.owner)) (one_more_place (test q) pips i x (position (test q) (take i pips)) at refl)

  module _ (types : List (List TilePip)) (i : ℕ) (pips : List TilePip) (at : slice_get types i ≡ Some pips) where
    among : (n k : ℕ) → pips_of_type (take n types) k ≡ get_or (take n types) k []
    among n k = unwrap_or-slice_get (take n types) k []

    counted : length (take i types) ≡ i
    counted = let within : i < length types = slice_get_within types i pips at in length-take-le i types (omega arith)

    counted_more : length (take (i + 1) types) ≡ i + 1
    counted_more = let within : i < length types = slice_get_within types i pips at in length-take-le (i + 1) types (omega arith)

    none_yet : pips_of_type (take i types) i ≡ []
    none_yet = let count = counted in among i i ∙ get_or_past (take i types) i [] (omega arith)

    now_there : pips_of_type (take (i + 1) types) i ≡ pips
    now_there = among (i + 1) i ∙ get_or-take (i + 1) types i [] (omega arith) ∙ get_or_from_slice_get types i pips [] at

    as_before : (k : ℕ) → i ≢ k → (k < i) ⊎ (i ≤ k) → pips_of_type (take i types) k ≡ pips_of_type (take (i + 1) types) k
    as_before k apart (inl h) = among i k ∙ get_or-take i types k [] h ∙ sym (among (i + 1) k ∙ get_or-take (i + 1) types k [] (omega arith))
    as_before k apart (inr h) =
        let count = counted in
        let more = counted_more in
        among i k ∙ get_or_past (take i types) k [] (omega arith) ∙ sym (among (i + 1) k ∙ get_or_past (take (i + 1) types) k [] (omega arith))

    -- the PIPs of one more tile type were put
    pub one_more_type : (now new : Key → Option ℕ) → ((q : Key) → now q ≡ position (test q) (pips_of_type (take i types) q.owner)) → ((q : Key) → new q ≡ or_found (now q) (nat_eq i q.owner) (position (test q) pips))
        → (q : Key) → new q ≡ position (test q) (pips_of_type (take (i + 1) types) q.owner)
    one_more_type now new before step q = step q ∙ ap (λ o. or_found o (nat_eq i q.owner) (position (test q) pips)) (before q) ∙ by (nat_eq i q.owner) refl
      where
        kept : (o f : Option ℕ) → or_found o false f ≡ o
        kept None f = refl
        kept (Some v) f = refl

        by : (b : Bool) → nat_eq i q.owner ≡ b → or_found (position (test q) (pips_of_type (take i types) q.owner)) b (position (test q) pips) ≡ position (test q) (pips_of_type (take (i + 1) types) q.owner)
        by true h =
            let same : i ≡ q.owner = eqb-true i q.owner h in
            ap (λ xs. or_found (position (test q) xs) true (position (test q) pips)) (ap (pips_of_type (take i types)) (sym same) ∙ none_yet)
            ∙ ap (position (test q)) (sym now_there ∙ ap (pips_of_type (take (i + 1) types)) same)
        by false h =
            kept (position (test q) (pips_of_type (take i types) q.owner)) (position (test q) pips)
            ∙ ap (position (test q)) (as_before q.owner (eqb-false i q.owner h) (cases_lt q.owner i))

-- the type, the wires and the way of a backward PIP are asked in this order
pub and_apart : (ty : ℕ) (q : Key) (x : TilePip) (o : Option ℕ) (i : ℕ)
    → or_later o (key_eq (key ty x.wire0 x.wire1) q && not x.directional) i ≡ or_later o (nat_eq ty q.owner && joins_back q.part q.name x) i
and_apart ty q x o i = ap (λ b. or_later o b i) (by (nat_eq ty q.owner))
  where
    by : (a : Bool) → ((a && joins q.part q.name x) && not x.directional) ≡ (a && joins_back q.part q.name x)
    by true = refl
    by false = refl
