-- The table of the wires of tile types, wire by wire and type by type.
use Rattle.std.proofs.Common.{◌≡◌, ◌<◌, refl, ap, sym, ◌∙◌, ℕ, suc, zero, ◌+◌, Bool, true, false, ◌&&◌, nat_eq, List, [], ◌∷◌, ◌++◌, take, length, slice_get, position, Option, Some, None, option_and_then, if◌then◌else◌, arith}
use Rattle.std.proofs.lemmas.Bool.{eqb-true, eqb-false, eq-eqb, ne_eqb}
use Rattle.std.proofs.lemmas.Option.{slice_get_within}
use Rattle.ix_keys.specs.declared.key.Key.{Key}
use Rattle.ix_keys.specs.Keys.{key, key_eq}
use Rattle.ix_first.specs.First.{or_later, or_found}
use Rattle.ix_rec.specs.declared.device.TileType.{TileType}
use Rattle.ix_device.specs.Lookups.{wire_of_type}
use Rattle.ix_device.specs.TileWires.{of_type, wire_at}
use Rattle.ix_device.proofs.Walks.{take_next, length_take}
use Rattle.ix_device.proofs.FirstPlaces.{one_more_place}
use Rattle.ix_device.proofs.Differing.{nat_eq_sym}

joined : (o f : Option ℕ) (a b l : Bool) (v : ℕ) → or_later (or_found o (a && b) f) (a && (b && l)) v ≡ or_found o (a && b) (or_later f l v)
joined (Some w) f a b l v = refl
joined None (Some g) true true l v = refl
joined None None true true l v = refl
joined None f true false l v = refl
joined None f false b l v = refl

-- one more wire of a tile type was put
pub one_more_wire : (owner : ℕ) (wires : List ℕ) (i w : ℕ) (old now new : Key → Option ℕ) → slice_get wires i ≡ Some w
    → ((q : Key) → now q ≡ or_found (old q) (of_type owner q) (position (nat_eq q.name) (take i wires))) → ((q : Key) → new q ≡ or_later (now q) (key_eq (key owner 0 w) q) i)
    → (q : Key) → new q ≡ or_found (old q) (of_type owner q) (position (nat_eq q.name) (take (i + 1) wires))
one_more_wire owner wires i w old now new at before step q =
    step q ∙ ap (λ o. or_later o (key_eq (key owner 0 w) q) i) (before q)
    ∙ joined (old q) (position (nat_eq q.name) (take i wires)) (nat_eq owner q.owner) (nat_eq 0 q.part) (nat_eq w q.name) i
    ∙ ap (λ b. or_found (old q) (of_type owner q) (or_later (position (nat_eq q.name) (take i wires)) b i)) (nat_eq_sym w q.name)
    ∙ ap (or_found (old q) (of_type owner q)) (one_more_place (nat_eq q.name) wires i w (position (nat_eq q.name) (take i wires)) at refl)

eq_suc : (a b : ℕ) → nat_eq a b ≡ nat_eq (suc a) (suc b)
eq_suc a b = by (nat_eq a b) refl
  where
    by : (t : Bool) → nat_eq a b ≡ t → t ≡ nat_eq (suc a) (suc b)
    by true h = sym (eq-eqb (suc a) (suc b) (ap suc (eqb-true a b h)))
    by false h = sym (ne_eqb (suc a) (suc b) (λ e. eqb-false a b h (suc_same e)))
      where
        suc_same : suc a ≡ suc b → a ≡ b
        suc_same e = omega arith

-- what stands in a list with one item more
slice_get_push : {A : Type 0} (xs : List A) (x : A) (k : ℕ) → slice_get (xs ++ x ∷ []) k ≡ or_found (slice_get xs k) (nat_eq (length xs) k) (Some x)
slice_get_push [] x zero = refl
slice_get_push [] x (suc k) = sym (ap (λ b. or_found None b (Some x)) (ne_eqb 0 (suc k) apart))
  where
    apart : 0 ≡ suc k → ⊥
    apart e = omega arith
slice_get_push (y ∷ ys) x zero = refl
slice_get_push (y ∷ ys) x (suc k) = slice_get_push ys x k ∙ ap (λ b. or_found (slice_get ys k) b (Some x)) (eq_suc (length ys) k)

-- the wires of one more tile type were put
pub one_more_type : (types : List TileType) (i : ℕ) (ty : TileType) (now new : Key → Option ℕ) → slice_get types i ≡ Some ty
    → ((q : Key) → now q ≡ wire_at (take i types) q) → ((q : Key) → new q ≡ or_found (now q) (of_type i q) (wire_of_type q.name ty))
    → (q : Key) → new q ≡ wire_at (take (i + 1) types) q
one_more_type types i ty now new at before step q =
    step q ∙ ap (λ o. or_found o (of_type i q) (wire_of_type q.name ty)) (before q) ∙ by (nat_eq 0 q.part) (slice_get (take i types) q.owner) (nat_eq i q.owner) refl refl
    ∙ ap (λ o. if nat_eq 0 q.part then option_and_then (wire_of_type q.name) o else None) (sym (ap (λ l. slice_get l q.owner) (take_next types i ty at) ∙ slice_get_push (take i types) ty q.owner ∙ ap (λ n. or_found (slice_get (take i types) q.owner) (nat_eq n q.owner) (Some ty)) (length_take types i ty at)))
  where
    kept : (o f : Option ℕ) → or_found o false f ≡ o
    kept None f = refl
    kept (Some v) f = refl

    none : (a : Bool) → or_found None (a && false) (wire_of_type q.name ty) ≡ None
    none true = refl
    none false = refl

    apart : (u : TileType) → slice_get (take i types) q.owner ≡ Some u → nat_eq i q.owner ≡ true → ⊥
    apart u h e = let within : q.owner < length (take i types) = slice_get_within (take i types) q.owner u h in let len = length_take types i ty at in let same = eqb-true i q.owner e in omega arith

    by : (p : Bool) (o : Option TileType) (a : Bool) → slice_get (take i types) q.owner ≡ o → nat_eq i q.owner ≡ a
        → or_found (if p then option_and_then (wire_of_type q.name) o else None) (a && p) (wire_of_type q.name ty) ≡ (if p then option_and_then (wire_of_type q.name) (or_found o a (Some ty)) else None)
    by false o a h e = none a
    by true None true h e = refl
    by true None false h e = refl
    by true (Some u) true h e = absurd (apart u h e)
    by true (Some u) false h e = kept (wire_of_type q.name u) (wire_of_type q.name ty)
