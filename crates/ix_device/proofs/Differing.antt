-- Lists of which no two items are alike, item by item.
use Rattle.std.proofs.Common.{◌≡◌, refl, ap, sym, ◌∙◌, ℕ, ◌+◌, Bool, true, false, not, ◌&&◌, ◌||◌, nat_eq, List, [], ◌∷◌, ◌++◌, map, take, drop, slice_get, Option, Some, None, is_none, append_assoc, append-nil, take-append-drop}
use Rattle.std.specs.List.{list_any}
use Rattle.std.proofs.lemmas.Bool.{eq-eqb, eqb-true, eqb-false, ne_eqb}
use Rattle.std.proofs.lemmas.List.{map-append}
use Rattle.ix_first.specs.First.{or_later}
use Rattle.ix_device_rules.specs.Rules.{is_new}
use Rattle.ix_device.specs.Elements.{differ}
use Rattle.ix_device.proofs.Walks.{take_next}

pub nat_eq_sym : (a b : ℕ) → nat_eq a b ≡ nat_eq b a
nat_eq_sym a b = by (nat_eq a b) refl
  where
    by : (t : Bool) → nat_eq a b ≡ t → t ≡ nat_eq b a
    by true h = sym (eq-eqb b a (sym (eqb-true a b h)))
    by false h = sym (ne_eqb b a (λ e. eqb-false a b h (sym e)))

new_push : (xs : List ℕ) (y x : ℕ) → is_new (xs ++ y ∷ []) x ≡ (is_new xs x && not (nat_eq x y))
new_push [] y x = by (nat_eq x y)
  where
    by : (b : Bool) → not (b || false) ≡ not b
    by true = refl
    by false = refl
new_push (z ∷ zs) y x = by (nat_eq x z) (new_push zs y x)
  where
    by : (b : Bool) → is_new (zs ++ y ∷ []) x ≡ (is_new zs x && not (nat_eq x y)) → not (b || list_any (nat_eq x) (zs ++ y ∷ [])) ≡ (not (b || list_any (nat_eq x) zs) && not (nat_eq x y))
    by true h = refl
    by false h = h

shuffled : (a b c d : Bool) → ((a && b) && (c && d)) ≡ ((a && c) && (b && d))
shuffled true true c d = by c
  where
    by : (c : Bool) → (c && d) ≡ (c && d)
    by c = refl
shuffled true false true d = refl
shuffled true false false d = refl
shuffled false b c d = refl

pub differ_push : (xs : List ℕ) (y : ℕ) → differ (xs ++ y ∷ []) ≡ (differ xs && is_new xs y)
differ_push [] y = refl
differ_push (x ∷ xs) y =
    ap (λ b. b && differ (xs ++ y ∷ [])) (new_push xs y x) ∙ ap (λ b. (is_new xs x && not (nat_eq x y)) && b) (differ_push xs y)
    ∙ shuffled (is_new xs x) (not (nat_eq x y)) (differ xs) (is_new xs y) ∙ ap (λ b. (is_new xs x && differ xs) && b) (ap (λ b. not b && is_new xs y) (nat_eq_sym x y) ∙ by (nat_eq y x))
  where
    by : (b : Bool) → (not b && is_new xs y) ≡ not (b || list_any (nat_eq y) xs)
    by true = refl
    by false = refl

-- a beginning with two alike makes the whole have two alike
differ_false : (xs ys : List ℕ) → differ xs ≡ false → differ (xs ++ ys) ≡ false
differ_false xs [] h = ap differ (append-nil xs) ∙ h
differ_false xs (y ∷ ys) h = ap differ (sym (append_assoc xs (y ∷ []) ys)) ∙ differ_false (xs ++ y ∷ []) ys (differ_push xs y ∙ ap (λ b. b && is_new xs y) h)

-- an item that is among those before it makes the list have two alike
pub differ_fails : {A : Type 0} (f : A → ℕ) (xs : List A) (i : ℕ) (x : A) → slice_get xs i ≡ Some x → is_new (map f (take i xs)) (f x) ≡ false → differ (map f xs) ≡ false
differ_fails f xs i x at h =
    ap (λ l. differ (map f l)) (sym (take-append-drop (i + 1) xs)) ∙ ap differ (map-append f (take (i + 1) xs) (drop (i + 1) xs))
    ∙ differ_false (map f (take (i + 1) xs)) (map f (drop (i + 1) xs)) (ap differ (ap (map f) (take_next xs i x at) ∙ map-append f (take i xs) (x ∷ [])) ∙ differ_push (map f (take i xs)) (f x) ∙ ap (λ b. differ (map f (take i xs)) && b) h ∙ by (differ (map f (take i xs))))
  where
    by : (b : Bool) → (b && false) ≡ false
    by true = refl
    by false = refl

-- one more item that isn't among those before it
pub differ_next : {A : Type 0} (f : A → ℕ) (xs : List A) (i : ℕ) (x : A) → slice_get xs i ≡ Some x → is_new (map f (take i xs)) (f x) ≡ true → differ (map f (take i xs)) ≡ true
    → differ (map f (take (i + 1) xs)) ≡ true
differ_next f xs i x at new h =
    ap differ (ap (map f) (take_next xs i x at) ∙ map-append f (take i xs) (x ∷ [])) ∙ differ_push (map f (take i xs)) (f x) ∙ ap (λ b. b && is_new (map f (take i xs)) (f x)) h ∙ new

-- which values are new after one item more
pub new_next : {A : Type 0} (f : A → ℕ) (xs : List A) (i : ℕ) (x : A) (q : ℕ) → slice_get xs i ≡ Some x → is_new (map f (take (i + 1) xs)) q ≡ (is_new (map f (take i xs)) q && not (nat_eq q (f x)))
new_next f xs i x q at = ap (λ l. is_new l q) (ap (map f) (take_next xs i x at) ∙ map-append f (take i xs) (x ∷ [])) ∙ new_push (map f (take i xs)) (f x) q

-- which numbers have no value after a value was put
pub still_new : {V : Type 0} (o : Option V) (t : Bool) (v : V) → is_none (or_later o t v) ≡ (is_none o && not t)
still_new None true v = refl
still_new None false v = refl
still_new (Some w) t v = refl

-- a name that had no value yet was put
pub put_new : {A : Type 0} (f : A → ℕ) (xs : List A) (i : ℕ) (x : A) (old new : ℕ → Option (Unit {0})) → slice_get xs i ≡ Some x
    → ((q : ℕ) → is_none (old q) ≡ is_new (map f (take i xs)) q) → ((q : ℕ) → new q ≡ or_later (old q) (nat_eq (f x) q) tt)
    → (q : ℕ) → is_none (new q) ≡ is_new (map f (take (i + 1) xs)) q
put_new f xs i x old new at before step q =
    ap is_none (step q) ∙ still_new (old q) (nat_eq (f x) q) tt ∙ ap (λ b. b && not (nat_eq (f x) q)) (before q) ∙ ap (λ b. is_new (map f (take i xs)) q && not b) (nat_eq_sym (f x) q) ∙ sym (new_next f xs i x q at)
