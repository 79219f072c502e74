-- Walks over lists of steps, one after the other.
use Rattle.std.proofs.Common.{◌≡◌, ℕ, ◌+◌, ◌<◌, ◌≤◌, zero, suc, arith, Bool, true, false, List, [], ◌∷◌, ◌++◌, length, take, drop, slice_get, Some, Result, Ok, Err, refl, sym, ap, subst, ◌∙◌, append_assoc}
use Prim.Native.String.{String}
use Rattle.std.proofs.lemmas.List.{append-nil, take-append-drop, take_more, take_all}
use Rattle.std.proofs.lemmas.Grind.{flat_map-append}
use Rattle.std.proofs.lemmas.Option.{slice_get_within, get_or_from_slice_get}
use Rattle.std.specs.List.{flat_map}
use Rattle.ix_message.specs.Indexes.{Step, begun, asked, Item}
use Rattle.ix_rec.specs.declared.place.Place.{Place}
use Rattle.ix_rec.specs.declared.place.Place.TheVariants as P
use Rattle.ix_device_rules.specs.declared.stop.Stop.{Stop}
use Rattle.ix_device_rules.specs.declared.stop.Stop.TheVariants.{Broken, Memory}
use Rattle.ix_device_rules.specs.Walks.{walked, Walks, MeetsWalk, IsFound, one_more}
use Rattle.ix_device_rules.specs.Rules.{by_earlier, each_by_earlier}

infixl 10 ◌>>=◌
abbrev ◌>>=◌ : {A B E : Type 0} → Result A E → (A → Result B E) → Result B E
(Ok x) >>= f = f x
(Err e) >>= f = Err e

walked-append : (xs ys : List Step) (counts : List ℕ) → walked (xs ++ ys) counts ≡ walked xs counts >>= walked ys
unfolding walked
walked-append [] ys counts = refl
walked-append (begun kind ∷ xs) ys counts = walked-append xs ys (one_more kind counts)
walked-append (asked kind field true ∷ xs) ys counts = walked-append xs ys counts
walked-append (asked kind field false ∷ xs) ys counts = refl

-- nothing is walked over
pub walks_none : (a : List ℕ) → Walks {X = Unit {0}} [] a (Ok tt) a
unfolding walked
walks_none a = record { tells = refl }

tells_then : {X Y : Type 0} (x : X) (b c : List ℕ) (r : Result Y Stop) (g : Result (List ℕ) Item) (ys : List Step) → MeetsWalk (Ok x) b g → MeetsWalk r c (walked ys b) → MeetsWalk r c (g >>= walked ys)
tells_then x b c r g ys h k = subst (λ g. MeetsWalk r c (g >>= walked ys)) (sym h) k

found_on : (p : Place) (g : Result (List ℕ) Item) (ys : List Step) → IsFound p g → IsFound p (g >>= walked ys)
found_on (P.Item k f i) g ys h = ap (λ g. g >>= walked ys) h
found_on _ g ys h = h

tells_stop : (X Y : Type 0) (e : Stop) (b c : List ℕ) (g : Result (List ℕ) Item) (ys : List Step) → MeetsWalk {X = X} (Err e) b g → MeetsWalk {X = Y} (Err e) c (g >>= walked ys)
tells_stop X Y Memory b c g ys h = tt
tells_stop X Y (Broken p) b c g ys h = found_on p g ys h

-- one list after another
pub walks_then : {X Y : Type 0} {x : X} {xs ys : List Step} {a b c : List ℕ} {r : Result Y Stop} → Walks xs a (Ok x) b → Walks ys b r c → Walks (xs ++ ys) a r c
walks_then {x = x} {xs = xs} {ys = ys} {a = a} {b = b} {c = c} {r = r} h k = record { tells = subst (MeetsWalk r c) (sym (walked-append xs ys a)) (tells_then x b c r (walked xs a) ys h.tells k.tells) }

-- what stops a walk stops all that begin with it
pub walks_stop : {X Y : Type 0} {e : Stop} {xs : List Step} (ys : List Step) {a b : List ℕ} (c : List ℕ) → Walks {X = X} xs a (Err e) b → Walks {X = Y} (xs ++ ys) a (Err e) c
walks_stop {X = X} {Y = Y} {e = e} {xs = xs} ys {a = a} {b = b} c h = record { tells = subst (MeetsWalk {X = Y} (Err e) c) (sym (walked-append xs ys a)) (tells_stop X Y e b c (walked xs a) ys h.tells) }

pub stops_too : {X : Type 0} {e : Stop} {xs : List Step} (ys : List Step) {a b : List ℕ} → Walks {X = X} xs a (Err e) b → Walks {X = X} (xs ++ ys) a (Err e) b
stops_too {X = X} ys {b = b} h = walks_stop {X = X} {Y = X} ys b h

pub walks_first : {X Y : Type 0} {x : X} {s : Step} {ys : List Step} {a b c : List ℕ} {r : Result Y Stop} → Walks (s ∷ []) a (Ok x) b → Walks ys b r c → Walks (s ∷ ys) a r c
walks_first {s = s} {ys = ys} h k = walks_then {xs = s ∷ []} {ys = ys} h k

pub walks_stop_first : {X Y : Type 0} {e : Stop} {s : Step} (ys : List Step) {a b : List ℕ} (c : List ℕ) → Walks {X = X} (s ∷ []) a (Err e) b → Walks {X = Y} (s ∷ ys) a (Err e) c
walks_stop_first {s = s} ys c h = walks_stop {xs = s ∷ []} ys c h

-- the answer to a question, told in another way
pub asked_as : {X : Type 0} {kind field : String} {rest : List Step} {fits shown : Bool} {a b : List ℕ} {r : Result X Stop} → fits ≡ shown → Walks (asked kind field fits ∷ rest) a r b → Walks (asked kind field shown ∷ rest) a r b
asked_as {kind = kind} {field = field} {rest = rest} {a = a} {b = b} {r = r} same h = subst (λ f. Walks (asked kind field f ∷ rest) a r b) same h

pub entered_as : {X : Type 0} {kind field : String} {rest : List Step} {fits shown : Bool} {a b : List ℕ} {r : Result X Stop} → fits ≡ shown → Walks (begun kind ∷ asked kind field fits ∷ rest) a r b → Walks (begun kind ∷ asked kind field shown ∷ rest) a r b
entered_as {kind = kind} {field = field} {rest = rest} {a = a} {b = b} {r = r} same h = subst (λ f. Walks (begun kind ∷ asked kind field f ∷ rest) a r b) same h

-- what is asked fits where the walk goes on
pub entered_fits : {X : Type 0} (x : X) (kind field : String) (rest : List Step) (fits : Bool) (a b : List ℕ) → Walks (begun kind ∷ asked kind field fits ∷ rest) a (Ok x) b → fits ≡ true
unfolding walked
entered_fits x kind field rest true a b h = refl
entered_fits x kind field rest false a b h = let e = h.tells in absurd (cc)

-- the steps, told in another way
pub walks_as : {X : Type 0} {xs ys : List Step} {a b : List ℕ} {r : Result X Stop} → xs ≡ ys → Walks xs a r b → Walks ys a r b
walks_as {a = a} {b = b} {r = r} same h = subst (λ l. Walks l a r b) same h

-- an item stands at each place of a list
pub there_is : {A : Type 0} (xs : List A) (i : ℕ) → i < length xs → (x : A) × (slice_get xs i ≡ Some x)
there_is [] i lt = absurd (omega arith)
there_is (x ∷ xs) zero lt = (x, refl)
there_is (x ∷ xs) (suc i) lt = there_is xs i (omega arith)

-- The items of a list up to one, and it, and the rest.

pub up_to : {A : Type 0} (xs : List A) (i : ℕ) (x : A) → slice_get xs i ≡ Some x → take (i + 1) xs ≡ take i xs ++ x ∷ []
up_to xs i x at = take_more xs i x (slice_get_within xs i x at) ∙ ap (λ y. take i xs ++ y ∷ []) (get_or_from_slice_get xs i x x at)

in_parts : {A : Type 0} (xs : List A) (i : ℕ) (x : A) → slice_get xs i ≡ Some x → (take i xs ++ x ∷ []) ++ drop (i + 1) xs ≡ xs
in_parts xs i x at = ap (λ ys. ys ++ drop (i + 1) xs) (sym (up_to xs i x at)) ∙ take-append-drop (i + 1) xs

module _ {A B : Type 0} (ask : List A → A → List B) where
  by_earlier-append : (before xs ys : List A) → by_earlier ask before (xs ++ ys) ≡ by_earlier ask before xs ++ by_earlier ask (before ++ xs) ys
  unfolding by_earlier
  by_earlier-append before [] ys = ap (λ b. by_earlier ask b ys) (sym (append-nil before))
  by_earlier-append before (x ∷ xs) ys =
      ap (λ l. ask before x ++ l) (by_earlier-append (before ++ x ∷ []) xs ys)
      ∙ ap (λ b. ask before x ++ (by_earlier ask (before ++ x ∷ []) xs ++ by_earlier ask b ys)) (append_assoc before (x ∷ []) xs)
      ∙ sym (append_assoc (ask before x) (by_earlier ask (before ++ x ∷ []) xs) (by_earlier ask (before ++ x ∷ xs) ys))

  by_earlier-push : (xs : List A) (x : A) → each_by_earlier ask (xs ++ x ∷ []) ≡ each_by_earlier ask xs ++ ask xs x
  unfolding by_earlier
  by_earlier-push xs x = by_earlier-append [] xs (x ∷ []) ∙ ap (λ l. each_by_earlier ask xs ++ l) (append-nil (ask xs x))

  pub earlier_more : (xs : List A) (i : ℕ) (x : A) → slice_get xs i ≡ Some x → each_by_earlier ask (take (i + 1) xs) ≡ each_by_earlier ask (take i xs) ++ ask (take i xs) x
  earlier_more xs i x at = ap (each_by_earlier ask) (up_to xs i x at) ∙ by_earlier-push (take i xs) x

  pub earlier_all : (xs : List A) (i : ℕ) (x : A) → slice_get xs i ≡ Some x → each_by_earlier ask xs ≡ (each_by_earlier ask (take i xs) ++ ask (take i xs) x) ++ by_earlier ask (take i xs ++ x ∷ []) (drop (i + 1) xs)
  earlier_all xs i x at =
      ap (each_by_earlier ask) (sym (in_parts xs i x at))
      ∙ by_earlier-append [] (take i xs ++ x ∷ []) (drop (i + 1) xs)
      ∙ ap (λ l. l ++ by_earlier ask (take i xs ++ x ∷ []) (drop (i + 1) xs)) (by_earlier-push (take i xs) x)

  earlier_none : each_by_earlier ask [] ≡ []
  unfolding by_earlier
  earlier_none = refl

-- A loop over a list, where what is asked of an item depends on the items before it.
module _ {A : Type 0} (ask : List A → A → List Step) (xs : List A) where
  pub each_none : (a : List ℕ) → Walks {X = Unit {0}} (each_by_earlier ask []) a (Ok tt) a
  each_none a = subst (λ l. Walks {X = Unit {0}} l a (Ok tt) a) (sym (earlier_none ask)) (walks_none a)

  pub each_more : {X Y : Type 0} {y : Y} {z : X} {a b c : List ℕ} (i : ℕ) (x : A) → slice_get xs i ≡ Some x → Walks (each_by_earlier ask (take i xs)) a (Ok z) b → Walks (ask (take i xs) x) b (Ok y) c → Walks (each_by_earlier ask (take (i + 1) xs)) a (Ok y) c
  each_more {y = y} {a = a} {c = c} i x at h k = subst (λ l. Walks l a (Ok y) c) (sym (earlier_more ask xs i x at)) (walks_then h k)

  pub each_stops : {X Y Z : Type 0} {z : X} {e : Stop} {a b c : List ℕ} (d : List ℕ) (i : ℕ) (x : A) → slice_get xs i ≡ Some x → Walks (each_by_earlier ask (take i xs)) a (Ok z) b → Walks {X = Y} (ask (take i xs) x) b (Err e) c → Walks {X = Z} (each_by_earlier ask xs) a (Err e) d
  each_stops {Y = Y} {Z = Z} {e = e} {a = a} {c = c} d i x at h k =
      subst (λ l. Walks {X = Z} l a (Err e) d) (sym (earlier_all ask xs i x at)) (walks_stop {X = Y} {Y = Z} (by_earlier ask (take i xs ++ x ∷ []) (drop (i + 1) xs)) d (walks_then h k))

  pub each_done : {X : Type 0} {y : X} {a b : List ℕ} (i : ℕ) → length xs ≤ i → Walks (each_by_earlier ask (take i xs)) a (Ok y) b → Walks (each_by_earlier ask xs) a (Ok y) b
  each_done {y = y} {a = a} {b = b} i past h = subst (λ l. Walks (each_by_earlier ask l) a (Ok y) b) (take_all i xs past) h

-- The same where it doesn't.
flat_is : {A : Type 0} (f : A → List Step) (before xs : List A) → by_earlier (λ _. f) before xs ≡ flat_map f xs
unfolding by_earlier
flat_is f before [] = refl
flat_is f before (x ∷ xs) = ap (λ l. f x ++ l) (flat_is f (before ++ x ∷ []) xs)

module _ {A : Type 0} (f : A → List Step) (xs : List A) where
  pub flat_none : (a : List ℕ) → Walks {X = Unit {0}} (flat_map f []) a (Ok tt) a
  flat_none a = walks_none a

  pub flat_more : {X Y : Type 0} {y : Y} {z : X} {a b c : List ℕ} (i : ℕ) (x : A) → slice_get xs i ≡ Some x → Walks (flat_map f (take i xs)) a (Ok z) b → Walks (f x) b (Ok y) c → Walks (flat_map f (take (i + 1) xs)) a (Ok y) c
  flat_more {y = y} {z = z} {a = a} {b = b} {c = c} i x at h k =
      subst (λ l. Walks l a (Ok y) c) (flat_is f [] (take (i + 1) xs)) (each_more (λ _. f) xs i x at (subst (λ l. Walks l a (Ok z) b) (sym (flat_is f [] (take i xs))) h) k)

  pub flat_stops : {X Y Z : Type 0} {z : X} {e : Stop} {a b c : List ℕ} (d : List ℕ) (i : ℕ) (x : A) → slice_get xs i ≡ Some x → Walks (flat_map f (take i xs)) a (Ok z) b → Walks {X = Y} (f x) b (Err e) c → Walks {X = Z} (flat_map f xs) a (Err e) d
  flat_stops {Y = Y} {Z = Z} {z = z} {e = e} {a = a} {b = b} {c = c} d i x at h k =
      subst (λ l. Walks {X = Z} l a (Err e) d) (flat_is f [] xs) (each_stops (λ _. f) xs {Y = Y} {Z = Z} d i x at (subst (λ l. Walks l a (Ok z) b) (sym (flat_is f [] (take i xs))) h) k)

  pub flat_done : {X : Type 0} {y : X} {a b : List ℕ} (i : ℕ) → length xs ≤ i → Walks (flat_map f (take i xs)) a (Ok y) b → Walks (flat_map f xs) a (Ok y) b
  flat_done {y = y} {a = a} {b = b} i past h = subst (λ l. Walks (flat_map f l) a (Ok y) b) (take_all i xs past) h

pub by_earlier-same : {A B : Type 0} (f g : List A → A → List B) → ((before : List A) (x : A) → f before x ≡ g before x) → (before xs : List A) → by_earlier f before xs ≡ by_earlier g before xs
unfolding by_earlier
by_earlier-same f g same before [] = refl
by_earlier-same f g same before (x ∷ xs) = (λ i. same before x i ++ by_earlier-same f g same (before ++ x ∷ []) xs i)

pub flat_up_to : {A B : Type 0} (f : A → List B) (xs : List A) (i : ℕ) (x : A) → slice_get xs i ≡ Some x → flat_map f (take (i + 1) xs) ≡ flat_map f (take i xs) ++ f x
flat_up_to f xs i x at = ap (flat_map f) (up_to xs i x at) ∙ flat_map-append f (take i xs) (x ∷ []) ∙ ap (λ l. flat_map f (take i xs) ++ l) (append-nil (f x))
