-- The directed PIPs of tiles: tile by tile, by number, and by the wires that they join.
use Rattle.std.proofs.Common.{◌≡◌, ◌≢◌, ◌<◌, ◌≤◌, refl, ap, sym, ◌∙◌, ℕ, zero, suc, ◌+◌, ◌*◌, ◌/◌, ◌%◌, Bool, true, false, true≢false, cond, not, ◌&&◌, nat_eq, if◌then◌else◌, List, [], ◌∷◌, ◌++◌, append_assoc, length, take, drop, slice_get, Option, Some, None, IsSome, is_some, option_map, inl, inr, arith}
use mathlib.Core.Logic.{◌⊎◌}
use Rattle.std.specs.Option.{option_or}
use Rattle.std.specs.List.{find, position}
use Rattle.std.proofs.lemmas.Bool.{eq-eqb, ne_eqb, eqb-true, eqb-false, cases_lt}
use Rattle.std.proofs.lemmas.List.{append-nil, take-append-drop, length-take-le}
use Rattle.std.proofs.lemmas.List.Folds.{find-append}
use Rattle.std.proofs.lemmas.List.Quantifiers.{position-Some}
use Rattle.std.proofs.lemmas.List.Sums.{sum_by-cons, sum_by_push}
use Rattle.std.proofs.lemmas.Option.{same_Some, none-some, slice_get_within}
use Rattle.ix_device.proofs.Walks.{take_next, length_take}
use Rattle.ix_device.proofs.FirstPlaces.{position-cons}
use Rattle.ix_device.proofs.OptionLemmas.{option_or-none}
use Rattle.ix_keys.specs.declared.key.Key.{Key}
use Rattle.ix_keys.specs.Keys.{key}
use Rattle.ix_graph.specs.declared.type_pips.TilePip.{TilePip}
use Rattle.ix_graph.specs.Pips.{DirectedPip, directed_pip, ways, ways_in, ways_from, pips_of_type}
use Rattle.ix_graph.specs.Tables.{pip_count, joins, joins_back, goes, is_way, joins_at, way_number}

-- Tile by tile.

same_place : (types : List (List TilePip)) (tile tile' p p' : ℕ) (tys : List ℕ) → tile ≡ tile' → p ≡ p' → ways_from types tile p tys ≡ ways_from types tile' p' tys
same_place types tile tile' p p' tys same_tile same_pip = ap (λ t. ways_from types t p tys) same_tile ∙ ap (λ q. ways_from types tile' q tys) same_pip

-- the directed PIPs of tiles and of tiles after them
pub ways_from-append : (types : List (List TilePip)) (tile p : ℕ) (xs ys : List ℕ) → ways_from types tile p (xs ++ ys) ≡ ways_from types tile p xs ++ ways_from types (tile + length xs) (p + pip_count types xs) ys
unfolding ways_from
ways_from-append types tile p [] ys = same_place types tile (tile + 0) p (p + 0) ys (omega arith) (omega arith)
ways_from-append types tile p (ty ∷ xs) ys =
    let here = pips_of_type types ty in
    let counted = sum_by-cons (λ x. length (pips_of_type types x)) ty xs in
    ap (λ r. ways_in tile p here ++ r) (ways_from-append types (tile + 1) (p + length here) xs ys)
    ∙ ap (λ r. ways_in tile p here ++ (ways_from types (tile + 1) (p + length here) xs ++ r)) (same_place types (tile + 1 + length xs) (tile + suc (length xs)) (p + length here + pip_count types xs) (p + pip_count types (ty ∷ xs)) ys (omega arith) (omega arith))
    ∙ sym (append_assoc (ways_in tile p here) (ways_from types (tile + 1) (p + length here) xs) (ways_from types (tile + suc (length xs)) (p + pip_count types (ty ∷ xs)) ys))

ways_from-one : (types : List (List TilePip)) (tile p ty : ℕ) → ways_from types tile p (ty ∷ []) ≡ ways_in tile p (pips_of_type types ty) ++ []
unfolding ways_from
ways_from-one types tile p ty = refl

-- the directed PIPs of PIPs of a tile and of PIPs after them
pub ways_in-append : (tile p : ℕ) (xs ys : List TilePip) → ways_in tile p (xs ++ ys) ≡ ways_in tile p xs ++ ways_in tile (p + length xs) ys
unfolding ways_in
ways_in-append tile p [] ys = ap (λ q. ways_in tile q ys) same
  where
    same : p ≡ p + 0
    same = omega arith
ways_in-append tile p (x ∷ xs) ys =
    ap (λ r. ways tile p x ++ r) (ways_in-append tile (p + 1) xs ys)
    ∙ ap (λ q. ways tile p x ++ (ways_in tile (p + 1) xs ++ ways_in tile q ys)) same
    ∙ sym (append_assoc (ways tile p x) (ways_in tile (p + 1) xs) (ways_in tile (p + suc (length xs)) ys))
  where
    same : p + 1 + length xs ≡ p + suc (length xs)
    same = omega arith

ways_in-one : (tile p : ℕ) (x : TilePip) → ways_in tile p (x ∷ []) ≡ ways tile p x
unfolding ways_in
ways_in-one tile p x = append-nil (ways tile p x)

-- the directed PIPs of one PIP more
pub ways_in_next : (tile p j : ℕ) (xs : List TilePip) (x : TilePip) → slice_get xs j ≡ Some x → ways_in tile p (take (j + 1) xs) ≡ ways_in tile p (take j xs) ++ ways tile (p + j) x
ways_in_next tile p j xs x at =
    ap (ways_in tile p) (take_next xs j x at) ∙ ways_in-append tile p (take j xs) (x ∷ [])
    ∙ ap (λ n. ways_in tile p (take j xs) ++ ways_in tile (p + n) (x ∷ [])) (length_take xs j x at)
    ∙ ap (λ r. ways_in tile p (take j xs) ++ r) (ways_in-one tile (p + j) x)

module _ (types : List (List TilePip)) (kinds : List ℕ) (tile kind : ℕ) (at : slice_get kinds tile ≡ Some kind) where
  -- the number of a tile's first PIP
  abbrev start : ℕ
  start = pip_count types (take tile kinds)

  -- the PIPs of one tile more
  pub count_next : pip_count types (take (tile + 1) kinds) ≡ pip_count types (take tile kinds) + length (pips_of_type types kind)
  count_next = ap (pip_count types) (take_next kinds tile kind at) ∙ sum_by_push (λ ty. length (pips_of_type types ty)) (take tile kinds) kind

  -- the directed PIPs of one tile more
  pub ways_next : ways_from types 0 0 (take (tile + 1) kinds) ≡ ways_from types 0 0 (take tile kinds) ++ ways_in tile (pip_count types (take tile kinds)) (pips_of_type types kind)
  ways_next =
      ap (ways_from types 0 0) (take_next kinds tile kind at) ∙ ways_from-append types 0 0 (take tile kinds) (kind ∷ [])
      ∙ ap (λ r. ways_from types 0 0 (take tile kinds) ++ r)
      (same_place types (0 + length (take tile kinds)) tile (0 + start) start (kind ∷ []) (no_more (length (take tile kinds)) ∙ length_take kinds tile kind at) (no_more start)
      ∙ ways_from-one types tile start kind ∙ append-nil (ways_in tile start (pips_of_type types kind)))
    where
      no_more : (n : ℕ) → 0 + n ≡ n
      no_more n = omega arith

  -- the directed PIPs of the tiles before a tile, of the tile, and of the tiles after it
  pub ways_split : ways_from types 0 0 kinds
      ≡ ways_from types 0 0 (take tile kinds) ++ (ways_in tile (pip_count types (take tile kinds)) (pips_of_type types kind) ++ ways_from types (tile + 1) (pip_count types (take (tile + 1) kinds)) (drop (tile + 1) kinds))
  ways_split =
      ap (ways_from types 0 0) (sym (take-append-drop (tile + 1) kinds)) ∙ ways_from-append types 0 0 (take (tile + 1) kinds) (drop (tile + 1) kinds)
      ∙ ap (λ r. r ++ ways_from types (0 + length (take (tile + 1) kinds)) (0 + pip_count types (take (tile + 1) kinds)) (drop (tile + 1) kinds)) ways_next
      ∙ append_assoc (ways_from types 0 0 (take tile kinds)) (ways_in tile start (pips_of_type types kind)) (ways_from types (0 + length (take (tile + 1) kinds)) (0 + pip_count types (take (tile + 1) kinds)) (drop (tile + 1) kinds))
      ∙ ap (λ r. ways_from types 0 0 (take tile kinds) ++ (ways_in tile start (pips_of_type types kind) ++ r))
      (same_place types (0 + length (take (tile + 1) kinds)) (tile + 1) (0 + pip_count types (take (tile + 1) kinds)) (pip_count types (take (tile + 1) kinds)) (drop (tile + 1) kinds) counted (no_more (pip_count types (take (tile + 1) kinds))))
    where
      no_more : (n : ℕ) → 0 + n ≡ n
      no_more n = omega arith

      counted : 0 + length (take (tile + 1) kinds) ≡ tile + 1
      counted = let within : tile < length kinds = slice_get_within kinds tile kind at in let taken = length-take-le (tile + 1) kinds (omega arith) in omega arith

-- What is found.

-- the first of the directed PIPs of a PIP and of what follows
find_ways : (test : DirectedPip → Bool) (tile p : ℕ) (x : TilePip) (rest : List DirectedPip)
    → find test (ways tile p x ++ rest)
    ≡ cond (test (directed_pip (2 * p) tile x true)) (Some (directed_pip (2 * p) tile x true)) (cond (not x.directional && test (directed_pip (2 * p + 1) tile x false)) (Some (directed_pip (2 * p + 1) tile x false)) (find test rest))
find_ways test tile p x rest = by x.directional
  where
    by : (d : Bool) → cond (test (directed_pip (2 * p) tile x true)) (Some (directed_pip (2 * p) tile x true)) (find test ((if d then [] else directed_pip (2 * p + 1) tile x false ∷ []) ++ rest))
        ≡ cond (test (directed_pip (2 * p) tile x true)) (Some (directed_pip (2 * p) tile x true)) (cond (not d && test (directed_pip (2 * p + 1) tile x false)) (Some (directed_pip (2 * p + 1) tile x false)) (find test rest))
    by true = refl
    by false = refl

-- both directed PIPs of a PIP fail a test
abbrev Fails : (DirectedPip → Bool) → (tile p : ℕ) → TilePip → Type 0
Fails test tile p x = (test (directed_pip (2 * p) tile x true) ≡ false) × (test (directed_pip (2 * p + 1) tile x false) ≡ false)

two_fail : {A : Type 0} (a b d : Bool) (u v : A) (r : Option A) → a ≡ false → b ≡ false → cond a (Some u) (cond (not d && b) (Some v) r) ≡ r
two_fail true b d u v r e f = absurd (true≢false e)
two_fail false true d u v r e f = absurd (true≢false f)
two_fail false false true u v r e f = refl
two_fail false false false u v r e f = refl

pass : (test : DirectedPip → Bool) (tile p : ℕ) (x : TilePip) (rest : List DirectedPip) → Fails test tile p x → find test (ways tile p x ++ rest) ≡ find test rest
pass test tile p x rest fails =
    find_ways test tile p x rest
    ∙ two_fail (test (directed_pip (2 * p) tile x true)) (test (directed_pip (2 * p + 1) tile x false)) x.directional (directed_pip (2 * p) tile x true) (directed_pip (2 * p + 1) tile x false) (find test rest) fails.0 fails.1

none_in : (test : DirectedPip → Bool) (tile p : ℕ) (xs : List TilePip) → ((q : ℕ) (x : TilePip) → p ≤ q → q < p + length xs → Fails test tile q x) → find test (ways_in tile p xs) ≡ None
unfolding ways_in
none_in test tile p [] fails = refl
none_in test tile p (x ∷ xs) fails =
    pass test tile p x (ways_in tile (p + 1) xs) (fails p x (omega arith) (omega arith))
    ∙ none_in test tile (p + 1) xs (λ q y low high. fails q y (omega arith) (omega arith))

none_from : (test : DirectedPip → Bool) (types : List (List TilePip)) (tile p : ℕ) (tys : List ℕ)
    → ((u q : ℕ) (x : TilePip) → tile ≤ u → u < tile + length tys → p ≤ q → q < p + pip_count types tys → Fails test u q x) → find test (ways_from types tile p tys) ≡ None
unfolding ways_from
none_from test types tile p [] fails = refl
none_from test types tile p (ty ∷ tys) fails =
    let here = pips_of_type types ty in
    let counted = sum_by-cons (λ x. length (pips_of_type types x)) ty tys in
    let of_tile = none_in test tile p here (λ q x low high. fails tile q x (omega arith) (omega arith) low (omega arith)) in
    let of_rest = none_from test types (tile + 1) (p + length here) tys (λ u q x first last low high. fails u q x (omega arith) (omega arith) (omega arith) (omega arith)) in
    find-append test (ways_in tile p here) (ways_from types (tile + 1) (p + length here) tys)
    ∙ ap (λ o. option_or o (find test (ways_from types (tile + 1) (p + length here) tys))) of_tile ∙ of_rest

-- what is found is found in the tile, where all others fail
module _ (types : List (List TilePip)) (kinds : List ℕ) (tile kind : ℕ) (at : slice_get kinds tile ≡ Some kind) (test : DirectedPip → Bool) where
  found_in_tile : ((u q : ℕ) (x : TilePip) → u < tile → q < pip_count types (take tile kinds) → Fails test u q x)
      → ((u q : ℕ) (x : TilePip) → tile < u → pip_count types (take (tile + 1) kinds) ≤ q → Fails test u q x)
      → find test (ways_from types 0 0 kinds) ≡ find test (ways_in tile (pip_count types (take tile kinds)) (pips_of_type types kind))
  found_in_tile before after =
      let first = pip_count types (take tile kinds) in
      let next = pip_count types (take (tile + 1) kinds) in
      let here = ways_in tile first (pips_of_type types kind) in
      let rest = ways_from types (tile + 1) next (drop (tile + 1) kinds) in
      let counted : length (take tile kinds) ≡ tile = length_take kinds tile kind at in
      let none_before = none_from test types 0 0 (take tile kinds) (λ u q x low high least most. before u q x (omega arith) (omega arith)) in
      let none_after = none_from test types (tile + 1) next (drop (tile + 1) kinds) (λ u q x low high least most. after u q x (omega arith) least) in
      ap (find test) (ways_split types kinds tile kind at)
      ∙ find-append test (ways_from types 0 0 (take tile kinds)) (here ++ rest)
      ∙ ap (λ o. option_or o (find test (here ++ rest))) none_before
      ∙ find-append test here rest
      ∙ ap (option_or (find test here)) none_after
      ∙ option_or-none (find test here)

-- By number.

abbrev pub numbered : ℕ → DirectedPip → Bool
numbered k e = nat_eq e.number k

other_number : (k tile q : ℕ) (x : TilePip) → 2 * q ≢ k → 2 * q + 1 ≢ k → Fails (numbered k) tile q x
other_number k tile q x apart apart_back = (ne_eqb (2 * q) k apart, ne_eqb (2 * q + 1) k apart_back)

found_forward : (k tile p : ℕ) (xs : List TilePip) (j : ℕ) (x : TilePip) → slice_get xs j ≡ Some x → k ≡ 2 * (p + j) → find (numbered k) (ways_in tile p xs) ≡ Some (directed_pip k tile x true)
unfolding ways_in
found_forward k tile p [] j x at number = absurd (none-some x at)
found_forward k tile p (y ∷ ys) zero x at number =
    let same : 2 * p ≡ k = omega arith in
    find_ways (numbered k) tile p y (ways_in tile (p + 1) ys)
    ∙ ap (λ b. cond b (Some (directed_pip (2 * p) tile y true)) (cond (not y.directional && nat_eq (2 * p + 1) k) (Some (directed_pip (2 * p + 1) tile y false)) (find (numbered k) (ways_in tile (p + 1) ys)))) (eq-eqb (2 * p) k same)
    ∙ ap (λ n. Some (directed_pip n tile y true)) same ∙ ap (λ z. Some (directed_pip k tile z true)) (same_Some y x at)
found_forward k tile p (y ∷ ys) (suc j) x at number =
    pass (numbered k) tile p y (ways_in tile (p + 1) ys) (other_number k tile p y (λ e. omega arith) (λ e. omega arith))
    ∙ found_forward k tile (p + 1) ys j x at (omega arith)

-- a backward directed PIP, where there is one
abbrev back_of : (k tile : ℕ) → TilePip → Option DirectedPip
back_of k tile x = if x.directional then None else Some (directed_pip k tile x false)

found_backward : (k tile p : ℕ) (xs : List TilePip) (j : ℕ) (x : TilePip) → slice_get xs j ≡ Some x → k ≡ 2 * (p + j) + 1 → find (numbered k) (ways_in tile p xs) ≡ back_of k tile x
unfolding ways_in
found_backward k tile p [] j x at number = absurd (none-some x at)
found_backward k tile p (y ∷ ys) zero x at number =
    let same : 2 * p + 1 ≡ k = omega arith in
    let rest = none_in (numbered k) tile (p + 1) ys (λ q z low high. other_number k tile q z (λ e. omega arith) (λ e. omega arith)) in
    find_ways (numbered k) tile p y (ways_in tile (p + 1) ys)
    ∙ ap (λ b. cond b (Some (directed_pip (2 * p) tile y true)) (cond (not y.directional && nat_eq (2 * p + 1) k) (Some (directed_pip (2 * p + 1) tile y false)) (find (numbered k) (ways_in tile (p + 1) ys)))) (ne_eqb (2 * p) k (λ e. omega arith))
    ∙ ap (λ b. cond (not y.directional && b) (Some (directed_pip (2 * p + 1) tile y false)) (find (numbered k) (ways_in tile (p + 1) ys))) (eq-eqb (2 * p + 1) k same)
    ∙ ap (cond (not y.directional && true) (Some (directed_pip (2 * p + 1) tile y false))) rest
    ∙ by y.directional
    ∙ ap (λ n. back_of n tile y) same ∙ ap (back_of k tile) (same_Some y x at)
  where
    by : (d : Bool) → cond (not d && true) (Some (directed_pip (2 * p + 1) tile y false)) None ≡ (if d then None else Some (directed_pip (2 * p + 1) tile y false))
    by true = refl
    by false = refl
found_backward k tile p (y ∷ ys) (suc j) x at number =
    pass (numbered k) tile p y (ways_in tile (p + 1) ys) (other_number k tile p y (λ e. omega arith) (λ e. omega arith))
    ∙ found_backward k tile (p + 1) ys j x at (omega arith)

-- a number of a directed PIP is one of a PIP
pub number_within : (types : List (List TilePip)) (kinds : List ℕ) (k : ℕ) → IsSome (find (numbered k) (ways_from types 0 0 kinds)) → k / 2 < pip_count types kinds
number_within types kinds k there = by (cases_lt (k / 2) (pip_count types kinds))
  where
    by : (k / 2 < pip_count types kinds) ⊎ (pip_count types kinds ≤ k / 2) → k / 2 < pip_count types kinds
    by (inl h) = h
    by (inr h) = absurd (true≢false (sym there ∙ ap is_some (none_from (numbered k) types 0 0 kinds (λ u q x first last low high. other_number k u q x (λ e. omega arith) (λ e. omega arith)))))

-- what is told of a directed PIP
abbrev told : DirectedPip → ℕ × TilePip × Bool
told e = (e.tile, e.pip, e.forward)

module _ (types : List (List TilePip)) (kinds : List ℕ) (tile kind : ℕ) (at : slice_get kinds tile ≡ Some kind) (k place : ℕ) (x : TilePip) (at_place : slice_get (pips_of_type types kind) place ≡ Some x) (number : k / 2 ≡ pip_count types (take tile kinds) + place) where
  in_tile : find (numbered k) (ways_from types 0 0 kinds) ≡ find (numbered k) (ways_in tile (pip_count types (take tile kinds)) (pips_of_type types kind))
  in_tile =
      let within : place < length (pips_of_type types kind) = slice_get_within (pips_of_type types kind) place x at_place in
      let next = count_next types kinds tile kind at in
      found_in_tile types kinds tile kind at (numbered k)
      (λ u q y first low. other_number k u q y (λ e. omega arith) (λ e. omega arith))
      (λ u q y last high. other_number k u q y (λ e. omega arith) (λ e. omega arith))

  -- the PIP of a number
  pub located : IsSome (find (numbered k) (ways_from types 0 0 kinds)) → option_map told (find (numbered k) (ways_from types 0 0 kinds)) ≡ Some (tile, x, nat_eq (k % 2) 0)
  located there = by (nat_eq (k % 2) 0) refl
    where
      back : (d : Bool) → is_some (if d then None else Some (directed_pip k tile x false)) ≡ true → option_map told (if d then None else Some (directed_pip k tile x false)) ≡ Some (tile, x, false)
      back true h = absurd (true≢false (sym h))
      back false h = refl

      by : (b : Bool) → nat_eq (k % 2) 0 ≡ b → option_map told (find (numbered k) (ways_from types 0 0 kinds)) ≡ Some (tile, x, b)
      by true h =
          let even : k % 2 ≡ 0 = eqb-true (k % 2) 0 h in
          ap (option_map told) (in_tile ∙ found_forward k tile (pip_count types (take tile kinds)) (pips_of_type types kind) place x at_place (omega arith))
      by false h =
          let odd : k % 2 ≢ 0 = eqb-false (k % 2) 0 h in
          let found = in_tile ∙ found_backward k tile (pip_count types (take tile kinds)) (pips_of_type types kind) place x at_place (omega arith) in
          ap (option_map told) found ∙ back x.directional (sym (ap is_some found) ∙ there)

-- By wires.

module _ (tile wire0 wire1 : ℕ) where
  own_tile : (b : Bool) → (nat_eq tile tile && b) ≡ b
  own_tile b = ap (λ same. same && b) (eq-eqb tile tile refl)

  one_on : (forward : Bool) (p : ℕ) (o : Option ℕ) → option_map (λ j. way_number (p + 1 + j) forward) o ≡ option_map (λ j. way_number (p + j) forward) (option_map (λ n. n + 1) o)
  one_on forward p None = refl
  one_on forward p (Some j) = ap (λ n. Some (way_number n forward)) (omega arith)

  module _ (p : ℕ) (x : TilePip) (rest : Option DirectedPip) (o : Option ℕ) where
    first_forward : (a b : Bool) → a ≡ joins wire0 wire1 x → b ≡ false → option_map (λ e. e.number) rest ≡ option_map (λ j. way_number (p + 1 + j) true) o
        → option_map (λ e. e.number) (cond a (Some (directed_pip (2 * p) tile x true)) (cond (not x.directional && b) (Some (directed_pip (2 * p + 1) tile x false)) rest))
        ≡ option_map (λ j. way_number (p + j) true) (cond (joins wire0 wire1 x) (Some 0) (option_map (λ n. n + 1) o))
    first_forward a b fits fails h =
        ap (λ c. option_map (λ e. e.number) (cond c (Some (directed_pip (2 * p) tile x true)) (cond (not x.directional && b) (Some (directed_pip (2 * p + 1) tile x false)) rest))) fits
        ∙ by (joins wire0 wire1 x)
      where
        by : (c : Bool) → option_map (λ e. e.number) (cond c (Some (directed_pip (2 * p) tile x true)) (cond (not x.directional && b) (Some (directed_pip (2 * p + 1) tile x false)) rest)) ≡ option_map (λ j. way_number (p + j) true) (cond c (Some 0) (option_map (λ n. n + 1) o))
        by true = ap Some (omega arith)
        by false = ap (option_map (λ e. e.number)) (two_fail false b x.directional (directed_pip (2 * p) tile x true) (directed_pip (2 * p + 1) tile x false) rest refl fails) ∙ h ∙ one_on true p o

    first_backward : (a b : Bool) → a ≡ false → b ≡ joins wire0 wire1 x → option_map (λ e. e.number) rest ≡ option_map (λ j. way_number (p + 1 + j) false) o
        → option_map (λ e. e.number) (cond a (Some (directed_pip (2 * p) tile x true)) (cond (not x.directional && b) (Some (directed_pip (2 * p + 1) tile x false)) rest))
        ≡ option_map (λ j. way_number (p + j) false) (cond (joins_back wire0 wire1 x) (Some 0) (option_map (λ n. n + 1) o))
    first_backward a b fails fits h =
        ap (λ c. option_map (λ e. e.number) (cond c (Some (directed_pip (2 * p) tile x true)) (cond (not x.directional && b) (Some (directed_pip (2 * p + 1) tile x false)) rest))) fails
        ∙ ap (λ c. option_map (λ e. e.number) (cond (not x.directional && c) (Some (directed_pip (2 * p + 1) tile x false)) rest)) fits
        ∙ by x.directional (joins wire0 wire1 x)
      where
        by : (d c : Bool) → option_map (λ e. e.number) (cond (not d && c) (Some (directed_pip (2 * p + 1) tile x false)) rest) ≡ option_map (λ j. way_number (p + j) false) (cond (c && not d) (Some 0) (option_map (λ n. n + 1) o))
        by false true = ap Some (omega arith)
        by false false = h ∙ one_on false p o
        by true true = h ∙ one_on false p o
        by true false = h ∙ one_on false p o

  joined_in : (forward : Bool) (p : ℕ) (xs : List TilePip) → option_map (λ e. e.number) (find (joins_at tile wire0 wire1 forward) (ways_in tile p xs)) ≡ option_map (λ j. way_number (p + j) forward) (position (goes wire0 wire1 forward) xs)
  unfolding ways_in
  joined_in forward p [] = refl
  joined_in true p (x ∷ xs) =
      ap (option_map (λ e. e.number)) (find_ways (joins_at tile wire0 wire1 true) tile p x (ways_in tile (p + 1) xs))
      ∙ first_forward p x (find (joins_at tile wire0 wire1 true) (ways_in tile (p + 1) xs)) (position (joins wire0 wire1) xs) _ _ (own_tile (joins wire0 wire1 x)) (own_tile false) (joined_in true (p + 1) xs)
      ∙ ap (option_map (λ j. way_number (p + j) true)) (sym (position-cons (joins wire0 wire1) x xs))
  joined_in false p (x ∷ xs) =
      ap (option_map (λ e. e.number)) (find_ways (joins_at tile wire0 wire1 false) tile p x (ways_in tile (p + 1) xs))
      ∙ first_backward p x (find (joins_at tile wire0 wire1 false) (ways_in tile (p + 1) xs)) (position (joins_back wire0 wire1) xs) _ _ (own_tile false) (own_tile (joins wire0 wire1 x)) (joined_in false (p + 1) xs)
      ∙ ap (option_map (λ j. way_number (p + j) false)) (sym (position-cons (joins_back wire0 wire1) x xs))

-- where the table has the first PIP of a tile's type between two wires
pub under_key : (types : List (List TilePip)) (kind wire0 wire1 : ℕ) (forward : Bool) (k : Key) (found place : Option ℕ) → k ≡ key kind wire0 wire1
    → found ≡ position (goes k.part k.name forward) (pips_of_type types k.owner) → found ≡ place → position (goes wire0 wire1 forward) (pips_of_type types kind) ≡ place
under_key types kind wire0 wire1 forward k found place same told is = ap (λ q. position (goes q.part q.name forward) (pips_of_type types q.owner)) (sym same) ∙ sym told ∙ is

-- the first directed PIP of a tile between two wires
pub joined : (types : List (List TilePip)) (kinds : List ℕ) (tile kind wire0 wire1 : ℕ) (forward : Bool) → slice_get kinds tile ≡ Some kind
    → option_map (λ e. e.number) (find (joins_at tile wire0 wire1 forward) (ways_from types 0 0 kinds))
    ≡ option_map (λ j. way_number (pip_count types (take tile kinds) + j) forward) (position (goes wire0 wire1 forward) (pips_of_type types kind))
joined types kinds tile kind wire0 wire1 forward at =
    ap (option_map (λ e. e.number)) (found_in_tile types kinds tile kind at (joins_at tile wire0 wire1 forward) (λ u q x first low. other u q x (λ e. omega arith)) (λ u q x last high. other u q x (λ e. omega arith)))
    ∙ joined_in tile wire0 wire1 forward (pip_count types (take tile kinds)) (pips_of_type types kind)
  where
    other : (u q : ℕ) (x : TilePip) → u ≢ tile → Fails (joins_at tile wire0 wire1 forward) u q x
    other u q x apart = (ap (λ b. b && (is_way true forward && joins wire0 wire1 x)) (ne_eqb u tile apart), ap (λ b. b && (is_way false forward && joins wire0 wire1 x)) (ne_eqb u tile apart))

pub place_within : (test : TilePip → Bool) (xs : List TilePip) (place : ℕ) → position test xs ≡ Some place → place < length xs
place_within test [] place h = absurd (none-some place h)
place_within test (x ∷ xs) place h = (position-Some test (x ∷ xs) place x h).0
