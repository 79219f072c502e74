-- What holds of a graph's directed PIPs, and of the nodes that they join.
use Rattle.std.proofs.Common.{◌≡◌, ◌<◌, ◌≤◌, refl, ap, sym, subst, ◌∙◌, ℕ, zero, suc, ◌+◌, ◌*◌, ◌^◌, Bool, true, false, nat_eq, if◌then◌else◌, List, [], ◌∷◌, ◌++◌, length, map, take, slice_get, Option, Some, None, IsSome, IfSome, is_some, get_or, option_map, option_and_then, append_assoc, arith}
use Rattle.std.specs.List.{filter, find, AllByRecursion}
use Rattle.std.proofs.lemmas.List.{length-append, take_all}
use Rattle.std.proofs.lemmas.Bool.{eq-eqb, ne_eqb}
use Rattle.std.proofs.lemmas.List.Sums.{sum_by-cons}
use Rattle.std.proofs.lemmas.Option.{same_Some, none-some, slice_get-get_or, slice_get-map}
use Rattle.ix_device.proofs.Walks.{at_place}
use Rattle.ix_graph.specs.declared.type_pips.TilePip.{TilePip}
use Rattle.ix_graph.specs.declared.edges.Edge.{Edge}
use Rattle.ix_graph.specs.Nodes.{AreBelow}
use Rattle.ix_graph.specs.Pips.{DirectedPip, directed_pip, leaves_at, ways, ways_in, ways_from, pips_of_type}
use Rattle.ix_graph.specs.Graph.{node_at, to_node, edge}
use Rattle.ix_graph.specs.Tables.{pip_count}
use Rattle.ix_graph.specs.Edges.{told, AreWithin, HaveNodes}
use Rattle.ix_graph.proofs.WayLemmas.{ways_next}
use Rattle.ix_graph.proofs.EdgeLemmas.{all-append}

-- numbers rise, from lo on
abbrev pub Rise : ℕ → List DirectedPip → Type 0
Rise lo [] = Unit {0}
Rise lo (e ∷ es) = (lo ≤ e.number) × Rise (e.number + 1) es

rise_lower : (a b : ℕ) (es : List DirectedPip) → a ≤ b → Rise b es → Rise a es
rise_lower a b [] h r = tt
rise_lower a b (e ∷ es) h r = ((omega arith), r.1)

-- the numbers of a PIP's ways, before others
rise_ways : (tile p : ℕ) (x : TilePip) (rest : List DirectedPip) → Rise (2 * (p + 1)) rest → Rise (2 * p) (ways tile p x ++ rest)
rise_ways tile p x rest r = (omega arith, by x.directional)
  where
    by : (b : Bool) → Rise (2 * p + 1) ((if b then [] else directed_pip (2 * p + 1) tile x false ∷ []) ++ rest)
    by true = rise_lower (2 * p + 1) (2 * (p + 1)) rest (omega arith) r
    by false = (omega arith, rise_lower (2 * p + 1 + 1) (2 * (p + 1)) rest (omega arith) r)

rise_in : (tile p : ℕ) (xs : List TilePip) (rest : List DirectedPip) → Rise (2 * (p + length xs)) rest → Rise (2 * p) (ways_in tile p xs ++ rest)
unfolding ways_in
rise_in tile p [] rest r = rise_lower (2 * p) (2 * (p + 0)) rest (omega arith) r
rise_in tile p (x ∷ xs) rest r =
    subst (Rise (2 * p)) (sym (append_assoc (ways tile p x) (ways_in tile (p + 1) xs) rest))
    (rise_ways tile p x (ways_in tile (p + 1) xs ++ rest) (rise_in tile (p + 1) xs rest (rise_lower (2 * (p + 1 + length xs)) (2 * (p + length (x ∷ xs))) rest (omega arith) r)))

pub rise_from : (types : List (List TilePip)) (tile p : ℕ) (tys : List ℕ) → Rise (2 * p) (ways_from types tile p tys)
unfolding ways_from
rise_from types tile p [] = tt
rise_from types tile p (ty ∷ tys) = rise_in tile p (pips_of_type types ty) (ways_from types (tile + 1) (p + length (pips_of_type types ty)) tys) (rise_from types (tile + 1) (p + length (pips_of_type types ty)) tys)

-- one of those that pass a test has no lower number
not_below : (test : DirectedPip → Bool) (lo : ℕ) (es : List DirectedPip) (i : ℕ) (e : DirectedPip) → Rise lo es → slice_get (filter test es) i ≡ Some e → lo ≤ e.number
not_below test lo [] i e r at = absurd (none-some e at)
not_below test lo (f ∷ fs) i e r at = by (test f) i at (λ j h. not_below test (f.number + 1) fs j e r.1 h)
  where
    by : (b : Bool) (i : ℕ) → slice_get (if b then f ∷ filter test fs else filter test fs) i ≡ Some e → ((j : ℕ) → slice_get (filter test fs) j ≡ Some e → f.number + 1 ≤ e.number) → lo ≤ e.number
    by true zero h rest = subst (λ g. lo ≤ g.number) (same_Some f e h) r.0
    by true (suc j) h rest = let above : f.number + 1 ≤ e.number = rest j h in let low : lo ≤ f.number = r.0 in omega arith
    by false i h rest = let above : f.number + 1 ≤ e.number = rest i h in let low : lo ≤ f.number = r.0 in omega arith

-- each of those that pass a test is the only one of its number
pub found_by_number : (test : DirectedPip → Bool) (lo : ℕ) (es : List DirectedPip) (i : ℕ) (e : DirectedPip) → Rise lo es → slice_get (filter test es) i ≡ Some e → find (λ f. nat_eq f.number e.number) es ≡ Some e
found_by_number test lo [] i e r at = absurd (none-some e at)
found_by_number test lo (f ∷ fs) i e r at = by (test f) i at (λ j h. not_below test (f.number + 1) fs j e r.1 h) (λ j h. found_by_number test (f.number + 1) fs j e r.1 h)
  where
    later : f.number + 1 ≤ e.number → find (λ g. nat_eq g.number e.number) fs ≡ Some e → find (λ g. nat_eq g.number e.number) (f ∷ fs) ≡ Some e
    later above h = ap (λ b. if b then Some f else find (λ g. nat_eq g.number e.number) fs) (ne_eqb f.number e.number (λ same. let up : f.number + 1 ≤ f.number = subst (λ n. f.number + 1 ≤ n) (sym same) above in absurd (omega arith))) ∙ h

    by : (b : Bool) (i : ℕ) → slice_get (if b then f ∷ filter test fs else filter test fs) i ≡ Some e → ((j : ℕ) → slice_get (filter test fs) j ≡ Some e → f.number + 1 ≤ e.number)
        → ((j : ℕ) → slice_get (filter test fs) j ≡ Some e → find (λ g. nat_eq g.number e.number) fs ≡ Some e) → find (λ g. nat_eq g.number e.number) (f ∷ fs) ≡ Some e
    by true zero h above rest = ap (λ b. if b then Some f else find (λ g. nat_eq g.number e.number) fs) (ap (λ g. nat_eq f.number g.number) (sym (same_Some f e h)) ∙ eq-eqb f.number f.number refl) ∙ h
    by true (suc j) h above rest = later (above j h) (rest j h)
    by false i h above rest = later (above i h) (rest i h)

-- there are at most two ways for each PIP
length_ways : (tile p : ℕ) (xs : List TilePip) → length (ways_in tile p xs) ≤ 2 * length xs
unfolding ways_in
length_ways tile p [] = omega arith
length_ways tile p (x ∷ xs) =
    let e : length (ways tile p x ++ ways_in tile (p + 1) xs) ≡ length (ways tile p x) + length (ways_in tile (p + 1) xs) = length-append (ways tile p x) (ways_in tile (p + 1) xs) in
    let h : length (ways_in tile (p + 1) xs) ≤ 2 * length xs = length_ways tile (p + 1) xs in
    let two : length (ways tile p x) ≤ 2 = by x.directional in
    omega arith
  where
    by : (b : Bool) → length (directed_pip (2 * p) tile x true ∷ (if b then [] else directed_pip (2 * p + 1) tile x false ∷ [])) ≤ 2
    by true = omega arith
    by false = omega arith

pub length_from : (types : List (List TilePip)) (tile p : ℕ) (tys : List ℕ) → length (ways_from types tile p tys) ≤ 2 * pip_count types tys
unfolding ways_from
length_from types tile p [] = omega arith
length_from types tile p (ty ∷ tys) =
    let xs = pips_of_type types ty in
    let rest = ways_from types (tile + 1) (p + length xs) tys in
    let e : length (ways_in tile p xs ++ rest) ≡ length (ways_in tile p xs) + length rest = length-append (ways_in tile p xs) rest in
    let h : length (ways_in tile p xs) ≤ 2 * length xs = length_ways tile p xs in
    let k : length rest ≤ 2 * pip_count types tys = length_from types (tile + 1) (p + length xs) tys in
    let s : pip_count types (ty ∷ tys) ≡ length xs + pip_count types tys = sum_by-cons (λ u. length (pips_of_type types u)) ty tys in
    omega arith

filter_shorter : (test : DirectedPip → Bool) (es : List DirectedPip) → length (filter test es) ≤ length es
filter_shorter test [] = omega arith
filter_shorter test (e ∷ es) = by (test e) (filter_shorter test es)
  where
    by : (b : Bool) → length (filter test es) ≤ length es → length (if b then e ∷ filter test es else filter test es) ≤ length (e ∷ es)
    by true h = omega arith
    by false h = omega arith

-- as many edges out of a node as there are ways at most
pub few_out : (test : DirectedPip → Bool) (types : List (List TilePip)) (kinds : List ℕ) → 2 * pip_count types kinds < 2 ^ 32 → length (filter test (ways_from types 0 0 kinds)) < 2 ^ 32
few_out test types kinds few =
    let e : length (filter test (ways_from types 0 0 kinds)) ≤ length (ways_from types 0 0 kinds) = filter_shorter test (ways_from types 0 0 kinds) in
    let h : length (ways_from types 0 0 kinds) ≤ 2 * pip_count types kinds = length_from types 0 0 kinds in
    omega arith

-- What an item of a row tells.

-- an edge of a row is told as that of a directed PIP
pub told_edge : (wires : List (List ℕ)) (es : List DirectedPip) (row : List Edge) (i : ℕ) (x : Edge) → map told row ≡ map (edge wires) es → slice_get row i ≡ Some x
    → option_map (edge wires) (slice_get es i) ≡ Some (told x)
told_edge wires es row i x h at = sym (slice_get-map (edge wires) es i) ∙ ap (λ l. slice_get l i) (sym h) ∙ slice_get-map told row i ∙ ap (option_map told) at

pub joined_edge : (wires : List (List ℕ)) (o : Option DirectedPip) (x : Edge) → option_map (edge wires) o ≡ Some (told x) → option_and_then (edge wires) o ≡ Some (x.pip, x.node)
joined_edge wires None x h = absurd (none-some _ h)
joined_edge wires (Some e) x h = same_Some _ _ h

pub by_its_number : (wires : List (List ℕ)) (es all : List DirectedPip) (i : ℕ) (x : Edge) → ((e : DirectedPip) → slice_get es i ≡ Some e → find (λ f. nat_eq f.number e.number) all ≡ Some e)
    → option_map (edge wires) (slice_get es i) ≡ Some (told x) → find (λ f. nat_eq f.number x.pip) all ≡ slice_get es i
by_its_number wires es all i x only h = by (slice_get es i) refl h
  where
    number : (e : DirectedPip) (o : Option ℕ) → option_map {U = ℕ × ℕ} (λ n. (e.number, n)) o ≡ Some (x.pip, x.node) → e.number ≡ x.pip
    number e None h = absurd (none-some _ h)
    number e (Some n) h = ap (λ p. p.0) (same_Some _ _ h)

    by : (o : Option DirectedPip) → slice_get es i ≡ o → option_map (edge wires) o ≡ Some (told x) → find (λ f. nat_eq f.number x.pip) all ≡ slice_get es i
    by None e h = absurd (none-some _ h)
    by (Some f) e h = ap (λ n. find (λ g. nat_eq g.number n) all) (sym (number f (to_node wires f) (same_Some _ _ h))) ∙ only f e ∙ sym e

-- a node that a wire has is below what all are below
pub node_below : (wires : List (List ℕ)) (count tile wire n : ℕ) → AllByRecursion (AreBelow count) wires → node_at wires tile wire ≡ Some n → n < count
node_below wires count tile wire n below at = by (slice_get wires tile) refl at
  where
    by : (o : Option (List ℕ)) → slice_get wires tile ≡ o → option_and_then (λ ws. slice_get ws wire) o ≡ Some n → n < count
    by None e h = absurd (none-some n h)
    by (Some ws) e h = at_place _ ws wire n (at_place _ wires tile ws below e) h

pub edge_below : (wires : List (List ℕ)) (count : ℕ) (o : Option DirectedPip) (x : Edge) → AllByRecursion (AreBelow count) wires → option_map (edge wires) o ≡ Some (told x) → x.node < count
edge_below wires count None x below h = absurd (none-some _ h)
edge_below wires count (Some e) x below h = by (to_node wires e) refl (same_Some _ _ h)
  where
    by : (o : Option ℕ) → to_node wires e ≡ o → option_map {U = ℕ × ℕ} (λ n. (e.number, n)) o ≡ Some (x.pip, x.node) → x.node < count
    by None f h = absurd (none-some _ h)
    by (Some n) f h = subst (λ m. m < count) (ap (λ p. p.1) (same_Some _ _ h)) (node_below wires count e.tile (leaves_at e) n below f)

-- Both wires of each directed PIP have nodes.

abbrev pub HasNodes : List (List ℕ) → DirectedPip → Type 0
HasNodes wires e = IsSome (node_at wires e.tile e.pip.wire0) × IsSome (node_at wires e.tile e.pip.wire1)

pub within_some : (ws : List ℕ) (wire : ℕ) → wire < length ws → IsSome (slice_get ws wire)
within_some ws wire h = ap is_some (slice_get-get_or ws wire 0 h)

tile_has_nodes : (wires : List (List ℕ)) (ws : List ℕ) (tile p : ℕ) (xs : List TilePip) → slice_get wires tile ≡ Some ws → AreWithin (length ws) xs → AllByRecursion (HasNodes wires) (ways_in tile p xs)
unfolding ways_in
tile_has_nodes wires ws tile p [] at within = tt
tile_has_nodes wires ws tile p (x ∷ xs) at within = all-append (HasNodes wires) (ways tile p x) (ways_in tile (p + 1) xs) (both, by x.directional) (tile_has_nodes wires ws tile (p + 1) xs at within.1)
  where
    node : (wire : ℕ) → wire < length ws → IsSome (node_at wires tile wire)
    node wire h = subst (λ o. IsSome (option_and_then (λ us. slice_get us wire) o)) (sym at) (within_some ws wire h)

    both : IsSome (node_at wires tile x.wire0) × IsSome (node_at wires tile x.wire1)
    both = (node x.wire0 within.0.0, node x.wire1 within.0.1)

    by : (b : Bool) → AllByRecursion (HasNodes wires) (if b then [] else directed_pip (2 * p + 1) tile x false ∷ [])
    by true = tt
    by false = (both, tt)

-- of the tiles before one
nodes_before : (wires : List (List ℕ)) (types : List (List TilePip)) (kinds : List ℕ) (count i : ℕ) → HaveNodes wires types kinds count → i ≤ length kinds → AllByRecursion (HasNodes wires) (ways_from types 0 0 (take i kinds))
unfolding ways_from
nodes_before wires types kinds count zero have h = tt
nodes_before wires types kinds count (suc i) have h =
    subst (λ k. AllByRecursion (HasNodes wires) (ways_from types 0 0 (take k kinds))) next
    (subst (AllByRecursion (HasNodes wires)) (sym (ways_next types kinds i (get_or kinds i 0) at_kind))
    (all-append (HasNodes wires) (ways_from types 0 0 (take i kinds)) (ways_in i (pip_count types (take i kinds)) (pips_of_type types (get_or kinds i 0))) (nodes_before wires types kinds count i have (omega arith))
    (tile_has_nodes wires (get_or wires i []) i (pip_count types (take i kinds)) (pips_of_type types (get_or kinds i 0)) at_wires (have.within i (get_or kinds i 0) (get_or wires i []) at_kind at_wires))))
  where
    next : i + 1 ≡ suc i
    next = omega arith

    at_kind : slice_get kinds i ≡ Some (get_or kinds i 0)
    at_kind = slice_get-get_or kinds i 0 (omega arith)

    at_wires : slice_get wires i ≡ Some (get_or wires i [])
    at_wires = slice_get-get_or wires i [] (let e : length wires ≡ length kinds = have.tiles in omega arith)

pub all_have_nodes : (wires : List (List ℕ)) (types : List (List TilePip)) (kinds : List ℕ) (count : ℕ) → HaveNodes wires types kinds count → AllByRecursion (HasNodes wires) (ways_from types 0 0 kinds)
all_have_nodes wires types kinds count have =
    subst (λ l. AllByRecursion (HasNodes wires) (ways_from types 0 0 l)) (take_all (length kinds) kinds (omega arith)) (nodes_before wires types kinds count (length kinds) have (omega arith))

-- what holds of all holds of what is found
pub found_holds : (P : DirectedPip → Type 0) (test : DirectedPip → Bool) (es : List DirectedPip) (e : DirectedPip) → AllByRecursion P es → find test es ≡ Some e → P e
found_holds P test [] e all h = absurd (none-some e h)
found_holds P test (f ∷ fs) e all h = by (test f) h (λ k. found_holds P test fs e all.1 k)
  where
    by : (b : Bool) → (if b then Some f else find test fs) ≡ Some e → (find test fs ≡ Some e → P e) → P e
    by true k rest = subst P (same_Some f e k) all.0
    by false k rest = rest k

-- where a directed PIP is, and both its wires' nodes
pub located_nodes : (wires : List (List ℕ)) (o : Option DirectedPip) (tile : ℕ) (x : TilePip) (way : Bool) → ((e : DirectedPip) → o ≡ Some e → HasNodes wires e)
    → option_map {U = ℕ × TilePip × Bool} (λ e. (e.tile, e.pip, e.forward)) o ≡ Some (tile, x, way) → IsSome (node_at wires tile x.wire0) × IsSome (node_at wires tile x.wire1)
located_nodes wires None tile x way has h = absurd (none-some _ h)
located_nodes wires (Some e) tile x way has h =
    subst (λ p. IsSome (node_at wires p.0 p.1.wire0) × IsSome (node_at wires p.0 p.1.wire1)) (same_Some _ _ h) (has e refl)

-- what is found first is the first of those that pass
first_that : (test : DirectedPip → Bool) (es : List DirectedPip) (e : DirectedPip) → find test es ≡ Some e → slice_get (filter test es) 0 ≡ Some e
first_that test [] e h = h
first_that test (f ∷ fs) e h = by (test f) h (λ k. first_that test fs e k)
  where
    by : (b : Bool) → (if b then Some f else find test fs) ≡ Some e → (find test fs ≡ Some e → slice_get (filter test fs) 0 ≡ Some e) → slice_get (if b then f ∷ filter test fs else filter test fs) 0 ≡ Some e
    by true k rest = k
    by false k rest = rest k

-- a directed PIP that is found has a number by which it is found
pub found_again : (test : DirectedPip → Bool) (types : List (List TilePip)) (kinds : List ℕ) (e : DirectedPip) → find test (ways_from types 0 0 kinds) ≡ Some e → find (λ f. nat_eq f.number e.number) (ways_from types 0 0 kinds) ≡ Some e
found_again test types kinds e h = found_by_number test (2 * 0) (ways_from types 0 0 kinds) 0 e (rise_from types 0 0 kinds) (first_that test (ways_from types 0 0 kinds) e h)

-- the number of what is found finds it again
pub numbered_again : (all : List DirectedPip) (found : Option DirectedPip) (number : Option ℕ) → ((e : DirectedPip) → found ≡ Some e → find (λ f. nat_eq f.number e.number) all ≡ Some e) → number ≡ option_map (λ e. e.number) found
    → IfSome number (λ n. find (λ f. nat_eq f.number n) all ≡ found)
numbered_again all None number h e = subst (λ o. IfSome o (λ n. find (λ f. nat_eq f.number n) all ≡ None)) (sym e) tt
numbered_again all (Some e) number h k = subst (λ o. IfSome o (λ n. find (λ f. nat_eq f.number n) all ≡ Some e)) (sym k) (h e refl)

-- and it is the number of one
pub numbered_there : (all : List DirectedPip) (found : Option DirectedPip) (number : Option ℕ) → ((e : DirectedPip) → found ≡ Some e → find (λ f. nat_eq f.number e.number) all ≡ Some e) → number ≡ option_map (λ e. e.number) found
    → IfSome number (λ n. IsSome (find (λ f. nat_eq f.number n) all))
numbered_there all None number h e = subst (λ o. IfSome o (λ n. IsSome (find (λ f. nat_eq f.number n) all))) (sym e) tt
numbered_there all (Some e) number h k = subst (λ o. IfSome o (λ n. IsSome (find (λ f. nat_eq f.number n) all))) (sym k) (ap is_some (h e refl))
