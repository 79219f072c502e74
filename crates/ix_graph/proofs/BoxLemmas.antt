-- Boxes of places, and the boxes of nodes with one place more.
use Rattle.std.proofs.Common.{◌≡◌, refl, ap, sym, ◌∙◌, ℕ, zero, suc, ◌+◌, ◌<◌, ◌≤◌, Bool, true, false, cond, nat_eq, List, [], ◌∷◌, ◌++◌, map, take, set, length, slice_get, max, min, Option, Some, append_assoc, append-nil, arith}
use Rattle.std.specs.List.{fold, filter, AllByRecursion, range_with_len}
use Rattle.std.proofs.lemmas.Bool.{eqb-true, eqb-false}
use Rattle.std.proofs.lemmas.Option.{slice_get_within, slice_get-get_or}
use Rattle.std.proofs.lemmas.List.{map-append, length-set, get_or-set_same, get_or-set_other}
use Rattle.std.proofs.lemmas.List.Elements.{filter-append}
use Rattle.std.proofs.lemmas.List.Sums.{fold-append}
use Rattle.ix_device.proofs.Walks.{take_next, map_take_next}
use Rattle.ix_graph.specs.declared.spans.TileBox.{TileBox}
use Rattle.ix_graph.specs.Spans.{half_perimeter, greatest}
use Rattle.ix_graph.specs.Boxes.{AreWidened, IsBox, box_of, span_of_box}

-- The box of some places.

pub span_of_places : (places : List (ℕ × ℕ)) → span_of_box (box_of places) ≡ half_perimeter places
span_of_places [] = refl
span_of_places (p ∷ ps) = refl

least_first : (x : ℕ) (xs : List ℕ) → fold min x xs ≤ x
least_first x [] = omega arith
least_first x (y ∷ ys) = let rest = least_first (min x y) ys in omega arith

pub greatest_first : (x : ℕ) (xs : List ℕ) → x ≤ fold max x xs
greatest_first x [] = omega arith
greatest_first x (y ∷ ys) = let rest = greatest_first (max x y) ys in omega arith

in_order : (x : ℕ) (xs : List ℕ) → fold min x xs ≤ fold max x xs
in_order x xs = omega (arith, least_first x xs, greatest_first x xs)

pub is_box : (places : List (ℕ × ℕ)) → IsBox (box_of places)
is_box [] = tt
is_box (p ∷ ps) = (in_order p.0 (map (λ q. q.0) ps), in_order p.1 (map (λ q. q.1) ps))

-- The boxes of all nodes, by their places.
module _ (places : ℕ → List (ℕ × ℕ)) where
  pub all_boxes : (first count : ℕ) → AllByRecursion IsBox (map (λ n. box_of (places n)) (range_with_len first count))
  all_boxes first zero = tt
  all_boxes first (suc count) = (is_box (places first), all_boxes (first + 1) count)

  pub all_spans : (first count : ℕ) → map span_of_box (map (λ n. box_of (places n)) (range_with_len first count)) ≡ map (λ n. half_perimeter (places n)) (range_with_len first count)
  all_spans first zero = refl
  all_spans first (suc count) = ap (λ s. s ∷ map span_of_box (map (λ n. box_of (places n)) (range_with_len (first + 1) count))) (span_of_places (places first)) ∙ ap (λ ss. half_perimeter (places first) ∷ ss) (all_spans (first + 1) count)

-- the greatest with one box more
pub greatest_next : (boxes : List (Option TileBox)) (i : ℕ) (b : Option TileBox) → slice_get boxes i ≡ Some b → greatest (map span_of_box (take (i + 1) boxes)) ≡ max (greatest (map span_of_box (take i boxes))) (span_of_box b)
greatest_next boxes i b at = ap greatest (map_take_next span_of_box boxes i b at) ∙ fold-append max 0 (map span_of_box (take i boxes)) (span_of_box b ∷ [])

-- One node more has the place.

pub none_widened : (place : ℕ × ℕ) (boxes : List (Option TileBox)) → AreWidened place [] boxes boxes
none_widened place boxes = record { count = refl; each = λ n places h. h ∙ ap (λ ps. Some (box_of ps)) (sym (append-nil places)) }

module _ (place : ℕ × ℕ) (nodes : List ℕ) (i node : ℕ) (at : slice_get nodes i ≡ Some node) (n : ℕ) (places : List (ℕ × ℕ)) where
  -- the places of a node that the first of the list give
  abbrev pub places_to : ℕ → List (ℕ × ℕ)
  places_to k = places ++ map (λ _. place) (filter (λ m. nat_eq m n) (take k nodes))

  places_next : places_to (i + 1) ≡ places_to i ++ cond (nat_eq node n) (place ∷ []) []
  places_next =
      ap (λ l. places ++ map (λ _. place) (filter (λ m. nat_eq m n) l)) (take_next nodes i node at)
      ∙ ap (λ l. places ++ map (λ _. place) l) (filter-append (λ m. nat_eq m n) (take i nodes) (node ∷ []))
      ∙ ap (λ l. places ++ l) (map-append (λ _. place) (filter (λ m. nat_eq m n) (take i nodes)) (filter (λ m. nat_eq m n) (node ∷ [])))
      ∙ sym (append_assoc places (map (λ _. place) (filter (λ m. nat_eq m n) (take i nodes))) (map (λ _. place) (filter (λ m. nat_eq m n) (node ∷ []))))
      ∙ ap (λ l. places_to i ++ l) (by (nat_eq node n))
    where
      by : (b : Bool) → map (λ _. place) (cond b (node ∷ []) []) ≡ cond b (place ∷ []) []
      by true = refl
      by false = refl

  box_next : (now : List (Option TileBox)) (b : TileBox) → node < length now → ((ps : List (ℕ × ℕ)) → slice_get now node ≡ Some (box_of ps) → Some b ≡ box_of (ps ++ place ∷ []))
      → slice_get now n ≡ Some (box_of (places_to i)) → slice_get (set now node (Some b)) n ≡ Some (box_of (places_to (i + 1)))
  box_next now b lt step h = by (nat_eq node n) refl ∙ ap (λ ps. Some (box_of ps)) (sym places_next)
    where
      by : (same : Bool) → nat_eq node n ≡ same → slice_get (set now node (Some b)) n ≡ Some (box_of (places_to i ++ cond same (place ∷ []) []))
      by true e =
          let is : node ≡ n = eqb-true node n e in
          let within : node < length (set now node (Some b)) = simp length-set lt in
          ap (slice_get (set now node (Some b))) (sym is) ∙ slice_get-get_or (set now node (Some b)) node (Some b) within
          ∙ ap Some (get_or-set_same now node (Some b) (Some b) lt) ∙ ap Some (step (places_to i) (ap (slice_get now) is ∙ h))
      by false e =
          let inside : n < length now = slice_get_within now n (box_of (places_to i)) h in
          let within : n < length (set now node (Some b)) = simp length-set inside in
          slice_get-get_or (set now node (Some b)) n (Some b) within
          ∙ ap Some (get_or-set_other now node n (Some b) (Some b) (λ same. eqb-false node n e (sym same)))
          ∙ sym (slice_get-get_or now n (Some b) inside) ∙ h ∙ ap (λ ps. Some (box_of ps)) (sym (append-nil (places_to i)))

pub one_more_node : (place : ℕ × ℕ) (nodes : List ℕ) (i node : ℕ) (old now : List (Option TileBox)) (b : TileBox) → slice_get nodes i ≡ Some node → node < length now
    → ((ps : List (ℕ × ℕ)) → slice_get now node ≡ Some (box_of ps) → Some b ≡ box_of (ps ++ place ∷ []))
    → AreWidened place (take i nodes) old now → AreWidened place (take (i + 1) nodes) old (set now node (Some b))
one_more_node place nodes i node old now b at lt step h = record {
  count = length-set now node (Some b) ∙ h.count;
  each = λ n places before. box_next place nodes i node at n places now b lt step (h.each n places before);
}
