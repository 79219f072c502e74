-- The rows of nets, one after another.
use Rattle.std.proofs.Common.{◌≡◌, ℕ, ◌+◌, Bool, true, false, cond, List, [], ◌∷◌, ◌++◌, map, length, refl, sym, ap, ◌∙◌, subst, Some, arith, append_assoc, take, suc}
use Rattle.std.specs.Prelude.{slice_get, if◌then◌else◌}
use Rattle.std.specs.List.{filter}
use Rattle.std.proofs.lemmas.List.{append-nil, map-append, take_more, length-take-le}
use Rattle.std.proofs.lemmas.Option.{slice_get_within, get_or_from_slice_get}
use Rattle.std.proofs.lemmas.List.Elements.{filter-append}
use Rattle.ix_rec.specs.declared.netlist.Net.{Net}
use Rattle.ix_rec.specs.declared.netlist.PortInstance.{PortInstance}
use Rattle.ix_hierarchy.specs.declared.row.Row.{Row}
use Rattle.ix_port_bits.specs.Listed.{is_wanted, row_of, named_rows, net_rows}

abbrev pub row_if : (own : Bool) (net : ℕ) → PortInstance → List Row
row_if own net named = if is_wanted own named then row_of net named ∷ [] else []

pub named_more : (own : Bool) (net : ℕ) (xs : List PortInstance) (x : PortInstance)
    → named_rows own net (xs ++ x ∷ []) ≡ named_rows own net xs ++ row_if own net x
named_more own net xs x =
    ap (map (row_of net)) (filter-append (is_wanted own) xs (x ∷ []))
    ∙ map-append (row_of net) (filter (is_wanted own) xs) (filter (is_wanted own) (x ∷ []))
    ∙ ap (λ (r : List Row). named_rows own net xs ++ r) (last (is_wanted own x) x net)
  where
    last : (b : Bool) (x : PortInstance) (net : ℕ)
        → map (row_of net) (cond b (x ∷ []) []) ≡ (if b then row_of net x ∷ [] else [])
    last true x net = refl
    last false x net = refl

pub take_of : {X : Type 0} (xs : List X) (k : ℕ) (x : X) → slice_get xs k ≡ Some x
    → take (k + 1) xs ≡ take k xs ++ x ∷ []
take_of xs k x is = take_more xs k x (slice_get_within xs k x is)
    ∙ ap (λ y. take k xs ++ y ∷ []) (get_or_from_slice_get xs k x x is)

pub named_step : (own : Bool) (net : ℕ) (xs : List PortInstance) (k : ℕ) (x : PortInstance)
    (start rows : List Row) → slice_get xs k ≡ Some x
    → rows ≡ start ++ named_rows own net (take k xs)
    → rows ++ row_if own net x ≡ start ++ named_rows own net (take (k + 1) xs)
named_step own net xs k x start rows is kept =
    ap (λ (r : List Row). r ++ row_if own net x) kept
    ∙ append_assoc start (named_rows own net (take k xs)) (row_if own net x)
    ∙ ap (λ (r : List Row). start ++ r) (sym (named_more own net (take k xs) x))
    ∙ ap (λ (ys : List PortInstance). start ++ named_rows own net ys) (sym (take_of xs k x is))

pub net_more : (own : Bool) (first : ℕ) (xs : List Net) (x : Net)
    → net_rows own first (xs ++ x ∷ [])
    ≡ net_rows own first xs ++ named_rows own (first + length xs) x.port_insts
net_more own first [] x = append-nil (named_rows own first x.port_insts)
    ∙ ap (λ (n : ℕ). named_rows own n x.port_insts) (plus_none first)
  where
    plus_none : (n : ℕ) → n ≡ n + 0
    plus_none n = omega arith
net_more own first (y ∷ xs) x =
    ap (λ (r : List Row). named_rows own first y.port_insts ++ r) (net_more own (first + 1) xs x)
    ∙ ap (λ (n : ℕ). named_rows own first y.port_insts ++ (net_rows own (first + 1) xs ++ named_rows own n x.port_insts)) (plus_one first (length xs))
    ∙ sym (append_assoc (named_rows own first y.port_insts) (net_rows own (first + 1) xs) _)
  where
    plus_one : (n m : ℕ) → n + 1 + m ≡ n + suc m
    plus_one n m = omega arith

pub net_step : (own : Bool) (xs : List Net) (k : ℕ) (x : Net) (rows next : List Row)
    → slice_get xs k ≡ Some x → rows ≡ net_rows own 0 (take k xs)
    → next ≡ rows ++ named_rows own k x.port_insts → next ≡ net_rows own 0 (take (k + 1) xs)
net_step own xs k x rows next is kept more =
    let many : length (take k xs) ≡ k = length-take-le k xs (omega (arith, slice_get_within xs k x is)) in
    more ∙ ap (λ (r : List Row). r ++ named_rows own k x.port_insts) kept
    ∙ ap (λ (n : ℕ). net_rows own 0 (take k xs) ++ named_rows own n x.port_insts) (same k (length (take k xs)) many)
    ∙ sym (net_more own 0 (take k xs) x)
    ∙ ap (net_rows own 0) (sym (take_of xs k x is))
  where
    same : (k n : ℕ) → n ≡ k → k ≡ 0 + n
    same k n e = omega arith

pub named_then : (own : Bool) (net : ℕ) (xs : List PortInstance) (k : ℕ) (x : PortInstance)
    (start rows next : List Row) (row : Row) → slice_get xs k ≡ Some x
    → rows ≡ start ++ named_rows own net (take k xs) → is_wanted own x ≡ true
    → next ≡ rows ++ row ∷ [] → row ≡ row_of net x
    → next ≡ start ++ named_rows own net (take (k + 1) xs)
named_then own net xs k x start rows next row is kept wanted pushed row_is =
    pushed ∙ ap (λ (r : Row). rows ++ r ∷ []) row_is
    ∙ subst (λ (b : Bool). rows ++ (if b then row_of net x ∷ [] else []) ≡ start ++ named_rows own net (take (k + 1) xs))
    wanted (named_step own net xs k x start rows is kept)

pub named_else : (own : Bool) (net : ℕ) (xs : List PortInstance) (k : ℕ) (x : PortInstance)
    (start rows next : List Row) → slice_get xs k ≡ Some x
    → rows ≡ start ++ named_rows own net (take k xs) → is_wanted own x ≡ false
    → next ≡ rows → next ≡ start ++ named_rows own net (take (k + 1) xs)
named_else own net xs k x start rows next is kept wanted same =
    same ∙ sym (append-nil rows)
    ∙ subst (λ (b : Bool). rows ++ (if b then row_of net x ∷ [] else []) ≡ start ++ named_rows own net (take (k + 1) xs))
    wanted (named_step own net xs k x start rows is kept)
