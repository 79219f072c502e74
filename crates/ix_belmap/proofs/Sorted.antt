-- The nets of cells, as far as a map of pins was walked.
use Rattle.std.proofs.Common.{◌≡◌, ◌≢◌, refl, ap, sym, ◌∙◌, ℕ, ◌<◌, ◌≤◌, List, [], ◌∷◌, ◌++◌, Bool}
use Rattle.std.proofs.Common.{true, false, cond, ◌&&◌, T, nat_eq, Option, None, arith}
use Rattle.std.proofs.lemmas.Bool.{eqb-true}
use Rattle.std.specs.Cmp.{ranked}
use Rattle.ix_rec.specs.Maps.{pin_order}
use Rattle.std.specs.FinMap.Entries.{is_sorted, below_all}
use Rattle.std.specs.List.{filter_map, cons_option}
use Rattle.std.specs.Ordering.{is_lt, ordering_then, nat_cmp}
use Rattle.std.specs.declared.cmp.Ordering.{Ordering}
use Rattle.std.specs.declared.cmp.Ordering.TheVariants.{Less, Equal, Greater}

second : (a b : Bool) → T (a && b) → T b
second true b h = h
second false b h = absurd h

first : (a b : Bool) → T (a && b) → T a
first true b h = tt
first false b h = absurd h

-- a lower pin is of no later cell
lower : (a b : ℕ × ℕ) → T (is_lt (pin_order a b)) → a.0 ≤ b.0
lower a b h = by (nat_cmp a.0 b.0) refl h
  where
    by : (r : Ordering) → nat_cmp a.0 b.0 ≡ r → T (is_lt (ordering_then r (nat_cmp a.1 b.1)))
        → a.0 ≤ b.0
    by Less e g = let lt : a.0 < b.0 = ranked a.0 b.0 Less (sym e) in omega arith
    by Equal e g = let is : a.0 ≡ b.0 = ranked a.0 b.0 Equal (sym e) in omega arith
    by Greater e g = absurd g

module _ {X : Type 0} (signal : X → Option ℕ) where
  abbrev pub signal_at : (cell : ℕ) → (ℕ × ℕ) × X → Option ℕ
  signal_at cell pin = cond (nat_eq pin.0.0 cell) (signal pin.1) None

  abbrev pub signals : List ((ℕ × ℕ) × X) → (cell : ℕ) → List ℕ
  signals pins cell = filter_map (signal_at cell) pins

  below_pin : (x : ℕ × ℕ) (es : List ((ℕ × ℕ) × X)) (e : (ℕ × ℕ) × X) (rest : List ((ℕ × ℕ) × X))
      → T (below_all pin_order x (es ++ e ∷ rest)) → x.0 ≤ e.0.0
  below_pin x [] e rest h = lower x e.0 (first (is_lt (pin_order x e.0)) _ h)
  below_pin x (d ∷ es) e rest h = below_pin x es e rest (second (is_lt (pin_order x d.0)) _ h)

  -- the pins before one are of no later cell
  pub none_later : (es : List ((ℕ × ℕ) × X)) (e : (ℕ × ℕ) × X) (rest : List ((ℕ × ℕ) × X))
      (cell : ℕ) → T (is_sorted pin_order (es ++ e ∷ rest)) → e.0.0 < cell → signals es cell ≡ []
  none_later [] e rest cell h lt = refl
  none_later (d ∷ es) e rest cell h lt =
      let le = below_pin d.0 es e rest (first (below_all pin_order d.0 (es ++ e ∷ rest)) _ h) in
      let ne : d.0.0 ≢ cell = omega arith in
      ap (λ b. cons_option (cond b (signal d.1) None) (signals es cell))
      (no (nat_eq d.0.0 cell) refl ne)
      ∙ none_later es e rest cell (second (below_all pin_order d.0 (es ++ e ∷ rest)) _ h) lt
    where
      no : (b : Bool) → nat_eq d.0.0 cell ≡ b → d.0.0 ≢ cell → b ≡ false
      no false k ne = refl
      no true k ne = absurd (ne (eqb-true d.0.0 cell k))
