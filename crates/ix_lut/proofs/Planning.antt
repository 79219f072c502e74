-- Plans of elements.
use Rattle.std.proofs.Common.{Option, Some, None, IfSome, ◌≡◌, ◌≢◌, ℕ, zero, suc, ◌+◌, ◌<◌, ◌≤◌, ◌⊎◌, Bool, true, false, inl, inr, List, [], ◌∷◌, ◌++◌, length, take, slice_index, slice_index_or, Contains, sym, ap, ◌∙◌, refl, subst, arith}
use Rattle.std.specs.Int.{bit_at}
use Rattle.std.proofs.lemmas.Bool.{cases_lt, cases_eq}
use Rattle.std.proofs.lemmas.List.{get_or-take, get_or_default}
use Rattle.ix_lut.specs.Tables.{TableBits, spelled}
use Rattle.ix_lut.specs.Places.{LutPlace, Held, LineNumber, Agrees, Forces, GivesFunction}
use Rattle.ix_lut.specs.Shapes.{input_lines, bel_at, held_by, lut_on}
use Rattle.ix_lut.specs.Items.{use_at, item_at, number_in, all_items, line_of_input}
use Rattle.ix_lut.specs.Ties.{IsForced, NoneBothWays, rank}
use Rattle.ix_lut.specs.Forcing.{lut_at, place_of, AreApart, CanComplete, IsLeastHeld}
use Rattle.ix_lut.specs.Laid.{IsLaid}
use Rattle.ix_lut.specs.Plans.{AreUses, places_on, places_of, place_in, lut_of, table_of, constant_on, held_under, AreTies, AreLeastTies, IsPlan, GivesFunctions}
use Rattle.ix_lut.specs.declared.shape.ElementShape.{ElementShape}
use Rattle.ix_lut.specs.declared.shape.BelShape.{BelShape}
use Rattle.ix_lut.specs.declared.shape.Tie.{Tie}
use Rattle.ix_lut.specs.declared.shape.Tie.TheVariants.{Free, Vcc, Gnd}
use Rattle.ix_lut.specs.declared.uses.LutUse.{LutUse}
use Rattle.ix_lut.specs.declared.uses.Item.{Item}
use Rattle.ix_lut.specs.declared.forcing.Lut.{Lut}
use Rattle.ix_lut.specs.declared.plan.ElementPlan.{ElementPlan}
use Rattle.ix_lut.proofs.Bits.{bit_cases}
use Rattle.ix_lut.proofs.Pigeons.{eqb-not}
use Rattle.ix_lut.proofs.Assigning.{items_here}
use Rattle.ix_lut.proofs.Tying.{HoldsMore, agrees_less, apart_more}

-- no more cells than BELs
pub few_uses : (shape : ElementShape) (uses : List LutUse) → AreUses shape uses → shape.bel_count ≤ 8 → length uses ≤ 8
few_uses shape uses are few = by_count (length uses) refl
  where
    climbs : (u : ℕ) → u < length uses → u ≤ (use_at uses u).bel
    climbs zero h = omega arith
    climbs (suc u) h = omega (arith, climbs u (omega (arith, h)), are.in_order u (suc u) (omega arith) h)

    by_count : (n : ℕ) → length uses ≡ n → length uses ≤ 8
    by_count zero e = omega (arith, e)
    by_count (suc n) e = omega (arith, climbs n (omega (arith, e)), are.on_bels n (omega (arith, e)), few, e)

-- the same LUTs force the same bits
module _ (count : ℕ) (luts others : ℕ → LutPlace) (tables tables' : ℕ → TableBits)
    (same : (u : ℕ) → u < count → luts u ≡ others u) (same_tables : (u : ℕ) → u < count → tables u ≡ tables' u) where
  pub forced_same : (held : Held) (at bit : ℕ) → IsForced count luts tables held at bit → IsForced count others tables' held at bit
  forced_same held at bit is = record {
    u = is.u;
    within = is.within;
    forces = subst (λ (t : ℕ). Forces (others is.u) t held at bit) (same_tables is.u is.within)
        (subst (λ (l : LutPlace). Forces l (tables is.u) held at bit) (same is.u is.within) is.forces);
  }

-- what is forced the same holds where it is held the same
module _ (count : ℕ) (luts : ℕ → LutPlace) (tables : ℕ → TableBits) (held other : Held)
    (same : (line : ℕ) → held line ≡ other line) where
  pub apart_same : NoneBothWays count luts tables held → NoneBothWays count luts tables other
  unfolding HoldsMore
  apart_same = apart_more held other (λ line. inl (same line)) count luts tables

-- the law on plans
module _ (shape : ElementShape) (uses : List LutUse) (plan : ElementPlan) (is : IsPlan shape uses plan) (u : ℕ) (held : Held)
    (within : u < length uses)
    (extends : (line : LineNumber) → held_under uses is.lines (held_by plan.ties) line ≢ Free →
    held line ≡ held_under uses is.lines (held_by plan.ties) line) where
  abbrev lut : LutPlace
  lut = lut_of shape uses is.lines u

  abbrev planned : Held
  planned = held_under uses is.lines (held_by plan.ties)

  held_more : (line : ℕ) (t : Tie) → planned line ≡ t → (planned line ≡ held line) ⊎ (planned line ≡ Free)
  held_more line Free e = inr e
  held_more line Vcc e = inl (sym (extends line (λ free. (let d : Vcc ≡ Free = sym e ∙ free in absurd (cc)))))
  held_more line Gnd e = inl (sym (extends line (λ free. (let d : Gnd ≡ Free = sym e ∙ free in absurd (cc)))))

  all_more : HoldsMore planned held
  unfolding HoldsMore
  all_more line = held_more line (planned line) refl

  forced_to : (v bit : ℕ) → Agrees lut held v → bit_at (table_of uses u) (spelled lut.places v) ≡ bit →
      IsForced (length uses) (lut_of shape uses is.lines) (table_of uses) planned (lut.low + v) bit
  forced_to v bit agrees e = record {
    u = u;
    within = within;
    forces = record { v = v; agrees = agrees_less planned held all_more lut v agrees; read = refl; value = e };
  }

  gives : GivesFunction lut held plan.bits (table_of uses u)
  gives v agrees = elim (bit_cases (table_of uses u) (spelled lut.places v)) [
    | inr one ↦ is.every (lut.low + v) (forced_to v 1 agrees one) ∙ sym one
    | inl zero_bit ↦ elim (bit_cases plan.bits (lut.low + v)) [
      | inl also ↦ also ∙ sym zero_bit
      | inr set ↦ absurd (is.ties.serve.apart (lut.low + v) (forced_to v 0 agrees zero_bit) (is.only (lut.low + v) set))
    ]
  ]

pub plan_gives : (shape : ElementShape) (uses : List LutUse) (plan : ElementPlan) → GivesFunctions shape uses plan
plan_gives shape uses plan is u held within extends = gives shape uses plan is u held within extends

-- whether a line has an item
not_first : (first : ℕ) (lines : List ℕ) (line : ℕ) → first ≢ line →
    ((k : ℕ) → k < length lines → slice_index lines k ≢ line) →
    (k : ℕ) → k < suc (length lines) → slice_index (first ∷ lines) k ≢ line
not_first first lines line other none zero h = other
not_first first lines line other none (suc k) h = none k (omega (arith, h))

pub among_or_not : (lines : List ℕ) (line : ℕ) → Contains lines line ⊎ ((k : ℕ) → k < length lines → slice_index lines k ≢ line)
among_or_not [] line = inr (λ k h. absurd (omega (arith, h)))
among_or_not (first ∷ lines) line = elim (cases_eq first line) [
  | inl same ↦ inl (0, omega arith, same)
  | inr other ↦ elim (among_or_not lines line) [
    | inl at ↦ inl (suc at.0, omega (arith, at.1), at.2)
    | inr none ↦ inr (not_first first lines line other none)
  ]
]

-- a line without an item has its tie
pub tie_of_none : (items : List Item) (lines : List ℕ) (tie : Tie) (line : ℕ) → ((k : ℕ) → k < length lines → slice_index lines k ≢ line) →
    constant_on items lines tie line ≡ tie
tie_of_none [] lines tie line none = refl
tie_of_none (item ∷ items) [] tie line none = refl
tie_of_none (item ∷ items) (first ∷ lines) tie line none =
    rw (eqb-not first line (none 0 (omega arith))) (tie_of_none items lines tie line (λ k h. none (suc k) (omega (arith, h))))

-- a row of lines gives the same places
pub places_same : (uses : List LutUse) (lines bel_lines row : List ℕ) (cell : LutUse) (n : ℕ) →
    ((i : ℕ) → i < n → slice_index row i ≡ line_of_input uses lines cell i) → places_on bel_lines row n ≡ places_of uses lines bel_lines cell n
places_same uses lines bel_lines row cell zero same = refl
places_same uses lines bel_lines row cell (suc n) same =
    ap (λ xs. xs ++ place_in bel_lines (slice_index row n) ∷ []) (places_same uses lines bel_lines row cell n (λ i h. same i (omega (arith, h)))) ∙
    ap (λ l. places_of uses lines bel_lines cell n ++ place_in bel_lines l ∷ []) (same n (omega arith))

-- the ties of the search are those of the plan
module _ (shape : ElementShape) (uses : List LutUse) (lines : List ℕ) (luts : List Lut) (tieable : List Bool) (base : Held)
    (as_long : length luts ≡ length uses)
    (same : (u : ℕ) → u < length uses → place_of (lut_at luts u) ≡ lut_of shape uses lines u)
    (same_tables : (u : ℕ) → u < length uses → (lut_at luts u).table ≡ table_of uses u)
    (base_is : (line : ℕ) → base line ≡ constant_on (all_items uses) lines Free line)
    (inside : (line : ℕ) → slice_index_or tieable line false ≡ true → line < shape.lines)
    (no_item : (line : ℕ) → slice_index_or tieable line false ≡ true → (x : ℕ) → x < length lines → slice_index lines x ≢ line)
    (every : (line : ℕ) → line < shape.lines → ((x : ℕ) → x < length lines → slice_index lines x ≢ line) →
    slice_index_or tieable line false ≡ true) where
  abbrev Forced : ℕ → Held → ℕ → ℕ → Type 0
  Forced count held at bit = IsForced count (λ u. place_of (lut_at luts u)) (λ u. (lut_at luts u).table) held at bit

  pub forced_of : (held : Held) (at bit : ℕ) → IsForced (length luts) (λ u. place_of (lut_at luts u)) (λ u. (lut_at luts u).table) held at bit →
      IsForced (length uses) (lut_of shape uses lines) (table_of uses) held at bit
  forced_of held at bit is =
      forced_same (length uses) (λ u. place_of (lut_at luts u)) (lut_of shape uses lines) (λ u. (lut_at luts u).table) (table_of uses)
      same same_tables held at bit (subst (λ (n : ℕ). Forced n held at bit) as_long is)

  pub forced_back : (held : Held) (at bit : ℕ) → IsForced (length uses) (lut_of shape uses lines) (table_of uses) held at bit →
      IsForced (length luts) (λ u. place_of (lut_at luts u)) (λ u. (lut_at luts u).table) held at bit
  forced_back held at bit is =
      subst (λ (n : ℕ). Forced n held at bit) (sym as_long)
      (forced_same (length uses) (lut_of shape uses lines) (λ u. place_of (lut_at luts u)) (table_of uses) (λ u. (lut_at luts u).table)
      (λ u h. sym (same u h)) (λ u h. sym (same_tables u h)) held at bit is)

  apart_of : (held : Held) → AreApart luts held → NoneBothWays (length uses) (lut_of shape uses lines) (table_of uses) held
  apart_of held apart at zero_forced one_forced = apart at (forced_back held at 0 zero_forced) (forced_back held at 1 one_forced)

  apart_back : (held : Held) → NoneBothWays (length uses) (lut_of shape uses lines) (table_of uses) held → AreApart luts held
  apart_back held apart at zero_forced one_forced = apart at (forced_of held at 0 zero_forced) (forced_of held at 1 one_forced)

  shut_free : (ties : Held) → AreTies shape uses lines ties → (line : ℕ) → slice_index_or tieable line false ≡ false → ties line ≡ Free
  shut_free ties are line shut = elim (among_or_not lines line) [
    | inl at ↦ are.with_item line at
    | inr none ↦ elim (cases_lt line shape.lines) [
      | inl few ↦ (let may = every line few none in absurd (cc))
      | inr past ↦ are.beyond line past
    ]
  ]

  held_base : (ties : Held) → AreTies shape uses lines ties → (line : ℕ) → slice_index_or tieable line false ≡ false →
      held_under uses lines ties line ≡ base line
  held_base ties are line shut =
      ap (λ t. constant_on (all_items uses) lines t line) (shut_free ties are line shut) ∙ sym (base_is line)

  held_tie : (ties : Held) (line : ℕ) → slice_index_or tieable line false ≡ true → held_under uses lines ties line ≡ ties line
  held_tie ties line may = tie_of_none (all_items uses) lines (ties line) line (no_item line may)

  pub no_ties : (CanComplete luts tieable base 0 → ⊥) → (ties : Held) → AreTies shape uses lines ties → ⊥
  no_ties none ties are = none record {
    other = held_under uses lines ties;
    completes = record {
      before = λ line h. absurd (omega (arith, h));
      closed = λ line shut. held_base ties are line shut;
    };
    apart = apart_back (held_under uses lines ties) are.apart;
  }

  module _ (held ties : Held) (is : IsLeastHeld luts tieable base held)
      (shown : (line : ℕ) → slice_index_or tieable line false ≡ true → ties line ≡ held line)
      (hidden : (line : ℕ) → slice_index_or tieable line false ≡ false → ties line ≡ Free) where
    by_test : (line : ℕ) (b : Bool) → slice_index_or tieable line false ≡ b → held_under uses lines ties line ≡ held line
    by_test line true e = held_tie ties line e ∙ shown line e
    by_test line false e = ap (λ t. constant_on (all_items uses) lines t line) (hidden line e) ∙ sym (base_is line) ∙ sym (is.closed line e)

    pub under_ties : (line : ℕ) → held_under uses lines ties line ≡ held line
    under_ties line = by_test line (slice_index_or tieable line false) refl

    item_free : (line : ℕ) (b : Bool) → slice_index_or tieable line false ≡ b → Contains lines line → ties line ≡ Free
    item_free line true e at = absurd (no_item line e at.0 at.1 (get_or_default lines at.0 0 line at.1 ∙ at.2))
    item_free line false e at = hidden line e

    past_free : (line : ℕ) (b : Bool) → slice_index_or tieable line false ≡ b → shape.lines ≤ line → ties line ≡ Free
    past_free line true e past = absurd (omega (arith, inside line e, past))
    past_free line false e past = hidden line e

    serve : AreTies shape uses lines ties
    serve = record {
      with_item = λ line at. item_free line (slice_index_or tieable line false) refl at;
      beyond = λ line past. past_free line (slice_index_or tieable line false) refl past;
      apart = apart_same (length uses) (lut_of shape uses lines) (table_of uses) held (held_under uses lines ties)
          (λ line. sym (under_ties line)) (apart_of held is.apart);
    }

    less_by : (other : Held) → AreTies shape uses lines other → (line : ℕ) (b : Bool) → slice_index_or tieable line false ≡ b →
        rank (other line) < rank (ties line) → rank (held_under uses lines other line) < rank (held line)
    less_by other are line true e less =
        omega (arith, ap rank (held_tie other line e), ap rank (shown line e), less)
    less_by other are line false e less =
        absurd (omega (arith, ap rank (shut_free other are line e), ap rank (hidden line e), less))

    pub least_of : AreLeastTies shape uses lines ties
    least_of = record {
      serve = serve;
      least = λ other are before. is.least (held_under uses lines other) (λ line shut. held_base other are line shut)
          (apart_back (held_under uses lines other) are.apart) record {
            line = before.line;
            same = λ l below. ap (λ t. constant_on (all_items uses) lines t l) (before.same l below) ∙ under_ties l;
            less = less_by other are before.line (slice_index_or tieable before.line false) refl before.less;
          };
    }

-- the line of a cell's input, by the items as they were found
pub line_same : (uses : List LutUse) (items : List Item) (raw : List ℕ) → items ≡ all_items uses →
    (u i : ℕ) → u < length uses → i < (use_at uses u).table.inputs →
    slice_index raw (number_in items (item_at (use_at uses u).nets i)) ≡ line_of_input uses (take (length items) raw) (use_at uses u) i
line_same uses items raw e u i h few =
    let x : Item = item_at (use_at uses u).nets i in
    let P : List Item → Type 0 = λ xs. slice_index raw (number_in xs x) ≡ slice_index (take (length xs) raw) (number_in (all_items uses) x) in
    subst P (sym e) (sym (get_or-take (length (all_items uses)) raw (number_in (all_items uses) x) 0 (items_here uses (length uses) u i h few)))

pub number_small : (uses : List LutUse) (items : List Item) → items ≡ all_items uses → length items ≤ 48 →
    (u i : ℕ) → u < length uses → i < (use_at uses u).table.inputs → number_in items (item_at (use_at uses u).nets i) < 48
number_small uses items e room u i h few =
    let x : Item = item_at (use_at uses u).nets i in
    let here : number_in items x < length items = subst (λ (xs : List Item). number_in xs x < length xs) (sym e) (items_here uses (length uses) u i h few) in
    omega (arith, here, room)

-- a cell that is laid is the assignment's
pub laid_place : (shape : ElementShape) (uses : List LutUse) (items : List Item) (raw row : List ℕ) (lut : Lut) → items ≡ all_items uses →
    (u : ℕ) → u < length uses → IsLaid (bel_at shape (use_at uses u).bel) (use_at uses u) items raw row lut →
    place_of lut ≡ lut_of shape uses (take (length items) raw) u
laid_place shape uses items raw row lut e u h is =
    let cell : LutUse = use_at uses u in
    let bel : BelShape = bel_at shape cell.bel in
    ap (λ (b : BelShape). lut_on b (take lut.inputs lut.places)) is.bel_is ∙
    ap (lut_on bel) (is.places ∙
    places_same uses (take (length items) raw) (input_lines bel) row cell cell.table.inputs
    (λ i few. is.chosen i few ∙ line_same uses items raw e u i h few))

pub all_give : (shape : ElementShape) (uses : List LutUse) (found : Option ElementPlan) → IfSome found (λ plan. GivesFunctions shape uses plan)
all_give shape uses (Some plan) = plan_gives shape uses plan
all_give shape uses None = tt
