-- The bits that a LUT forces, value by value.
use Rattle.std.proofs.Common.{◌≡◌, ◌≢◌, ◌<◌, ◌≤◌, ◌+◌, ◌^◌, ◌∙◌, refl, ap, sym, subst, ℕ, arith}
use Rattle.std.proofs.Common.{inl, inr, List, length, take, Contains, slice_index, Bool}
use Rattle.std.proofs.Common.{true, false, nat_eq, ◌||◌}
use Rattle.std.specs.Bool.{Decides}
use Rattle.std.specs.List.{list_any}
use Rattle.std.specs.Int.{bit_at}
use Rattle.std.proofs.lemmas.Bool.{cases_lt, cases_eq, true≢false, eqb-true, eq-eqb}
use Rattle.std.proofs.lemmas.List.{get_or-take, length-take}
use Rattle.std.proofs.lemmas.Map.Views.{Contains-from_any}
use Rattle.std.proofs.lemmas.Nat.Bits.{bit_at-zero}
use Rattle.ix_device.proofs.Walks.{any_at}
use Rattle.ix_lut.specs.Places.{LutPlace, Held, Agrees, Allows}
use Rattle.ix_lut.specs.Shapes.{lut_on}
use Rattle.ix_lut.specs.Tables.{spelled}
use Rattle.ix_lut.specs.declared.shape.BelShape.{BelShape}
use Rattle.ix_table_keys.proofs.Found.{stands_at}
use Rattle.ix_fill_tables.specs.Bits.{AgreesAt, HasForced, AreForcedBelow, AreForcedBits}
use Rattle.ix_fill_tables.specs.declared.forcing.ForcedBits.{ForcedBits}

-- Places that are used.

pub used_there : (xs : List ℕ) (j : ℕ) → list_any (nat_eq j) xs ≡ true → Contains xs j
used_there xs j found = Contains-from_any {eq = nat_eq} eqb-true j xs found

pub unused_there : (xs : List ℕ) (j : ℕ) → list_any (nat_eq j) xs ≡ false → Contains xs j → ⊥
unused_there xs j none has = let at = stands_at xs j has in
    true≢false (sym (any_at (nat_eq j) xs at.0 j at.1 (eq-eqb j j refl)) ∙ none)

pub agrees_here : (lines places : List ℕ) (held : Held) (v j value : ℕ) (used allowed : Bool)
    → used ≡ list_any (nat_eq j) places → value ≡ bit_at v j
    → Decides allowed (Allows (held (slice_index lines j)) value)
    → Decides (used || allowed) (AgreesAt lines places held v j)
agrees_here lines places held v j value true allowed is same decides =
    (λ e unused. absurd (unused (used_there places j (sym is))), λ agrees. refl)
agrees_here lines places held v j value false allowed is same decides = (
  λ e unused. subst (λ b. Allows (held (slice_index lines j)) b) same (decides.0 e),
  λ agrees. decides.1 (subst (λ b. Allows (held (slice_index lines j)) b) (sym same)
      (agrees (unused_there places j (sym is)))),
)

-- Values that agree.
module _ (bel : BelShape) (places : List ℕ) (held : Held) (v : ℕ) (long : length bel.lines ≡ 6)
    (few : bel.inputs ≤ 6) where
  count : length (take bel.inputs bel.lines) ≡ bel.inputs
  count = omega (arith, length-take bel.inputs bel.lines, long, few)

  pub all_agree : v < 2 ^ bel.inputs
      → ((j : ℕ) → j < bel.inputs → AgreesAt bel.lines places held v j)
      → Agrees (lut_on bel places) held v
  all_agree small each = record {
    within = subst (λ (n : ℕ). v < 2 ^ n) (sym count) small;
    unused = λ j below unused.
        let same = count in
        let inside : j < bel.inputs = omega (arith, below, same) in
        subst (λ (l : ℕ). Allows (held l) (bit_at v j))
        (sym (get_or-take bel.inputs bel.lines j 0 inside)) (each j inside unused);
  }

  pub each_agrees : Agrees (lut_on bel places) held v → (j : ℕ) → j < bel.inputs
      → AgreesAt bel.lines places held v j
  each_agrees agrees j inside unused =
      let same = count in
      subst (λ (l : ℕ). Allows (held l) (bit_at v j))
      (get_or-take bel.inputs bel.lines j 0 inside)
      (agrees.unused j (omega (arith, inside, same)) unused)

  pub agrees_below : Agrees (lut_on bel places) held v → v < 2 ^ bel.inputs
  agrees_below agrees = subst (λ (n : ℕ). v < 2 ^ n) count agrees.within

-- One value more.
module _ (on : LutPlace) (table : ℕ) (held : Held) where
  pub no_value : (bit : ℕ) → HasForced on table held 0 bit 0
  no_value bit = record {
    only = λ at one. let zero = bit_at-zero at in absurd (omega (arith, one, zero));
    every = λ v less agrees is. absurd (omega (arith, less));
  }

  pub passed_value : (v bit word : ℕ)
      → (Agrees on held v → bit_at table (spelled on.places v) ≡ bit → ⊥)
      → HasForced on table held v bit word → HasForced on table held (v + 1) bit word
  passed_value v bit word none has = record {
    only = has.only;
    every = λ w less agrees is. elim (cases_lt w v) [
      | inl before ↦ has.every w before agrees is
      | inr past ↦
          let same : w ≡ v = omega (arith, less, past) in
          absurd (none (subst (Agrees on held) same agrees)
          (ap (λ x. bit_at table (spelled on.places x)) (sym same) ∙ is))
    ];
  }

  pub new_value : (v bit word after : ℕ) → Agrees on held v
      → bit_at table (spelled on.places v) ≡ bit → bit_at after (on.low + v) ≡ 1
      → ((other : ℕ) → other ≢ on.low + v → bit_at after other ≡ bit_at word other)
      → HasForced on table held v bit word → HasForced on table held (v + 1) bit after
  new_value v bit word after agrees is here others has = record {
    only = λ at one. elim (cases_eq at (on.low + v)) [
      | inl same ↦ record { v = v; agrees = agrees; read = sym same; value = is }
      | inr apart ↦ has.only at (sym (others at apart) ∙ one)
    ];
    every = λ w less also has_bit. elim (cases_eq (on.low + w) (on.low + v)) [
      | inl same ↦ ap (bit_at after) same ∙ here
      | inr apart ↦
          let differs : (w ≡ v → ⊥) = λ e. apart (ap (λ x. on.low + x) e) in
          elim (cases_lt w v) [
            | inl before ↦ others (on.low + w) apart ∙ has.every w before also has_bit
            | inr past ↦ absurd (differs (omega (arith, less, past)))
          ]
    ];
  }

  pub all_values : (most : ℕ) (forced : ForcedBits) → ((v : ℕ) → Agrees on held v → v < most)
      → AreForcedBelow on table held most forced → AreForcedBits on table held forced
  all_values most forced within are = record {
    ones = λ at. (
      are.ones.only at,
      λ f. sym (ap (bit_at forced.ones) f.read)
          ∙ are.ones.every f.v (within f.v f.agrees) f.agrees f.value,
    );
    zeros = λ at. (
      are.zeros.only at,
      λ f. sym (ap (bit_at forced.zeros) f.read)
          ∙ are.zeros.every f.v (within f.v f.agrees) f.agrees f.value,
    );
  }
