-- Ties of an element's lines.
use Rattle.std.proofs.Common.{◌≡◌, ◌≢◌, ℕ, ◌+◌, ◌<◌, ◌≤◌, ◌⊎◌, Bool, true, false, inl, inr, List, length, set, slice_index, slice_index_or, sym, ap, ◌∙◌, refl, subst, arith, get_or-set_same, get_or-set_other, eqb, cond, length-set}
use Rattle.std.specs.Int.{bit_at}
use Rattle.std.proofs.lemmas.Bool.{cases_lt, cases_eq, eq-eqb}
use Rattle.std.proofs.lemmas.List.{get_or_past}
use Rattle.ix_lut.proofs.Pigeons.{eqb-not}
use Rattle.ix_lut.specs.Places.{LutPlace, Held, Allows, Agrees}
use Rattle.ix_lut.specs.Shapes.{held_by}
use Rattle.ix_lut.specs.Forcing.{IsForced, NoneBothWays, AreApart, Completes, CanComplete, rank, IsLeastHeld}
use Rattle.ix_lut.specs.declared.forcing.Lut.{Lut}
use Rattle.ix_lut.specs.declared.shape.Tie.{Tie}
use Rattle.ix_lut.specs.declared.shape.Tie.TheVariants.{Free, Vcc, Gnd}

-- the second holds all that the first holds
unfoldable pub HoldsMore : Held → Held → Type 0
HoldsMore held other = (line : ℕ) → (held line ≡ other line) ⊎ (held line ≡ Free)

allows_less : (tie other : Tie) (b : ℕ) → (tie ≡ other) ⊎ (tie ≡ Free) → Allows other b → Allows tie b
allows_less tie other b h a = elim h [
  | inl same ↦ subst (λ (t : Tie). Allows t b) (sym same) a
  | inr free ↦ subst (λ (t : Tie). Allows t b) (sym free) tt
]

module _ (held other : Held) (more : HoldsMore held other) where
  pub agrees_less : (lut : LutPlace) (v : ℕ) → Agrees lut other v → Agrees lut held v
  unfolding HoldsMore
  agrees_less lut v agrees = record {
    within = agrees.within;
    unused = λ j below free. allows_less (held (slice_index lut.lines j)) (other (slice_index lut.lines j)) (bit_at v j)
        (more (slice_index lut.lines j)) (agrees.unused j below free);
  }

  pub forced_less : (count : ℕ) (luts : ℕ → LutPlace) (tables : ℕ → ℕ) (at bit : ℕ) →
      IsForced count luts tables other at bit → IsForced count luts tables held at bit
  forced_less count luts tables at bit is = record {
    u = is.u;
    within = is.within;
    forces = record {
      v = is.forces.v;
      agrees = agrees_less (luts is.u) is.forces.v is.forces.agrees;
      read = is.forces.read;
      value = is.forces.value;
    };
  }

  pub apart_more : (count : ℕ) (luts : ℕ → LutPlace) (tables : ℕ → ℕ) →
      NoneBothWays count luts tables held → NoneBothWays count luts tables other
  apart_more count luts tables apart at zero_forced one_forced =
      apart at (forced_less count luts tables at 0 zero_forced) (forced_less count luts tables at 1 one_forced)

-- a line of a list of ties
pub held_set_same : (ties : List Tie) (line : ℕ) (t : Tie) → line < length ties → held_by (set ties line t) line ≡ t
held_set_same ties line t h = get_or-set_same ties line t Free h

pub held_set_other : (ties : List Tie) (line : ℕ) (t : Tie) (l : ℕ) → l ≢ line → held_by (set ties line t) l ≡ held_by ties l
held_set_other ties line t l h = get_or-set_other ties line l t Free h

module _ (luts : List Lut) (tieable : List Bool) where
  -- what holds the lines completes itself
  pub can_when_apart : (held : Held) (from : ℕ) → AreApart luts held → CanComplete luts tieable held from
  can_when_apart held from apart = record {
    other = held;
    completes = record { before = λ line h. refl; closed = λ line h. refl };
    apart = apart;
  }

  -- past the last line nothing is left to tie
  pub same_past : (held other : Held) → length tieable ≡ 12 → Completes tieable held 12 other → (line : ℕ) → other line ≡ held line
  same_past held other long completes line = elim (cases_lt line 12) [
    | inl h ↦ completes.before line h
    | inr past ↦ completes.closed line (get_or_past tieable line false (omega (arith, past, long)))
  ]

  pub apart_past : (held : Held) → length tieable ≡ 12 → CanComplete luts tieable held 12 → AreApart luts held
  unfolding HoldsMore
  apart_past held long can =
      apart_more can.other held (λ line. inl (same_past held can.other long can.completes line)) _ _ _ can.apart

  -- a line that isn't tieable
  pub can_skip : (held : Held) (from : ℕ) → slice_index_or tieable from false ≡ false →
      CanComplete luts tieable held from → CanComplete luts tieable held (from + 1)
  can_skip held from shut can = record {
    other = can.other;
    completes = record {
      before = λ line h. elim (cases_lt line from) [
        | inl under ↦ can.completes.before line under
        | inr over ↦ let same : from ≡ line = omega (arith, h, over) in
            subst (λ (l : ℕ). can.other l ≡ held l) same (can.completes.closed from shut)
      ];
      closed = can.completes.closed;
    };
    apart = can.apart;
  }

  -- some lines that aren't tieable
  pub can_skip_to : (held : Held) (from to : ℕ) → ((line : ℕ) → from ≤ line → line < to → slice_index_or tieable line false ≡ false) →
      CanComplete luts tieable held from → CanComplete luts tieable held to
  can_skip_to held from to shut can = record {
    other = can.other;
    completes = record {
      before = λ line h. elim (cases_lt line from) [
        | inl under ↦ can.completes.before line under
        | inr over ↦ can.completes.closed line (shut line over h)
      ];
      closed = can.completes.closed;
    };
    apart = can.apart;
  }

  pub can_earlier : (held : Held) (from to : ℕ) → from ≤ to → CanComplete luts tieable held to → CanComplete luts tieable held from
  can_earlier held from to le can = record {
    other = can.other;
    completes = record { before = λ line h. can.completes.before line (omega (arith, h, le)); closed = can.completes.closed };
    apart = can.apart;
  }

  module _ (ties : List Tie) (from : ℕ) (long : length ties ≡ 12) (inside : from < 12)
      (may : slice_index_or tieable from false ≡ true) where
    closed_other : (line : ℕ) → slice_index_or tieable line false ≡ false → line ≢ from
    closed_other line shut same =
        let e = ap (λ l. slice_index_or tieable l false) same in absurd (cc)

    -- a completion with a tie of the line, seen from the line on
    pub completes_set : (other : Held) → Completes tieable (held_by ties) from other →
        Completes tieable (held_by (set ties from (other from))) (from + 1) other
    completes_set other completes = record {
      before = λ line h. elim (cases_eq line from) [
        | inl same ↦ subst (λ (l : ℕ). other l ≡ held_by (set ties from (other from)) l) (sym same)
            (sym (held_set_same ties from (other from) (omega (arith, long, inside))))
        | inr differs ↦ completes.before line (below_other line h differs) ∙ sym (held_set_other ties from (other from) line differs)
      ];
      closed = λ line shut. completes.closed line shut ∙ sym (held_set_other ties from (other from) line (closed_other line shut));
    }
      where
        below_other : (line : ℕ) → line < from + 1 → line ≢ from → line < from
        below_other line h differs = elim (cases_lt line from) [
          | inl under ↦ under
          | inr over ↦ absurd (differs (omega (arith, h, over)))
        ]

    -- and back
    pub completes_unset : (t : Tie) (other : Held) → Completes tieable (held_by (set ties from t)) (from + 1) other →
        Completes tieable (held_by ties) from other
    completes_unset t other completes = record {
      before = λ line h. completes.before line (omega (arith, h)) ∙ held_set_other ties from t line (less_other line h);
      closed = λ line shut. completes.closed line shut ∙ held_set_other ties from t line (closed_other line shut);
    }
      where
        less_other : (line : ℕ) → line < from → line ≢ from
        less_other line h = omega (arith, h)

    pub can_unset : (t : Tie) → CanComplete luts tieable (held_by (set ties from t)) (from + 1) → CanComplete luts tieable (held_by ties) from
    can_unset t can = record { other = can.other; completes = completes_unset t can.other can.completes; apart = can.apart }

    pub can_set : (t : Tie) (other : Held) → Completes tieable (held_by ties) from other → AreApart luts other →
        other from ≡ t → CanComplete luts tieable (held_by (set ties from t)) (from + 1)
    can_set t other completes apart is = record {
      other = other;
      completes = subst (λ (s : Tie). Completes tieable (held_by (set ties from s)) (from + 1) other) is (completes_set other completes);
      apart = apart;
    }

    -- the line's tie may be changed before
    pub completes_after : (t : Tie) (other : Held) → Completes tieable (held_by ties) from other →
        Completes tieable (held_by (set ties from t)) from other
    completes_after t other completes = record {
      before = λ line h. completes.before line h ∙ sym (held_set_other ties from t line (under_other line h));
      closed = λ line shut. completes.closed line shut ∙ sym (held_set_other ties from t line (closed_other line shut));
    }
      where
        under_other : (line : ℕ) → line < from → line ≢ from
        under_other line h = omega (arith, h)

    -- what is tied besides
    raised : Held → Held
    raised other line = cond (eqb line from) Vcc (other line)

    raised_at : (other : Held) → raised other from ≡ Vcc
    unfolding raised
    raised_at other = rw (eq-eqb from from refl) refl

    raised_else : (other : Held) (line : ℕ) → line ≢ from → raised other line ≡ other line
    unfolding raised
    raised_else other line h = rw (eqb-not line from h) refl

    raised_more : (other : Held) → other from ≡ Free → HoldsMore other (raised other)
    unfolding HoldsMore
    raised_more other free line = elim (cases_eq line from) [
      | inl same ↦ inr (ap other same ∙ free)
      | inr differs ↦ inl (sym (raised_else other line differs))
    ]

    raised_completes : (other : Held) → Completes tieable (held_by ties) from other → Completes tieable (held_by ties) from (raised other)
    raised_completes other completes = record {
      before = λ line h. raised_else other line (under_other line h) ∙ completes.before line h;
      closed = λ line shut. raised_else other line (closed_other line shut) ∙ completes.closed line shut;
    }
      where
        under_other : (line : ℕ) → line < from → line ≢ from
        under_other line h = omega (arith, h)

    -- where neither constant serves, no tie does
    pub cannot : (CanComplete luts tieable (held_by (set ties from Vcc)) (from + 1) → ⊥) →
        (CanComplete luts tieable (held_by (set ties from Gnd)) (from + 1) → ⊥) →
        CanComplete luts tieable (held_by ties) from → ⊥
    cannot no_high no_low can = by_tie (can.other from) refl
      where
        by_tie : (t : Tie) → can.other from ≡ t → ⊥
        by_tie Free e = no_high (can_set Vcc (raised can.other) (raised_completes can.other can.completes)
            (apart_more can.other (raised can.other) (raised_more can.other e) _ _ _ can.apart) (raised_at can.other))
        by_tie Vcc e = no_high (can_set Vcc can.other can.completes can.apart e)
        by_tie Gnd e = no_low (can_set Gnd can.other can.completes can.apart e)

  -- the least tie of a line, of the three in their order
  module _ (ties : List Tie) (from : ℕ) (long : length ties ≡ 12) (inside : from < 12)
      (may : slice_index_or tieable from false ≡ true) where
    long_1 : length (set ties from Free) ≡ 12
    long_1 = length-set ties from Free ∙ long

    long_2 : length (set (set ties from Free) from Vcc) ≡ 12
    long_2 = length-set (set ties from Free) from Vcc ∙ long_1

    module _ (no_free : CanComplete luts tieable (held_by (set ties from Free)) (from + 1) → ⊥) where
      not_free : (other : Held) → Completes tieable (held_by ties) from other → AreApart luts other → other from ≡ Free → ⊥
      not_free other completes apart e = no_free (can_set ties from long inside may Free other completes apart e)

      pub least_vcc : (other : Held) → Completes tieable (held_by ties) from other → AreApart luts other →
          rank (other from) < rank (held_by (set (set ties from Free) from Vcc) from) → ⊥
      least_vcc other completes apart less = not_free other completes apart
          (below_vcc (other from) (subst (λ (t : Tie). rank (other from) < rank t) (held_set_same (set ties from Free) from Vcc (omega (arith, long_1, inside))) less))
        where
          below_vcc : (t : Tie) → rank t < 1 → t ≡ Free
          below_vcc Free h = refl
          below_vcc Vcc h = absurd (omega (arith, h))
          below_vcc Gnd h = absurd (omega (arith, h))

      module _ (no_vcc : CanComplete luts tieable (held_by (set (set ties from Free) from Vcc)) (from + 1) → ⊥) where
        not_vcc : (other : Held) → Completes tieable (held_by ties) from other → AreApart luts other → other from ≡ Vcc → ⊥
        not_vcc other completes apart e = no_vcc (can_set (set ties from Free) from long_1 inside may Vcc other
            (completes_after ties from long inside may Free other completes) apart e)

        pub least_gnd : (other : Held) → Completes tieable (held_by ties) from other → AreApart luts other →
            rank (other from) < rank (held_by (set (set (set ties from Free) from Vcc) from Gnd) from) → ⊥
        least_gnd other completes apart less = by_tie (other from) refl
            (subst (λ (t : Tie). rank (other from) < rank t) (held_set_same (set (set ties from Free) from Vcc) from Gnd (omega (arith, long_2, inside))) less)
          where
            by_tie : (t : Tie) → other from ≡ t → rank (other from) < 2 → ⊥
            by_tie Free e h = not_free other completes apart e
            by_tie Vcc e h = not_vcc other completes apart e
            by_tie Gnd e h = omega (arith, ap rank e, h)

        pub can_gnd : CanComplete luts tieable (held_by ties) from →
            CanComplete luts tieable (held_by (set (set (set ties from Free) from Vcc) from Gnd)) (from + 1)
        can_gnd can = by_tie (can.other from) refl
          where
            by_tie : (t : Tie) → can.other from ≡ t →
                CanComplete luts tieable (held_by (set (set (set ties from Free) from Vcc) from Gnd)) (from + 1)
            by_tie Free e = absurd (not_free can.other can.completes can.apart e)
            by_tie Vcc e = absurd (not_vcc can.other can.completes can.apart e)
            by_tie Gnd e = can_set (set (set ties from Free) from Vcc) from long_2 inside may Gnd can.other
                (completes_after (set ties from Free) from long_1 inside may Vcc can.other
                (completes_after ties from long inside may Free can.other can.completes)) can.apart e

-- the ties below `upto` are the least
pub record TiesBelow (luts : List Lut) (tieable : List Bool) (base held : Held) (upto : ℕ) : Type 0 where
  pub closed : (line : ℕ) → slice_index_or tieable line false ≡ false → held line ≡ base line
  pub can : CanComplete luts tieable held upto
  pub least : (other : Held) → ((line : ℕ) → slice_index_or tieable line false ≡ false → other line ≡ base line) →
      AreApart luts other → (k : ℕ) → k < upto → ((l : ℕ) → l < k → other l ≡ held l) → rank (other k) < rank (held k) → ⊥

module _ (luts : List Lut) (tieable : List Bool) (base : Held) where
  pub ties_first : CanComplete luts tieable base 0 → TiesBelow luts tieable base base 0
  ties_first can = record {
    closed = λ line shut. refl;
    can = can;
    least = λ other closed apart k below same less. omega (arith, below);
  }

  pub ties_skip : (held : Held) (upto : ℕ) → slice_index_or tieable upto false ≡ false →
      TiesBelow luts tieable base held upto → TiesBelow luts tieable base held (upto + 1)
  ties_skip held upto shut is = record {
    closed = is.closed;
    can = can_skip luts tieable held upto shut is.can;
    least = λ other closed apart k below same less. elim (cases_lt k upto) [
      | inl under ↦ is.least other closed apart k under same less
      | inr over ↦
          let e : k ≡ upto = omega (arith, below, over) in
          let shut_k = ap (λ l. slice_index_or tieable l false) e ∙ shut in
          let equal : other k ≡ held k = closed k shut_k ∙ sym (is.closed k shut_k) in
          omega (arith, ap rank equal, less)
    ];
  }

  pub ties_next : (held new : Held) (upto : ℕ) → slice_index_or tieable upto false ≡ true →
      ((l : ℕ) → l ≢ upto → new l ≡ held l) → CanComplete luts tieable new (upto + 1) →
      ((other : Held) → Completes tieable held upto other → AreApart luts other → rank (other upto) < rank (new upto) → ⊥) →
      TiesBelow luts tieable base held upto → TiesBelow luts tieable base new (upto + 1)
  ties_next held new upto may kept can least_here is = record {
    closed = λ line shut. kept line (closed_differs line shut) ∙ is.closed line shut;
    can = can;
    least = λ other closed apart k below same less. elim (cases_lt k upto) [
      | inl under ↦ is.least other closed apart k under
          (λ l h. same l h ∙ kept l (under_differs l (before k l h under)))
          (subst (λ (t : Tie). rank (other k) < rank t) (kept k (under_differs k under)) less)
      | inr over ↦
          let e : k ≡ upto = omega (arith, below, over) in
          least_here other record {
            before = λ l h. same l (subst (λ (m : ℕ). l < m) (sym e) h) ∙ kept l (under_differs l h);
            closed = λ l shut. closed l shut ∙ sym (is.closed l shut);
          } apart (subst (λ (m : ℕ). rank (other m) < rank (new m)) e less)
    ];
  }
    where
      closed_differs : (line : ℕ) → slice_index_or tieable line false ≡ false → line ≢ upto
      closed_differs line shut same = let e = ap (λ l. slice_index_or tieable l false) same in absurd (cc)

      under_differs : (l : ℕ) → l < upto → l ≢ upto
      under_differs l h = omega (arith, h)

      before : (k l : ℕ) → l < k → k < upto → l < upto
      before k l h under = omega (arith, h, under)

  pub ties_done : (held : Held) → length tieable ≡ 12 → TiesBelow luts tieable base held 12 → IsLeastHeld luts tieable base held
  ties_done held long is = record {
    closed = is.closed;
    apart = apart_past luts tieable held long is.can;
    least = λ other closed apart before. elim (cases_lt before.line 12) [
      | inl inside ↦ is.least other closed apart before.line inside before.same before.less
      | inr past ↦
          let shut = get_or_past tieable before.line false (omega (arith, past, long)) in
          let equal : other before.line ≡ held before.line = closed before.line shut ∙ sym (is.closed before.line shut) in
          omega (arith, ap rank equal, before.less)
    ];
  }
