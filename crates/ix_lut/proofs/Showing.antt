-- The ties that a plan shows.
use Rattle.std.proofs.Common.{◌≡◌, ◌≢◌, ℕ, ◌+◌, ◌<◌, Bool, true, false, inl, inr, List, length, set, slice_index_or, sym, ap, ◌∙◌, arith}
use Rattle.std.proofs.lemmas.Bool.{cases_eq, cases_lt}
use Rattle.std.proofs.lemmas.List.{length-set, get_or_past}
use Rattle.ix_lut.specs.Shapes.{held_by}
use Rattle.ix_lut.specs.declared.shape.Tie.{Tie}
use Rattle.ix_lut.specs.declared.shape.Tie.TheVariants.{Free}
use Rattle.ix_lut.proofs.Tying.{held_set_same, held_set_other}

pub record Shows (tieable : List Bool) (held : List Tie) (n : ℕ) (ties : List Tie) : Type 0 where
  pub long : length ties ≡ 12
  pub shown : (line : ℕ) → line < n → slice_index_or tieable line false ≡ true → held_by ties line ≡ held_by held line
  pub hidden : (line : ℕ) → slice_index_or tieable line false ≡ false → held_by ties line ≡ Free

module _ (tieable : List Bool) (held : List Tie) (n : ℕ) (ties : List Tie) (shows : Shows tieable held n ties) where
  pub shows_tie : n < 12 → slice_index_or tieable n false ≡ true → Shows tieable held (n + 1) (set ties n (held_by held n))
  shows_tie inside may = record {
    long = length-set ties n (held_by held n) ∙ shows.long;
    shown = λ line h open_line. elim (cases_eq line n) [
      | inl same ↦ ap (held_by (set ties n (held_by held n))) same ∙
          held_set_same ties n (held_by held n) (omega (arith, inside, shows.long)) ∙ ap (held_by held) (sym same)
      | inr other ↦ held_set_other ties n (held_by held n) line other ∙ shows.shown line (before line h other) open_line
    ];
    hidden = λ line shut. held_set_other ties n (held_by held n) line (apart line shut) ∙ shows.hidden line shut;
  }
    where
      before : (line : ℕ) → line < n + 1 → line ≢ n → line < n
      before line h other = elim (cases_lt line n) [ inl is ↦ is | inr over ↦ absurd (other (omega (arith, h, over))) ]

      apart : (line : ℕ) → slice_index_or tieable line false ≡ false → line ≢ n
      apart line shut same = let e = ap (λ l. slice_index_or tieable l false) same in absurd (cc)

  pub shows_none : slice_index_or tieable n false ≡ false → Shows tieable held (n + 1) ties
  shows_none shut = record {
    long = shows.long;
    shown = λ line h may. elim (cases_lt line n) [
      | inl is ↦ shows.shown line is may
      | inr over ↦
          let same : line ≡ n = omega (arith, h, over) in
          let e = ap (λ l. slice_index_or tieable l false) same in absurd (cc)
    ];
    hidden = shows.hidden;
  }

pub shows_all : (tieable : List Bool) (held ties : List Tie) → length tieable ≡ 12 → Shows tieable held 12 ties →
    (line : ℕ) → slice_index_or tieable line false ≡ true → held_by ties line ≡ held_by held line
shows_all tieable held ties long shows line may = elim (cases_lt line 12) [
  | inl inside ↦ shows.shown line inside may
  | inr past ↦ (let shut = get_or_past tieable line false (omega (arith, past, long)) in absurd (cc))
]
