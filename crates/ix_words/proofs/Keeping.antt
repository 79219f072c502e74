-- What is kept after a token more.
use Rattle.std.proofs.Common.{◌≡◌, ℕ, ◌+◌, ◌<◌, ◌≤◌, List, [], ◌∷◌, ◌++◌, length, map, Bor}
use Rattle.std.proofs.Common.{Bool, true, false, refl, sym, ap, subst, ◌∙◌, arith, get_or, set}
use Rattle.std.proofs.Common.{if◌then◌else◌, length-append}
use Rattle.std.proofs.Common.{◌⊎◌, inl, inr}
use Rattle.std.proofs.Math.ListN.{get_or-append}
use Rattle.std.proofs.Math.Nat.{eq-or-lt_of_le}
use Rattle.std.proofs.Math.Seq.{get_or-append_seam}
use Rattle.std.proofs.lemmas.List.{append-nil, get_or-set_same, get_or-set_other, length-map}
use Rattle.std.proofs.lemmas.List.{length-set, map-set}
use Rattle.ix_words.specs.declared.options.OptionName.{OptionName}
use Rattle.ix_words.specs.declared.options.OptionName.TheVariants.{Seed, Moves, Rounds, Trials}
use Rattle.ix_words.specs.declared.options.OptionName.TheVariants.{Placed}
use Rattle.ix_words.specs.declared.arguments.Given.{Given}
use Rattle.ix_words.specs.declared.arguments.Arguments.{Arguments}
use Rattle.ix_words.specs.Arguments.{Adds, AreOperands, AreArguments, AreValues, bytes}
use Rattle.ix_words.specs.Tasks.{is_same, operands, values}
use Rattle.ix_words.specs.Words.{Token, operand, given}

operands_append : (xs ys : List Token) → operands (xs ++ ys) ≡ operands xs ++ operands ys
operands_append [] ys = refl
operands_append (operand text ∷ xs) ys = ap (λ texts. text ∷ texts) (operands_append xs ys)
operands_append (given option value ∷ xs) ys = operands_append xs ys

values_append : (option : OptionName) (xs ys : List Token)
    → values option (xs ++ ys) ≡ values option xs ++ values option ys
values_append option [] ys = refl
values_append option (operand text ∷ xs) ys = values_append option xs ys
values_append option (given other value ∷ xs) ys =
    by_same (is_same option other) (values_append option xs ys)
  where
    by_same : (b : Bool) → values option (xs ++ ys) ≡ values option xs ++ values option ys
        → (if b then value ∷ values option (xs ++ ys) else values option (xs ++ ys))
        ≡ (if b then value ∷ values option xs else values option xs) ++ values option ys
    by_same true h = ap (λ others. value ∷ others) h
    by_same false h = h

-- an option of which a token is none
same_values : (kept : Given) (option : OptionName) (tokens : List Token) (token : Token)
    → values option (token ∷ []) ≡ [] → AreValues kept (values option tokens)
    → AreValues kept (values option (tokens ++ token ∷ []))
same_values kept option tokens token none h =
    subst (λ vs. AreValues kept vs) (sym (values_append option tokens (token ∷ [])
    ∙ ap (λ vs. values option tokens ++ vs) none ∙ append-nil (values option tokens))) h

-- an option of which it is one
more_values : (before after : Given) (option : OptionName) (tokens : List Token) (token : Token)
    (value : List ℕ) → values option (token ∷ []) ≡ value ∷ []
    → ((vs : List (List ℕ)) → AreValues before vs → AreValues after (vs ++ value ∷ []))
    → AreValues before (values option tokens)
    → AreValues after (values option (tokens ++ token ∷ []))
more_values before after option tokens token value one more h =
    subst (λ vs. AreValues after vs) (sym (values_append option tokens (token ∷ [])
    ∙ ap (λ vs. values option tokens ++ vs) one)) (more (values option tokens) h)

same_operands : (texts : List (Bor (List ℕ))) (count : ℕ) (tokens : List Token)
    (option : OptionName) (value : List ℕ) → AreOperands texts count (operands tokens)
    → AreOperands texts count (operands (tokens ++ given option value ∷ []))
same_operands texts count tokens option value h =
    subst (λ all. AreOperands texts count all)
    (sym (operands_append tokens (given option value ∷ []) ∙ append-nil (operands tokens))) h

inside_le : (k : ℕ) (all : List (List ℕ)) → k < length all + 1 → k ≤ length all
inside_le k all h = omega (arith, h)

-- an operand more among the first four
pub one_operand : (texts : List (Bor (List ℕ))) (count : ℕ) (all : List (List ℕ))
    (text : Bor (List ℕ)) → AreOperands texts count all → count < 4
    → AreOperands (set texts count text) (count + 1) (all ++ text.now ∷ [])
one_operand texts count all text h few =
    let counted = h.counted in
    let room = h.room in
    let at : count ≡ length all = omega (arith, counted, few) in
    let is : map bytes (set texts count text) ≡ set (map bytes texts) count text.now
    = map-set bytes texts count text in
    record {
      room = length-set texts count text ∙ h.room;
      counted = rw (length-append all (text.now ∷ [])) (omega (arith, counted, few));
      held = λ k below inside. by_place k below
          (rw (length-append all (text.now ∷ [])) at inside) is at
          (eq-or-lt_of_le (inside_le k all (rw (length-append all (text.now ∷ [])) at inside)));
    }
  where
    by_place : (k : ℕ) → k < 4 → k < length all + 1
        → map bytes (set texts count text) ≡ set (map bytes texts) count text.now
        → count ≡ length all → (k ≡ length all) ⊎ (k < length all)
        → get_or (map bytes (set texts count text)) k [] ≡ get_or (all ++ text.now ∷ []) k []
    by_place k below inside is at (inr before) =
        ap (λ ts. get_or ts k []) is
        ∙ get_or-set_other (map bytes texts) count k text.now [] (λ e. omega (arith, e, at, before))
        ∙ h.held k below before ∙ sym (get_or-append all (text.now ∷ []) [] k before)
    by_place k below inside is at (inl f) =
        let e : k ≡ count = omega (arith, at, f) in
        let room : count < length (map bytes texts)
        = rw (length-map texts bytes) (rw h.room (omega (arith, below, e))) in
        ap (λ ts. get_or ts k []) is
        ∙ ap (λ i. get_or (set (map bytes texts) count text.now) i []) e
        ∙ get_or-set_same (map bytes texts) count text.now [] room
        ∙ sym (ap (λ i. get_or (all ++ text.now ∷ []) i []) f
        ∙ get_or-append_seam all text.now [] [])

-- an operand more than four
pub past_operand : (texts : List (Bor (List ℕ))) (count : ℕ) (all : List (List ℕ))
    (text : List ℕ) → AreOperands texts count all → 4 ≤ count
    → AreOperands texts 5 (all ++ text ∷ [])
past_operand texts count all text h many =
    let counted = h.counted in
    record {
      room = h.room;
      counted = rw (length-append all (text ∷ [])) (omega (arith, counted, many));
      held = λ k below inside. h.held k below (omega (arith, counted, many, below))
          ∙ sym (get_or-append all (text ∷ []) [] k (omega (arith, counted, many, below)));
    }

-- what is kept after an operand more
pub adds_operand : (kept : Arguments) (texts : List (Bor (List ℕ))) (count : ℕ) (text : List ℕ)
    → ((all : List (List ℕ)) → AreOperands kept.operands kept.count all
    → AreOperands texts count (all ++ text ∷ []))
    → Adds (operand text) kept (record kept { operands = texts; count = count })
adds_operand kept texts count text more tokens h = record {
  operands = subst (λ all. AreOperands texts count all)
      (sym (operands_append tokens (operand text ∷ []))) (more (operands tokens) h.operands);
  seed = same_values kept.seed Seed tokens (operand text) refl h.seed;
  moves = same_values kept.moves Moves tokens (operand text) refl h.moves;
  rounds = same_values kept.rounds Rounds tokens (operand text) refl h.rounds;
  trials = same_values kept.trials Trials tokens (operand text) refl h.trials;
  placed = same_values kept.placed Placed tokens (operand text) refl h.placed;
}

pub adds_seed : (kept : Arguments) (after : Given) (option : OptionName) (value : List ℕ)
    → option ≡ Seed
    → ((vs : List (List ℕ)) → AreValues kept.seed vs → AreValues after (vs ++ value ∷ []))
    → Adds (given option value) kept (record kept { seed = after })
adds_seed kept after option value e more tokens h =
    let now : Arguments = record kept { seed = after } in
    subst (λ named. AreArguments now (tokens ++ given named value ∷ [])) (sym e)
    (record {
      operands = same_operands kept.operands kept.count tokens Seed value h.operands;
      seed = more_values kept.seed after Seed tokens (given Seed value) value refl more h.seed;
      moves = same_values kept.moves Moves tokens (given Seed value) refl h.moves;
      rounds = same_values kept.rounds Rounds tokens (given Seed value) refl h.rounds;
      trials = same_values kept.trials Trials tokens (given Seed value) refl h.trials;
      placed = same_values kept.placed Placed tokens (given Seed value) refl h.placed;
    })

pub adds_moves : (kept : Arguments) (after : Given) (option : OptionName) (value : List ℕ)
    → option ≡ Moves
    → ((vs : List (List ℕ)) → AreValues kept.moves vs → AreValues after (vs ++ value ∷ []))
    → Adds (given option value) kept (record kept { moves = after })
adds_moves kept after option value e more tokens h =
    let now : Arguments = record kept { moves = after } in
    subst (λ named. AreArguments now (tokens ++ given named value ∷ [])) (sym e)
    (record {
      operands = same_operands kept.operands kept.count tokens Moves value h.operands;
      seed = same_values kept.seed Seed tokens (given Moves value) refl h.seed;
      moves = more_values kept.moves after Moves tokens (given Moves value) value refl more h.moves;
      rounds = same_values kept.rounds Rounds tokens (given Moves value) refl h.rounds;
      trials = same_values kept.trials Trials tokens (given Moves value) refl h.trials;
      placed = same_values kept.placed Placed tokens (given Moves value) refl h.placed;
    })

pub adds_rounds : (kept : Arguments) (after : Given) (option : OptionName) (value : List ℕ)
    → option ≡ Rounds
    → ((vs : List (List ℕ)) → AreValues kept.rounds vs → AreValues after (vs ++ value ∷ []))
    → Adds (given option value) kept (record kept { rounds = after })
adds_rounds kept after option value e more tokens h =
    let now : Arguments = record kept { rounds = after } in
    subst (λ named. AreArguments now (tokens ++ given named value ∷ [])) (sym e)
    (record {
      operands = same_operands kept.operands kept.count tokens Rounds value h.operands;
      seed = same_values kept.seed Seed tokens (given Rounds value) refl h.seed;
      moves = same_values kept.moves Moves tokens (given Rounds value) refl h.moves;
      rounds = more_values kept.rounds after Rounds tokens (given Rounds value) value refl more
          h.rounds;
      trials = same_values kept.trials Trials tokens (given Rounds value) refl h.trials;
      placed = same_values kept.placed Placed tokens (given Rounds value) refl h.placed;
    })

pub adds_trials : (kept : Arguments) (after : Given) (option : OptionName) (value : List ℕ)
    → option ≡ Trials
    → ((vs : List (List ℕ)) → AreValues kept.trials vs → AreValues after (vs ++ value ∷ []))
    → Adds (given option value) kept (record kept { trials = after })
adds_trials kept after option value e more tokens h =
    let now : Arguments = record kept { trials = after } in
    subst (λ named. AreArguments now (tokens ++ given named value ∷ [])) (sym e)
    (record {
      operands = same_operands kept.operands kept.count tokens Trials value h.operands;
      seed = same_values kept.seed Seed tokens (given Trials value) refl h.seed;
      moves = same_values kept.moves Moves tokens (given Trials value) refl h.moves;
      rounds = same_values kept.rounds Rounds tokens (given Trials value) refl h.rounds;
      trials = more_values kept.trials after Trials tokens (given Trials value) value refl more
          h.trials;
      placed = same_values kept.placed Placed tokens (given Trials value) refl h.placed;
    })

pub adds_placed : (kept : Arguments) (after : Given) (option : OptionName) (value : List ℕ)
    → option ≡ Placed
    → ((vs : List (List ℕ)) → AreValues kept.placed vs → AreValues after (vs ++ value ∷ []))
    → Adds (given option value) kept (record kept { placed = after })
adds_placed kept after option value e more tokens h =
    let now : Arguments = record kept { placed = after } in
    subst (λ named. AreArguments now (tokens ++ given named value ∷ [])) (sym e)
    (record {
      operands = same_operands kept.operands kept.count tokens Placed value h.operands;
      seed = same_values kept.seed Seed tokens (given Placed value) refl h.seed;
      moves = same_values kept.moves Moves tokens (given Placed value) refl h.moves;
      rounds = same_values kept.rounds Rounds tokens (given Placed value) refl h.rounds;
      trials = same_values kept.trials Trials tokens (given Placed value) refl h.trials;
      placed = more_values kept.placed after Placed tokens (given Placed value) value refl more
          h.placed;
    })
