-- From the tokens of a command line to what it asks for.
use Rattle.std.proofs.Common.{◌≡◌, ℕ, ◌≤◌, List, [], ◌∷◌, length, Bool, true, false, ◌&&◌, nat_eq}
use Rattle.std.proofs.Common.{nat_le, Option, Some, None, refl, sym, ap, ◌∙◌, arith, option_map}
use Rattle.std.proofs.Common.{if◌then◌else◌, slice_index_or, eqb-true, map}
use Rattle.std.proofs.lemmas.Bool.{leb-true}
use Rattle.std.specs.List.{list_all, list_any}
use Rattle.ix_words.specs.declared.command.Command.{Command}
use Rattle.ix_words.specs.declared.command.CommandName.{CommandName}
use Rattle.ix_words.specs.declared.options.OptionName.{OptionName}
use Rattle.ix_words.specs.declared.options.OptionName.TheVariants.{Seed, Moves, Rounds, Trials}
use Rattle.ix_words.specs.declared.options.OptionName.TheVariants.{Placed}
use Rattle.ix_words.specs.declared.arguments.Arguments.{Arguments}
use Rattle.ix_words.specs.Arguments.{AreOnce, Asks, AreArgumentsOf, TellsFit}
use Rattle.ix_words.specs.Tasks.{◌>>=◌, command_named, command_of, fits, is_same, most_times}
use Rattle.ix_words.specs.Tasks.{operands, shape_of, task_of, task_with, values}
use Rattle.ix_words.specs.Views.{command_view}
use Rattle.ix_words.specs.Words.{Token, tokens}

both : (a b : Bool) → (a && b) ≡ true → (a ≡ true) × (b ≡ true)
both true b h = (refl, h)
both false b h = absurd (cc)

-- an option that stands as often as it may
once : (command : CommandName) (option : OptionName) (words : List Token)
    → nat_le (length (values option words)) (most_times command option) ≡ true
    → length (values option words) ≤ 1
once command option words h =
    by_option (list_any (is_same option) (shape_of command).options)
    (leb-true (length (values option words)) (most_times command option) h)
  where
    by_option : (b : Bool) → length (values option words) ≤ (if b then 1 else 0)
        → length (values option words) ≤ 1
    by_option true h = h
    by_option false h = omega (arith, h)

counted : (command : CommandName) (words : List Token) → fits command words ≡ true
    → length (operands words) ≡ (shape_of command).operands
counted command words h = eqb-true (length (operands words)) (shape_of command).operands
    (both (nat_eq (length (operands words)) (shape_of command).operands) (list_all
    (λ option. nat_le (length (values option words)) (most_times command option))
    (Seed ∷ Moves ∷ Rounds ∷ Trials ∷ Placed ∷ [])) h).0

first_passes : (test : OptionName → Bool) (option : OptionName) (others : List OptionName)
    → list_all test (option ∷ others) ≡ true → test option ≡ true
first_passes test option others h = (both (test option) (list_all test others) h).0

others_pass : (test : OptionName → Bool) (option : OptionName) (others : List OptionName)
    → list_all test (option ∷ others) ≡ true → list_all test others ≡ true
others_pass test option others h = (both (test option) (list_all test others) h).1

-- what passes for all options passes for each
each_passes : (test : OptionName → Bool) (option : OptionName)
    → list_all test (Seed ∷ Moves ∷ Rounds ∷ Trials ∷ Placed ∷ []) ≡ true → test option ≡ true
each_passes test Seed h =
    first_passes test Seed (Moves ∷ Rounds ∷ Trials ∷ Placed ∷ []) h
each_passes test Moves h =
    let h1 = others_pass test Seed (Moves ∷ Rounds ∷ Trials ∷ Placed ∷ []) h in
    first_passes test Moves (Rounds ∷ Trials ∷ Placed ∷ []) h1
each_passes test Rounds h =
    let h1 = others_pass test Seed (Moves ∷ Rounds ∷ Trials ∷ Placed ∷ []) h in
    let h2 = others_pass test Moves (Rounds ∷ Trials ∷ Placed ∷ []) h1 in
    first_passes test Rounds (Trials ∷ Placed ∷ []) h2
each_passes test Trials h =
    let h1 = others_pass test Seed (Moves ∷ Rounds ∷ Trials ∷ Placed ∷ []) h in
    let h2 = others_pass test Moves (Rounds ∷ Trials ∷ Placed ∷ []) h1 in
    let h3 = others_pass test Rounds (Trials ∷ Placed ∷ []) h2 in
    first_passes test Trials (Placed ∷ []) h3
each_passes test Placed h =
    let h1 = others_pass test Seed (Moves ∷ Rounds ∷ Trials ∷ Placed ∷ []) h in
    let h2 = others_pass test Moves (Rounds ∷ Trials ∷ Placed ∷ []) h1 in
    let h3 = others_pass test Rounds (Trials ∷ Placed ∷ []) h2 in
    let h4 = others_pass test Trials (Placed ∷ []) h3 in
    first_passes test Placed ([]) h4

each_once : (command : CommandName) (words : List Token) → fits command words ≡ true → AreOnce words
each_once command words h option =
    let test : OptionName → Bool
    = λ option. nat_le (length (values option words)) (most_times command option) in
    once command option words (each_passes test option
    (both (nat_eq (length (operands words)) (shape_of command).operands)
    (list_all test (Seed ∷ Moves ∷ Rounds ∷ Trials ∷ Placed ∷ [])) h).1)

-- a command whose words fit it
pub answered : (word : List ℕ) (others : List (List ℕ)) (command : CommandName) (kept : Arguments)
    (told : Option Command) → Some command ≡ command_named word
    → AreArgumentsOf (tokens None others) (Some kept) → TellsFit command kept true
    → Asks command kept told → option_map command_view told ≡ command_of (word ∷ others)
unfolding command_of
answered word others command kept told named arguments fit asks =
    let words = arguments.0 in
    let fitting = sym (fit words arguments.2) in
    asks words arguments.2 (counted command words fitting) (each_once command words fitting)
    ∙ ap (λ (b : Bool). if b
    then task_with command (λ k. slice_index_or (operands words) k [])
    (λ option. values option words)
    else None) (sym fitting)
    ∙ ap (λ (all : Option (List Token)). all >>= λ words. task_of command words) (sym arguments.1)
    ∙ ap (λ (known : Option CommandName). known >>= λ command.
    tokens None others >>= λ words. task_of command words) named

-- the first of all words, and those after it
pub split_words : {X : Type 0} (bytes : X → List ℕ) (words : List X) (first : X) (others : List X)
    (word : List ℕ) → words ≡ first ∷ others → word ≡ bytes first
    → map bytes words ≡ word ∷ map bytes others
split_words bytes words first others word is told =
    ap (λ ws. map bytes ws) is ∙ ap (λ w. w ∷ map bytes others) (sym told)
