-- What the code keeps of tokens, for private contracts.
use Rattle.std.specs.Borrow.{Bor}
use Rattle.std.specs.Prelude.{◌≡◌, ℕ, ◌<◌, ◌≤◌, min, List, [], ◌∷◌, ◌++◌, length, map}
use Rattle.std.specs.Prelude.{slice_index_or, Option, Some, None, MatchOption, option_map, Bool}
use Rattle.ix_words.specs.declared.command.Command.{Command}
use Rattle.ix_words.specs.declared.command.CommandName.{CommandName}
use Rattle.ix_words.specs.declared.options.OptionName.{OptionName}
use Rattle.ix_words.specs.declared.options.OptionName.TheVariants.{Seed, Moves, Rounds, Trials}
use Rattle.ix_words.specs.declared.options.OptionName.TheVariants.{Placed}
use Rattle.ix_words.specs.declared.arguments.Given.{Given}
use Rattle.ix_words.specs.declared.arguments.Given.TheVariants.{Never, Once, Again}
use Rattle.ix_words.specs.declared.arguments.Arguments.{Arguments}
use Rattle.ix_words.specs.Words.{Token}
use Rattle.ix_words.specs.Tasks.{fits, number_of, operands, shape_of}
use Rattle.ix_words.specs.Tasks.{task_with, values}
use Rattle.ix_words.specs.Views.{command_view}

-- what is kept of an option is of these values
abbrev pub AreValues : Given → (values : List (List ℕ)) → Type 0
AreValues Never values = values ≡ []
AreValues (Once value) values = values ≡ value.now ∷ []
AreValues Again values = 2 ≤ length values

abbrev pub bytes : Bor (List ℕ) → List ℕ
bytes text = text.now

-- the first four of these operands are kept, and how many there are, counted up to five
pub record AreOperands (texts : List (Bor (List ℕ))) (count : ℕ) (all : List (List ℕ))
    : Type 0 where
  pub room : length texts ≡ 4
  pub counted : count ≡ min 5 (length all)
  pub held : (k : ℕ) → k < 4 → k < length all
      → slice_index_or (map bytes texts) k [] ≡ slice_index_or all k []

-- all that is kept is of these tokens
pub record AreArguments (kept : Arguments) (tokens : List Token) : Type 0 where
  pub operands : AreOperands kept.operands kept.count (operands tokens)
  pub seed : AreValues kept.seed (values Seed tokens)
  pub moves : AreValues kept.moves (values Moves tokens)
  pub rounds : AreValues kept.rounds (values Rounds tokens)
  pub trials : AreValues kept.trials (values Trials tokens)
  pub placed : AreValues kept.placed (values Placed tokens)

-- what is kept is of one token more, whatever tokens stand before it
abbrev pub Adds : Token → (before after : Arguments) → Type 0
Adds token before after = (tokens : List Token) → AreArguments before tokens
    → AreArguments after (tokens ++ token ∷ [])

-- what is kept of words is of their tokens, and is nothing where they have none
abbrev pub AreArgumentsOf : Option (List Token) → Option Arguments → Type 0
AreArgumentsOf words kept = MatchOption kept (words ≡ None)
    (λ kept. (tokens : List Token) × (words ≡ Some tokens) × AreArguments kept tokens)

-- each option stands at most once
abbrev pub AreOnce : List Token → Type 0
AreOnce tokens = (option : OptionName) → length (values option tokens) ≤ 1

-- what is asked for by a command whose tokens are kept, where they fit
abbrev pub Asks : CommandName → Arguments → Option Command → Type 0
Asks command kept result = (tokens : List Token) → AreArguments kept tokens
    → length (operands tokens) ≡ (shape_of command).operands → AreOnce tokens
    → option_map command_view result ≡ task_with command
    (λ k. slice_index_or (operands tokens) k []) (λ option. values option tokens)

-- a text is the operand of this number, where there are so many
abbrev pub IsOperand : Arguments → (number : ℕ) → (text : List ℕ) → Type 0
IsOperand kept number text = (tokens : List Token) → AreArguments kept tokens
    → number < length (operands tokens) → text ≡ slice_index_or (operands tokens) number []

-- whether kept tokens fit a command
abbrev pub TellsFit : CommandName → Arguments → Bool → Type 0
TellsFit command kept told = (tokens : List Token) → AreArguments kept tokens
    → told ≡ fits command tokens

-- what an option's value says, where it is given at most once
abbrev pub TellsNumber : Given → OptionName → Option (Option ℕ) → Type 0
TellsNumber given option told = (values : List (List ℕ)) → AreValues given values
    → length values ≤ 1 → told ≡ number_of option values
