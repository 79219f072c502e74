-- What the words of a command line ask for. A text is the list of its bytes.
use Rattle.std.specs.Prelude.{ℕ, ◌^◌, ◌-◌, List, [], ◌∷◌, length, slice_index_or, Bool, true}
use Rattle.std.specs.Prelude.{false, ◌&&◌, nat_eq, nat_le, Option, Some, None, option_map}
use Rattle.std.specs.Prelude.{if◌then◌else◌, codes, bytes_eq, find}
use Rattle.std.specs.List.{list_all, list_any}
use Rattle.ix_words.specs.declared.command.CommandName.{CommandName}
use Rattle.ix_words.specs.declared.command.CommandName.TheVariants as name
use Rattle.ix_words.specs.declared.options.OptionName.{OptionName}
use Rattle.ix_words.specs.declared.options.OptionName.TheVariants.{Seed, Moves, Rounds, Trials}
use Rattle.ix_words.specs.declared.options.OptionName.TheVariants.{Placed}
use Rattle.ix_words.specs.Numbers.{number_in}
use Rattle.ix_words.specs.Words.{Token, operand, given, tokens}

-- a value goes on, and none stops
infixl 1 ◌>>=◌
abbrev pub ◌>>=◌ : {A B : Type 0} → Option A → (A → Option B) → Option B
None >>= step = None
Some value >>= step = step value

-- A command with its operands and options; an option that isn't given is None.
pub data Task : Type 0 where
  pack : (device design packed : List ℕ) → Task
  place : (device design packed placed : List ℕ) (seed moves : Option ℕ) → Task
  route : (device design placed routed : List ℕ) (rounds : Option ℕ) → Task
  check : (device design physical : List ℕ) (is_placed : Bool) → Task
  flow : (device design routed : List ℕ) (seed moves rounds trials : Option ℕ) → Task
  demo : (size : ℕ) (device design : List ℕ) → Task

-- a command's name, the number of its operands, and its options
pub record Shape : Type 0 where
  pub name : List ℕ
  pub operands : ℕ
  pub options : List OptionName

abbrev pub shape_of : CommandName → Shape
shape_of name.Pack = record { name = codes "pack"; operands = 3; options = [] }
shape_of name.Place = record { name = codes "place"; operands = 4; options = Seed ∷ Moves ∷ [] }
shape_of name.Route = record { name = codes "route"; operands = 4; options = Rounds ∷ [] }
shape_of name.Check = record { name = codes "check"; operands = 3; options = Placed ∷ [] }
shape_of name.Flow = record {
  name = codes "flow";
  operands = 3;
  options = Seed ∷ Moves ∷ Rounds ∷ Trials ∷ [];
}
shape_of name.Demo = record { name = codes "demo"; operands = 3; options = [] }

-- the command of this name
abbrev pub command_named : (word : List ℕ) → Option CommandName
command_named word = find (λ command. bytes_eq word (shape_of command).name)
    (name.Pack ∷ name.Place ∷ name.Route ∷ name.Check ∷ name.Flow ∷ name.Demo ∷ [])

-- The range of an option's number. The flag takes none.
abbrev pub least : OptionName → ℕ
least Rounds = 1
least Trials = 1
least option = 0

abbrev pub greatest : OptionName → ℕ
greatest Moves = 10000
greatest Rounds = 1000
greatest Trials = 16
greatest option = 2 ^ 64 - 1

abbrev pub is_same : (a b : OptionName) → Bool
is_same Seed Seed = true
is_same Moves Moves = true
is_same Rounds Rounds = true
is_same Trials Trials = true
is_same Placed Placed = true
is_same a b = false

-- the operands among tokens, in order
abbrev pub operands : List Token → List (List ℕ)
operands [] = []
operands (operand text ∷ others) = text ∷ operands others
operands (given option value ∷ others) = operands others

-- the values that tokens give an option, one for each time that it stands
abbrev pub values : OptionName → List Token → List (List ℕ)
values option [] = []
values option (operand text ∷ others) = values option others
values option (given other value ∷ others) =
    if is_same option other then value ∷ values option others else values option others

-- how often an option may stand
abbrev pub most_times : CommandName → OptionName → ℕ
most_times command option = if list_any (is_same option) (shape_of command).options then 1 else 0

-- there are as many operands as the command has, and each option stands as often as it may
abbrev pub fits : CommandName → List Token → Bool
fits command arguments =
    nat_eq (length (operands arguments)) (shape_of command).operands
    && list_all (λ option. nat_le (length (values option arguments)) (most_times command option))
    (Seed ∷ Moves ∷ Rounds ∷ Trials ∷ Placed ∷ [])

-- the number that is given for an option, where it is given
abbrev pub number_of : OptionName → (values : List (List ℕ)) → Option (Option ℕ)
number_of option [] = Some None
number_of option (value ∷ others) =
    option_map Some (number_in value (least option) (greatest option))

-- what a command asks for with these operands and values of options
abbrev pub task_with : CommandName → (operand_at : ℕ → List ℕ)
    → (values_of : OptionName → List (List ℕ)) → Option Task
task_with name.Pack operand_at values_of = Some (pack (operand_at 0) (operand_at 1) (operand_at 2))
task_with name.Place operand_at values_of = do
  seed ← number_of Seed (values_of Seed)
  moves ← number_of Moves (values_of Moves)
  Some (place (operand_at 0) (operand_at 1) (operand_at 2) (operand_at 3) seed moves)
task_with name.Route operand_at values_of = do
  rounds ← number_of Rounds (values_of Rounds)
  Some (route (operand_at 0) (operand_at 1) (operand_at 2) (operand_at 3) rounds)
task_with name.Check operand_at values_of =
    let is_placed = nat_le 1 (length (values_of Placed)) in
    Some (check (operand_at 0) (operand_at 1) (operand_at 2) is_placed)
task_with name.Flow operand_at values_of = do
  seed ← number_of Seed (values_of Seed)
  moves ← number_of Moves (values_of Moves)
  rounds ← number_of Rounds (values_of Rounds)
  trials ← number_of Trials (values_of Trials)
  Some (flow (operand_at 0) (operand_at 1) (operand_at 2) seed moves rounds trials)
task_with name.Demo operand_at values_of =
    if bytes_eq (operand_at 1) (operand_at 2) then None
    else option_map (λ size. demo size (operand_at 1) (operand_at 2))
    (number_in (operand_at 0) 1 16)

-- what a command asks for with its arguments; none where they don't fit it
abbrev pub task_of : CommandName → List Token → Option Task
task_of command arguments =
    if fits command arguments
    then task_with command (λ k. slice_index_or (operands arguments) k [])
    (λ option. values option arguments)
    else None

-- what all words of a command line ask for; none where they are refused
unfoldable pub command_of : (words : List (List ℕ)) → Option Task
command_of [] = None
command_of (word ∷ words) = do
  command ← command_named word
  arguments ← tokens None words
  task_of command arguments
