-- How the words after a command are read. A text is the list of its bytes.
use Rattle.std.specs.Prelude.{ℕ, ◌==◌, List, [], ◌∷◌, map, Bool, true, false}
use Rattle.std.specs.Prelude.{Option, Some, None, option_map, if◌then◌else◌, codes, bytes_eq}
use Rattle.std.specs.List.{list_any, before_first, after_first}
use Rattle.ix_words.specs.declared.options.OptionName.{OptionName}
use Rattle.ix_words.specs.declared.options.OptionName.TheVariants.{Seed, Moves, Rounds, Trials}
use Rattle.ix_words.specs.declared.options.OptionName.TheVariants.{Placed}

-- an operand, or an option with its value; that of a flag is empty
pub data Token : Type 0 where
  operand : (text : List ℕ) → Token
  given : OptionName → (value : List ℕ) → Token

-- begins with `-`, which is 45, and isn't `-` alone
abbrev pub is_dashed : (word : List ℕ) → Bool
is_dashed [] = false
is_dashed (first ∷ []) = false
is_dashed (first ∷ second ∷ rest) = first == 45

-- the option of this name
abbrev pub option_named : (name : List ℕ) → Option OptionName
option_named name =
    if bytes_eq name (codes "--seed") then Some Seed
    else if bytes_eq name (codes "--moves") then Some Moves
    else if bytes_eq name (codes "--rounds") then Some Rounds
    else if bytes_eq name (codes "--trials") then Some Trials
    else if bytes_eq name (codes "--placed") then Some Placed
    else None

-- whether an option has a value; one that has none is a flag
abbrev pub has_value : OptionName → Bool
has_value Placed = false
has_value option = true

-- `=`
abbrev pub is_equals : (byte : ℕ) → Bool
is_equals byte = byte == 61

-- tokens after a token
abbrev pub after : Token → Option (List Token) → Option (List Token)
after token tokens = option_map (λ others. token ∷ others) tokens

-- `--name=VALUE`: the tokens, where `others` are those of the words after it
abbrev pub joined : Option OptionName → (value : List ℕ) → (others : Option (List Token))
    → Option (List Token)
joined None value others = None
joined (Some option) value others =
    if has_value option then after (given option value) others else None

-- `--name`: the tokens, where `others` are those of the words after it, of which the first is the
-- value of an option if one waits for it
abbrev pub alone : Option OptionName → (others : Option OptionName → Option (List Token))
    → Option (List Token)
alone None others = None
alone (Some option) others =
    if has_value option then others (Some option) else after (given option []) (others None)

-- A word that is an option: the text before its first `=` is the name, and what stands behind it
-- the value.
abbrev pub option_word : (word : List ℕ) (others : Option OptionName → Option (List Token))
    → Option (List Token)
option_word word others =
    if list_any is_equals word
    then joined (option_named (before_first is_equals word)) (after_first is_equals word)
    (others None)
    else alone (option_named word) others

-- The tokens of the words after a command, where `waits` is an option that is still to get its
-- value; none where the words break a rule.
unfoldable pub tokens : (waits : Option OptionName) (words : List (List ℕ))
    → Option (List Token)
tokens None [] = Some []
-- an option without its value
tokens (Some option) [] = None
-- a value in a word of its own doesn't begin with `-`, unless it is `-` alone
tokens (Some option) (value ∷ words) =
    if is_dashed value then None else after (given option value) (tokens None words)
-- `--` ends the options; before it a word that begins with `-`, and isn't `-` alone, is an option;
-- every other word is an operand
tokens None (word ∷ words) =
    if bytes_eq word (codes "--") then Some (map operand words)
    else if is_dashed word then option_word word (λ waits. tokens waits words)
    else after (operand word) (tokens None words)
