-- Words read one by one, for private contracts.
use Rattle.std.specs.Prelude.{◌≡◌, ℕ, List, ◌∷◌, ◌++◌, map, Option, Some, None, MatchOption}
use Rattle.std.specs.Prelude.{option_map}
use Rattle.ix_words.specs.declared.options.OptionName.{OptionName}
use Rattle.ix_words.specs.declared.token.Token as code
use Rattle.ix_words.specs.declared.token.Token.TheVariants as a_token
use Rattle.ix_words.specs.declared.token.Expected.{Expected}
use Rattle.ix_words.specs.declared.token.Expected.TheVariants as expected
use Rattle.ix_words.specs.declared.token.Step.{Step}
use Rattle.ix_words.specs.Words.{Token, operand, given, tokens, after}

-- a token that the code holds
abbrev pub token_view : code.Token → Token
token_view (a_token.Operand text) = operand text.now
token_view (a_token.Given option value) = given option value.now

-- tokens after a token, if there is one
abbrev pub after_any : Option code.Token → Option (List Token) → Option (List Token)
after_any None others = others
after_any (Some token) others = after (token_view token) others

-- the tokens of words of which the first is as expected
abbrev pub tokens_from : Expected → (words : List (List ℕ)) → Option (List Token)
tokens_from expected.Any words = tokens None words
tokens_from (expected.Value option) words = tokens (Some option) words
tokens_from expected.Operand words = Some (map operand words)

-- Reading a word gives this: whatever the words after it, theirs and its own are the tokens of all.
abbrev pub Reads : Expected → (word : List ℕ) → Option Step → Type 0
Reads expected word step = MatchOption step
    ((words : List (List ℕ)) → tokens_from expected (word ∷ words) ≡ None)
    (λ step. (words : List (List ℕ)) → tokens_from expected (word ∷ words)
    ≡ after_any step.token (tokens_from step.expected words))

-- the same of a word that is an option
abbrev pub ReadsOption : (told : (Option OptionName → Option (List Token)) → Option (List Token))
    → Option Step → Type 0
ReadsOption told step = MatchOption step
    ((words : List (List ℕ)) → told (λ waits. tokens waits words) ≡ None)
    (λ step. (words : List (List ℕ)) → told (λ waits. tokens waits words)
    ≡ after_any step.token (tokens_from step.expected words))

-- tokens that stand after others
abbrev pub behind : (done : List Token) → Option (List Token) → Option (List Token)
behind done others = option_map (λ more. done ++ more) others
