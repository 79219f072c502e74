-- The walk over the words after a command.
use Rattle.std.proofs.Common.{◌≡◌, ℕ, ◌+◌, ◌<◌, ◌≤◌, List, [], ◌∷◌, ◌++◌, length, map, drop, get_or}
use Rattle.std.proofs.Common.{Option, Some, None, refl, sym, ap, ◌∙◌, append_assoc}
use Rattle.std.proofs.Common.{add-one, suc, ◌⊎◌, inl, inr}
use Rattle.std.proofs.lemmas.List.{append-nil, get_or-map, length-map}
use Rattle.std.proofs.Math.ListN.{drop_of_length-le}
use Rattle.std.proofs.Math.Seq.{drop-cons}
use Rattle.ix_words.specs.declared.options.OptionName.{OptionName}
use Rattle.ix_words.specs.declared.arguments.Arguments.{Arguments}
use Rattle.ix_words.specs.declared.token.Expected.{Expected}
use Rattle.ix_words.specs.declared.token.Expected.TheVariants as expected
use Rattle.ix_words.specs.declared.token.Token as code
use Rattle.ix_words.specs.Reading.{after_any, behind, token_view, tokens_from}
use Rattle.ix_words.specs.Arguments.{Adds, AreArguments}
use Rattle.ix_words.specs.Words.{Token, after, tokens}

-- Of all words these are still to come, and what is kept is of the tokens before them.
abbrev pub SoFar : (words others : List (List ℕ)) → Expected → Arguments → Type 0
SoFar words others next kept = (done : List Token) × AreArguments kept done
    × (tokens None words ≡ behind done (tokens_from next others))

behind_more : (done : List Token) (token : Token) (others : Option (List Token))
    → behind done (after token others) ≡ behind (done ++ token ∷ []) others
behind_more done token None = refl
behind_more done token (Some others) =
    ap (λ all. Some all) (sym (append_assoc done (token ∷ []) others))

-- a word that breaks a rule
pub stopped : (words : List (List ℕ)) (word : List ℕ) (others : List (List ℕ)) (next : Expected)
    (kept : Arguments) → SoFar words (word ∷ others) next kept
    → ((rest : List (List ℕ)) → tokens_from next (word ∷ rest) ≡ None) → tokens None words ≡ None
stopped words word others next kept h none = h.2 ∙ ap (behind h.0) (none others)

-- a word that ends a token, which is kept
pub kept_token : (words : List (List ℕ)) (word : List ℕ) (others : List (List ℕ))
    (next then : Expected) (before now : Arguments) (token : code.Token) (held : Option code.Token)
    → SoFar words (word ∷ others) next before
    → ((rest : List (List ℕ)) → tokens_from next (word ∷ rest)
    ≡ after_any held (tokens_from then rest))
    → held ≡ Some token → Adds (token_view token) before now → SoFar words others then now
kept_token words word others next then before now token held h read is adds = (
  h.0 ++ token_view token ∷ [],
  adds h.0 h.1,
  h.2 ∙ ap (behind h.0) (read others ∙ ap (λ t. after_any t (tokens_from then others)) is)
      ∙ behind_more h.0 (token_view token) (tokens_from then others),
)

-- a word that ends no token
pub kept_none : (words : List (List ℕ)) (word : List ℕ) (others : List (List ℕ))
    (next then : Expected) (kept : Arguments) (held : Option code.Token)
    → SoFar words (word ∷ others) next kept
    → ((rest : List (List ℕ)) → tokens_from next (word ∷ rest)
    ≡ after_any held (tokens_from then rest))
    → held ≡ None → SoFar words others then kept
kept_none words word others next then kept held h read is = (
  h.0,
  h.1,
  h.2 ∙ ap (behind h.0)
      (read others ∙ ap (λ t. after_any t (tokens_from then others)) is),
)

-- the word at an index, and those after it
pub word_at : {X : Type 0} (bytes : X → List ℕ) (words : List X) (i : ℕ) (word : X) (text : List ℕ)
    → i < length words → word ≡ get_or words i word → text ≡ bytes word
    → drop i (map bytes words) ≡ text ∷ drop (i + 1) (map bytes words)
word_at bytes words i word text inside is told =
    let room : i < length (map bytes words) = rw (length-map words bytes) inside in
    let first : get_or (map bytes words) i [] ≡ text
    = get_or-map bytes words i word [] inside ∙ sym (told ∙ ap bytes is) in
    drop-cons (map bytes words) i [] room
    ∙ ap (λ t. t ∷ drop (suc i) (map bytes words)) first
    ∙ ap (λ k. text ∷ drop k (map bytes words)) (sym (add-one i))

pub none_left : {X : Type 0} (bytes : X → List ℕ) (words : List X) (i : ℕ) → length words ≤ i
    → drop i (map bytes words) ≡ []
none_left bytes words i past =
    drop_of_length-le (map bytes words) (rw (length-map words bytes) past)

-- at the end an option has no value
pub unfinished : (words : List (List ℕ)) (next : Expected) (option : OptionName) (kept : Arguments)
    → SoFar words [] next kept → next ≡ expected.Value option → tokens None words ≡ None
unfolding tokens
unfinished words next option kept h is = h.2 ∙ ap (λ e. behind h.0 (tokens_from e [])) is

-- at the end all tokens are kept
pub finished : (words : List (List ℕ)) (next : Expected) (kept : Arguments)
    → SoFar words [] next kept
    → (next ≡ expected.Any) ⊎ (next ≡ expected.Operand)
    → (all : List Token) × (tokens None words ≡ Some all) × AreArguments kept all
unfolding tokens
finished words next kept h is = (h.0, h.2 ∙ ends next h.0 is, h.1)
  where
    ends : (next : Expected) (done : List Token)
        → (next ≡ expected.Any) ⊎ (next ≡ expected.Operand)
        → behind done (tokens_from next []) ≡ Some done
    ends next done (inl any) = ap (λ e. behind done (tokens_from e [])) any
        ∙ ap (λ all. Some all) (append-nil done)
    ends next done (inr operand) = ap (λ e. behind done (tokens_from e [])) operand
        ∙ ap (λ all. Some all) (append-nil done)
