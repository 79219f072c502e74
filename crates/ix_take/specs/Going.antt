-- Steps one after another.
use Rattle.std.specs.Prelude.{◌≡◌, ℕ, List, [], ◌∷◌, ◌++◌, true, false, Result, Ok, Err}
use Rattle.std.proofs.Common.{refl, ◌∙◌}
use Rattle.ix_frame.specs.Result.{◌>>=◌}
use Rattle.ix_message.specs.Indexes.{Item, Step, begun, asked}
use Rattle.ix_message.specs.Shape.{Struct}
use Rattle.ix_take.specs.Views.{Stops, kind_word, field_word}
use Rattle.ix_take.specs.Walked.{begin, walked}
use Rattle.ix_take.specs.declared.stop.Stop.{Stop}
use Rattle.ix_take.specs.declared.stop.Stop.TheVariants.{OutOfList, Memory}

pub walked_on : (ss : List Struct) (counts : List ℕ) (xs ys : List Step)
    → walked ss counts (xs ++ ys) ≡ (walked ss counts xs >>= λ now. walked ss now ys)
unfolding walked
walked_on ss counts [] ys = refl
walked_on ss counts (begun kind ∷ xs) ys = walked_on ss (begin ss kind counts) xs ys
walked_on ss counts (asked kind called true ∷ xs) ys = walked_on ss counts xs ys
walked_on ss counts (asked kind called false ∷ xs) ys = refl

pub walked_then : (ss : List Struct) (counts now : List ℕ) (xs ys : List Step)
    → walked ss counts xs ≡ Ok now → walked ss counts (xs ++ ys) ≡ walked ss now ys
walked_then ss counts now xs ys is = walked_on ss counts xs ys ∙ rw is refl

pub walked_fails : (ss : List Struct) (counts : List ℕ) (xs ys : List Step) (i : Item)
    → walked ss counts xs ≡ Err i → walked ss counts (xs ++ ys) ≡ Err i
walked_fails ss counts xs ys i is = walked_on ss counts xs ys ∙ rw is refl

-- What stops a part stops the whole.
pub stops_on : (ss : List Struct) (e : Stop) (part whole : Result (List ℕ) Item)
    → Stops ss e part → ((bad : Item) → part ≡ Err bad → whole ≡ Err bad) → Stops ss e whole
stops_on ss Memory part whole h on = tt
stops_on ss (OutOfList kind field i) part whole h on =
    on (record { kind = kind_word ss kind; field = field_word ss kind field; index = i }) h

-- what stops the first steps stops all of them
pub stops_first : (ss : List Struct) (e : Stop) (counts : List ℕ) (xs ys : List Step)
    → Stops ss e (walked ss counts xs) → Stops ss e (walked ss counts (xs ++ ys))
stops_first ss e counts xs ys h =
    stops_on ss e (walked ss counts xs) (walked ss counts (xs ++ ys)) h
    (λ bad is. walked_fails ss counts xs ys bad is)
