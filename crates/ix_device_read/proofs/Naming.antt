-- Names within a limit.
use Rattle.std.proofs.Common.{◌≡◌, ◌≤◌, ◌<◌, ℕ, zero, suc, List, [], ◌∷◌, ◌++◌, length, slice_get, arith}
use Rattle.std.specs.Prelude.{Some}
use Rattle.std.specs.List.{AllByRecursion}
use Rattle.std.proofs.lemmas.Option.{slice_get_within, same_Some, none-some}
use Rattle.ix_message.specs.Shape.{Text}
use Rattle.ix_device_read.specs.Loose.{AreNumbersOf}
use Rattle.ix_device_read.specs.Named.{above, limit}

pub all_push : {A : Type 0} (P : A → Type 0) (xs : List A) (y : A) → AllByRecursion P xs → P y → AllByRecursion P (xs ++ y ∷ [])
all_push P [] y h here = (here, tt)
all_push P (x ∷ xs) y h here = (h.0, all_push P xs y h.1 here)

above_each : (ids : List ℕ) (i id : ℕ) → slice_get ids i ≡ Some id → id < above ids
above_each [] i id at = absurd (none-some id at)
above_each (x ∷ xs) zero id at = let e : x ≡ id = same_Some x id at in omega arith
above_each (x ∷ xs) (suc i) id at = let h = above_each xs i id at in omega arith

-- each string is below the limit, and each name
pub string_below : (strings : List ℕ) (names : List Text) (i id : ℕ) → slice_get strings i ≡ Some id → id < limit strings names
unfolding limit
string_below strings names i id at = let h = above_each strings i id at in omega arith

pub name_below : (strings : List ℕ) (names : List Text) (id : ℕ) → id < length names → id < limit strings names
unfolding limit
name_below strings names id h = omega arith

above_names : (names : List Text) (ids : List ℕ) (ts : List Text) → AreNumbersOf names ids ts → above ids ≤ length names
above_names names [] ts h = omega arith
above_names names (id ∷ ids) [] h = absurd h
above_names names (id ∷ ids) (t ∷ ts) h = let a = slice_get_within names id t h.0 in let b = above_names names ids ts h.1 in omega arith

-- where the strings are names, the limit is how many names there are
pub limit_is : (names : List Text) (ids : List ℕ) (ts : List Text) → AreNumbersOf names ids ts → limit ids names ≡ length names
unfolding limit
limit_is names ids ts h = let a = above_names names ids ts h in omega arith
