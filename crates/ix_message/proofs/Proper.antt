-- A test of a form: each struct has sections that a pointer can tell, and the string table stands in the root alone.
use Rattle.std.proofs.Common.{◌≡◌, ◌+◌, ◌^◌, ℕ, Bool, true, false, refl, ltb, eqb}
use Rattle.std.specs.Prelude.{◌&&◌}
use Rattle.std.proofs.lemmas.Bool.{ltb-true, eqb-true}
use Rattle.ix_message.specs.Shape.{Struct, Pointers, struct_of, no_more, text, texts, numbers, struct, struct_or_none, boxed, structs, branches, string_table, unread}
use Rattle.ix_message.specs.Message.{ReadsAgain}
use Rattle.ix_message.proofs.Wide.{data_slots, slots_of, tables, AreSections}
use Rattle.ix_message.proofs.RawOf.{Proper, AreProper}
use Rattle.ix_message.proofs.Files.{file_again}

unfoldable pub are_sections : ℕ → ℕ → Bool
are_sections d p = ltb 0 (d + p) && (ltb d (2 ^ 16) && ltb p (2 ^ 16))

unfoldable mutual
  pub is_proper : Struct → Bool
  is_proper (struct_of c fields ps) = are_sections (data_slots fields) (slots_of ps) && (are_proper ps && eqb (tables ps) 0)

  pub are_proper : Pointers → Bool
  are_proper no_more = true
  are_proper (text c ps) = are_proper ps
  are_proper (texts c ps) = are_proper ps
  are_proper (numbers c target kind ps) = are_proper ps
  are_proper (struct c s ps) = is_proper s && are_proper ps
  are_proper (struct_or_none c s ps) = is_proper s && are_proper ps
  are_proper (boxed c kind inner s ps) = is_proper s && are_proper ps
  are_proper (structs c target s ps) = is_proper s && are_proper ps
  are_proper (branches c kind fields ps) = are_sections (data_slots fields) 1 && are_proper ps
  are_proper (string_table c ps) = are_proper ps
  are_proper (unread c ps) = are_proper ps

-- the same of a root, which has one string table
unfoldable pub is_root : Struct → Bool
is_root (struct_of c fields ps) = are_sections (data_slots fields) (slots_of ps) && (are_proper ps && eqb (tables ps) 1)

and-true : (a b : Bool) → (a && b) ≡ true → (a ≡ true) × (b ≡ true)
and-true true b e = (refl, e)
and-true false b e = absurd cc

sections-true : (d p : ℕ) → are_sections d p ≡ true → AreSections d p
unfolding are_sections
sections-true d p e =
    let first = and-true (ltb 0 (d + p)) (ltb d (2 ^ 16) && ltb p (2 ^ 16)) e in
    let second = and-true (ltb d (2 ^ 16)) (ltb p (2 ^ 16)) first.1 in
    record { some = ltb-true 0 (d + p) first.0; few_words = ltb-true d (2 ^ 16) second.0; few_pointers = ltb-true p (2 ^ 16) second.1 }

mutual
  unfolding is_proper are_proper

  proper-true : (s : Struct) → is_proper s ≡ true → Proper s
  proper-true (struct_of c fields ps) e =
      let first = and-true (are_sections (data_slots fields) (slots_of ps)) (are_proper ps && eqb (tables ps) 0) e in
      let second = and-true (are_proper ps) (eqb (tables ps) 0) first.1 in
      (sections-true (data_slots fields) (slots_of ps) first.0, all_proper-true ps second.0, eqb-true (tables ps) 0 second.1)

  all_proper-true : (ps : Pointers) → are_proper ps ≡ true → AreProper ps
  all_proper-true no_more e = tt
  all_proper-true (text c ps) e = all_proper-true ps e
  all_proper-true (texts c ps) e = all_proper-true ps e
  all_proper-true (numbers c target kind ps) e = all_proper-true ps e
  all_proper-true (struct c s ps) e = let both = and-true (is_proper s) (are_proper ps) e in (proper-true s both.0, all_proper-true ps both.1)
  all_proper-true (struct_or_none c s ps) e = let both = and-true (is_proper s) (are_proper ps) e in (proper-true s both.0, all_proper-true ps both.1)
  all_proper-true (boxed c kind inner s ps) e = let both = and-true (is_proper s) (are_proper ps) e in (proper-true s both.0, all_proper-true ps both.1)
  all_proper-true (structs c target s ps) e = let both = and-true (is_proper s) (are_proper ps) e in (proper-true s both.0, all_proper-true ps both.1)
  all_proper-true (branches c kind fields ps) e =
      let both = and-true (are_sections (data_slots fields) 1) (are_proper ps) e in (sections-true (data_slots fields) 1 both.0, all_proper-true ps both.1)
  all_proper-true (string_table c ps) e = all_proper-true ps e
  all_proper-true (unread c ps) e = all_proper-true ps e

pub message_again : (s : Struct) → is_root s ≡ true → ReadsAgain s
unfolding is_root
message_again (struct_of c fields ps) e =
    let first = and-true (are_sections (data_slots fields) (slots_of ps)) (are_proper ps && eqb (tables ps) 1) e in
    let second = and-true (are_proper ps) (eqb (tables ps) 1) first.1 in
    file_again c fields ps (sections-true (data_slots fields) (slots_of ps) first.0) (all_proper-true ps second.0) (eqb-true (tables ps) 1 second.1)
