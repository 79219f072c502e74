-- How long the lists of a message are.
use Rattle.std.specs.Prelude.{ℕ, ◌≤◌, length}
use Rattle.std.specs.List.{AllByRecursion}
use Rattle.ix_message.specs.Shape.{Struct, Pointers, Value, Parts, struct_of, no_more, text, texts}
use Rattle.ix_message.specs.Shape.{numbers, struct, struct_or_none, boxed, structs, branches}
use Rattle.ix_message.specs.Shape.{string_table, unread}
use Rattle.ix_message.specs.Records.{IfThere}
use Rattle.ix_device_read.specs.Premises.{branches_in}

-- no list of the struct, and of the structs behind its pointers, has more entries than this
unfoldable mutual
  pub ListsWithin : ℕ → (N : Type 0) → (s : Struct) → Value N s → Type 0
  ListsWithin most N (struct_of called fields ps) v = PartListsWithin most N ps v.1

  pub PartListsWithin : ℕ → (N : Type 0) → (ps : Pointers) → Parts N ps → Type 0
  PartListsWithin most N no_more v = Unit {0}
  PartListsWithin most N (text c ps) v = PartListsWithin most N ps v.1
  PartListsWithin most N (texts c ps) v = (length v.0 ≤ most) × PartListsWithin most N ps v.1
  PartListsWithin most N (numbers c target kind ps) v = (length v.0 ≤ most)
      × PartListsWithin most N ps v.1
  PartListsWithin most N (struct c s ps) v = ListsWithin most N s v.0
      × PartListsWithin most N ps v.1
  PartListsWithin most N (struct_or_none c s ps) v = IfThere (ListsWithin most N s) v.0
      × PartListsWithin most N ps v.1
  PartListsWithin most N (boxed c kind inner s ps) v = (length v.0 ≤ most)
      × AllByRecursion (ListsWithin most N s) v.0 × PartListsWithin most N ps v.1
  PartListsWithin most N (structs c target s ps) v = (length v.0 ≤ most)
      × AllByRecursion (ListsWithin most N s) v.0 × PartListsWithin most N ps v.1
  PartListsWithin most N (branches c kind fields ps) v = (branches_in v.0 ≤ most)
      × PartListsWithin most N ps v.1
  PartListsWithin most N (string_table c ps) v = PartListsWithin most N ps v
  PartListsWithin most N (unread c ps) v = PartListsWithin most N ps v
