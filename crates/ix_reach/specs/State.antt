-- What a search keeps, and what its small steps do to it.
use Rattle.std.specs.Prelude.{◌≡◌, ◌≢◌, ℕ, ◌+◌, ◌-◌, ◌<◌, ◌≤◌, ◌⊎◌, min, List, [], ◌∷◌, ◌++◌}
use Rattle.std.specs.Prelude.{length}
use Rattle.std.specs.Prelude.{Option, Some, None, slice_get, slice_set, take, Bool, true, false}
use Rattle.std.specs.Prelude.{replicate}
use Rattle.ix_reach.specs.declared.search.Mark.{Mark}
use Rattle.ix_reach.specs.declared.search.Mark.TheVariants.{New, Open, Closed}
use Rattle.ix_reach.specs.declared.search.Search.{Search}
use Rattle.ix_reach.specs.declared.search.Visit.{Visit}

pub record State : Type 0 where
  pub marks : List Mark
  pub open_ones : List ℕ
  pub parts : List ℕ
  pub visits : List Visit
  pub met : List ℕ
  pub closed : List ℕ
  pub looped : Option ℕ

abbrev pub state_of : Search → State
state_of s = record {
  marks = s.marks.items;
  open_ones = s.opened.items;
  parts = s.parts.items;
  visits = s.visits.items;
  met = s.met.items;
  closed = s.closed.items;
  looped = s.looped;
}

-- the lesser of a number and the one that there is
abbrev pub lesser_of : Option ℕ → ℕ → ℕ
lesser_of None b = b
lesser_of (Some a) b = min a b

abbrev pub first_of_two : Option ℕ → Option ℕ → Option ℕ
first_of_two a None = a
first_of_two a (Some b) = Some (lesser_of a b)

-- nothing was met yet
abbrev pub started : (declarations : ℕ) → State
started declarations = record {
  marks = replicate declarations New;
  open_ones = [];
  parts = [];
  visits = [];
  met = [];
  closed = [];
  looped = None;
}

abbrev pub with_visit : State → Visit → State
with_visit s visit = record s { visits = s.visits ++ visit ∷ [] }

-- a declaration is opened, as a part of its own, with its first cell
abbrev pub entered : State → (declaration : ℕ) → (cell : Option ℕ) → State
entered s declaration cell = record {
  marks = slice_set s.marks declaration (Open (length s.open_ones));
  open_ones = s.open_ones ++ declaration ∷ [];
  parts = s.parts ++ length s.open_ones ∷ [];
  visits = s.visits ++ record { opened = length s.open_ones; cell = cell; place = 0 } ∷ [];
  met = s.met ++ declaration ∷ [];
  closed = s.closed;
  looped = s.looped;
}

-- parts behind a place are gone
pub record AreGone (parts : List ℕ) (place : ℕ) (kept : List ℕ) : Type 0 where
  pub rest : List ℕ
  pub is : parts ≡ kept ++ rest
  pub gone : (i p : ℕ) → slice_get rest i ≡ Some p → place < p

-- the parts up to the one with a place: all behind it are gone
pub record IsKept (parts : List ℕ) (place : ℕ) (kept : List ℕ) : Type 0 where
  pub are : AreGone parts place kept
  pub last : (p : ℕ) → slice_get kept (length kept - 1) ≡ Some p → p ≤ place

-- a declaration that was found by the mark that it had
abbrev pub IsGone : State → (declaration : ℕ) → (cell : Option ℕ) → Option Mark → State → Type 0
IsGone s declaration cell None after = ⊥
IsGone s declaration cell (Some New) after = after ≡ entered s declaration cell
IsGone s declaration cell (Some (Open place)) after = (parts : List ℕ)
    × IsKept s.parts place parts
    × (after ≡ record s { parts = parts; looped = Some (lesser_of s.looped declaration) })
IsGone s declaration cell (Some Closed) after = after ≡ s

-- the number is not before the least that is known to contain itself
abbrev pub IsLooped : Option ℕ → ℕ → Type 0
IsLooped looped declaration = (least : ℕ) × (looped ≡ Some least) × (least ≤ declaration)

-- what closing changes
pub record Closing : Type 0 where
  pub marks : List Mark
  pub open_ones : List ℕ
  pub closed : List ℕ
  pub looped : Option ℕ

abbrev pub closing_of : State → Closing
closing_of s = record {
  marks = s.marks;
  open_ones = s.open_ones;
  closed = s.closed;
  looped = s.looped;
}

-- The open ones from one on are closed, of a part that begins at a place.
pub record IsClosedFrom (s : Closing) (place from : ℕ) (after : Closing) : Type 0 where
  pub open_ones : after.open_ones ≡ take from s.open_ones
  pub rest : List ℕ
  pub closed : after.closed ≡ s.closed ++ rest
  pub rest_many : length rest + from ≡ length s.open_ones
  pub rest_is : (i j d : ℕ) → slice_get rest i ≡ Some d → i + j + 1 ≡ length s.open_ones
      → slice_get s.open_ones j ≡ Some d
  pub marks_many : length after.marks ≡ length s.marks
  pub closing : (i d : ℕ) → from ≤ i → slice_get s.open_ones i ≡ Some d
      → slice_get after.marks d ≡ Some Closed
  pub others : (d : ℕ) → ((i : ℕ) → from ≤ i → slice_get s.open_ones i ≢ Some d)
      → slice_get after.marks d ≡ slice_get s.marks d
  -- two or more of them contain themselves
  pub looped_from : (least : ℕ) → after.looped ≡ Some least → (s.looped ≡ Some least)
      ⊎ ((place + 1 < length s.open_ones)
      × ((i : ℕ) × (from ≤ i) × (slice_get s.open_ones i ≡ Some least)))
  pub looped_more : (d : ℕ) → IsLooped s.looped d → IsLooped after.looped d
  pub looped_each : (i d : ℕ) → place + 1 < length s.open_ones → from ≤ i
      → slice_get s.open_ones i ≡ Some d → IsLooped after.looped d

-- the least that is known to contain itself, with one more where there are several
abbrev pub next_looped : Bool → Option ℕ → ℕ → Option ℕ
next_looped true looped declaration = Some (lesser_of looped declaration)
next_looped false looped declaration = looped

abbrev pub last_of : List ℕ → Option ℕ
last_of parts = slice_get parts (length parts - 1)

-- the state without the last part
abbrev pub with_closed : State → Closing → State
with_closed s c = record {
  marks = c.marks;
  open_ones = c.open_ones;
  parts = take (length s.parts - 1) s.parts;
  visits = s.visits;
  met = s.met;
  closed = c.closed;
  looped = c.looped;
}

-- a declaration was left: the part that begins with it is closed
abbrev pub IsLeft : State → (place : ℕ) → State → Type 0
IsLeft s place after = ((last_of s.parts ≢ Some place) × (after ≡ s))
    ⊎ ((last_of s.parts ≡ Some place) × ((c : Closing)
    × IsClosedFrom (closing_of s) place place c × (after ≡ with_closed s c)))
