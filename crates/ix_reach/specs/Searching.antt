-- What a search from the top knows at each step.
use Rattle.std.specs.Prelude.{◌≡◌, ◌≢◌, ℕ, ◌+◌, ◌-◌, ◌*◌, ◌<◌, ◌≤◌, ◌⊎◌, List, []}
use Rattle.std.specs.Prelude.{Option, Some, None, slice_get, take, drop, length, count_by, Bool}
use Rattle.std.specs.Prelude.{true, false}
use Rattle.std.specs.List.{sum_by}
use Rattle.ix_rec.specs.declared.netlist.Cell.{Cell}
use Rattle.ix_rec.specs.declared.netlist.CellInstance.{CellInstance}
use Rattle.ix_rec.specs.declared.netlist.NetlistRec.{NetlistRec}
use Rattle.ix_hierarchy.specs.Broken.{ContainsItself, Reaches}
use Rattle.ix_reach.specs.declared.search.Mark.{Mark}
use Rattle.ix_reach.specs.declared.search.Mark.TheVariants.{New, Open, Closed}
use Rattle.ix_reach.specs.declared.search.Visit.{Visit}
use Rattle.ix_reach.specs.State.{State, IsLooped}

abbrev pub IsIn : List ℕ → ℕ → Type 0
IsIn xs x = (i : ℕ) × (slice_get xs i ≡ Some x)

-- by the place of a cell of the outer one and the place in it
pub record IsAt (design : NetlistRec) (outer number place inner : ℕ) : Type 0 where
  pub cell : Cell
  pub cell_is : slice_get design.cell_list number ≡ Some cell
  pub of_outer : cell.index ≡ outer
  pub instance : ℕ
  pub has : slice_get cell.insts place ≡ Some instance
  pub inst : CellInstance
  pub inst_is : slice_get design.inst_list instance ≡ Some inst
  pub of_inner : inst.cell ≡ inner

-- all that its members contain is in it
abbrev pub IsWhole : NetlistRec → List ℕ → Type 0
IsWhole design xs = (outer number place inner : ℕ) → IsIn xs outer
    → IsAt design outer number place inner → IsIn xs inner

-- a place of a declaration that a visit still comes to
abbrev pub IsToCome : Option ℕ → (from number place : ℕ) → Type 0
IsToCome None from number place = ⊥
IsToCome (Some cell) from number place =
    (cell < number) ⊎ ((cell ≡ number) × (from ≤ place))

-- no part begins between the second place and the first
abbrev pub IsNotBefore : List ℕ → (i j : ℕ) → Type 0
IsNotBefore parts i j = (a p : ℕ) → slice_get parts a ≡ Some p → p ≤ i → p ≤ j

-- What an open declaration contains was found: it is closed, or open in no earlier part.
abbrev pub IsFound : State → (i inner : ℕ) → Type 0
IsFound s i inner = IsIn s.closed inner ⊎ ((j : ℕ) × (slice_get s.open_ones j ≡ Some inner)
    × ((i < j) ⊎ (IsLooped s.looped inner × IsNotBefore s.parts i j)))

abbrev pub IsStillToCome : State → (i number place : ℕ) → Type 0
IsStillToCome s i number place = (m : ℕ) × (visit : Visit)
    × (slice_get s.visits m ≡ Some visit) × (visit.opened ≡ i)
    × IsToCome visit.cell visit.place number place

-- a place of one that was met before, with all at lesser places of it in a whole list
pub record IsMetFrom (design : NetlistRec) (met : List ℕ) (n declaration : ℕ) : Type 0 where
  pub m : ℕ
  pub before : m < n
  pub outer : ℕ
  pub outer_is : slice_get met m ≡ Some outer
  pub number : ℕ
  pub place : ℕ
  pub at : IsAt design outer number place declaration
  pub done : List ℕ
  pub whole : IsWhole design done
  pub earlier : (x : ℕ) → IsIn done x → IsIn (take n met) x
  pub sides : (k q inner : ℕ) → IsAt design outer k q inner
      → (k < number) ⊎ ((k ≡ number) × (q < place)) → IsIn done inner

abbrev pub IsMet : NetlistRec → List ℕ → (n declaration : ℕ) → Type 0
IsMet design met n declaration =
    ((n ≡ 0) × (declaration ≡ design.top_inst.cell)) ⊎ IsMetFrom design met n declaration

abbrev pub AreDifferent : List ℕ → Type 0
AreDifferent xs = (i j x : ℕ) → slice_get xs i ≡ Some x → slice_get xs j ≡ Some x → i ≡ j

-- marks and lists agree
pub record AreMarked (design : NetlistRec) (marks : List Mark) (open_ones met closed : List ℕ)
    : Type 0 where
  pub many : length marks ≡ length design.cell_decls
  pub open_is : (i d : ℕ) → slice_get open_ones i ≡ Some d → slice_get marks d ≡ Some (Open i)
  pub is_open : (i d : ℕ) → slice_get marks d ≡ Some (Open i) → slice_get open_ones i ≡ Some d
  pub closed_is : (i d : ℕ) → slice_get closed i ≡ Some d → slice_get marks d ≡ Some Closed
  pub is_closed : (d : ℕ) → slice_get marks d ≡ Some Closed → IsIn closed d
  pub met_not_new : (i d : ℕ) → slice_get met i ≡ Some d → slice_get marks d ≢ Some New
  pub open_met : (i d : ℕ) → slice_get marks d ≡ Some (Open i) → IsIn met d
  pub closed_met : (d : ℕ) → slice_get marks d ≡ Some Closed → IsIn met d
  pub reached : (i d : ℕ) → slice_get met i ≡ Some d → Reaches design design.top_inst.cell d
  pub met_differ : AreDifferent met
  pub closed_differ : AreDifferent closed

-- parts and visits are of open declarations, and rise
pub record AreStacked (design : NetlistRec) (open_ones parts : List ℕ) (visits : List Visit)
    : Type 0 where
  pub parts_rise : (a b p q : ℕ) → a < b → slice_get parts a ≡ Some p
      → slice_get parts b ≡ Some q → p < q
  pub parts_open : (a p : ℕ) → slice_get parts a ≡ Some p → p < length open_ones
  pub parts_first : 0 < length open_ones → IsIn parts 0
  pub parts_visited : (a p : ℕ) → slice_get parts a ≡ Some p
      → (m : ℕ) × (visit : Visit) × (slice_get visits m ≡ Some visit) × (visit.opened ≡ p)
  pub visits_rise : (a b : ℕ) (v w : Visit) → a < b → slice_get visits a ≡ Some v
      → slice_get visits b ≡ Some w → v.opened < w.opened
  pub visits_open : (a : ℕ) (v : Visit) → slice_get visits a ≡ Some v
      → v.opened < length open_ones
  pub visits_cell : (a : ℕ) (v : Visit) (number : ℕ) → slice_get visits a ≡ Some v
      → v.cell ≡ Some number → (cell : Cell) × (slice_get design.cell_list number ≡ Some cell)
      × (slice_get open_ones v.opened ≡ Some cell.index) × (v.place ≤ length cell.insts)

-- while none is known to contain itself, the open ones are a way down
pub record IsStraight (design : NetlistRec) (s : State) : Type 0 where
  pub many : length s.visits ≡ length s.open_ones
  pub visit_is : (m : ℕ) (v : Visit) → slice_get s.visits m ≡ Some v → v.opened ≡ m
  pub each : (i : ℕ) → i < length s.open_ones → IsIn s.parts i
  pub met_is : (n d : ℕ) → slice_get s.met n ≡ Some d → IsMet design s.met n d

pub record IsSearching (design : NetlistRec) (s : State) : Type 0 where
  pub marked : AreMarked design s.marks s.open_ones s.met s.closed
  pub stacked : AreStacked design s.open_ones s.parts s.visits
  -- one of a part reaches the others and those of later parts
  pub joined : (i j a b : ℕ) → slice_get s.open_ones i ≡ Some a
      → slice_get s.open_ones j ≡ Some b → IsNotBefore s.parts i j → Reaches design a b
  pub found : (i d number place inner : ℕ) → slice_get s.open_ones i ≡ Some d
      → IsAt design d number place inner
      → IsFound s i inner ⊎ IsStillToCome s i number place
  pub whole : IsWhole design s.closed
  pub behind : (i d : ℕ) → slice_get s.closed i ≡ Some d → IsLooped s.looped d
      ⊎ (IsWhole design (take i s.closed) × ((number place inner : ℕ)
      → IsAt design d number place inner → IsIn (take i s.closed) inner))
  pub looped_is : (d : ℕ) → s.looped ≡ Some d → ContainsItself design d
  pub straight : s.looped ≡ None → IsStraight design s

-- the same, and the top was met
pub record IsSearch (design : NetlistRec) (s : State) : Type 0 where
  pub is : IsSearching design s
  pub top_met : IsIn s.met design.top_inst.cell

-- the search has ended
pub record IsSearched (design : NetlistRec) (s : State) : Type 0 where
  pub search : IsSearch design s
  pub visits : s.visits ≡ []

-- how many steps a search still takes at most
abbrev pub work_behind : List Cell → ℕ
work_behind cells = sum_by (λ cell. length cell.insts + 2) cells

abbrev pub work_at : NetlistRec → Option ℕ → (place : ℕ) → ℕ
work_at design None place = 1
work_at design (Some number) place = work_behind (drop number design.cell_list) - place

abbrev pub is_new : Mark → Bool
is_new New = true
is_new (Open place) = false
is_new Closed = false

abbrev pub work_of : NetlistRec → State → ℕ
work_of design s = sum_by (λ visit. work_at design visit.cell visit.place) s.visits
    + count_by is_new s.marks * (work_behind design.cell_list + 2)
