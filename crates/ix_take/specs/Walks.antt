-- What the walk over the steps of a message finds.
use Prim.Native.String.{String}
use Rattle.std.specs.Prelude.{◌≡◌, ℕ, ◌-◌, ◌^◌, ◌≤◌, List, [], ◌∷◌, length, replicate, Bool, true}
use Rattle.std.specs.Prelude.{false, codes, if◌then◌else◌, Option, Some, None, Result, Ok, Err}
use Rattle.std.specs.List.{AllByRecursion}
use Rattle.ix_message.specs.Indexes.{Item, Step, begun, asked, first_unfit}
use Rattle.ix_message.specs.Names.{same_text}
use Rattle.ix_message.specs.Shape.{Struct}
use Rattle.ix_take.specs.Walked.{kinds_of, walked, begun_in}

abbrev pub has_kind : List String → String → Bool
has_kind [] kind = false
has_kind (k ∷ ks) kind = if same_text (codes k) (codes kind) then true else has_kind ks kind

-- the steps are of structs that are counted
abbrev pub IsOfKind : List Struct → Step → Type 0
IsOfKind structs (begun kind) = has_kind (kinds_of structs) kind ≡ true
IsOfKind structs (asked kind called fit) = has_kind (kinds_of structs) kind ≡ true

abbrev pub AreOfKinds : List Struct → List Step → Type 0
AreOfKinds structs steps = AllByRecursion (IsOfKind structs) steps

-- what a walk stopped at
abbrev pub stopped : Result (List ℕ) Item → Option Item
stopped (Ok counts) = None
stopped (Err item) = Some item

-- Where no struct is begun more often than is counted, the walk from no counts finds what the
-- definition of a message finds.
abbrev pub FindsFirst : Type 0
FindsFirst = (structs : List Struct) (steps : List Step) → length structs ≤ 32
    → AreOfKinds structs steps → begun_in steps ≤ 2 ^ 32 - 1
    → stopped (walked structs (replicate 32 0) steps) ≡ first_unfit [] steps
