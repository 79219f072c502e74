-- Walking over the steps of a rule, with how many structs of each kind were begun.
use Prim.Native.String.{String}
use Rattle.std.specs.Prelude.{◌≡◌, ℕ, ◌+◌, ◌-◌, List, [], ◌∷◌, true, false, codes, Result, Ok, Err}
use Rattle.std.specs.Prelude.{slice_index, slice_set}
use Rattle.ix_message.specs.Shape.{Text}
use Rattle.ix_message.specs.Indexes.{Step, begun, asked, Item}
use Rattle.ix_rec.specs.declared.place.Place.{Place}
use Rattle.ix_rec.specs.declared.place.Place.TheVariants as P
use Rattle.ix_device_rules.specs.declared.stop.Stop.{Stop}
use Rattle.ix_device_rules.specs.declared.stop.Stop.TheVariants.{Broken, Memory}
use Rattle.ix_device_rules.specs.Kinds.{kinds, number_of_kind}

abbrev pub one_more : String → List ℕ → List ℕ
one_more kind counts = slice_set counts (number_of_kind kinds kind)
    (slice_index counts (number_of_kind kinds kind) + 1)

-- the field of the last struct of this kind
abbrev pub field_at : List ℕ → String → String → Item
field_at counts kind field = record {
  kind = codes kind;
  field = codes field;
  index = slice_index counts (number_of_kind kinds kind) - 1;
}

-- the counts after these steps, or the first field that doesn't fit
unfoldable pub walked : List Step → List ℕ → Result (List ℕ) Item
walked [] counts = Ok counts
walked (begun kind ∷ rest) counts = walked rest (one_more kind counts)
walked (asked kind field true ∷ rest) counts = walked rest counts
walked (asked kind field false ∷ rest) counts = Err (field_at counts kind field)

-- the place is that of this field
abbrev pub IsField : Text → Text → ℕ → Place → Type 0
IsField kind field index (P.Item k f i) = (k ≡ kind) × (f ≡ field) × (i ≡ index)
IsField kind field index _ = ⊥

abbrev pub IsBroken : Text → Text → ℕ → Stop → Type 0
IsBroken kind field index (Broken place) = IsField kind field index place
IsBroken kind field index Memory = Unit {0}

-- the place is that of the field which the walk finds
abbrev pub IsFound : Place → Result (List ℕ) Item → Type 0
IsFound (P.Item k f i) given = given ≡ Err (record { kind = k; field = f; index = i })
IsFound _ given = ⊥

-- what a walk tells: that all fit, with the counts now, or the first field that doesn't; want of
-- memory at any time
abbrev pub MeetsWalk : {X : Type 0} → Result X Stop → List ℕ → Result (List ℕ) Item → Type 0
MeetsWalk (Ok x) now given = given ≡ Ok now
MeetsWalk (Err (Broken place)) now given = IsFound place given
MeetsWalk (Err Memory) now given = Unit {0}

-- a call walks over these steps
pub record Walks {X : Type 0} (steps : List Step) (before : List ℕ) (result : Result X Stop)
    (now : List ℕ) : Type 0 where
  pub tells : MeetsWalk result now (walked steps before)
