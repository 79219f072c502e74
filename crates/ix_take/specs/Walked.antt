-- The steps of a reading, walked with a count for each kind of struct, as the code does.
use Prim.Native.String.{String}
use Rattle.std.specs.Prelude.{ℕ, ◌+◌, List, [], ◌∷◌, map, true, false, codes, Result, Ok, Err}
use Rattle.ix_message.specs.Indexes.{Item, Step, begun, asked}
use Rattle.ix_message.specs.Shape.{Struct}
use Rattle.ix_schema.specs.Named.{called_of}
use Rattle.ix_device_read.specs.Finish.{place_of, with_one_more, field_at}

-- The structs that are counted have each a place among the counts, and a name.
abbrev pub kinds_of : List Struct → List String
kinds_of structs = map called_of structs

-- one more struct of this kind was begun
abbrev pub begin : List Struct → String → List ℕ → List ℕ
begin structs kind counts = with_one_more counts (place_of (kinds_of structs) kind)

-- the counts after these steps, or the first field that is out of its list
unfoldable pub walked : List Struct → List ℕ → List Step → Result (List ℕ) Item
walked structs counts [] = Ok counts
walked structs counts (begun kind ∷ rest) = walked structs (begin structs kind counts) rest
walked structs counts (asked kind called true ∷ rest) = walked structs counts rest
walked structs counts (asked kind called false ∷ rest) =
    Err (field_at counts (place_of (kinds_of structs) kind) (codes kind) (codes called))

-- how many structs the steps begin
abbrev pub begun_in : List Step → ℕ
begun_in [] = 0
begun_in (begun kind ∷ rest) = begun_in rest + 1
begun_in (asked kind called fits ∷ rest) = begun_in rest
