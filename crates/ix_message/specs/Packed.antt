-- The packed design, this project's own message: each struct with its fields, the inner structs
-- first.
use Rattle.std.specs.Prelude.{[], ◌∷◌}
use Rattle.ix_message.specs.Shape.{Struct, field, name, struct_of, no_more, structs, string_table}
use Rattle.ix_message.specs.Shape.{nowhere}

abbrev pub packed_cell : Struct
packed_cell = struct_of "PackedCell" (field "cell" name ∷ field "bel" name ∷ []) no_more

abbrev pub packed_cluster : Struct
packed_cluster = struct_of "PackedCluster" (field "siteType" name ∷ [])
    (structs "cells" nowhere packed_cell no_more)

abbrev pub packed : Struct
packed = struct_of "Packed" [] (string_table "strList"
    (structs "clusters" nowhere packed_cluster no_more))
