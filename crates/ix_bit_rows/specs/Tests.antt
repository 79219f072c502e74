-- Tests of rows.
use Rattle.std.specs.Prelude.{ℕ, Bool, nat_eq, nat_lt, ◌&&◌, ◌||◌}
use Rattle.ix_hierarchy.specs.declared.row.Row.{Row}

-- before each row of this bit of a cell itself
abbrev pub is_before : (port index : ℕ) → Row → Bool
is_before port index row = nat_eq row.instance 0
    && (nat_lt row.port port || (nat_eq row.port port && nat_lt row.index index))

-- of this bit of a cell itself
abbrev pub is_row_at : (port index : ℕ) → Row → Bool
is_row_at port index row =
    nat_eq row.instance 0 && (nat_eq row.port port && nat_eq row.index index)
