-- What the rows hold and have room for. A row that there isn't is empty.
use Rattle.std.specs.Prelude.{ℕ, ◌+◌, ◌-◌, List, length, slice_index, slice_range}
use Rattle.ix_rows.specs.declared.sizes.RowSizes.{RowSizes}
use Rattle.ix_rows.specs.declared.filler.RowFiller.{RowFiller}
use Rattle.ix_rows.specs.declared.rows.Rows.{Rows}

-- how many rows are sized
unfoldable pub row_count : RowSizes → ℕ
row_count sizes = length sizes.sizes.items

-- how many items a row is to have
unfoldable pub size_of : RowSizes → ℕ → ℕ
size_of sizes row = slice_index sizes.sizes.items row

-- how many items all rows are to have together
unfoldable pub total_size : RowSizes → ℕ
total_size sizes = sizes.total

-- how many rows are being filled
unfoldable pub filler_rows : {T : Type 0} → RowFiller T → ℕ
filler_rows filler = length filler.ends.items

-- how many items a row has room for
unfoldable pub room_in : {T : Type 0} → RowFiller T → ℕ → ℕ
room_in filler row = slice_index filler.starts.items (row + 1) - slice_index filler.starts.items row

-- the items that were put into a row, in the order in which they were
unfoldable pub row_in : {T : Type 0} → RowFiller T → ℕ → List T
row_in filler row =
    slice_range filler.items.items (slice_index filler.starts.items row)
    (slice_index filler.ends.items row)

-- how many rows there are
unfoldable pub rows : {T : Type 0} → Rows T → ℕ
rows table = length table.starts.items - 1

-- the items of a row
unfoldable pub row_of : {T : Type 0} → Rows T → ℕ → List T
row_of table row =
    slice_range table.items.items (slice_index table.starts.items row)
    (slice_index table.starts.items (row + 1))
