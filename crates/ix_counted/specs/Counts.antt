-- How many counted places an instance has in it: its nets and instances, and theirs.
use Rattle.std.specs.Prelude.{◌≡◌, ℕ, zero, suc, ◌+◌, ◌^◌, ◌<◌, ◌≤◌, min, List, length}
use Rattle.std.specs.Prelude.{Option, Some, None, slice_get}
use Rattle.ix_rec.specs.declared.netlist.Cell.{Cell}
use Rattle.ix_rec.specs.declared.netlist.CellDeclaration.{CellDeclaration}
use Rattle.ix_rec.specs.declared.netlist.CellInstance.{CellInstance}
use Rattle.ix_rec.specs.declared.netlist.NetlistRec.{NetlistRec}
use Rattle.ix_rec.specs.declared.netlist.Port.{Port}
use Rattle.ix_hierarchy.specs.declared.kind.Kind.{Kind}
use Rattle.ix_hierarchy.specs.declared.kind.Kind.TheVariants.{Inside, Constant, Plain, Unknown}
use Rattle.ix_hierarchy.specs.Hierarchy.{child_of, inside, width}
use Rattle.ix_hierarchy.specs.Lists.{first_cell}

-- what counts stop at
abbrev pub most : ℕ
most = 2 ^ 22 + 1

-- numbers of declarations, instances and ports are in their lists
pub record CountsFit (design : NetlistRec) : Type 0 where
  pub top : design.top_inst.cell < length design.cell_decls
  pub has : (k q instance : ℕ) (cell : Cell) → slice_get design.cell_list k ≡ Some cell
      → slice_get cell.insts q ≡ Some instance → instance < length design.inst_list
  pub inner : (i : ℕ) (inst : CellInstance) → slice_get design.inst_list i ≡ Some inst
      → inst.cell < length design.cell_decls
  pub port : (d i port : ℕ) (declared : CellDeclaration)
      → slice_get design.cell_decls d ≡ Some declared → slice_get declared.ports i ≡ Some port
      → port < length design.port_list

-- a sum over the first numbers
unfoldable pub sum_to : (ℕ → ℕ) → (n : ℕ) → ℕ
sum_to g zero = 0
sum_to g (suc n) = sum_to g n + g n

-- an instance, with what is in it
abbrev pub with_instance : (ℕ → ℕ) → Option CellInstance → ℕ
with_instance below None = 0
with_instance below (Some inst) = 1 + below inst.cell

abbrev pub in_cell : NetlistRec → (below : ℕ → ℕ) → Cell → ℕ
in_cell design below cell = length cell.nets
    + sum_to (λ place. with_instance below (child_of design cell place)) (length cell.insts)

abbrev pub in_inside : NetlistRec → (below : ℕ → ℕ) → Option Cell → ℕ
in_inside design below None = 0
in_inside design below (Some cell) = in_cell design below cell

-- the count of a declaration, down to a depth
unfoldable pub count_down : NetlistRec → (depth declaration : ℕ) → ℕ
count_down design zero declaration = 0
count_down design (suc depth) declaration =
    in_inside design (count_down design depth) (inside design declaration)

-- the bits of the first ports
abbrev pub bits_of : Option Port → ℕ
bits_of None = 0
bits_of (Some port) = width port

abbrev pub bits_at : NetlistRec → Option ℕ → ℕ
bits_at design None = 0
bits_at design (Some number) = bits_of (slice_get design.port_list number)

abbrev pub bits_to : NetlistRec → (ports : List ℕ) → (n : ℕ) → ℕ
bits_to design ports n = sum_to (λ place. bits_at design (slice_get ports place)) n

-- no count passes the one that they stop at
abbrev pub AreFew : List ℕ → Type 0
AreFew counts = (k n : ℕ) → slice_get counts k ≡ Some n → n ≤ most

-- a declaration has an inside by its kind
abbrev pub IsKindIn : NetlistRec → (declaration : ℕ) → Kind → Type 0
IsKindIn design declaration (Inside cell) = first_cell design declaration ≡ Some cell
IsKindIn design declaration (Constant constant) = first_cell design declaration ≡ None
IsKindIn design declaration Plain = first_cell design declaration ≡ None
IsKindIn design declaration Unknown = first_cell design declaration ≡ None

-- The counts of the first so many declarations, each behind all that it contains: those at a place
-- go down by no more than the place.
pub record AreCounts (design : NetlistRec) (closed : List ℕ) (n : ℕ) (counts : List ℕ) : Type 0
  where
    pub many : length counts ≡ length design.cell_decls
    pub few : AreFew counts
    pub each : (i depth declaration : ℕ) → i < n → i < depth
        → slice_get closed i ≡ Some declaration
        → slice_get counts declaration ≡ Some (min (count_down design depth declaration) most)
