-- What a list of the instances of a design tells of occurrences of nets.
use Rattle.std.specs.Prelude.{◌≡◌, ◌↔◌, ◌<◌, ◌≤◌, ◌+◌, ℕ, List, slice_get, Some}
use Rattle.ix_rec.specs.declared.netlist.Cell.{Cell}
use Rattle.ix_rec.specs.declared.netlist.Net.{Net}
use Rattle.ix_rec.specs.declared.netlist.NetlistRec.{NetlistRec}
use Rattle.ix_hierarchy.specs.declared.instance.Instance.{Instance}
use Rattle.ix_hierarchy.specs.Hierarchy.{Path}
use Rattle.ix_hierarchy.specs.Lists.{AreInstances, IsNumber, nets_in}
use Rattle.ix_hierarchy.specs.Nets.{Occurrence, Occurs, spot_of}
use Rattle.ix_hierarchy.specs.Walk.{IsBefore}

-- so many occurrences of nets are in these instances of some design, and this is one of them
abbrev pub IsAmong : List Instance → (occurrence : ℕ) → Type 0
IsAmong all occurrence = (design : NetlistRec) × (paths : List Path) × (nets : ℕ)
    × AreInstances design all paths nets × (occurrence < nets)

-- the occurrence of this number is of one of the instance's own nets
pub record HasNet (design : NetlistRec) (all : List Instance) (instance occurrence : ℕ) : Type 0
  where
    pub one : Instance
    pub one_is : slice_get all instance ≡ Some one
    pub from : one.first_net ≤ occurrence
    pub below : occurrence < one.first_net + nets_in design one.declaration

-- Numbers of occurrences are their order in the walk.
pub record AreNumbered (design : NetlistRec) (all : List Instance) (paths : List Path) (nets : ℕ)
    : Type 0 where
  -- each occurrence has a number
  pub some : (at : Occurrence) (cell : Cell) (net : Net) → Occurs design at cell net
      → (number : ℕ) × IsNumber design all paths at number
  -- below the count of all
  pub below : (at : Occurrence) (number : ℕ) → IsNumber design all paths at number → number < nets
  -- and is the only one with it
  pub one : (at other : Occurrence) (number : ℕ) → IsNumber design all paths at number
      → IsNumber design all paths other number → at ≡ other
  pub same : (at : Occurrence) (number other : ℕ) → IsNumber design all paths at number
      → IsNumber design all paths at other → number ≡ other
  -- a number is that of a net of the instance that has it
  pub of : (instance number : ℕ) (path : Path) → HasNet design all instance number
      → slice_get paths instance ≡ Some path → (net : ℕ) × (one : Instance)
      × (slice_get all instance ≡ Some one) × (number ≡ one.first_net + net)
      × IsNumber design all paths record { path = path; net = net } number
  -- each number is of one
  pub every : (number : ℕ) → number < nets
      → (at : Occurrence) × IsNumber design all paths at number
  pub rise : (at other : Occurrence) (number another : ℕ) → IsNumber design all paths at number
      → IsNumber design all paths other another
      → IsBefore (spot_of at) (spot_of other) ↔ (number < another)
