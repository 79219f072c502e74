-- What a list of steps means: which nets hold a node after it, and at how many ends of rounds the
-- node was shared.
use Rattle.std.specs.Prelude.{◌≡◌, ℕ, ◌<◌, Bool, false, ◌&&◌, not, nat_eq, nat_le, min, List, []}
use Rattle.std.specs.Prelude.{◌∷◌, ◌++◌, length, map, if◌then◌else◌}
use Rattle.std.specs.List.{list_any, count_by, Contains}
use Rattle.ix_occupy.specs.declared.steps.Step.{Step}
use Rattle.ix_occupy.specs.declared.steps.Step.TheVariants.{Claim, Release, End}

abbrev pub NetNumber : Type 0
NetNumber = ℕ

abbrev pub NodeNumber : Type 0
NodeNumber = ℕ

-- the greatest history that is counted
abbrev pub most_hist : ℕ
most_hist = 65535

-- whether a step releases this node for this net
abbrev pub is_release : NetNumber → NodeNumber → Step → Bool
is_release net node (Claim _ _) = false
is_release net node (Release other place) = nat_eq other net && nat_eq place node
is_release net node End = false

-- the nets with a claim of the node and no later release, in the order of the claims
unfoldable pub holders : List Step → NodeNumber → List NetNumber
holders [] node = []
holders (Claim net place ∷ later) node =
    if nat_eq place node && not (list_any (is_release net node) later) then net ∷ holders later node
    else holders later node
holders (Release _ _ ∷ later) node = holders later node
holders (End ∷ later) node = holders later node

-- how often a number stands in a list
abbrev pub times : ℕ → List ℕ → ℕ
times number numbers = count_by (λ other. nat_eq other number) numbers

-- for each End in turn, the steps before it
unfoldable pub before_ends : List Step → List (List Step)
before_ends [] = []
before_ends (Claim net node ∷ later) = map (λ steps. Claim net node ∷ steps) (before_ends later)
before_ends (Release net node ∷ later) = map (λ steps. Release net node ∷ steps) (before_ends later)
before_ends (End ∷ later) = [] ∷ map (λ steps. End ∷ steps) (before_ends later)

-- whether two nets or more hold the node after the steps
abbrev pub is_shared_after : NodeNumber → List Step → Bool
is_shared_after node steps = nat_le 2 (length (holders steps node))

-- at how many Ends the node was shared, or the greatest history where there were more
abbrev pub hist : List Step → NodeNumber → ℕ
hist steps node = min (count_by (is_shared_after node) (before_ends steps)) most_hist

-- a claim is of a node that the net doesn't hold, a release of one that it holds
abbrev pub MayFollow : List Step → Step → Type 0
MayFollow before (Claim net node) = ¬ (Contains (holders before node) net)
MayFollow before (Release net node) = Contains (holders before node) net
MayFollow before End = Unit {0}

-- each step may follow those before it
abbrev pub IsLawful : List Step → Type 0
IsLawful steps =
    (before : List Step) (step : Step) (later : List Step) → steps ≡ before ++ step ∷ later
    → MayFollow before step

-- the step's node is one of so many
abbrev pub IsOfNodes : ℕ → Step → Type 0
IsOfNodes nodes (Claim _ node) = node < nodes
IsOfNodes nodes (Release _ node) = node < nodes
IsOfNodes nodes End = Unit {0}
