-- Nodes of constants, by their numbers.
use Rattle.std.specs.Prelude.{◌≡◌, ◌<◌, slice_get, Option, Some}
use Rattle.ix_num.specs.declared.resource.Constant.{Constant}
use Rattle.ix_graph.specs.Graph.{Graph}
use Rattle.ix_ends.specs.Ends.{ResNumber, EndsSeen}

-- the resource of this number is a node of this constant
pub record IsNodeOf (graph : Graph) (seen : EndsSeen) (number : ResNumber) (constant : Constant)
    : Type 0 where
  pub is_node : number < seen.nodes
  pub carries : slice_get graph.constants number ≡ Some (Some constant)

-- the same of a constant that may be there
pub record IsOfConstant (graph : Graph) (seen : EndsSeen) (number : ResNumber)
    (wanted : Option Constant) : Type 0 where
  pub constant : Constant
  pub constant_is : wanted ≡ Some constant
  pub of_it : IsNodeOf graph seen number constant
