use Rattle.std.proofs.Common.{◌∷◌, List, map, ap}
use Rattle.ix_message.specs.Indexes.{Step, begun}
use Rattle.ix_device_rules.proofs.Steps.{walks_as, walks_first, walks_stop_first}
use Rattle.std.proofs.lemmas.List.Concat.{flat_map_single}
use Rattle.ix_device_rules.proofs.lut_elements.pass_element.Goals as goal

pub returns-in-Ok : goal.returns-in-Ok
returns-in-Ok c = walks_as (ap (λ (l : List Step). begun "LutElement" ∷ l) (flat_map_single (λ b. begun "LutBel") c.args.element.now.bels)) (walks_first c.in-Ok.ensures c.pass_bels.ensures)

pub returns-in-Err : goal.returns-in-Err
returns-in-Err c = walks_stop_first (map (λ b. begun "LutBel") c.args.element.now.bels) _ c.in-Err.ensures
