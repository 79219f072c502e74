-- A job for trials: two files are joined in both orders. It says no where the first is empty; one
-- that is too large is refused.
use Rattle.std.specs.Prelude.{◌≡◌, ◌==◌, List, [], ◌∷◌, ◌++◌, length, Some, None, if◌then◌else◌}
use Rattle.ix_rec.specs.declared.place.File.TheVariants.{Device}
use Rattle.ix_rec.specs.declared.place.Rule.TheVariants.{E2}
use Rattle.ix_rec.specs.declared.place.Place.TheVariants as places
use Rattle.ix_report.specs.declared.report.Report.TheVariants.{No, NotBuilt, Demo}
use Rattle.ix_job.specs.Job.{Content, Outcome}

abbrev pub joined : (a b : Content) → Outcome
joined (Some a) (Some b) =
    if length a == 0 then record { report = No E2 places.File; outputs = [] }
    else record { report = Demo 1 2 3 4; outputs = (a ++ b) ∷ (b ++ a) ∷ [] }
joined (Some a) None = record { report = NotBuilt Device; outputs = [] }
joined None b = record { report = NotBuilt Device; outputs = [] }

abbrev pub IsJoined : List Content → Outcome → Type 0
IsJoined (a ∷ b ∷ []) outcome = outcome ≡ joined a b
IsJoined contents outcome = ⊥
