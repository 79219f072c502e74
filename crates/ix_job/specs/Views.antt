-- Contents and outcomes, as the code has them.
use Rattle.std.specs.Prelude.{Some, None}
use Rattle.ix_job.specs.declared.work.Content as code
use Rattle.ix_job.specs.declared.work.Content.TheVariants as a_content
use Rattle.ix_job.specs.declared.work.Outcome as made
use Rattle.ix_job.specs.Job.{Content, Outcome}

abbrev pub content_seen : code.Content → Content
content_seen (a_content.Bytes bytes) = Some bytes
content_seen a_content.TooLarge = None

abbrev pub outcome_seen : made.Outcome → Outcome
outcome_seen o = record { report = o.report; outputs = o.outputs }
