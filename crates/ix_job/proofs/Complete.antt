-- Where nothing fails, it is told what the inputs come to.
use Rattle.std.proofs.Common.{◌≡◌, refl, sym, subst, ◌∙◌, ℕ, zero, suc, ◌⊎◌, inl, inr, List, []}
use Rattle.std.proofs.Common.{◌∷◌, map, Option, Some, None, slice_get, Result, Ok, Err}
use Rattle.std.proofs.Common.{IsSome}
use Rattle.std.specs.List.{AllByRecursion}
use Rattle.std.proofs.lemmas.Option.{same_Some, none-some}
use Rattle.ix_shelf.specs.Shelf.{Files, Rose, IsAbsent}
use Rattle.ix_report.specs.declared.report.Report.{Report}
use Rattle.ix_report.specs.declared.report.Report.TheVariants as a_report
use Rattle.ix_job.specs.Outside.{Outside}
use Rattle.ix_job.specs.Job.{Name, Job, Content, Outcome, AreContents, IsEnding, RunsJob}
use Rattle.ix_job.specs.Job.{NothingFailed, CompletesJob}
use Rattle.ix_job.proofs.Setting.{all_there}

same_somes : (xs ys : List Content) → map (λ content. Some content) xs ≡ map
    (λ content. Some content) ys → xs ≡ ys
same_somes [] [] e = refl
same_somes [] (y ∷ ys) e = absurd (let h : [] ≡ Some y ∷ map (λ content. Some content) ys = e in cc)
same_somes (x ∷ xs) [] e = absurd (let h : Some x ∷ map (λ content. Some content) xs ≡ [] = e in cc)
same_somes (x ∷ xs) (y ∷ ys) e =
    let first : Some x ≡ Some y = cc in
    let rest : map (λ content. Some content) xs ≡ map (λ content. Some content) ys = cc in
    let h : xs ≡ ys = same_somes xs ys rest in
    let k : x ≡ y = same_Some x y first in
    cc

-- the file at a place is there
at_place : (P : Name → Type 0) (names : List Name) (place : ℕ) (name : Name)
    → AllByRecursion P names → slice_get names place ≡ Some name → P name
at_place P [] place name h e = absurd (none-some name e)
at_place P (n ∷ ns) zero name h e = subst P (same_Some n name e) h.0
at_place P (n ∷ ns) (suc place) name h e = at_place P ns place name h.1 e

not_absent : (told : Option Files) (files : Files) (name : Name) → told ≡ Some files
    → IsSome (files name) → IsAbsent told name → ⊥
not_absent None files name e h absent = absent
not_absent (Some other) files name e h absent =
    let same : other ≡ files = same_Some other files e in
    none_there (files name) h (subst (λ (f : Files). f name ≡ None) same absent)
  where
    none_there : (o : Option (List ℕ)) → IsSome o → o ≡ None → ⊥
    none_there None h e = cc
    none_there (Some bytes) h e = absurd (none-some bytes (sym e))

by_ending : (is_outcome : List Content → Outcome → Type 0) (job : Job) (before after : Outside)
    (report : Report) → IsEnding is_outcome job before after report
    → (files : Files) (contents : List Content) → before.files ≡ Some files
    → AreContents files job.inputs contents → NothingFailed before after
    → (report ≡ a_report.OutOfMemory)
    ⊎ ((outcome : Outcome) × is_outcome contents outcome × (report ≡ outcome.report))
by_ending is_outcome job before after report (inl h) files contents e c n =
    inr (
      h.has.outcome,
      subst (λ (x : List Content). is_outcome x h.has.outcome)
          (same_somes h.has.contents contents (sym (h.has.read files e) ∙ c)) h.has.is,
      h.report_is,
    )
by_ending is_outcome job before after report (inr (inl h)) files contents e c n =
    absurd (no_cause h.cause)
  where
    no_cause : Rose (before.read_faults h.name) (after.read_faults h.name)
        ⊎ IsAbsent before.files h.name → ⊥
    no_cause (inl rose) = n.read h.name rose
    no_cause (inr absent) = not_absent before.files files h.name e
        (at_place _ job.inputs h.place h.name (all_there job.inputs contents files c) h.which)
        absent
by_ending is_outcome job before after report (inr (inr (inl h))) files contents e c n =
    absurd (n.write h.name h.cause)
by_ending is_outcome job before after report (inr (inr (inr h))) files contents e c n =
    inl h.report_is

pub completes : {E : Type 0} (is_outcome : List Content → Outcome → Type 0) (job : Job)
    (before after : Outside) (r : Result Report E)
    → RunsJob is_outcome job before after r → CompletesJob is_outcome job before after r
completes is_outcome job before after (Ok report) h files contents e c n =
    by_ending is_outcome job before after report h.ending files contents e c n
completes is_outcome job before after (Err failed) h files contents e c n =
    absurd (n.put h.1.told.1)
