-- Lines of faults, made one after another.
use Rattle.std.proofs.Common.{◌≡◌, sym, ap, ◌∙◌, ℕ, ◌+◌, ◌≤◌, List, [], ◌∷◌, ◌++◌, map, take}
use Rattle.std.proofs.Common.{length, slice_get, Some, option_map}
use Rattle.std.proofs.lemmas.Option.{same_Some, slice_get-map}
use Rattle.std.proofs.lemmas.List.{map-append, take_all}
use Rattle.ix_report.specs.declared.report.Report.{Report}
use Rattle.ix_report.specs.declared.report.Report.TheVariants as a_report
use Rattle.ix_job.specs.Job.{Name}
use Rattle.ix_job.proofs.Setting.{take_next}

abbrev pub unwritten : Name → Report
unwritten name = a_report.WriteFault name

pub one_more_line : {L : Type 0} (f : L → Report) (lines new : List L) (line : L)
    (names : List Name) (i : ℕ) (name : Name) → new ≡ lines ++ line ∷ []
    → slice_get names i ≡ Some name → f line ≡ unwritten name
    → map f lines ≡ map unwritten (take i names)
    → map f new ≡ map unwritten (take (i + 1) names)
one_more_line f lines new line names i name p n e h =
    ap (map f) p ∙ map-append f lines (line ∷ []) ∙ ap (λ (xs : List Report). xs ++ f line ∷ []) h
    ∙ ap (λ (x : Report). map unwritten (take i names) ++ x ∷ []) e
    ∙ sym (map-append unwritten (take i names) (name ∷ []))
    ∙ ap (map unwritten) (sym (take_next names i name n))

pub all_lines : (reports : List Report) (names : List Name) (i : ℕ) → length names ≤ i
    → reports ≡ map unwritten (take i names) → reports ≡ map unwritten names
all_lines reports names i h e = e ∙ ap (map unwritten) (take_all i names h)

-- the line at a place is that of the name there
pub fault_told : (reports : List Report) (names : List Name) (place : ℕ) (name : Name)
    (report : Report) → reports ≡ map unwritten names
    → slice_get names place ≡ Some name → slice_get reports place ≡ Some report
    → report ≡ unwritten name
fault_told reports names place name report e n h =
    same_Some report (unwritten name) (sym h ∙ ap (λ (xs : List Report). slice_get xs place) e
    ∙ slice_get-map unwritten names place ∙ ap (option_map unwritten) n)
