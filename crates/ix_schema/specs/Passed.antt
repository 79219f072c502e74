-- The first pass over a message: the first frame fault in reading order, or what is left of the
-- budget. It is a reading of which nothing is kept.
use Rattle.std.specs.Prelude.{◌≡◌, ℕ, zero, suc, ◌+◌, Result, Ok, Err, if◌then◌else◌}
use Rattle.ix_num.specs.declared.fault.FrameFault.{FrameFault}
use Rattle.ix_rec.specs.declared.fault.ReadFault.{ReadFault}
use Rattle.ix_frame.specs.Result.{◌>>=◌}
use Rattle.ix_frame.specs.Objects.{text_at, struct_at, elements_at, list_at, has_pointer}
use Rattle.ix_frame.specs.Objects.{element_of, text_in}
use Rattle.ix_frame.specs.Target.{Object, Elements}
use Rattle.ix_message.specs.Shape.{Struct, Pointers, struct_of, no_more, text, texts, numbers}
use Rattle.ix_message.specs.Shape.{struct, struct_or_none, boxed, structs, branches, string_table}
use Rattle.ix_message.specs.Shape.{unread}
use Rattle.ix_message_read.specs.Tells.{Fails}

abbrev pub Left : Type 0
Left = Result ℕ FrameFault

-- n elements of a list from this one on, each passed by the same pass
unfoldable pub each_left : (Object → ℕ → Left) → ℕ → Elements → ℕ → ℕ → Left
each_left pass zero l i budget = Ok budget
each_left pass (suc n) l i budget = do
  left ← pass (element_of l i) budget
  each_left pass n l (i + 1) left

-- n texts of a list of texts
unfoldable pub texts_left : ℕ → Elements → ℕ → ℕ → Left
texts_left zero l i budget = Ok budget
texts_left (suc n) l i budget = do
  first ← text_in l i budget
  texts_left n l (i + 1) first.1

unfoldable pub texts_passed : Object → ℕ → ℕ → Left
texts_passed o slot budget = do
  l ← list_at 6 o slot budget
  texts_left l.0.count l.0 0 l.1

-- n branches of a list, each with all that is below it before the next
unfoldable pub branches_left : ℕ → ℕ → Elements → ℕ → ℕ → Left
branches_left bound zero l i budget = Ok budget
branches_left zero (suc n) l i budget = Ok budget
branches_left (suc bound) (suc n) l i budget = do
  inner ← elements_at (element_of l i) 0 budget
  left ← branches_left bound inner.0.count inner.0 0 inner.1
  branches_left bound n l (i + 1) left

-- A struct, and its pointers from this slot on.
unfoldable mutual
  pub left_at : (s : Struct) → Object → ℕ → Left
  left_at (struct_of called fields ps) o budget = parts_left ps 0 o budget

  pub parts_left : (ps : Pointers) → ℕ → Object → ℕ → Left
  parts_left no_more slot o budget = Ok budget
  parts_left (text called ps) slot o budget = do
    here ← text_at o slot budget
    parts_left ps (slot + 1) o here.1
  parts_left (texts called ps) slot o budget = do
    left ← texts_passed o slot budget
    parts_left ps (slot + 1) o left
  parts_left (numbers called target kind ps) slot o budget = do
    l ← list_at 4 o slot budget
    parts_left ps (slot + 1) o l.1
  parts_left (struct called s ps) slot o budget = do
    inner ← struct_at o slot budget
    left ← left_at s inner.0 inner.1
    parts_left ps (slot + 1) o left
  parts_left (struct_or_none called s ps) slot o budget = do
    left ← if has_pointer o slot then (struct_at o slot budget
        >>= λ inner. left_at s inner.0 inner.1) else Ok budget
    parts_left ps (slot + 1) o left
  parts_left (boxed called kind inner s ps) slot o budget = do
    box ← struct_at o slot budget
    l ← elements_at box.0 0 box.1
    left ← each_left (left_at s) l.0.count l.0 0 l.1
    parts_left ps (slot + 1) o left
  parts_left (structs called target s ps) slot o budget = do
    l ← elements_at o slot budget
    left ← each_left (left_at s) l.0.count l.0 0 l.1
    parts_left ps (slot + 1) o left
  parts_left (branches called kind fields ps) slot o budget = do
    l ← elements_at o slot budget
    left ← branches_left (budget + 1) l.0.count l.0 0 l.1
    parts_left ps (slot + 1) o left
  parts_left (string_table called ps) slot o budget = parts_left ps (slot + 1) o budget
  parts_left (unread called ps) slot o budget = parts_left ps (slot + 1) o budget

-- What a pass tells is what the definition gives. Want of memory may be told at any time.
abbrev pub Passes : {A : Type 0} → Result A ReadFault → ℕ → Left → Type 0
Passes (Ok x) now given = given ≡ Ok now
Passes (Err e) now given = Fails e given

-- The same of a pass that takes no memory.
abbrev pub PassesAlone : {A : Type 0} → Result A FrameFault → ℕ → Left → Type 0
PassesAlone (Ok x) now given = given ≡ Ok now
PassesAlone (Err f) now given = given ≡ Err f
