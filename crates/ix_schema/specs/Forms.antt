-- What the code's table of a message says of the message's structs.
use Rattle.std.specs.Prelude.{◌≡◌, ℕ, ◌+◌, ◌<◌, List, [], ◌∷◌, length, Bool, true, false, ◌&&◌}
use Rattle.std.specs.Prelude.{nat_lt, Option, Some, None, Ok, if◌then◌else◌, slice_get}
use Rattle.std.specs.List.{list_all}
use Rattle.ix_frame.specs.Result.{◌>>=◌}
use Rattle.ix_frame.specs.Objects.{text_at, struct_at, elements_at, list_at, has_pointer}
use Rattle.ix_frame.specs.Target.{Object}
use Rattle.ix_message.specs.Shape.{Struct, Pointers, struct_of, no_more, text, texts, numbers}
use Rattle.ix_message.specs.Shape.{struct, struct_or_none, boxed, structs, branches, string_table}
use Rattle.ix_message.specs.Shape.{unread}
use Rattle.ix_schema.specs.declared.form.StructForm.{StructForm}
use Rattle.ix_schema.specs.declared.form.Behind.{Behind}
use Rattle.ix_schema.specs.declared.form.Behind.TheVariants.{Text, Texts, Numbers}
use Rattle.ix_schema.specs.declared.form.Behind.TheVariants.{Struct as OneStruct, StructOrNone}
use Rattle.ix_schema.specs.declared.form.Behind.TheVariants.{Boxed, Structs, Branches, Unread}
use Rattle.ix_schema.specs.Passed.{Left, each_left, texts_passed, branches_left}

abbrev pub pointers_in : Option StructForm → List Behind
pointers_in None = []
pointers_in (Some f) = f.pointers.now

abbrev mutual
  -- the struct with this number in the table is this one
  pub is_form : List StructForm → ℕ → Struct → Bool
  is_form t n (struct_of called fields ps) = are_forms t (pointers_in (slice_get t n)) ps

  pub are_forms : List StructForm → List Behind → Pointers → Bool
  are_forms t [] no_more = true
  are_forms t (Text ∷ fs) (text c ps) = are_forms t fs ps
  are_forms t (Texts ∷ fs) (texts c ps) = are_forms t fs ps
  are_forms t (Numbers ∷ fs) (numbers c target kind ps) = are_forms t fs ps
  are_forms t (OneStruct m ∷ fs) (struct c s ps) = is_form t m s && are_forms t fs ps
  are_forms t (StructOrNone m ∷ fs) (struct_or_none c s ps) = is_form t m s && are_forms t fs ps
  are_forms t (Boxed m ∷ fs) (boxed c kind inner s ps) = is_form t m s && are_forms t fs ps
  are_forms t (Structs m ∷ fs) (structs c target s ps) = is_form t m s && are_forms t fs ps
  are_forms t (Branches ∷ fs) (branches c kind fields ps) = are_forms t fs ps
  are_forms t (Unread ∷ fs) (string_table c ps) = are_forms t fs ps
  are_forms t (Unread ∷ fs) (unread c ps) = are_forms t fs ps
  are_forms t _ _ = false

-- The struct behind a pointer, if any, has a lower number than this.
abbrev pub is_lower : ℕ → Behind → Bool
is_lower n (OneStruct m) = nat_lt m n
is_lower n (StructOrNone m) = nat_lt m n
is_lower n (Boxed m) = nat_lt m n
is_lower n (Structs m) = nat_lt m n
is_lower n _ = true

abbrev pub IsLower : ℕ → Behind → Type 0
IsLower n (OneStruct m) = m < n
IsLower n (StructOrNone m) = m < n
IsLower n (Boxed m) = m < n
IsLower n (Structs m) = m < n
IsLower n _ = Unit {0}

-- a struct has no more than 65,535 pointers, and what is behind them has lower numbers than the
-- struct
abbrev pub are_ordered : ℕ → List StructForm → Bool
are_ordered n [] = true
are_ordered n (f ∷ fs) = nat_lt (length f.pointers.now) 65536
    && (list_all (is_lower n) f.pointers.now && are_ordered (n + 1) fs)

-- the pointers of the struct with this number are as they should be
pub record Ordered (n : ℕ) (fs : List Behind) : Type 0 where
  pub few : length fs < 65536
  pub lower : (slot : ℕ) (f : Behind) → slice_get fs slot ≡ Some f → IsLower n f

-- the struct behind a pointer, if any, is this one
abbrev pub is_behind : List StructForm → Behind → Struct → Bool
is_behind t (OneStruct m) s = is_form t m s
is_behind t (StructOrNone m) s = is_form t m s
is_behind t (Boxed m) s = is_form t m s
is_behind t (Structs m) s = is_form t m s
is_behind t _ s = true

-- passing over one pointer, behind which structs are passed over like this
unfoldable pub pointer_left : Behind → (Object → ℕ → Left) → ℕ → Object → ℕ → Left
pointer_left Text pass slot o budget = text_at o slot budget >>= λ here. Ok here.1
pointer_left Texts pass slot o budget = texts_passed o slot budget
pointer_left Numbers pass slot o budget = list_at 4 o slot budget >>= λ l. Ok l.1
pointer_left (OneStruct m) pass slot o budget = struct_at o slot budget
    >>= λ inner. pass inner.0 inner.1
pointer_left (StructOrNone m) pass slot o budget =
    if has_pointer o slot then (struct_at o slot budget >>= λ inner. pass inner.0 inner.1)
    else Ok budget
pointer_left (Boxed m) pass slot o budget = do
  box ← struct_at o slot budget
  l ← elements_at box.0 0 box.1
  each_left pass l.0.count l.0 0 l.1
pointer_left (Structs m) pass slot o budget = elements_at o slot budget
    >>= λ l. each_left pass l.0.count l.0 0 l.1
pointer_left Branches pass slot o budget = elements_at o slot budget
    >>= λ l. branches_left (budget + 1) l.0.count l.0 0 l.1
pointer_left Unread pass slot o budget = Ok budget
