-- What the pointers of a frame lead to whose reading is known to find no fault: no budget is asked.
-- A pointer that can't be followed counts as zero here, so each of these is told of any frame; a
-- reading never meets such a pointer.
use Rattle.std.specs.Prelude.{ℕ, ◌-◌, ◌^◌, List, [], Result, Ok, Err}
use Rattle.ix_frame.specs.Objects.{no_struct, no_elements, struct_at, elements_at, list_at, text_at}
use Rattle.ix_frame.specs.Objects.{text_in}
use Rattle.ix_frame.specs.Target.{Object, Elements}

-- more than any reading may cost
abbrev pub endless : ℕ
endless = 2 ^ 64 - 1

-- what was found, or the default
abbrev pub found_or : {A E : Type 0} → A → Result (A × ℕ) E → A
found_or default (Ok x) = x.0
found_or default (Err e) = default

unfoldable pub sound_struct : Object → ℕ → Object
sound_struct o slot = found_or (no_struct o.segments) (struct_at o slot endless)

unfoldable pub sound_elements : Object → ℕ → Elements
sound_elements o slot = found_or (no_elements o.segments) (elements_at o slot endless)

-- a list of numbers (element size 4) or of texts (6)
unfoldable pub sound_list : ℕ → Object → ℕ → Elements
sound_list size o slot = found_or (no_elements o.segments) (list_at size o slot endless)

unfoldable pub sound_text : Object → ℕ → List ℕ
sound_text o slot = found_or [] (text_at o slot endless)

-- the i-th text of a list of texts
unfoldable pub sound_text_in : Elements → ℕ → List ℕ
sound_text_in l i = found_or [] (text_in l i endless)
