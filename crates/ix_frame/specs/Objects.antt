-- The fields of a struct, and what reading them costs. A struct that is shorter than a field's slot
-- has the default there, and a longer one is read by its known part.
use Rattle.std.specs.Prelude.{ℕ, ◌+◌, ◌-◌, ◌*◌, ◌%◌, ◌^◌, max, List, [], length, take, drop, Bool}
use Rattle.std.specs.Prelude.{◌&&◌, not, nat_lt, nat_le, ◌==◌, Option, Some, None, Result, Ok, Err}
use Rattle.std.specs.Prelude.{if◌then◌else◌, slice_index}
use Rattle.std.specs.Str.{is_utf8}
use Rattle.byteorder.specs.Endian.{little_number}
use Rattle.ix_num.specs.declared.fault.FrameRule.{FrameRule}
use Rattle.ix_num.specs.declared.fault.FrameRule.TheVariants.{F3, F6, F7}
use Rattle.ix_num.specs.declared.fault.FrameFault.{FrameFault}
use Rattle.ix_frame.specs.Result.{◌>>=◌, unless}
use Rattle.ix_frame.specs.Segments.{Segments, segment_at, word_at, has_words, word_count}
use Rattle.ix_frame.specs.Segments.{numbers_of_four}
use Rattle.ix_frame.specs.Target.{Pointed, Object, Elements, target, struct_target, list_target}
use Rattle.ix_frame.specs.Target.{composite_target}

-- The number in a data slot of 32 bits, counted from 0; past the data section 0.
unfoldable pub u32_in : Object → ℕ → ℕ
u32_in o slot =
    if nat_lt slot (2 * o.data_words) then little_number 4
    (drop (8 * o.start + 4 * slot) (segment_at o.segments o.segment)) else 0

-- a Bool is the lowest bit of its slot, a tag or an enumerant the low 16
abbrev pub bool_in : Object → ℕ → Bool
bool_in o slot = u32_in o slot % 2 == 1

abbrev pub tag_in : Object → ℕ → ℕ
tag_in o slot = u32_in o slot % 2 ^ 16

-- the word of a pointer slot within the segment
abbrev pub pointer_word : Object → ℕ → ℕ
pointer_word o slot = o.start + o.data_words + slot

-- the pointer is there and isn't zero
unfoldable pub has_pointer : Object → ℕ → Bool
has_pointer o slot = nat_lt slot o.pointer_words
    && not (word_at (segment_at o.segments o.segment) (pointer_word o slot) == 0)

-- The default of each kind of field: a struct without words, and a list of nothing.
abbrev pub no_struct : Segments → Object
no_struct all = record { segments = all; segment = 0; start = 0; data_words = 0; pointer_words = 0 }

abbrev pub no_elements : Segments → Elements
no_elements all = record { count = 0; first = no_struct all }

-- What is left of a budget after an object of this cost.
abbrev pub charged : ℕ → ℕ → Result ℕ FrameRule
charged cost budget = if nat_le cost budget then Ok (budget - cost) else Err F7

-- a struct costs its words, at least 1; so does a list that isn't composite
abbrev pub plain_cost : ℕ → ℕ
plain_cost words = max 1 words

-- a composite list costs its tag, its words, and its count where its elements have no word
abbrev pub composite_cost : Elements → ℕ → ℕ
composite_cost found words =
    1 + words + (if found.first.data_words + found.first.pointer_words == 0 then found.count else 0)

-- The fault stands at the pointer's own word, never at a pad's.
abbrev pub blamed : {A : Type 0} → ℕ → ℕ → Result A FrameRule → Result A FrameFault
blamed s w (Ok x) = Ok x
blamed s w (Err rule) = Err (record { rule = rule; segment = s; word = w })

-- Following the pointer at word w of segment s to an object of each kind, with what is left of the
-- budget.

unfoldable pub struct_found : Segments → ℕ → Option Pointed → Result (Object × ℕ) FrameRule
struct_found all budget None = Ok (no_struct all, budget)
struct_found all budget (Some p) = do
  found ← struct_target all p
  left ← charged (plain_cost found.1) budget
  Ok (found.0, left)

abbrev pub struct_from : Segments → ℕ → ℕ → ℕ → Result (Object × ℕ) FrameRule
struct_from all s w budget = target all s w >>= struct_found all budget

unfoldable pub struct_behind : Segments → ℕ → ℕ → ℕ → Result (Object × ℕ) FrameFault
struct_behind all s w budget = blamed s w (struct_from all s w budget)

unfoldable pub elements_found : Segments → ℕ → Option Pointed → Result (Elements × ℕ) FrameRule
elements_found all budget None = Ok (no_elements all, budget)
elements_found all budget (Some p) = do
  found ← composite_target all p
  left ← charged (composite_cost found.0 found.1) budget
  Ok (found.0, left)

abbrev pub elements_from : Segments → ℕ → ℕ → ℕ → Result (Elements × ℕ) FrameRule
elements_from all s w budget = target all s w >>= elements_found all budget

unfoldable pub elements_behind : Segments → ℕ → ℕ → ℕ → Result (Elements × ℕ) FrameFault
elements_behind all s w budget = blamed s w (elements_from all s w budget)

-- a list of bytes (element size 2), of numbers (4) or of pointers (6)
unfoldable pub list_found : ℕ → Segments → ℕ → Option Pointed → Result (Elements × ℕ) FrameRule
list_found size all budget None = Ok (no_elements all, budget)
list_found size all budget (Some p) = do
  found ← list_target size all p
  left ← charged (plain_cost found.1) budget
  Ok (found.0, left)

abbrev pub list_from : ℕ → Segments → ℕ → ℕ → ℕ → Result (Elements × ℕ) FrameRule
list_from size all s w budget = target all s w >>= list_found size all budget

unfoldable pub list_behind : ℕ → Segments → ℕ → ℕ → ℕ → Result (Elements × ℕ) FrameFault
list_behind size all s w budget = blamed s w (list_from size all s w budget)

-- the bytes of a list of bytes
abbrev pub bytes_of : Elements → List ℕ
bytes_of l = take l.count (drop (8 * l.first.start) (segment_at l.first.segments l.first.segment))

-- A text ends with a NUL, which isn't part of it, and what stands before that is UTF-8.
unfoldable pub text_of : List ℕ → Result (List ℕ) FrameRule
text_of bytes = let front = take (length bytes - 1) bytes in do
  filled ← unless (nat_lt 0 (length bytes)) F6
  ended ← unless (slice_index bytes (length bytes - 1) == 0) F6
  spelled ← unless (is_utf8 front) F6
  Ok front

unfoldable pub text_found : Segments → ℕ → Option Pointed → Result (List ℕ × ℕ) FrameRule
text_found all budget None = Ok ([], budget)
text_found all budget (Some p) = do
  found ← list_found 2 all budget (Some p)
  text ← text_of (bytes_of found.0)
  Ok (text, found.1)

abbrev pub text_from : Segments → ℕ → ℕ → ℕ → Result (List ℕ × ℕ) FrameRule
text_from all s w budget = target all s w >>= text_found all budget

unfoldable pub text_behind : Segments → ℕ → ℕ → ℕ → Result (List ℕ × ℕ) FrameFault
text_behind all s w budget = blamed s w (text_from all s w budget)

-- The fields of a struct by their pointer slots, and the default past its pointer section.

unfoldable pub struct_at : Object → ℕ → ℕ → Result (Object × ℕ) FrameFault
struct_at o slot budget =
    if nat_lt slot o.pointer_words then struct_behind o.segments o.segment (pointer_word o slot)
    budget
    else Ok (no_struct o.segments, budget)

unfoldable pub elements_at : Object → ℕ → ℕ → Result (Elements × ℕ) FrameFault
elements_at o slot budget =
    if nat_lt slot o.pointer_words then elements_behind o.segments o.segment (pointer_word o slot)
    budget
    else Ok (no_elements o.segments, budget)

unfoldable pub list_at : ℕ → Object → ℕ → ℕ → Result (Elements × ℕ) FrameFault
list_at size o slot budget =
    if nat_lt slot o.pointer_words then list_behind size o.segments o.segment (pointer_word o slot)
    budget
    else Ok (no_elements o.segments, budget)

unfoldable pub text_at : Object → ℕ → ℕ → Result (List ℕ × ℕ) FrameFault
text_at o slot budget =
    if nat_lt slot o.pointer_words then text_behind o.segments o.segment (pointer_word o slot)
    budget
    else Ok ([], budget)

-- the i-th struct of a list of structs
abbrev pub element_of : Elements → ℕ → Object
element_of l i = record l.first {
  start = l.first.start
      + i * (l.first.data_words + l.first.pointer_words);
}

-- the numbers of a list of numbers
abbrev pub numbers_in : Elements → List ℕ
numbers_in l = numbers_of_four l.count (drop (8 * l.first.start)
    (segment_at l.first.segments l.first.segment))

-- the i-th text of a list of texts, whose pointer is the i-th word of the list
abbrev pub text_in : Elements → ℕ → ℕ → Result (List ℕ × ℕ) FrameFault
text_in l i budget = text_behind l.first.segments l.first.segment (l.first.start + i) budget

-- the root pointer, which is word 0 of segment 0, is there and isn't zero
unfoldable pub has_root : Segments → Bool
has_root all = has_words all 0 0 1 && not (word_at (segment_at all 0) 0 == 0)

-- The struct that the root pointer leads to, which is word 0 of segment 0.
unfoldable pub root_of : Segments → ℕ → Result (Object × ℕ) FrameFault
root_of all budget =
    if has_words all 0 0 1 then struct_behind all 0 0 budget
    else blamed 0 0 (Err F3)

-- a reading may cost twice the message's words plus 64
abbrev pub whole_budget : Segments → ℕ
whole_budget all = 2 * word_count all + 64
