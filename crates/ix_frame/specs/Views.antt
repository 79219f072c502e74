-- What the values of this crate are.
use Rattle.std.specs.Prelude.{◌≡◌, List as Items, ℕ, ◌+◌, ◌*◌, ◌≤◌, true, length}
use Rattle.ix_frame.specs.declared.frame.Frame.{Frame}
use Rattle.ix_frame.specs.declared.segment.Segment.{Segment}
use Rattle.ix_frame.specs.declared.target.Aim.{Aim}
use Rattle.ix_frame.specs.declared.target.Place.{Place}
use Rattle.ix_frame.specs.declared.object.Obj.{Obj}
use Rattle.ix_frame.specs.declared.list.List.{List}
use Rattle.ix_frame.specs.declared.follow.Run.{Run}
use Rattle.ix_frame.specs.declared.list.Numbers.{Numbers}
use Rattle.ix_frame.specs.declared.list.Texts.{Texts}
use Rattle.ix_frame.specs.Segments.{Segments, cut_out, has_words}
use Rattle.ix_frame.specs.Target.{Pointed, Object, Elements, list_words}
use Rattle.ix_frame.specs.Objects.{numbers_in}

-- the segments of an opened file
abbrev pub segments_of : Frame → Segments
segments_of f = cut_out f.bytes.now

-- the segments of the file that a segment is in
abbrev pub all_of : Segment → Segments
all_of s = segments_of s.frame

-- it is the segment with this number of these
pub record IsIn (segments : Segments) (n : ℕ) (s : Segment) : Type 0 where
  pub all : all_of s ≡ segments
  pub number : s.number ≡ n

-- it is the segment with this number of these, and these words lie in it
pub record Holds (segments : Segments) (n start words : ℕ) (s : Segment) : Type 0 where
  pub all : all_of s ≡ segments
  pub number : s.number ≡ n
  pub has : has_words segments n start words ≡ true
  pub room : 8 * (start + words) ≤ length s.bytes.now

abbrev pub aim_of : Aim → Pointed
aim_of a = record { described = a.described; segment = a.segment; start = a.start }

-- these words from the place on lie in the segment with this number
abbrev pub IsPlace : Segments → ℕ → ℕ → Place → Type 0
IsPlace segments n words p = Holds segments n p.start words p.segment

abbrev pub object_of : Obj → Object
object_of o = record {
  segments = all_of o.segment;
  segment = o.segment.number;
  start = o.start;
  data_words = o.data_words;
  pointer_words = o.pointer_words;
}

abbrev pub elements_of : List → Elements
elements_of l = record {
  count = l.count;
  first = record {
    segments = all_of l.segment;
    segment = l.segment.number;
    start = l.start;
    data_words = l.data_words;
    pointer_words = l.pointer_words;
  };
}

abbrev pub run_of : Run → Elements
run_of l = record {
  count = l.count;
  first
      = record {
        segments = all_of l.segment;
        segment = l.segment.number;
        start = l.start;
        data_words = 0;
        pointer_words = 0;
      };
}

-- the words of a list of this element size lie in its segment
pub record IsRun (size : ℕ) (l : Run) : Type 0 where
  pub room : 8 * (l.start + list_words size l.count) ≤ length l.segment.bytes.now

-- a list of numbers, and the numbers themselves
abbrev pub number_elements : Numbers → Elements
number_elements l = record {
  count = l.count;
  first = record {
    segments = all_of l.segment;
    segment = l.segment.number;
    start = l.start;
    data_words = 0;
    pointer_words = 0;
  };
}

abbrev pub numbers_of : Numbers → Items ℕ
numbers_of l = numbers_in (number_elements l)

abbrev pub text_elements : Texts → Elements
text_elements l = record {
  count = l.count;
  first = record {
    segments = all_of l.segment;
    segment = l.segment.number;
    start = l.start;
    data_words = 0;
    pointer_words = 0;
  };
}
