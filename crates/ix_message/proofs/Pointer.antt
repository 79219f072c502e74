-- The parts of a pointer that was written.
use Rattle.std.proofs.Common.{◌≡◌, ◌<◌, ◌^◌, ℕ, arith}
use Rattle.ix_message.specs.Layout.{struct_pointer, list_pointer}
use Rattle.ix_frame.specs.Target.{kind_of, offset_of, data_words_of, pointer_words_of, element_size_of, element_count_of}

pub record StructParts (d q gap : ℕ) : Type 0 where
  pub kind : kind_of (struct_pointer d q gap) ≡ 0
  pub offset : offset_of (struct_pointer d q gap) ≡ gap
  pub data_words : data_words_of (struct_pointer d q gap) ≡ d
  pub pointer_words : pointer_words_of (struct_pointer d q gap) ≡ q
  pub below : struct_pointer d q gap < 256 ^ 8

pub struct_parts : (d q gap : ℕ) → d < 2 ^ 16 → q < 2 ^ 16 → gap < 2 ^ 30 → StructParts d q gap
struct_parts d q gap hd hq hg = record {
  kind = omega arith;
  offset = omega arith;
  data_words = omega arith;
  pointer_words = omega arith;
  below = omega arith;
}

pub record ListParts (size count gap : ℕ) : Type 0 where
  pub kind : kind_of (list_pointer size count gap) ≡ 1
  pub offset : offset_of (list_pointer size count gap) ≡ gap
  pub size_is : element_size_of (list_pointer size count gap) ≡ size
  pub count_is : element_count_of (list_pointer size count gap) ≡ count
  pub below : list_pointer size count gap < 256 ^ 8

pub list_parts : (size count gap : ℕ) → size < 8 → count < 2 ^ 29 → gap < 2 ^ 30 → ListParts size count gap
list_parts size count gap hs hc hg = record {
  kind = omega arith;
  offset = omega arith;
  size_is = omega arith;
  count_is = omega arith;
  below = omega arith;
}
