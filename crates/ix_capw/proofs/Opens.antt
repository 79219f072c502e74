-- The file of one segment opens as that segment.
use Rattle.std.proofs.Common.{◌≡◌, ◌<◌, ◌+◌, ◌*◌, ◌%◌, ◌^◌, ◌++◌, [], ◌∷◌, List, ℕ, true, false, length, take, arith, refl, Ok, nat_lt, nat_eq}
use Rattle.std.proofs.lemmas.Bool.{le-ltb, eq-eqb}
use Rattle.std.proofs.lemmas.List.{take_all}
use Rattle.byteorder.specs.Endian.{little_bytes, little_number}
use Rattle.byteorder.specs.Numbers.{little_number-reads_back}
use Rattle.ix_frame.specs.Segments.{segments, cut, cut_out, numbers_of_four}
use Rattle.ix_capw.specs.Frame.{frame_bytes, words_in}

pub frame_opens : (segment : List ℕ) → length segment % 8 ≡ 0 → length segment < 2 ^ 30 → segments (frame_bytes segment) ≡ Ok (segment ∷ [])
unfolding segments cut cut_out numbers_of_four
frame_opens segment whole few =
    let count : little_number 4 (little_bytes 4 (words_in segment) ++ segment) ≡ words_in segment = little_number-reads_back 4 (words_in segment) segment (omega arith) in
    let long : nat_lt (length (frame_bytes segment)) 4 ≡ false = le-ltb _ _ (omega arith) in
    let table : nat_lt (length (frame_bytes segment)) 8 ≡ false = le-ltb _ _ (omega arith) in
    let exact : nat_eq (length (frame_bytes segment)) (8 + 8 * (0 + words_in segment)) ≡ true = eq-eqb _ _ (omega arith) in
    let all : take (8 * words_in segment) segment ≡ segment = take_all _ segment (omega arith) in
    rw (long, table, count, exact, all) refl
