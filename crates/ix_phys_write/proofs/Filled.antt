-- Trees written in preorder: the segment after each item.
use Rattle.std.proofs.Common.{◌≡◌, ◌≢◌, ◌<◌, ◌≤◌, ◌+◌, ◌*◌, ◌/◌, ◌^◌, ◌∙◌, ◌++◌, ℕ, zero, suc, Bool, true, false, List, [], ◌∷◌, length, take, drop, get_or, set, ap, arith, sym, subst, refl, inl, inr, ◌⊎◌, length-append, get_or-set_same, get_or-set_other}
use Rattle.std.specs.Prelude.{Some, Err, slice_get, nat_lt, ◌&&◌}
use Rattle.std.specs.List.{AllByRecursion}
use Rattle.std.proofs.lemmas.Bool.{cases_lt, cases_eq}
use Rattle.std.proofs.lemmas.List.{drop_all, length-set}
use Rattle.ix_message.specs.Shape.{Branches, ends, branch}
use Rattle.ix_message.specs.Names.{branches_map}
use Rattle.ix_message.specs.Layout.{Section, data_section, number_bytes, all_fit, element_objects, elements_fit, nothing_laid, structs_laid, branch_sections}
use Rattle.ix_message.proofs.Whole.{Whole, IsWide, whole-padded, words-data_section, whole-structs_laid, length-structs_laid, whole-element_objects}
use Rattle.ix_capw.specs.Frame.{words_in}
use Rattle.ix_capw.specs.Growth.{written, with_object, blank_structs, too_long, IsSegment}
use Rattle.ix_capw.specs.declared.builder.BuildFault.{BuildFault}
use Rattle.ix_capw.specs.declared.builder.BuildFault.TheVariants.{TooLong, Memory}
use Rattle.ix_message_write.specs.Growth.{with_section, with_sections, NoRoom}
use Rattle.ix_message_write.specs.Says.{Puts, HasPut}
use Rattle.ix_message_write.proofs.Laid.{length-written, length-with_object, list_laid, list_refused, elements_refused, list_fits, list_long, list_inside, whole_before}
use Rattle.ix_message_write.proofs.Turns.{left}
use Rattle.ix_rec.specs.declared.forest.Branch.{Branch}
use Rattle.ix_rec.specs.Forest.{next_limit}
use Rattle.ix_phys_write.specs.Trees.{trees_at, width}
use Rattle.ix_phys_write.specs.Made.{HasMade, MakesList}
use Rattle.ix_phys_write.proofs.Levels.{run, Passes, run_none, run_step, run_top, trees_here, trees_below, limit_next}

module _ {A : Type 0} (row : A → List ℕ) (five : (a : A) → length (row a) ≡ 5) where
  -- the sections of trees
  abbrev pub sections : Branches A → List Section
  sections t = branch_sections (branches_map row t)

  pub length-sections : (t : Branches A) → length (sections t) ≡ width t
  unfolding branch_sections
  length-sections ends = refl
  length-sections (branch x below beside) = omega (arith, length-sections beside)

  row_long : (a : A) → length (data_section (row a)) ≡ 24
  row_long a = omega (arith, (whole-padded (number_bytes (row a))).long, words-data_section (row a), five a)

  pub wide : (t : Branches A) → AllByRecursion (IsWide 3 1) (sections t)
  unfolding branch_sections
  wide ends = tt
  wide (branch x below beside) = (
    record {
      row = whole-padded (number_bytes (row x));
      words_is = omega (arith, row_long x);
      pointers_is = refl;
      behind = (whole-structs_laid 3 1 (sections below) (wide below), tt);
    },
    wide beside,
  )

  -- ---- what is still to be written, and how long and fitting it is

  unfoldable pub fill_step : (ℕ → ℕ) → ℕ → Branches A → List ℕ → List ℕ
  fill_step next k t S = with_sections (next k) 4 (sections t) S

  unfoldable pub long_step : ℕ → Branches A → ℕ → ℕ
  long_step k t n = n + length (element_objects (sections t))

  unfoldable pub fit_step : ℕ → Branches A → Bool → Bool
  fit_step k t b = b && elements_fit (sections t)

  fill_pass : (next : ℕ → ℕ) → Passes (fill_step next)
  unfolding fill_step branch_sections
  fill_pass next k S = refl

  long_pass : Passes long_step
  unfolding long_step branch_sections
  long_pass k n = omega arith

  fit_pass : Passes fit_step
  unfolding fit_step branch_sections
  fit_pass k true = refl
  fit_pass k false = refl

  -- ---- one item

  -- how long the segment is with a list that was made, and with what its elements lead to
  made_long : (q : ℕ) (t : Branches A) (S S' : List ℕ) → S' ≡ with_object q (blank_structs (width t) 3 1) S → 8 * (q + 1) ≤ length S
      → length S' + length (element_objects (sections t)) ≡ length S + length (structs_laid (sections t)).object
  unfolding branch_sections structs_laid
  made_long q ends S S' made inside = omega (arith, ap length made, length-with_object q nothing_laid S inside)
  made_long q (branch x below beside) S S' made inside =
      let t = branch x below beside in
      let k = width t in
      let some : 0 < k = omega arith in
      let long : length S' ≡ length S + 8 + 8 * (k * (3 + 1)) = ap length made ∙ list_long 3 1 q k S inside some in
      let e : Section = record { data_bytes = data_section (row x); behind = structs_laid (sections below) ∷ [] } in
      let laid = length-structs_laid 3 1 e (sections beside) (wide t) in
      omega (arith, long, laid, length-sections beside, (whole-element_objects 3 1 (e ∷ sections beside) (wide t)).long)

  -- a list that was made fits where its elements do
  fits_are : (t : Branches A) (S : List ℕ) → too_long (blank_structs (width t) 3 1) S ≡ false → (structs_laid (sections t)).fits ≡ elements_fit (sections t)
  unfolding branch_sections structs_laid
  fits_are ends S short = refl
  fits_are (branch x below beside) S short =
      let t = branch x below beside in
      let short2 : too_long (blank_structs (length (sections t)) 3 1) S ≡ false = ap (λ (k : ℕ). too_long (blank_structs k 3 1) S) (length-sections t) ∙ short in
      go (elements_fit (sections t)) refl (list_fits 3 1 (sections t) S short2)
    where
      go : (b : Bool) → elements_fit (sections (branch x below beside)) ≡ b → (elements_fit (sections (branch x below beside)) ≡ true → (structs_laid (sections (branch x below beside))).fits ≡ true)
          → (structs_laid (sections (branch x below beside))).fits ≡ elements_fit (sections (branch x below beside))
      go true e h = h e ∙ sym e
      go false e h = unfit (nat_lt (length (sections (branch x below beside))) (2 ^ 30)) (elements_fit (sections (branch x below beside))) e
        where
          unfit : (a b : Bool) → b ≡ false → (a && b) ≡ b
          unfit true b e = refl
          unfit false b e = sym e

  pub record BranchesSoFar (bs : List (Branch A)) (i start : ℕ) (first next now : List ℕ) : Type 0 where
    pub made : run (fill_step (λ k. get_or next k 0)) (suc (next_limit (take i bs))) (drop i bs) now ≡ with_sections start 4 (sections (trees_at 0 bs)) first
    pub long : run long_step (suc (next_limit (take i bs))) (drop i bs) (length now) ≡ length first + length (element_objects (sections (trees_at 0 bs)))
    pub fits : run fit_step (suc (next_limit (take i bs))) (drop i bs) true ≡ elements_fit (sections (trees_at 0 bs))
    pub inside : (k : ℕ) → k ≤ next_limit (take i bs) → 0 < width (trees_at k (drop i bs)) → 8 * (get_or next k 0 + 4 * width (trees_at k (drop i bs))) ≤ length now
    pub sized : length next ≡ length bs + 2
    pub segment : IsSegment now

  pub branches_none : (bs : List (Branch A)) (q start : ℕ) (S first next : List ℕ) → 8 * (q + 1) ≤ length S → HasMade q (width (trees_at 0 bs)) S first start
      → length next ≡ length bs + 2 → get_or next 0 0 ≡ start → BranchesSoFar bs 0 start first next first
  unfolding run fill_step long_step fit_step
  branches_none bs q start S first next inside made sized here = record {
    made = ap (λ (p : ℕ). with_sections p 4 (sections (trees_at 0 bs)) first) here;
    long = refl;
    fits = refl;
    inside = λ k le some.
        let zero_is : k ≡ 0 = omega arith in
        let room = list_inside 3 1 q (width (trees_at 0 bs)) S first made.made inside made.segment.whole (subst (λ (j : ℕ). 0 < width (trees_at j bs)) zero_is some) in
        subst (λ (j : ℕ). 8 * (get_or next j 0 + 4 * width (trees_at j bs)) ≤ length first) (sym zero_is) (omega (arith, room, here, made.start_is));
    sized = sized;
    segment = made.segment;
  }

  -- the item's own words are inside
  pub room_for : (bs : List (Branch A)) (i start : ℕ) (first next now : List ℕ) (b : Branch A) → i < length bs → slice_get bs i ≡ Some b → b.depth ≤ next_limit (take i bs)
      → BranchesSoFar bs i start first next now → 8 * (get_or next b.depth 0 + 4 * (width (trees_at b.depth (drop (i + 1) bs)) + 1)) ≤ length now
  room_for bs i start first next now b lt is le so_far =
      let here : width (trees_at b.depth (drop i bs)) ≡ width (trees_at b.depth (drop (i + 1) bs)) + 1 = ap (λ (l : List (Branch A)). width (trees_at b.depth l)) (left bs i b lt is) ∙ ap width (trees_here b (drop (i + 1) bs)) in
      let room = so_far.inside b.depth le (omega (arith, here)) in
      omega (arith, room, here)

  -- what an item asks of the segment, done step by step
  filled : (p start w : ℕ) (next next' : ℕ → ℕ) (d : ℕ) (x : A) (t1 t2 : Branches A) (now S1 S' : List ℕ) → next d ≡ p → next' d ≡ p + 4 → next' (suc d) ≡ start → w ≡ width t1
      → S1 ≡ written (8 * p) 24 (data_section (row x)) now → 8 * (p + 3 + 1) ≤ length S1 → HasMade (p + 3) w S1 S' start
      → fill_step next d (branch x t1 t2) now ≡ fill_step next' d t2 (fill_step next' (suc d) t1 S')
  unfolding fill_step branch_sections
  filled p start w next next' d x t1 t2 now S1 S' at at' start_at width_is wrote inside made =
      let bytes = data_section (row x) in
      let e : Section = record { data_bytes = bytes; behind = structs_laid (sections t1) ∷ [] } in
      let long : length bytes ≡ 24 = row_long x in
      let q : p + length bytes / 8 ≡ p + 3 = omega (arith, long) in
      let count : w ≡ length (sections t1) = width_is ∙ sym (length-sections t1) in
      let whole : Whole S1 = whole_before 3 1 (p + 3) w S1 S' made.made inside made.segment.whole in
      let list : with_object (p + 3) (structs_laid (sections t1)) S1 ≡ with_sections start 4 (sections t1) S' =
      sym (list_laid 3 1 (p + 3) (sections t1) S1 (wide t1) whole inside)
      ∙ ap (λ (k : ℕ). with_sections k 4 (sections t1) (with_object (p + 3) (blank_structs (length (sections t1)) 3 1) S1)) (sym made.start_is)
      ∙ ap (with_sections start 4 (sections t1)) (sym (made.made ∙ ap (λ (k : ℕ). with_object (p + 3) (blank_structs k 3 1) S1) count)) in
      let one : with_section p e now ≡ with_sections start 4 (sections t1) S' =
      ap (λ (k : ℕ). with_object k (structs_laid (sections t1)) (written (8 * p) (length bytes) bytes now)) q
      ∙ ap (λ (k : ℕ). with_object (p + 3) (structs_laid (sections t1)) (written (8 * p) k bytes now)) long
      ∙ ap (with_object (p + 3) (structs_laid (sections t1))) (sym wrote) ∙ list in
      ap (λ (k : ℕ). with_sections k 4 (e ∷ sections t2) now) at
      ∙ ap (with_sections (p + 4) 4 (sections t2)) one
      ∙ ap (λ (k : ℕ). with_sections k 4 (sections t2) (with_sections start 4 (sections t1) S')) (sym at')
      ∙ ap (λ (k : ℕ). with_sections (next' d) 4 (sections t2) (with_sections k 4 (sections t1) S')) (sym start_at)

  lengthened : (q d : ℕ) (x : A) (t1 t2 : Branches A) (now S1 S' : List ℕ) → length S1 ≡ length now → S' ≡ with_object q (blank_structs (width t1) 3 1) S1 → 8 * (q + 1) ≤ length S1
      → long_step d (branch x t1 t2) (length now) ≡ long_step d t2 (long_step (suc d) t1 (length S'))
  unfolding long_step branch_sections
  lengthened q d x t1 t2 now S1 S' same made inside =
      omega (arith, same, made_long q t1 S1 S' made inside, length-append ((structs_laid (sections t1)).object ++ []) (element_objects (sections t2)), length-append (structs_laid (sections t1)).object [])

  fitted : (d : ℕ) (x : A) (t1 t2 : Branches A) (S1 : List ℕ) → too_long (blank_structs (width t1) 3 1) S1 ≡ false → fit_step d (branch x t1 t2) true ≡ fit_step d t2 (fit_step (suc d) t1 true)
  unfolding fit_step branch_sections
  fitted d x t1 t2 S1 short = go (structs_laid (sections t1)).fits (elements_fit (sections t1)) (elements_fit (sections t2)) (fits_are t1 S1 short)
    where
      go : (a b c : Bool) → a ≡ b → (true && ((a && true) && c)) ≡ ((true && b) && c)
      go true true c e = refl
      go false false c e = refl
      go true false c e = absurd cc
      go false true c e = absurd cc

  fill_at : (f g : ℕ → ℕ) (j : ℕ) (t : Branches A) (z : List ℕ) → f j ≡ g j → fill_step f j t z ≡ fill_step g j t z
  unfolding fill_step
  fill_at f g j t z e = ap (λ (k : ℕ). with_sections k 4 (sections t) z) e

  -- the trees that are still to be written are inside
  inside_turn : (bs : List (Branch A)) (i start : ℕ) (first next now : List ℕ) (b : Branch A) (next' S1 S' : List ℕ) (w begin : ℕ) → i < length bs → slice_get bs i ≡ Some b → b.depth ≤ next_limit (take i bs)
      → w ≡ width (trees_at (b.depth + 1) (drop (i + 1) bs)) → length S1 ≡ length now → length now ≤ length S' → 8 * (get_or next b.depth 0 + 3 + 1) ≤ length S1 → HasMade (get_or next b.depth 0 + 3) w S1 S' begin
      → get_or next' b.depth 0 ≡ get_or next b.depth 0 + 4 → get_or next' (b.depth + 1) 0 ≡ begin → ((j : ℕ) → j < b.depth → get_or next' j 0 ≡ get_or next j 0)
      → BranchesSoFar bs i start first next now → (k : ℕ) → k ≤ b.depth + 1 → 0 < width (trees_at k (drop (i + 1) bs)) → 8 * (get_or next' k 0 + 4 * width (trees_at k (drop (i + 1) bs))) ≤ length S'
  inside_turn bs i start first next now b next' S1 S' w begin lt is le width_is same grown inside made at' start_at others so_far k within some = go (cases_lt k b.depth)
    where
      rest : List (Branch A)
      rest = drop (i + 1) bs

      deeper : b.depth ≤ k → (k ≡ b.depth) ⊎ (k ≢ b.depth) → 8 * (get_or next' k 0 + 4 * width (trees_at k (drop (i + 1) bs))) ≤ length S'
      deeper ge (inl e) =
          let room = room_for bs i start first next now b lt is le so_far in
          subst (λ (j : ℕ). 8 * (get_or next' j 0 + 4 * width (trees_at j (drop (i + 1) bs))) ≤ length S') (sym e) (omega (arith, room, at', grown))
      deeper ge (inr ne) =
          let last : k ≡ b.depth + 1 = omega arith in
          let some2 : 0 < w = omega (arith, width_is, some, ap (λ (j : ℕ). width (trees_at j (drop (i + 1) bs))) last) in
          let room = list_inside 3 1 (get_or next b.depth 0 + 3) w S1 S' made.made inside made.segment.whole some2 in
          subst (λ (j : ℕ). 8 * (get_or next' j 0 + 4 * width (trees_at j (drop (i + 1) bs))) ≤ length S') (sym last) (omega (arith, room, start_at, made.start_is, width_is))

      go : (k < b.depth) ⊎ (b.depth ≤ k) → 8 * (get_or next' k 0 + 4 * width (trees_at k (drop (i + 1) bs))) ≤ length S'
      go (inl less) =
          let before : width (trees_at k (drop i bs)) ≡ width (trees_at k (drop (i + 1) bs)) = ap (λ (l : List (Branch A)). width (trees_at k l)) (left bs i b lt is) ∙ ap width (trees_below k b (drop (i + 1) bs) less) in
          let room = so_far.inside k (omega arith) (omega (arith, before)) in
          omega (arith, room, before, others k less, grown)
      go (inr ge) = deeper ge (cases_eq k b.depth)

  pub branches_turn : (bs : List (Branch A)) (i start : ℕ) (first next now : List ℕ) (b : Branch A) (S1 S' : List ℕ) (w begin : ℕ) → i < length bs → slice_get bs i ≡ Some b → b.depth ≤ next_limit (take i bs) → b.depth + 1 < length next
      → w ≡ width (trees_at (b.depth + 1) (drop (i + 1) bs)) → S1 ≡ written (8 * get_or next b.depth 0) 24 (data_section (row b.item)) now → HasMade (get_or next b.depth 0 + 3) w S1 S' begin
      → BranchesSoFar bs i start first next now → BranchesSoFar bs (i + 1) start first (set (set next (b.depth + 1) begin) b.depth (get_or next b.depth 0 + 4)) S'
  unfolding run
  branches_turn bs i start first next now b S1 S' w begin lt is le there width_is wrote made so_far =
      let d = b.depth in
      let p = get_or next d 0 in
      let rest = drop (i + 1) bs in
      let t1 = trees_at (suc d) rest in
      let t2 = trees_at d rest in
      let next' = set (set next (d + 1) begin) d (p + 4) in
      let plus : d + 1 ≡ suc d = omega arith in
      let here = left bs i b lt is in
      let room = room_for bs i start first next now b lt is le so_far in
      let S1_long : length S1 ≡ length now = ap length wrote ∙ length-written (8 * p) 24 (data_section (row b.item)) now (row_long b.item) (omega (arith, room)) in
      let inside : 8 * (p + 3 + 1) ≤ length S1 = omega (arith, room, S1_long) in
      let w_is : w ≡ width t1 = width_is ∙ ap (λ (k : ℕ). width (trees_at k rest)) plus in
      let made_is : S' ≡ with_object (p + 3) (blank_structs (width t1) 3 1) S1 = made.made ∙ ap (λ (k : ℕ). with_object (p + 3) (blank_structs k 3 1) S1) w_is in
      let short : too_long (blank_structs (width t1) 3 1) S1 ≡ false = sym (ap (λ (k : ℕ). too_long (blank_structs k 3 1) S1) w_is) ∙ made.short in
      let limit : next_limit (take (i + 1) bs) ≡ suc d = limit_next bs i b lt is ∙ plus in
      let inner : length (set next (d + 1) begin) ≡ length next = length-set next (d + 1) begin in
      let at' : get_or next' d 0 ≡ p + 4 = get_or-set_same (set next (d + 1) begin) d (p + 4) 0 (omega (arith, inner)) in
      let apart : d + 1 ≢ d = λ e. omega arith in
      let start_at : get_or next' (d + 1) 0 ≡ begin = get_or-set_other (set next (d + 1) begin) d (d + 1) (p + 4) 0 apart ∙ get_or-set_same next (d + 1) begin 0 there in
      let others : (j : ℕ) → j < d → get_or next' j 0 ≡ get_or next j 0 = λ j less.
      get_or-set_other (set next (d + 1) begin) d j (p + 4) 0 (λ e. omega arith) ∙ get_or-set_other next (d + 1) j begin 0 (λ e. omega arith) in
      let fill = fill_step (λ k. get_or next k 0) in
      let fill' = fill_step (λ k. get_or next' k 0) in
      let K = suc (next_limit (take i bs)) in
      let filled_rest : run fill K (drop i bs) now ≡ run fill' (suc (suc d)) rest S' =
      ap (λ (l : List (Branch A)). run fill K l now) here
      ∙ run_step fill fill' (fill_pass (λ k. get_or next k 0)) K b rest now S' (omega arith)
      (λ j less t z. fill_at (λ k. get_or next k 0) (λ k. get_or next' k 0) j t z (sym (others j less)))
      (filled p begin w (λ k. get_or next k 0) (λ k. get_or next' k 0) d b.item t1 t2 now S1 S' refl at' (subst (λ (k : ℕ). get_or next' k 0 ≡ begin) plus start_at) w_is wrote inside made) in
      let long_rest : run long_step K (drop i bs) (length now) ≡ run long_step (suc (suc d)) rest (length S') =
      ap (λ (l : List (Branch A)). run long_step K l (length now)) here
      ∙ run_step long_step long_step long_pass K b rest (length now) (length S') (omega arith) (λ j less t z. refl) (lengthened (p + 3) d b.item t1 t2 now S1 S' S1_long made_is inside) in
      let fits_rest : run fit_step K (drop i bs) true ≡ run fit_step (suc (suc d)) rest true =
      ap (λ (l : List (Branch A)). run fit_step K l true) here
      ∙ run_step fit_step fit_step fit_pass K b rest true true (omega arith) (λ j less t z. refl) (fitted d b.item t1 t2 S1 short) in
      let S'_long : length S1 ≤ length S' = omega (arith, ap length made_is, length-with_object (p + 3) (blank_structs (width t1) 3 1) S1 inside) in
      record {
        made = ap (λ (k : ℕ). run fill' (suc k) rest S') limit ∙ sym filled_rest ∙ so_far.made;
        long = ap (λ (k : ℕ). run long_step (suc k) rest (length S')) limit ∙ sym long_rest ∙ so_far.long;
        fits = ap (λ (k : ℕ). run fit_step (suc k) rest true) limit ∙ sym fits_rest ∙ so_far.fits;
        inside = λ k within some.
            inside_turn bs i start first next now b next' S1 S' w begin lt is le width_is S1_long (omega (arith, S'_long, S1_long)) inside made at' start_at others so_far k (omega (arith, within, limit)) some;
        sized = length-set (set next (d + 1) begin) d (p + 4) ∙ inner ∙ so_far.sized;
        segment = made.segment;
      }

  -- ---- the end, and refusals

  pub branches_done : (bs : List (Branch A)) (i q start : ℕ) (S first next now : List ℕ) → length bs ≤ i → 8 * (q + 1) ≤ length S → HasMade q (width (trees_at 0 bs)) S first start
      → BranchesSoFar bs i start first next now → HasPut q (structs_laid (sections (trees_at 0 bs))) S now
  branches_done bs i q start S first next now le inside made so_far =
      let roots = sections (trees_at 0 bs) in
      let none : drop i bs ≡ [] = drop_all i bs le in
      let K = suc (next_limit (take i bs)) in
      let fill = fill_step (λ k. get_or next k 0) in
      let count : width (trees_at 0 bs) ≡ length roots = sym (length-sections (trees_at 0 bs)) in
      let whole : Whole S = whole_before 3 1 q (width (trees_at 0 bs)) S first made.made inside made.segment.whole in
      let now_is : now ≡ with_sections start 4 roots first = sym (ap (λ (l : List (Branch A)). run fill K l now) none ∙ run_none fill (fill_pass (λ k. get_or next k 0)) K now) ∙ so_far.made in
      let fit : true ≡ elements_fit roots = sym (ap (λ (l : List (Branch A)). run fit_step K l true) none ∙ run_none fit_step fit_pass K true) ∙ so_far.fits in
      let short : too_long (blank_structs (length roots) 3 1) S ≡ false = sym (ap (λ (k : ℕ). too_long (blank_structs k 3 1) S) count) ∙ made.short in
      record {
        made = now_is ∙ ap (λ (k : ℕ). with_sections k 4 roots first) made.start_is
            ∙ ap (with_sections (words_in S + 1) 4 roots) (made.made ∙ ap (λ (k : ℕ). with_object q (blank_structs k 3 1) S) count) ∙ list_laid 3 1 q roots S (wide (trees_at 0 bs)) whole inside;
        fits = list_fits 3 1 roots S short (sym fit);
        segment = so_far.segment;
      }

  pub roots_refused : (bs : List (Branch A)) (q : ℕ) (S after : List ℕ) (f : BuildFault) → MakesList q (width (trees_at 0 bs)) S after (Err f) → Puts {X = Unit {0}} q (structs_laid (sections (trees_at 0 bs))) S after (Err f)
  roots_refused bs q S after TooLong long =
      let count : width (trees_at 0 bs) ≡ length (sections (trees_at 0 bs)) = sym (length-sections (trees_at 0 bs)) in
      list_refused 3 1 (sections (trees_at 0 bs)) S (wide (trees_at 0 bs)) (sym (ap (λ (k : ℕ). too_long (blank_structs k 3 1) S) count) ∙ long)
  roots_refused bs q S after Memory long = tt

  long_ge : (k : ℕ) (bs : List (Branch A)) (n : ℕ) → n ≤ run long_step k bs n
  unfolding run long_step
  long_ge zero bs n = omega arith
  long_ge (suc k) bs n = let more : n ≤ n + length (element_objects (sections (trees_at k bs))) = omega arith in omega (arith, long_ge k bs (n + length (element_objects (sections (trees_at k bs)))))

  unfit_stays : (k : ℕ) (bs : List (Branch A)) → run fit_step k bs false ≡ false
  unfolding run fit_step
  unfit_stays zero bs = refl
  unfit_stays (suc k) bs = unfit_stays k bs

  visit_long : (d n : ℕ) (x : A) (t1 t2 : Branches A) → n + length ((structs_laid (sections t1)).object ++ []) ≤ long_step d (branch x t1 t2) n
  unfolding long_step branch_sections
  visit_long d n x t1 t2 = omega (arith, length-append ((structs_laid (sections t1)).object ++ []) (element_objects (sections t2)))

  visit_fit : (d : ℕ) (x : A) (t1 t2 : Branches A) → all_fit (structs_laid (sections t1) ∷ []) ≡ false → fit_step d (branch x t1 t2) true ≡ false
  unfolding fit_step branch_sections
  visit_fit d x t1 t2 e = ap (λ (b : Bool). b && elements_fit (sections t2)) e

  pub branch_refused : (bs : List (Branch A)) (i q start : ℕ) (S first next now : List ℕ) (b : Branch A) (S1 S' after : List ℕ) (w : ℕ) (f : BuildFault) → i < length bs → slice_get bs i ≡ Some b → b.depth ≤ next_limit (take i bs)
      → 8 * (q + 1) ≤ length S → HasMade q (width (trees_at 0 bs)) S first start → w ≡ width (trees_at (b.depth + 1) (drop (i + 1) bs)) → length S1 ≡ length now → BranchesSoFar bs i start first next now
      → MakesList (get_or next b.depth 0 + 3) w S1 S' (Err f) → Puts {X = Unit {0}} q (structs_laid (sections (trees_at 0 bs))) S after (Err f)
  branch_refused bs i q start S first next now b S1 S' after w Memory lt is le inside made width_is same so_far refused = tt
  branch_refused bs i q start S first next now b S1 S' after w TooLong lt is le inside made width_is same so_far refused =
      let roots = sections (trees_at 0 bs) in
      let count : width (trees_at 0 bs) ≡ length roots = sym (length-sections (trees_at 0 bs)) in
      let short : too_long (blank_structs (length roots) 3 1) S ≡ false = sym (ap (λ (k : ℕ). too_long (blank_structs k 3 1) S) count) ∙ made.short in
      let made2 : first ≡ with_object q (blank_structs (length roots) 3 1) S = made.made ∙ ap (λ (k : ℕ). with_object q (blank_structs k 3 1) S) count in
      elements_refused 3 1 q roots S (wide (trees_at 0 bs)) inside short (subst (λ (t : List ℕ). (2 ^ 30 ≤ length t + length (element_objects roots)) ⊎ (elements_fit roots ≡ false)) made2 (sums refused2))
    where
      rest : List (Branch A)
      rest = drop (i + 1) bs

      plus : b.depth + 1 ≡ suc b.depth
      plus = omega arith

      t1 : Branches A
      t1 = trees_at (suc b.depth) rest

      refused2 : NoRoom (structs_laid (sections t1) ∷ []) S1
      refused2 = list_refused 3 1 (sections t1) S1 (wide t1) (sym (ap (λ (k : ℕ). too_long (blank_structs k 3 1) S1) (width_is ∙ ap (λ (k : ℕ). width (trees_at k rest)) plus ∙ sym (length-sections t1))) ∙ refused)

      sums : NoRoom (structs_laid (sections t1) ∷ []) S1 → (2 ^ 30 ≤ length first + length (element_objects (sections (trees_at 0 bs)))) ⊎ (elements_fit (sections (trees_at 0 bs)) ≡ false)
      sums (inl many) = inl (omega (arith, many, same, so_far.long, long_part))
        where
          long_part : length now + length ((structs_laid (sections t1)).object ++ []) ≤ run long_step (suc (next_limit (take i bs))) (drop i bs) (length now)
          long_part =
              let d = b.depth in
              let t2 = trees_at d rest in
              let K = suc (next_limit (take i bs)) in
              let n = length now in
              let visit : run long_step K (drop i bs) n ≡ run long_step d (b ∷ rest) (long_step d (branch b.item t1 t2) n) =
              ap (λ (l : List (Branch A)). run long_step K l n) (left bs i b lt is) ∙ run_top long_step long_pass K b rest n (omega arith)
              ∙ ap (λ (t : Branches A). run long_step d (b ∷ rest) (long_step d t n)) (trees_here b rest) in
              omega (arith, visit, long_ge d (b ∷ rest) (long_step d (branch b.item t1 t2) n), visit_long d n b.item t1 t2)
      sums (inr unfit) =
          let d = b.depth in
          let t2 = trees_at d rest in
          let K = suc (next_limit (take i bs)) in
          let visit : run fit_step K (drop i bs) true ≡ run fit_step d (b ∷ rest) (fit_step d (branch b.item t1 t2) true) =
          ap (λ (l : List (Branch A)). run fit_step K l true) (left bs i b lt is) ∙ run_top fit_step fit_pass K b rest true (omega arith)
          ∙ ap (λ (t : Branches A). run fit_step d (b ∷ rest) (fit_step d t true)) (trees_here b rest) in
          inr (sym so_far.fits ∙ visit ∙ ap (run fit_step d (b ∷ rest)) (visit_fit d b.item t1 t2 unfit) ∙ unfit_stays d (b ∷ rest))
