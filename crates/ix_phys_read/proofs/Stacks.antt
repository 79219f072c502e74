-- Taking the branches of a list with a stack of the lists that aren't done, the last on top.
use Rattle.std.proofs.Common.{◌≡◌, ◌≤◌, ◌<◌, ◌+◌, ℕ, suc, List, [], ◌∷◌, ◌++◌, map, length, Ok, Err}
use Rattle.std.proofs.Common.{refl, sym, ap, subst, ◌∙◌, append_assoc, inl, inr, arith}
use Rattle.std.specs.List.{flat_map}
use Rattle.std.proofs.lemmas.List.{append-nil, map-append, length-map, length-append}
use Rattle.ix_frame.specs.Objects.{element_of}
use Rattle.ix_frame.specs.Sound.{sound_elements}
use Rattle.ix_frame.specs.Views.{elements_of}
use Rattle.ix_message.specs.Indexes.{Item, Lists, branch_steps}
use Rattle.ix_message.specs.Names.{Datum, branches_map, data_of}
use Rattle.ix_message.specs.Phys.{segment}
use Rattle.ix_message.specs.Reading.{row_at}
use Rattle.ix_message.specs.Shape.{Text, Branches, ends, preorder}
use Rattle.ix_phys_write.specs.Record.{segment_row}
use Rattle.ix_phys_write.specs.Trees.{trees_at}
use Rattle.ix_rec.specs.Forest.{next_limit, limit_after, depths, StepsWithin}
use Rattle.ix_rec.specs.declared.forest.Branch.{Branch}
use Rattle.ix_rec.specs.declared.phys.Segment.{Segment}
use Rattle.ix_phys_read.specs.declared.branches.Open.{Open}
use Rattle.ix_phys_read.specs.Open.{Puts}
use Rattle.ix_phys_read.specs.Sound.{AreSound}
use Rattle.ix_take.specs.Walked.{walked}
use Rattle.ix_phys_read.specs.Walked.{counted_structs}
use Rattle.ix_phys_read.proofs.Opened.{Opened, opened, none_left}
use Rattle.ix_take.specs.Going.{walked_then, walked_fails}
use Rattle.ix_phys_read.proofs.Steps.{item_steps, in_preorder}
use Rattle.ix_phys_read.proofs.Trees.{told, changed, depth_of, as_branch, preorder_told}
use Rattle.ix_phys_read.proofs.Trees.{trees_again, trees_changed, depths_step, depth_within}
use Rattle.ix_phys_read.proofs.Trees.{depth_count}

-- the rest of each open list is these trees
abbrev pub AreOpen : List Open → List (Branches (List ℕ)) → Type 0
AreOpen [] [] = Unit {0}
AreOpen [] (t ∷ ts) = ⊥
AreOpen (x ∷ xs) [] = ⊥
AreOpen (x ∷ xs) (t ∷ ts) = AreSound (elements_of x.list) x.next t × AreOpen xs ts

-- the items that are still to come, those of the list on top first
abbrev pub to_come : List Open → List (Branches (List ℕ)) → List (ℕ × List ℕ)
to_come [] ts = []
to_come (x ∷ xs) [] = []
to_come (x ∷ xs) (t ∷ ts) = to_come xs ts ++ preorder x.depth t

-- A list is taken from the top.
pub record Popped (ys : List Open) (x : Open) (ts : List (Branches (List ℕ))) : Type 0 where
  pub under : List (Branches (List ℕ))
  pub top : Branches (List ℕ)
  pub stands : AreOpen ys under
  pub sound : AreSound (elements_of x.list) x.next top
  pub is : to_come (ys ++ x ∷ []) ts ≡ preorder x.depth top ++ to_come ys under

pub popped : (ys : List Open) (x : Open) (ts : List (Branches (List ℕ))) → AreOpen (ys ++ x ∷ []) ts
    → Popped ys x ts
popped [] x [] h = absurd h
popped [] x (t ∷ []) h = record {
  under = [];
  top = t;
  stands = tt;
  sound = h.0;
  is =
      sym (append-nil (preorder x.depth t));
}
popped [] x (t ∷ (u ∷ us)) h = absurd h.1
popped (y ∷ ys) x [] h = absurd h
popped (y ∷ ys) x (t ∷ ts) h =
    let p = popped ys x ts h.1 in
    record {
      under = t ∷ p.under;
      top = p.top;
      stands = (h.0, p.stands);
      sound = p.sound;
      is = ap (λ (items : List (ℕ × List ℕ)). items ++ preorder y.depth t) p.is
          ∙ append_assoc (preorder x.depth p.top) (to_come ys p.under) (preorder y.depth t);
    }

-- and put on top
pub record Pushed (ys : List Open) (x : Open) (us : List (Branches (List ℕ)))
    (t : Branches (List ℕ)) : Type 0 where
  pub stands : AreOpen (ys ++ x ∷ []) (us ++ t ∷ [])
  pub is : to_come (ys ++ x ∷ []) (us ++ t ∷ []) ≡ preorder x.depth t ++ to_come ys us

pub pushed : (ys : List Open) (x : Open) (us : List (Branches (List ℕ))) (t : Branches (List ℕ))
    → AreOpen ys us → AreSound (elements_of x.list) x.next t → Pushed ys x us t
pushed [] x [] t h sound = record {
  stands = (sound, tt);
  is =
      sym (append-nil (preorder x.depth t));
}
pushed [] x (u ∷ us) t h sound = absurd h
pushed (y ∷ ys) x [] t h sound = absurd h
pushed (y ∷ ys) x (u ∷ us) t h sound =
    let p = pushed ys x us t h.1 sound in
    record {
      stands = (h.0, p.stands);
      is = ap (λ (items : List (ℕ × List ℕ)). items ++ preorder y.depth u) p.is
          ∙ append_assoc (preorder x.depth t) (to_come ys us) (preorder y.depth u);
    }

-- Put on the stack, where it isn't done: what is to come is the same.
pub record PutOn (ys zs : List Open) (x : Open) (us : List (Branches (List ℕ)))
    (t : Branches (List ℕ)) : Type 0 where
  pub trees : List (Branches (List ℕ))
  pub stands : AreOpen zs trees
  pub is : to_come zs trees ≡ preorder x.depth t ++ to_come ys us

pub put_on : (ys zs : List Open) (x : Open) (us : List (Branches (List ℕ)))
    (t : Branches (List ℕ)) → Puts x ys zs → AreOpen ys us
    → AreSound (elements_of x.list) x.next t → PutOn ys zs x us t
put_on ys zs x us t (inl is) h sound =
    let p = pushed ys x us t h sound in
    record { trees = us ++ t ∷ []; stands = rw is p.stands; is = rw is p.is }
put_on ys zs x us t (inr done) h sound =
    let none : t ≡ ends = none_left (elements_of x.list) x.next t sound done.0 in
    record {
      trees = us;
      stands = rw done.1 h;
      is = rw done.1 (ap (λ (b : Branches (List ℕ)). preorder x.depth b ++ to_come ys us)
          (sym none));
    }

-- The loop: what was taken, and what the open lists still give, are the whole.

abbrev pub data_by : List Text → List ℕ → List Datum
data_by table row = data_of table row segment row

abbrev pub shown : List Text → Branch Segment → ℕ × List Datum
shown names b = (b.depth, segment_row names b.item)

pub record Taken (names table : List Text) (lists : Lists) (whole : Branches (List ℕ))
    (before : List ℕ) (stack : List Open) (found : List (Branch Segment))
    (now : List ℕ) : Type 0 where
  pub taken : List (ℕ × List ℕ)
  pub trees : List (Branches (List ℕ))
  pub stands : AreOpen stack trees
  pub whole_is : preorder 0 whole ≡ taken ++ to_come stack trees
  pub made : map (shown names) found ≡ map (told (data_by table)) taken
  pub steps : walked counted_structs before
      (branch_steps lists "RouteBranch" segment whole) ≡ walked counted_structs now
      (flat_map (item_steps lists) (to_come stack trees))

module _ (names table : List Text) (lists : Lists) (whole : Branches (List ℕ))
    (before : List ℕ) where
  abbrev At : List Open → List (Branch Segment) → List ℕ → Type 0
  At stack found now = Taken names table lists whole before stack found now

  -- before the first turn
  pub begins : (l : Open) → l.depth ≡ 0 → l.next ≡ 0 → AreSound (elements_of l.list) 0 whole
      → At (l ∷ []) [] before
  begins l top first sound = record {
    taken = [];
    trees = whole ∷ [];
    stands = (rw first sound, tt);
    whole_is = rw top refl;
    made = refl;
    steps = ap (walked counted_structs before) (rw top (in_preorder lists 0 whole));
  }

  -- the list on top is done
  pub one_done : (xs ys : List Open) (x : Open) (found : List (Branch Segment)) (now : List ℕ)
      → xs ≡ ys ++ x ∷ [] → (elements_of x.list).count ≤ x.next → At xs found now → At ys found now
  one_done xs ys x found now is le h =
      let p = popped ys x h.trees (rw is at h.stands) in
      let none : p.top ≡ ends = none_left (elements_of x.list) x.next p.top p.sound le in
      let same : to_come xs h.trees ≡ to_come ys p.under =
      ap (λ (zs : List Open). to_come zs h.trees) is ∙ p.is
      ∙ ap (λ (t : Branches (List ℕ)). preorder x.depth t ++ to_come ys p.under) none in
      record {
        taken = h.taken;
        trees = p.under;
        stands = p.stands;
        whole_is = h.whole_is ∙ ap (λ (items : List (ℕ × List ℕ)). h.taken ++ items) same;
        made = h.made;
        steps = h.steps ∙ ap (λ (items : List (ℕ × List ℕ)). walked counted_structs now
            (flat_map (item_steps lists) items)) same;
      }

  -- The branch that comes next.
  pub record Next (xs ys : List Open) (x : Open) (taken : List (ℕ × List ℕ))
      (trees : List (Branches (List ℕ))) : Type 0 where
    pub under : List (Branches (List ℕ))
    pub top : Branches (List ℕ)
    pub stands : AreOpen ys under
    pub branch : Opened (elements_of x.list) x.next top
    pub rest : List (ℕ × List ℕ)
    pub rest_is : rest ≡ preorder (x.depth + 1) branch.below ++
        (preorder x.depth branch.beside ++ to_come ys under)
    pub is : to_come xs trees ≡ (x.depth, row_at segment 0 (element_of (elements_of x.list) x.next))
        ∷ rest

  pub next : (xs ys : List Open) (x : Open) (found : List (Branch Segment)) (now : List ℕ)
      → xs ≡ ys ++ x ∷ [] → x.next < (elements_of x.list).count → (h : At xs found now)
      → Next xs ys x h.taken h.trees
  next xs ys x found now is lt h =
      let p = popped ys x h.trees (rw is at h.stands) in
      let b = opened (elements_of x.list) x.next p.top p.sound lt in
      let row = row_at segment 0 (element_of (elements_of x.list) x.next) in
      record {
        under = p.under;
        top = p.top;
        stands = p.stands;
        branch = b;
        rest = preorder (x.depth + 1) b.below ++ (preorder x.depth b.beside ++ to_come ys p.under);
        rest_is = refl;
        is = ap (λ (zs : List Open). to_come zs h.trees) is ∙ p.is
            ∙ ap (λ (t : Branches (List ℕ)). preorder x.depth t ++ to_come ys p.under) b.is
            ∙ ap (λ (items : List (ℕ × List ℕ)). (x.depth, row) ∷ items)
            (append_assoc (preorder (x.depth + 1) b.below) (preorder x.depth b.beside)
            (to_come ys p.under));
      }

  -- its depth is one that may come next, and there are no more items than the whole has
  pub depth_fits : (xs ys : List Open) (x : Open) (found : List (Branch Segment)) (now : List ℕ)
      → xs ≡ ys ++ x ∷ [] → x.next < (elements_of x.list).count → At xs found now
      → x.depth ≤ next_limit found
  depth_fits xs ys x found now is lt h =
      let n = next xs ys x found now is lt h in
      let all : map depth_of (preorder 0 whole) ++ [] ≡ map depth_of h.taken ++ x.depth ∷ map
      depth_of n.rest =
      append-nil (map depth_of (preorder 0 whole))
      ∙ ap (map depth_of) (h.whole_is
      ∙ ap (λ (items : List (ℕ × List ℕ)). h.taken ++ items) n.is)
      ∙ map-append depth_of h.taken _ in
      let same : depths found ≡ map depth_of h.taken =
      depths_shown found ∙ ap (map depth_of) h.made ∙ depths_told h.taken in
      subst (λ (ds : List ℕ). x.depth ≤ limit_after 0 ds) (sym same)
      (depth_within 0 (map depth_of h.taken) x.depth (map depth_of n.rest)
      (subst (StepsWithin 0) all (depths_step whole)))
    where
      depths_shown : (bs : List (Branch Segment)) → depths bs ≡ map depth_of (map (shown names) bs)
      depths_shown [] = refl
      depths_shown (b ∷ bs) = ap (λ (ds : List ℕ). b.depth ∷ ds) (depths_shown bs)

      depths_told : (items : List (ℕ × List ℕ))
          → map depth_of (map (told (data_by table)) items) ≡ map depth_of items
      depths_told [] = refl
      depths_told (p ∷ ps) = ap (λ (ds : List ℕ). p.0 ∷ ds) (depths_told ps)

  -- and no greater than how many were taken
  pub depth_few : (xs ys : List Open) (x : Open) (found : List (Branch Segment)) (now : List ℕ)
      → xs ≡ ys ++ x ∷ [] → x.next < (elements_of x.list).count → At xs found now
      → x.depth ≤ length found
  depth_few xs ys x found now is lt h =
      let n = next xs ys x found now is lt h in
      let all : map depth_of (preorder 0 whole) ++ [] ≡ map depth_of h.taken ++ x.depth ∷ map
      depth_of n.rest =
      append-nil (map depth_of (preorder 0 whole))
      ∙ ap (map depth_of) (h.whole_is
      ∙ ap (λ (items : List (ℕ × List ℕ)). h.taken ++ items) n.is)
      ∙ map-append depth_of h.taken _ in
      let one : length found ≡ length h.taken =
      sym (length-map found (shown names)) ∙ ap length h.made
      ∙ length-map h.taken (told (data_by table)) in
      let two : length (map depth_of h.taken) ≡ length h.taken = length-map h.taken depth_of in
      let three : x.depth ≤ 0 + length (map depth_of h.taken) =
      depth_count 0 (map depth_of h.taken) x.depth (map depth_of n.rest)
      (subst (StepsWithin 0) all (depths_step whole)) in
      omega arith

  pub many : (xs : List Open) (found : List (Branch Segment)) (now : List ℕ) → At xs found now
      → length found ≤ length (preorder 0 whole)
  many xs found now h =
      let one : length found ≡ length h.taken =
      sym (length-map found (shown names)) ∙ ap length h.made
      ∙ length-map h.taken (told (data_by table)) in
      let two : length (preorder 0 whole) ≡ length h.taken + length (to_come xs h.trees) =
      ap length h.whole_is ∙ length-append h.taken (to_come xs h.trees) in
      omega arith

  pub more : (xs ys : List Open) (x : Open) (found : List (Branch Segment)) (now : List ℕ)
      → xs ≡ ys ++ x ∷ [] → x.next < (elements_of x.list).count → At xs found now
      → length found + 1 ≤ length (preorder 0 whole)
  more xs ys x found now is lt h =
      let n = next xs ys x found now is lt h in
      let one : length found ≡ length h.taken =
      sym (length-map found (shown names)) ∙ ap length h.made
      ∙ length-map h.taken (told (data_by table)) in
      let two : length (preorder 0 whole) ≡ length h.taken + length (to_come xs h.trees) =
      ap length h.whole_is ∙ length-append h.taken (to_come xs h.trees) in
      let three : length (to_come xs h.trees) ≡ suc (length n.rest) = ap length n.is in
      omega arith

  abbrev row_of : Open → List ℕ
  row_of x = row_at segment 0 (element_of (elements_of x.list) x.next)

  -- a list that is done may be left off the stack
  pub put_kept : (xs ys : List Open) (x : Open) (found : List (Branch Segment)) (now : List ℕ)
      → Puts x xs ys → At (xs ++ x ∷ []) found now → At ys found now
  put_kept xs ys x found now (inl is) h = rw is h
  put_kept xs ys x found now (inr done) h =
      rw done.1 (one_done (xs ++ x ∷ []) xs x found now refl done.0 h)

  -- it was taken, and the lists beside and below it are open, where they aren't done
  pub goes_on : (xs ys one two : List Open) (x after below : Open) (found : List (Branch Segment))
      (now then_ : List ℕ) (s : Segment) → xs ≡ ys ++ x ∷ [] → x.next < (elements_of x.list).count
      → after ≡ record { list = x.list; next = x.next + 1; depth = x.depth }
      → elements_of below.list ≡ sound_elements (element_of (elements_of x.list) x.next) 0
      → below.next ≡ 0 → below.depth ≡ x.depth + 1
      → Puts after ys one → Puts below one two
      → data_by table (row_of x) ≡ segment_row names s
      → walked counted_structs now (item_steps lists (x.depth, row_of x)) ≡ Ok then_
      → At xs found now → At two (found ++ record { depth = x.depth; item = s } ∷ []) then_
  goes_on xs ys one two x after below found now then_ s is lt after_is inner first deep puts_one
      puts_two same fits h =
      let n = next xs ys x found now is lt h in
      let b = n.branch in
      let p = put_on ys one after n.under b.beside puts_one n.stands (rw after_is b.after) in
      let q = put_on one two below p.trees b.below puts_two p.stands (rw (inner, first) b.inner) in
      let item : ℕ × List ℕ = (x.depth, row_of x) in
      let left : to_come two q.trees ≡ n.rest =
      q.is ∙ ap (λ (items : List (ℕ × List ℕ)). preorder below.depth b.below ++ items) p.is
      ∙ rw (deep, after_is) (sym n.rest_is) in
      record {
        taken = h.taken ++ item ∷ [];
        trees = q.trees;
        stands = q.stands;
        whole_is = h.whole_is ∙ ap (λ (items : List (ℕ × List ℕ)). h.taken ++ items) n.is
            ∙ sym (append_assoc h.taken (item ∷ []) n.rest)
            ∙ ap (λ (items : List (ℕ × List ℕ)). (h.taken ++ item ∷ []) ++ items) (sym left);
        made = map-append (shown names) found _
            ∙ ap (λ (l : List (ℕ × List Datum)). l ++ (x.depth, segment_row names s) ∷ []) h.made
            ∙ ap (λ (d : List Datum). map (told (data_by table)) h.taken ++ (x.depth, d) ∷ [])
            (sym same) ∙ sym (map-append (told (data_by table)) h.taken (item ∷ []));
        steps = h.steps ∙ ap (λ (items : List (ℕ × List ℕ)). walked counted_structs now
            (flat_map (item_steps lists) items)) n.is
            ∙ walked_then counted_structs now then_ (item_steps lists item)
            (flat_map (item_steps lists) n.rest) fits
            ∙ ap (λ (items : List (ℕ × List ℕ)). walked counted_structs then_
            (flat_map (item_steps lists) items)) (sym left);
      }

  -- a number of it is out of its list
  pub one_stops : (xs ys : List Open) (x : Open) (found : List (Branch Segment)) (now : List ℕ)
      (bad : Item) → xs ≡ ys ++ x ∷ [] → x.next < (elements_of x.list).count
      → walked counted_structs now (item_steps lists (x.depth, row_of x)) ≡ Err bad
      → At xs found now → walked counted_structs before
      (branch_steps lists "RouteBranch" segment whole) ≡ Err bad
  one_stops xs ys x found now bad is lt fails h =
      let n = next xs ys x found now is lt h in
      h.steps ∙ ap (λ (items : List (ℕ × List ℕ)). walked counted_structs now
      (flat_map (item_steps lists) items)) n.is
      ∙ walked_fails counted_structs now (item_steps lists (x.depth, row_of x))
      (flat_map (item_steps lists) n.rest) bad fails

  -- no list is open
  pub all_fit : (xs : List Open) (found : List (Branch Segment)) (now : List ℕ) → xs ≡ []
      → At xs found now → walked counted_structs before
      (branch_steps lists "RouteBranch" segment whole) ≡ Ok now
  unfolding walked
  all_fit xs found now none h = h.steps ∙ ap
      (λ (zs : List Open). walked counted_structs now
      (flat_map (item_steps lists) (to_come zs h.trees))) none

  pub all_made : (xs : List Open) (found : List (Branch Segment)) (now : List ℕ) → xs ≡ []
      → At xs found now → branches_map (data_by table) whole ≡ branches_map (segment_row names)
      (trees_at 0 found)
  all_made xs found now none h =
      let all : preorder 0 whole ≡ h.taken =
      h.whole_is ∙ ap (λ (zs : List Open). h.taken ++ to_come zs h.trees) none
      ∙ append-nil h.taken in
      let same : map (shown names) found ≡ preorder 0 (branches_map (data_by table) whole) =
      h.made ∙ ap (map (told (data_by table))) (sym all)
      ∙ sym (preorder_told (data_by table) 0 whole) in
      sym (trees_again (branches_map (data_by table) whole))
      ∙ ap (λ (items : List (ℕ × List Datum)). trees_at 0 (map as_branch items)) (sym same)
      ∙ ap (trees_at 0) (both_ways found) ∙ sym (trees_changed (segment_row names) 0 found)
    where
      both_ways : (bs : List (Branch Segment))
          → map as_branch (map (shown names) bs) ≡ map (changed (segment_row names)) bs
      both_ways [] = refl
      both_ways (b ∷ bs) = ap (λ (l : List (Branch (List Datum))). changed
          (segment_row names) b ∷ l) (both_ways bs)

pub nothing_in : {A : Type 0} (xs : List A) → length xs ≡ 0 → xs ≡ []
nothing_in [] h = refl
nothing_in (x ∷ xs) h = absurd (omega arith)

pub put_length : (x : Open) (old new : List Open) → Puts x old new → length new ≤ length old + 1
put_length x old new (inl is) =
    let m : length new ≡ length old + 1 = rw is (length-append old (x ∷ [])) in omega arith
put_length x old new (inr done) = let m : length new ≡ length old = ap length done.1 in omega arith
