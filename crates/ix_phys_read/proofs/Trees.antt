-- A tree is that of its preorder list.
use Rattle.std.proofs.Common.{◌≡◌, ◌<◌, ◌≤◌, ◌+◌, ◌++◌, ◌∙◌, ℕ, Bool, true, false, List, [], ◌∷◌}
use Rattle.std.proofs.Common.{map, length, refl, ap, sym, arith, append_assoc}
use Rattle.std.specs.Prelude.{nat_lt, if◌then◌else◌}
use Rattle.std.proofs.lemmas.Bool.{lt-ltb, le-ltb}
use Rattle.std.proofs.lemmas.List.{append-nil, map-append}
use Rattle.ix_message.specs.Names.{branches_map}
use Rattle.ix_message.specs.Shape.{Branches, ends, branch, preorder}
use Rattle.ix_phys_write.specs.Trees.{trees_at}
use Rattle.ix_rec.specs.Forest.{StepsWithin, limit_after}
use Rattle.ix_rec.specs.declared.forest.Branch.{Branch}

-- an item with its depth
abbrev pub as_branch : {A : Type 0} → ℕ × A → Branch A
as_branch p = record { depth = p.0; item = p.1 }

-- nothing follows, or first an item above this depth
abbrev Above : {A : Type 0} → ℕ → List (Branch A) → Type 0
Above d [] = Unit {0}
Above d (b ∷ bs) = b.depth < d

none_at : {A : Type 0} (d : ℕ) (bs : List (Branch A)) → Above d bs → trees_at d bs ≡ ends
none_at d [] h = refl
none_at d (b ∷ bs) h = let e : nat_lt b.depth d ≡ true = lt-ltb b.depth d h in rw e refl

over : {A : Type 0} (d : ℕ) (b : Branch A) (bs : List (Branch A)) → d < b.depth
    → trees_at d (b ∷ bs) ≡ trees_at d bs
over d b bs lt =
    let e : nat_lt b.depth d ≡ false = le-ltb b.depth d (omega arith) in
    let f : nat_lt d b.depth ≡ true = lt-ltb d b.depth lt in
    rw (e, f) refl

here_at : {A : Type 0} (d : ℕ) (x : A) (bs : List (Branch A))
    → trees_at d (as_branch (d, x) ∷ bs) ≡ branch x (trees_at (d + 1) bs) (trees_at d bs)
here_at d x bs =
    let e : nat_lt d d ≡ false = le-ltb d d (omega arith) in
    rw e refl

-- the items of a tree after its first one, with others after them
parted : {A : Type 0} (d : ℕ) (below beside : Branches A) (rest : List (Branch A))
    → map as_branch (preorder (d + 1) below ++ preorder d beside) ++ rest ≡ map as_branch
    (preorder (d + 1) below) ++ (map as_branch (preorder d beside) ++ rest)
parted {A} d below beside rest =
    ap (λ (bs : List (Branch A)). bs ++ rest)
    (map-append as_branch (preorder (d + 1) below) (preorder d beside))
    ∙ append_assoc (map as_branch (preorder (d + 1) below)) (map as_branch (preorder d beside)) rest

skipped : {A : Type 0} (k d : ℕ) (t : Branches A) (rest : List (Branch A)) → d < k
    → trees_at d (map as_branch (preorder k t) ++ rest) ≡ trees_at d rest
skipped k d ends rest lt = refl
skipped {A} k d (branch x below beside) rest lt =
    over d (as_branch (k, x)) (map as_branch (preorder (k + 1) below ++ preorder k beside) ++ rest)
    lt
    ∙ ap (trees_at d) (parted k below beside rest)
    ∙ skipped (k + 1) d below (map as_branch (preorder k beside) ++ rest) (omega arith)
    ∙ skipped k d beside rest lt

above_next : {A : Type 0} (d : ℕ) (t : Branches A) (rest : List (Branch A)) → Above d rest
    → Above (d + 1) (map as_branch (preorder d t) ++ rest)
above_next d ends [] h = tt
above_next d ends (b ∷ bs) h = omega arith
above_next d (branch x below beside) rest h = omega arith

again_before : {A : Type 0} (d : ℕ) (t : Branches A) (rest : List (Branch A)) → Above d rest
    → trees_at d (map as_branch (preorder d t) ++ rest) ≡ t
again_before d ends rest h = none_at d rest h
again_before {A} d (branch x below beside) rest h =
    let tail = map as_branch (preorder (d + 1) below ++ preorder d beside) ++ rest in
    let one : trees_at (d + 1) tail ≡ below =
    ap (trees_at (d + 1)) (parted d below beside rest)
    ∙ again_before (d + 1) below (map as_branch (preorder d beside) ++ rest)
    (above_next d beside rest h) in
    let two : trees_at d tail ≡ beside = ap (trees_at d) (parted d below beside rest)
    ∙ skipped (d + 1) d below (map as_branch (preorder d beside) ++ rest) (omega arith)
    ∙ again_before d beside rest h in
    here_at d x tail ∙ ap (λ (t : Branches A). branch x t (trees_at d tail)) one
    ∙ ap (λ (t : Branches A). branch x below t) two

pub trees_again : {A : Type 0} (t : Branches A) → trees_at 0 (map as_branch (preorder 0 t)) ≡ t
trees_again t = ap (trees_at 0) (sym (append-nil (map as_branch (preorder 0 t))))
    ∙ again_before 0 t [] tt

-- Items that are changed.

abbrev pub told : {A B : Type 0} → (A → B) → ℕ × A → ℕ × B
told f p = (p.0, f p.1)

pub preorder_told : {A B : Type 0} (f : A → B) (d : ℕ) (t : Branches A)
    → preorder d (branches_map f t) ≡ map (told f) (preorder d t)
preorder_told f d ends = refl
preorder_told {A} {B} f d (branch x below beside) =
    let a = preorder_told f (d + 1) below in
    let b = preorder_told f d beside in
    ap (λ (l : List (ℕ × B)). (d, f x) ∷ l)
    (rw (a, b) (rw (map-append (told f) (preorder (d + 1) below) (preorder d beside)) refl))

abbrev pub changed : {A B : Type 0} → (A → B) → Branch A → Branch B
changed f b = record { depth = b.depth; item = f b.item }

pub trees_changed : {A B : Type 0} (f : A → B) (d : ℕ) (bs : List (Branch A))
    → branches_map f (trees_at d bs) ≡ trees_at d (map (changed f) bs)
trees_changed f d [] = refl
trees_changed {A} {B} f d (b ∷ bs) = go (nat_lt b.depth d) (nat_lt d b.depth) (trees_changed f d bs)
    (trees_changed f (d + 1) bs)
  where
    go : (x y : Bool) → branches_map f (trees_at d bs) ≡ trees_at d (map (changed f) bs)
        → branches_map f (trees_at (d + 1) bs) ≡ trees_at (d + 1) (map (changed f) bs)
        → branches_map f (if x then ends else if y then trees_at d bs else branch b.item
        (trees_at (d + 1) bs) (trees_at d bs))
        ≡ (if x then ends else if y then trees_at d (map (changed f) bs) else branch (f b.item)
        (trees_at (d + 1) (map (changed f) bs)) (trees_at d (map (changed f) bs)))
    go true y same below = refl
    go false true same below = same
    go false false same below = ap (λ (t : Branches B). branch (f b.item) t
        (branches_map f (trees_at d bs))) below
        ∙ ap (λ (t : Branches B). branch (f b.item) (trees_at (d + 1) (map (changed f) bs)) t) same

-- Depths.

abbrev pub depth_of : {A : Type 0} → ℕ × A → ℕ
depth_of p = p.0

steps_before : {A : Type 0} (d limit : ℕ) (t : Branches A) (rest : List ℕ) → d ≤ limit
    → ((k : ℕ) → d ≤ k → StepsWithin k rest)
    → StepsWithin limit (map depth_of (preorder d t) ++ rest)
steps_before d limit ends rest le h = h limit le
steps_before {A} d limit (branch x below beside) rest le h =
    let parts : map depth_of (preorder (d + 1) below ++ preorder d beside) ++ rest ≡ map depth_of
    (preorder (d + 1) below) ++ (map depth_of (preorder d beside) ++ rest) =
    ap (λ (ds : List ℕ). ds ++ rest) (map-append depth_of (preorder (d + 1) below)
    (preorder d beside)) ∙ append_assoc (map depth_of (preorder (d + 1) below))
    (map depth_of (preorder d beside)) rest in (
      le,
      rw parts (steps_before (d + 1) (d + 1) below (map depth_of (preorder d beside) ++ rest)
          (omega arith) (λ k more. steps_before d k beside rest (omega arith) h)),
    )

pub depths_step : {A : Type 0} (t : Branches A) → StepsWithin 0 (map depth_of (preorder 0 t) ++ [])
depths_step t = steps_before 0 0 t [] (omega arith) (λ k le. tt)

-- the depth of an item is within the limit of those before it
pub depth_within : (limit : ℕ) (ds : List ℕ) (d : ℕ) (es : List ℕ)
    → StepsWithin limit (ds ++ d ∷ es) → d ≤ limit_after limit ds
depth_within limit [] d es h = h.0
depth_within limit (e ∷ ds) d es h = depth_within (e + 1) ds d es h.1

-- and no greater than how many stand before it
pub depth_count : (limit : ℕ) (ds : List ℕ) (d : ℕ) (es : List ℕ) → StepsWithin limit (ds ++ d ∷ es)
    → d ≤ limit + length ds
depth_count limit [] d es h = omega (arith, h.0)
depth_count limit (e ∷ ds) d es h = omega (arith, h.0, depth_count (e + 1) ds d es h.1)
