-- What the settled table says.
use Rattle.std.proofs.Common.{◌≡◌, ◌<◌, ◌≤◌, ◌∙◌, ℕ, List, [], ◌∷◌, ◌++◌, length, take, drop}
use Rattle.std.proofs.Common.{slice_index}
use Rattle.std.proofs.Common.{Option, sym, ap, subst, refl, arith}
use Rattle.ix_rec.specs.declared.device.DeviceRec.{DeviceRec}
use Rattle.ix_rec.specs.declared.netlist.NetlistRec.{NetlistRec}
use Rattle.ix_hierarchy.specs.declared.instance.Instance.{Instance}
use Rattle.ix_hierarchy.specs.declared.kind.Kind.{Kind}
use Rattle.ix_hierarchy.specs.Hierarchy.{Path}
use Rattle.ix_hierarchy.specs.Lists.{AreInstances, AreFirsts}
use Rattle.ix_bit_rows.specs.Table.{RowTable}
use Rattle.ix_roots.specs.Forest.{IsForest}
use Rattle.ix_instance_lists.specs.Listed.{AreNumbered}
use Rattle.ix_one_net.specs.Joinable.{AreJoinable}
use Rattle.ix_one_net.specs.Joining.{AreKnown, IsKnown, AreJoined, IsJoinable}
use Rattle.ix_one_net.proofs.Leasts.{are_firsts}

take_all : (s t : List ℕ) → take (length s) (s ++ t) ≡ s
take_all [] t = refl
take_all (x ∷ s) t = ap (λ (l : List ℕ). x ∷ l) (take_all s t)

pub take_whole : (s t : List ℕ) (n : ℕ) → length s ≡ n → take n (s ++ t) ≡ s
take_whole s t n e = subst (λ (k : ℕ). take k (s ++ t) ≡ s) e (take_all s t)

abbrev pub IsNumberedEach : List Instance → (nets : ℕ) → Type 0
IsNumberedEach all nets = (design : NetlistRec) (paths : List Path)
    → AreInstances design all paths nets → AreNumbered design all paths nets

pub known_of : (kinds : List Kind) (outer : RowTable) (inner : List (Option ℕ))
    (all : List Instance) (nets : ℕ) → IsNumberedEach all nets
    → IsJoinable kinds outer inner all nets → IsKnown kinds outer inner all nets
known_of kinds outer inner all nets law (design, device, paths, J) = (
  design,
  device,
  paths,
  record {
    joinable = J;
    numbered = law design paths J.listed.instances;
  },
)

-- the least numbers of joined sets
pub record Ends (kinds : List Kind) (outer : RowTable) (inner : List (Option ℕ))
    (all : List Instance) (nets : ℕ) (firsts : List ℕ) : Type 0 where
  pub many : length firsts ≡ nets
  pub low : (k : ℕ) → k < nets → slice_index firsts k ≤ k
  pub own : (k : ℕ) → k < nets
      → slice_index firsts (slice_index firsts k) ≡ slice_index firsts k
  pub are : (design : NetlistRec) (device : DeviceRec) (paths : List Path)
      → AreJoinable design device kinds outer inner all paths nets
      → AreFirsts design all paths firsts

pub ends : (kinds : List Kind) (outer : RowTable) (inner : List (Option ℕ))
    (all : List Instance) (nets : ℕ) (above firsts : List ℕ) → IsNumberedEach all nets
    → IsJoinable kinds outer inner all nets
    → AreJoined kinds outer inner all nets above (length all) → length firsts ≡ length above
    → ((root : ℕ → ℕ) → IsForest above root → (k : ℕ) → k < length firsts
    → slice_index firsts k ≡ root k)
    → Ends kinds outer inner all nets firsts
ends kinds outer inner all nets above firsts law J A same roots =
    let K = known_of kinds outer inner all nets law J in
    let w = A.each K.0 K.1 K.2 K.3 in
    let F : IsForest above w.0 = w.1.forest in
    let m = A.many in
    record {
      many = same ∙ m;
      low = λ k few.
          let e : slice_index firsts k ≡ w.0 k = roots w.0 F k (omega arith) in
          let l : w.0 k ≤ k = F.low k in
          omega arith;
      own = λ k few.
          let e : slice_index firsts k ≡ w.0 k = roots w.0 F k (omega arith) in
          let l : w.0 k ≤ k = F.low k in
          let f : slice_index firsts (w.0 k) ≡ w.0 (w.0 k) = roots w.0 F (w.0 k) (omega arith) in
          let g : w.0 (w.0 k) ≡ w.0 k = F.own (w.0 k) (omega arith) (F.top k (omega arith)) in
          ap (slice_index firsts) e ∙ f ∙ g ∙ sym e;
      are = λ design device paths joinable.
          let N : AreKnown design device kinds outer inner all paths nets = record {
            joinable = joinable;
            numbered = law design paths joinable.listed.instances;
          } in
          let v = A.each design device paths N in
          are_firsts design device kinds outer inner all paths nets above firsts v.0 N v.1 m
          (same ∙ m) (λ k few. roots v.0 v.1.forest k (omega arith)) v.2;
    }

-- the same of a table that is kept in a vector: what two calls write into it
pub ends_of : (kinds : List Kind) (outer : RowTable) (inner : List (Option ℕ))
    (all : List Instance) (nets : ℕ) (items start above middle firsts : List ℕ) (len : ℕ)
    → IsNumberedEach all nets → IsJoinable kinds outer inner all nets → length items ≡ nets
    → len ≡ length items → start ≡ items
    → AreJoined kinds outer inner all (length start) above (length all)
    → middle ≡ take len (above ++ drop (length above) items) → length firsts ≡ length middle
    → ((root : ℕ → ℕ) → IsForest middle root → (k : ℕ) → k < length firsts
    → slice_index firsts k ≡ root k)
    → Ends kinds outer inner all nets
    (take len (firsts ++ drop (length firsts) (take len (above ++ drop (length above) items))))
ends_of kinds outer inner all nets items start above middle firsts len law J count len_is start_is
    joined middle_is same roots =
    let n : length start ≡ nets = ap length start_is ∙ count in
    let A : AreJoined kinds outer inner all nets above (length all) =
    subst (λ (k : ℕ). AreJoined kinds outer inner all k above (length all)) n joined in
    let many : length above ≡ nets = A.many in
    let whole : take len (above ++ drop (length above) items) ≡ above =
    take_whole above (drop (length above) items) len (many ∙ sym count ∙ sym len_is) in
    let is : middle ≡ above = middle_is ∙ whole in
    let firsts_many : length firsts ≡ length above = same ∙ ap length is in
    let last : take len (firsts
    ++ drop (length firsts) (take len (above ++ drop (length above) items))) ≡ firsts =
    take_whole firsts (drop (length firsts) (take len (above ++ drop (length above) items))) len
    (firsts_many ∙ many ∙ sym count ∙ sym len_is) in
    subst (λ (l : List ℕ). Ends kinds outer inner all nets l) (sym last)
    (ends kinds outer inner all nets above firsts law J A firsts_many
    (λ root F k few. roots root (subst (λ (l : List ℕ). IsForest l root) (sym is) F) k few))
