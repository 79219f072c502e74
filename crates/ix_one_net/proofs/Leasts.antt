-- The least number of each net is that of its first occurrence.
use Rattle.std.proofs.Common.{◌≡◌, ◌<◌, ◌≤◌, ◌+◌, ◌∙◌, ℕ, List, [], ◌∷◌, ◌++◌, length}
use Rattle.std.proofs.Common.{Option, Some, slice_get, slice_index, sym, ap, subst, refl, inl, inr}
use Rattle.std.proofs.Common.{arith}
use Rattle.std.proofs.lemmas.Bool.{cases_lt}
use Rattle.std.proofs.lemmas.Option.{slice_get_within, same_Some, slice_get-get_or}
use Rattle.ix_rec.specs.declared.device.DeviceRec.{DeviceRec}
use Rattle.ix_rec.specs.declared.netlist.NetlistRec.{NetlistRec}
use Rattle.ix_hierarchy.specs.declared.instance.Instance.{Instance}
use Rattle.ix_hierarchy.specs.declared.kind.Kind.{Kind}
use Rattle.ix_hierarchy.specs.Hierarchy.{Path}
use Rattle.ix_hierarchy.specs.Nets.{Occurrence, Enters, Cross, IsChain, AreOneNet}
use Rattle.ix_hierarchy.specs.Lists.{AreInstances, IsNumber, AreFirsts}
use Rattle.ix_bit_rows.specs.Table.{RowTable}
use Rattle.ix_roots.specs.Forest.{IsForest}
use Rattle.ix_instance_lists.specs.Listed.{AreNumbered}
use Rattle.ix_one_net.specs.Joining.{AreKnown, AreRoots, AreCovered, AreJoined, CrossesInto}

-- all crossings are joined
AreAllJoined : NetlistRec → List Instance → List Path → (root : ℕ → ℕ) → Type 0
AreAllJoined design all paths root = (upper lower : Occurrence) (x y : ℕ)
    → Enters design upper lower → IsNumber design all paths upper x
    → IsNumber design all paths lower y → root x ≡ root y

-- what is below the top isn't the top
empty_apart : (path : Path) (place : ℕ) → [] ≡ path ++ place ∷ [] → ⊥
empty_apart [] place e = cc
empty_apart (x ∷ path) place e = cc

all_joined : (design : NetlistRec) (all : List Instance) (paths : List Path) (nets : ℕ)
    (root : ℕ → ℕ) → AreInstances design all paths nets
    → ((instance : ℕ) → 0 < instance → instance < length all
    → AreCovered design all paths instance root)
    → AreAllJoined design all paths root
unfolding AreAllJoined
all_joined design all paths nets root A covered upper lower x y E N M =
    let within : M.instance < length all = slice_get_within all M.instance M.one M.one_is in
    elim (cases_lt 0 M.instance) [
      | inl some ↦ covered M.instance some within upper lower x y E M.path_is N M
      | inr none ↦
          let e : M.instance ≡ 0 = omega arith in
          let top : [] ≡ lower.path = same_Some [] lower.path
          (sym A.top ∙ ap (slice_get paths) (sym e) ∙ M.path_is) in
          absurd (empty_apart upper.path E.place (top ∙ E.below))
    ]

cross_same : (design : NetlistRec) (all : List Instance) (paths : List Path) (nets : ℕ)
    (root : ℕ → ℕ) → AreNumbered design all paths nets → AreAllJoined design all paths root
    → (a b : Occurrence) (x : ℕ) → IsNumber design all paths a x → Cross design a b
    → (y : ℕ) × IsNumber design all paths b y × (root x ≡ root y)
unfolding AreAllJoined
cross_same design all paths nets root N joined a b x A (inl E) =
    let y = N.some b E.inner_cell E.inner_net E.there in
    (y.0, y.1, joined a b x y.0 E A y.1)
cross_same design all paths nets root N joined a b x A (inr E) =
    let y = N.some b E.cell E.net E.here in
    (y.0, y.1, sym (joined b a y.0 x E y.1 A))

chain_same : (design : NetlistRec) (all : List Instance) (paths : List Path) (nets : ℕ)
    (root : ℕ → ℕ) → AreNumbered design all paths nets → AreAllJoined design all paths root
    → (a b : Occurrence) (x : ℕ) (chain : List Occurrence) → IsNumber design all paths a x
    → IsChain design a chain b → (y : ℕ) × IsNumber design all paths b y × (root x ≡ root y)
chain_same design all paths nets root N joined a b x [] A h =
    (x, subst (λ (o : Occurrence). IsNumber design all paths o x) h A, refl)
chain_same design all paths nets root N joined a b x (n ∷ chain) A h =
    let y = cross_same design all paths nets root N joined a n x A h.0 in
    let z = chain_same design all paths nets root N joined n b y.0 chain y.1 h.1 in
    (z.0, z.1, y.2 ∙ z.2)

pub are_firsts : (design : NetlistRec) (device : DeviceRec) (kinds : List Kind) (outer : RowTable)
    (inner : List (Option ℕ)) (all : List Instance) (paths : List Path) (nets : ℕ)
    (above firsts : List ℕ) (root : ℕ → ℕ)
    → AreKnown design device kinds outer inner all paths nets
    → AreRoots design all paths above root → length above ≡ nets → length firsts ≡ nets
    → ((k : ℕ) → k < nets → slice_index firsts k ≡ root k)
    → ((instance : ℕ) → 0 < instance → instance < length all
    → AreCovered design all paths instance root)
    → AreFirsts design all paths firsts
are_firsts design device kinds outer inner all paths nets above firsts root K R many firsts_many
    are covered =
    let N : AreNumbered design all paths nets = K.numbered in
    let A : AreInstances design all paths nets = K.joinable.listed.instances in
    let joined : AreAllJoined design all paths root =
    all_joined design all paths nets root A covered in
    let F : IsForest above root = R.forest in
    record {
      each = λ at number M.
          let few : number < nets = N.below at number M in
          let low : root number ≤ number = F.low number in
          let first = N.every (root number) (omega arith) in
          let again : root (root number) ≡ root number =
          F.own (root number) (omega arith) (F.top number (omega arith)) in
          let one : AreOneNet design first.0 at =
          R.sound first.0 at (root number) number first.1 M again in (
            first.0,
            root number,
            slice_get-get_or firsts number 0 (omega arith) ∙ ap Some (are number few),
            first.1,
            one,
            record {
              cell = first.1.cell;
              net = first.1.net;
              occurs = first.1.occurs;
              first = λ other chain before.
                  let y = chain_same design all paths nets root N joined first.0 other (root number)
                  chain.0 first.1 chain.1 in
                  let less : y.0 < root number =
                  (N.rise other first.0 y.0 (root number) y.1 first.1).0 before in
                  let below : root y.0 ≤ y.0 = F.low y.0 in
                  let e : root (root number) ≡ root y.0 = y.2 in
                  omega arith;
            },
          );
    }

pub joined_none : (kinds : List Kind) (outer : RowTable) (inner : List (Option ℕ))
    (all : List Instance) (nets : ℕ) (above : List ℕ) → length above ≡ nets
    → IsForest above (λ k. k) → AreJoined kinds outer inner all nets above 1
joined_none kinds outer inner all nets above many F = record {
  many = many;
  each = λ design device paths K. (
    λ k. k,
    record {
      forest = F;
      sound = λ a b x y N M e. (
        [],
        K.numbered.one a b y
            (subst (λ (n : ℕ). IsNumber design all paths a n) e N) M,
      );
    },
    λ other some few. absurd (omega arith),
  );
}

pub joined_more : (kinds : List Kind) (outer : RowTable) (inner : List (Option ℕ))
    (all : List Instance) (nets : ℕ) (before now : List ℕ) (instance : ℕ)
    → length now ≡ length before → AreJoined kinds outer inner all nets before instance
    → CrossesInto kinds outer inner all nets before now instance
    → AreJoined kinds outer inner all nets now (instance + 1)
joined_more kinds outer inner all nets before now instance same J crosses = record {
  many = same ∙ J.many;
  each = λ design device paths K.
      let w = J.each design device paths K in
      let n = crosses design device paths K w.0 w.1 in (
        n.0,
        n.1,
        λ other some few. elim (cases_lt other instance) [
          | inl less ↦ λ upper lower x y E at N M.
              n.2 x y (w.2 other some less upper lower x y E at N M)
          | inr past ↦
              let e : instance ≡ other = omega arith in
              subst (λ (i : ℕ). AreCovered design all paths i n.0) e n.3
        ],
      );
}

pub joined_end : (kinds : List Kind) (outer : RowTable) (inner : List (Option ℕ))
    (all : List Instance) (nets : ℕ) (above : List ℕ) (instance : ℕ)
    → AreJoined kinds outer inner all nets above instance → length all ≤ instance
    → AreJoined kinds outer inner all nets above (length all)
joined_end kinds outer inner all nets above instance J past = record {
  many = J.many;
  each = λ design device paths K.
      let w = J.each design device paths K in
      (w.0, w.1, λ other some few. w.2 other some (omega arith));
}
