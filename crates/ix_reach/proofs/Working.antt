-- A step leaves less work.
use Rattle.std.proofs.Common.{◌≡◌, ℕ, zero, suc, ◌+◌, ◌-◌, ◌*◌, ◌<◌, ◌≤◌, List, [], ◌∷◌, ◌++◌}
use Rattle.std.proofs.Common.{length}
use Rattle.std.proofs.Common.{drop, slice_get, Option, Some, None, refl, sym, ap, ◌∙◌, subst, arith}
use Rattle.std.proofs.Common.{cond, count_by}
use Rattle.std.specs.List.{slice_set, sum_by}
use Rattle.std.proofs.lemmas.Option.{none-some, same_Some}
use Rattle.std.proofs.lemmas.List.Sums.{sum_by-cons, sum_by_push}
use Rattle.ix_rec.specs.declared.netlist.Cell.{Cell}
use Rattle.ix_rec.specs.declared.netlist.NetlistRec.{NetlistRec}
use Rattle.ix_reach.specs.declared.search.Mark.{Mark}
use Rattle.ix_reach.specs.declared.search.Mark.TheVariants.{New, Open, Closed}
use Rattle.ix_reach.specs.declared.search.Visit.{Visit}
use Rattle.ix_reach.specs.Searching.{is_new, work_at, work_behind}
use Rattle.ix_reach.proofs.Entering.{open_new}

count_cons : (m : Mark) (ms : List Mark)
    → count_by is_new (m ∷ ms) ≡ cond (is_new m) 1 0 + count_by is_new ms
count_cons m ms = sum_by-cons (λ x. cond (is_new x) 1 0) m ms

pub count_le : (xs ys : List Mark) → length xs ≡ length ys
    → ((d : ℕ) → slice_get xs d ≡ Some New → slice_get ys d ≡ Some New)
    → count_by is_new xs ≤ count_by is_new ys
count_le [] ys e h = omega arith
count_le (x ∷ xs) [] e h = absurd (omega arith)
count_le (x ∷ xs) (y ∷ ys) e h =
    let rest : count_by is_new xs ≤ count_by is_new ys =
    count_le xs ys (omega arith) (λ d at. h (suc d) at) in
    let a : _ = count_cons x xs in let b : _ = count_cons y ys in
    let one : cond (is_new x) 1 0 ≤ cond (is_new y) 1 0 = by x y (h 0) in
    omega (arith, a, b)
  where
    by : (u v : Mark) → (Some u ≡ Some New → Some v ≡ Some New)
        → cond (is_new u) 1 0 ≤ cond (is_new v) 1 0
    by New New g = omega arith
    by New (Open i) g = absurd (open_new i (g refl))
    by New Closed g = absurd (let e : Some Closed ≡ Some New = g refl in cc)
    by (Open i) v g = omega arith
    by Closed v g = omega arith

pub count_set : (ms : List Mark) (d i : ℕ) → slice_get ms d ≡ Some New
    → count_by is_new (slice_set ms d (Open i)) + 1 ≡ count_by is_new ms
count_set [] d i at = absurd (none-some New at)
count_set (m ∷ ms) zero i at =
    let a : _ = count_cons (Open i) ms in let b : _ = count_cons m ms in
    let one : ◌≡◌ {A = ℕ} (cond (is_new m) 1 0) 1 =
    ap (λ x. cond (is_new x) 1 0) (same_Some m New at) in
    omega (arith, a, b, one)
count_set (m ∷ ms) (suc d) i at =
    let rest : count_by is_new (slice_set ms d (Open i)) + 1 ≡ count_by is_new ms =
    count_set ms d i at in
    let a : _ = count_cons m (slice_set ms d (Open i)) in let b : _ = count_cons m ms in
    omega (arith, a, b)

work_cons : (cell : Cell) (cells : List Cell)
    → work_behind (cell ∷ cells) ≡ length cell.insts + 2 + work_behind cells
work_cons cell cells = sum_by-cons (λ (c : Cell). length c.insts + 2) cell cells

pub work_drop : (cells : List Cell) (k : ℕ) (cell : Cell) → slice_get cells k ≡ Some cell
    → work_behind (drop k cells) ≡ length cell.insts + 2 + work_behind (drop (k + 1) cells)
work_drop cells k cell at = by cells k at ∙ ap (λ n. length cell.insts + 2 + work_behind (drop n
    cells))
    (let e : suc k ≡ k + 1 = omega arith in e)
  where
    by : (cs : List Cell) (j : ℕ) → slice_get cs j ≡ Some cell
        → work_behind (drop j cs) ≡ length cell.insts + 2 + work_behind (drop (suc j) cs)
    by [] j e = absurd (none-some cell e)
    by (c ∷ cs) zero e = work_cons c cs
        ∙ ap (λ (x : Cell). length x.insts + 2 + work_behind cs) (same_Some c cell e)
    by (c ∷ cs) (suc j) e = by cs j e

pub work_later : (cells : List Cell) (k n : ℕ) → k ≤ n
    → work_behind (drop n cells) ≤ work_behind (drop k cells)
work_later cells zero zero le = omega arith
work_later [] zero (suc n) le = omega arith
work_later (c ∷ cs) zero (suc n) le =
    let a : _ = work_later cs 0 n (omega arith) in let b : _ = work_cons c cs in
    omega (arith, a, b)
work_later cells (suc k) zero le = absurd (omega arith)
work_later [] (suc k) (suc n) le = omega arith
work_later (c ∷ cs) (suc k) (suc n) le = work_later cs k n (omega arith)

-- a visit at the first place of a cell, or behind all cells
pub work_first : (design : NetlistRec) (o : Option ℕ) (from : ℕ)
    → ((number : ℕ) → o ≡ Some number → from ≤ number)
    → work_at design o 0 ≤ work_behind (drop from design.cell_list) + 1
work_first design None from h = omega arith
work_first design (Some number) from h =
    let a : _ = work_later design.cell_list from number (h number refl) in omega (arith, a)

pub less_last : (design : NetlistRec) (under : List Visit) (v w : Visit) (rest more : ℕ)
    → work_at design w.cell w.place < work_at design v.cell v.place → rest ≤ more
    → sum_by (λ (x : Visit). work_at design x.cell x.place) (under ++ w ∷ []) + rest
    < sum_by (λ (x : Visit). work_at design x.cell x.place) (under ++ v ∷ []) + more
less_last design under v w rest more lt le =
    let a : _ = sum_by_push (λ (x : Visit). work_at design x.cell x.place) under v in
    let b : _ = sum_by_push (λ (x : Visit). work_at design x.cell x.place) under w in
    omega (arith, a, b)

pub less_popped : (design : NetlistRec) (under : List Visit) (v : Visit) (rest more : ℕ)
    → 0 < work_at design v.cell v.place → rest ≤ more
    → sum_by (λ (x : Visit). work_at design x.cell x.place) under + rest
    < sum_by (λ (x : Visit). work_at design x.cell x.place) (under ++ v ∷ []) + more
less_popped design under v rest more lt le =
    let a : _ = sum_by_push (λ (x : Visit). work_at design x.cell x.place) under v in
    omega (arith, a)

pub product_le : (n m f : ℕ) → n ≤ m → n * f ≤ m * f
product_le n m f le = let d : m ≡ n + (m - n) = omega arith in
    subst (λ k. n * f ≤ k * f) (sym d) (omega arith)

pub product_less : (n m f : ℕ) → n + 1 ≡ m → n * f + f ≡ m * f
product_less n m f e = subst (λ k. n * f + f ≡ k * f) e (omega arith)

pub less_entered : (design : NetlistRec) (under : List Visit) (v w x : Visit) (n m f : ℕ)
    → work_at design w.cell w.place < work_at design v.cell v.place
    → work_at design x.cell x.place < f → n + 1 ≡ m
    → sum_by (λ (x : Visit). work_at design x.cell x.place) ((under ++ w ∷ []) ++ x ∷ []) + n * f
    < sum_by (λ (x : Visit). work_at design x.cell x.place) (under ++ v ∷ []) + m * f
less_entered design under v w x n m f lt few e =
    let a : _ = sum_by_push (λ (x : Visit). work_at design x.cell x.place) under v in
    let b : _ = sum_by_push (λ (x : Visit). work_at design x.cell x.place) under w in
    let d : _ = sum_by_push (λ (x : Visit). work_at design x.cell x.place) (under ++ w ∷ []) x in
    let p : _ = product_less n m f e in
    omega (arith, a, b, d, p)
