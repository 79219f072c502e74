-- A file that was set in a map.
use Rattle.std.proofs.Common.{◌≡◌, ℕ, Bool, true, false, cond, List, [], ◌++◌, Option, Some, option_map, unwrap_or, String, Vec, refl, sym, ap, ◌∙◌}
use mathlib.Core.Path.{fun_ext}
use Rattle.std.specs.BTreeMap.{BTreeMap, UpdatesBy, get_by_text}
use Rattle.std.specs.Cmp.Lexicographic.{slice_cmp}
use Rattle.std.specs.Ordering.{nat_cmp}
use Rattle.std.specs.Str.{bytes_eq}
use Rattle.std.specs.String.{string_cmp, string_bytes}
use Rattle.std.proofs.lemmas.Map.Text.{btree_map_updates_text}
use Rattle.std.proofs.lemmas.Slice.Eq.{bytes_eq-Decides}
use Rattle.ix_shelf.specs.Shelf.{Files, with_file}
use Rattle.ix_shelf.specs.MemFiles.{files_in}

map_cond : {Z : Type 0} (b : Bool) (w o : Option (Vec ℕ Z)) (bytes : List ℕ) → option_map (λ (file : Vec ℕ Z). file.items) w ≡ Some bytes → option_map (λ (file : Vec ℕ Z). file.items) (cond b w o) ≡ cond b (Some bytes) (option_map (λ (file : Vec ℕ Z). file.items) o)
map_cond true w o bytes e = e
map_cond false w o bytes e = refl

-- a change of a map at one name
pub files_in-updates : {Y Z : Type 0} (name bytes : List ℕ) (old new : BTreeMap (String Y) (Vec ℕ Z)) (w : Option (Vec ℕ Z)) → UpdatesBy string_cmp (λ k. slice_cmp nat_cmp name (string_bytes k)) old new w → option_map (λ (file : Vec ℕ Z). file.items) w ≡ Some bytes → files_in new ≡ with_file name bytes (files_in old)
files_in-updates {Y} {Z} name bytes old new w u e = fun_ext (λ other.
    ap (λ (o : Option (Vec ℕ Z)). option_map (λ (file : Vec ℕ Z). file.items) o) (btree_map_updates_text name old new w u other)
    ∙ map_cond (bytes_eq name other) w (get_by_text old other) bytes e)

at_itself : (b : Bool) (name bytes other : List ℕ) (files : Files) → (b ≡ true → name ≡ other) → files name ≡ Some bytes → cond b (Some bytes) (files other) ≡ files other
at_itself true name bytes other files same e = sym e ∙ ap files (same refl)
at_itself false name bytes other files same e = refl

-- a file that is set to what it is
pub with_file-itself : (name bytes : List ℕ) (files : Files) → files name ≡ Some bytes → with_file name bytes files ≡ files
with_file-itself name bytes files e = fun_ext (λ other. at_itself (bytes_eq name other) name bytes other files (bytes_eq-Decides name other).0 e)

-- a file that is there, as its bytes
pub file_is : {Y Z : Type 0} (name : List ℕ) (map : BTreeMap (String Y) (Vec ℕ Z)) (file : Vec ℕ Z) → Some file ≡ get_by_text map name → files_in map name ≡ Some file.items
file_is {Y} {Z} name map file e = ap (λ (o : Option (Vec ℕ Z)). option_map (λ (f : Vec ℕ Z). f.items) o) (sym e)

-- a piece was added to a file that is there
pub file_added : (name before piece bytes : List ℕ) (old new : Files) → new ≡ with_file name bytes old → bytes ≡ before ++ piece → old name ≡ Some before → new ≡ with_file name (unwrap_or (old name) [] ++ piece) old
file_added name before piece bytes old new p q e =
    p ∙ ap (λ (xs : List ℕ). with_file name xs old) (q ∙ ap (λ (o : Option (List ℕ)). unwrap_or o [] ++ piece) (sym e))

-- a file that is there was kept
pub file_kept : (name before bytes : List ℕ) (old new : Files) → new ≡ with_file name bytes old → bytes ≡ before → old name ≡ Some before → new ≡ old
file_kept name before bytes old new p q e =
    p ∙ ap (λ (xs : List ℕ). with_file name xs old) q ∙ with_file-itself name before old e
