-- The paths of listed instances, and one more.
use Rattle.std.proofs.Common.{◌≡◌, ◌∙◌, List, [], ◌∷◌, ◌++◌, Some, slice_get, ap, refl}
use Rattle.std.proofs.lemmas.Option.{get_or_from_slice_get}
use Rattle.ix_hierarchy.specs.declared.instance.Instance.{Instance}
use Rattle.ix_hierarchy.specs.Hierarchy.{Path}
use Rattle.ix_instances.specs.Walked.{path_behind, paths_behind, paths_of}

behind_push : (paths : List Path) (all : List Instance) (one : Instance)
    → paths_behind paths (all ++ one ∷ [])
    ≡ paths_behind paths all ++ path_behind (paths_behind paths all) one ∷ []
behind_push paths [] one = refl
behind_push paths (x ∷ all) one = behind_push (paths ++ path_behind paths x ∷ []) all one

pub paths_push : (all : List Instance) (one : Instance)
    → paths_of (all ++ one ∷ []) ≡ paths_of all ++ path_behind (paths_of all) one ∷ []
unfolding paths_of
paths_push all one = behind_push [] all one

pub path_of_one : (paths : List Path) (one : Instance) (top parent : Path)
    → slice_get paths 0 ≡ Some top → slice_get paths one.parent ≡ Some parent
    → path_behind paths one ≡ parent ++ one.place ∷ []
path_of_one [] one top parent h k = cc
path_of_one (x ∷ paths) one top parent h k =
    ap (λ (p : Path). p ++ one.place ∷ [])
    (get_or_from_slice_get (x ∷ paths) one.parent parent [] k)

pub paths_more : (all : List Instance) (one : Instance) (top parent : Path)
    → slice_get (paths_of all) 0 ≡ Some top → slice_get (paths_of all) one.parent ≡ Some parent
    → paths_of (all ++ one ∷ []) ≡ paths_of all ++ (parent ++ one.place ∷ []) ∷ []
paths_more all one top parent h k =
    paths_push all one
    ∙ ap (λ (p : Path). paths_of all ++ p ∷ []) (path_of_one (paths_of all) one top parent h k)

pub paths_top : (one : Instance) → paths_of (one ∷ []) ≡ [] ∷ []
unfolding paths_of
paths_top one = refl
