-- Extremes of the angles of tetrahedra, one after another.
use Rattle.std.proofs.Common.{◌≡◌, ℕ, ◌+◌, ◌<◌, sym, ◌∙◌, ap, List, [], ◌∷◌, ◌++◌, All, map, length, take, get_or, append_assoc, append-nil}
use Rattle.std.specs.Prelude.{flat_map}
use Rattle.std.specs.List.{enumerate_from}
use Rattle.std.proofs.lemmas.List.Elements.{All-head, All-tail}
use Rattle.definitions.specs.declared.Extreme.{Extreme}
use Rattle.definitions.specs.declared.Place.{Place}
use Rattle.definitions.specs.Angles.{angles_of, extremes_of}
use Rattle.definitions.specs.Soundness.{corner_places}
use Rattle.dihedral.proofs.CoveredAngles.{stay_six}
use Rattle.dihedral.specs.Shapes.{Covers}
use Rattle.mesh_lists.proofs.NumberedLists.{numbered_more}

-- angles within the extremes leave these as they are
pub stay_all : (places : List Place) (found : _) (from : ℕ) (tets : List (List ℕ)) (xs : List Extreme) → All (Covers found) (map (corner_places places) tets) → found ≡ extremes_of xs → found ≡ extremes_of (xs ++ flat_map (angles_of places) (enumerate_from from tets))
stay_all places found from [] xs covers e = e ∙ ap extremes_of (sym (append-nil xs))
stay_all places found from (t ∷ ts) xs covers e =
    let here = All-head (Covers found) (corner_places places t) (map (corner_places places) ts) covers in
    let others = All-tail (Covers found) (corner_places places t) (map (corner_places places) ts) covers in
    stay_all places found (from + 1) ts (xs ++ angles_of places (from, t)) others (stay_six found (corner_places places t) from t xs here e)
    ∙ ap extremes_of (append_assoc xs (angles_of places (from, t)) (flat_map (angles_of places) (enumerate_from (from + 1) ts)))

-- those of one tetrahedron more
pub taken_more : (places : List Place) (from n : ℕ) (tets : List (List ℕ)) (xs : List Extreme) → n < length tets → extremes_of ((xs ++ flat_map (angles_of places) (enumerate_from from (take n tets))) ++ angles_of places (from + n, get_or tets n [])) ≡ extremes_of (xs ++ flat_map (angles_of places) (enumerate_from from (take (n + 1) tets)))
taken_more places from n tets xs within =
    ap extremes_of
    (append_assoc xs (flat_map (angles_of places) (enumerate_from from (take n tets))) (angles_of places (from + n, get_or tets n []))
    ∙ ap (λ ys. xs ++ ys) (sym (numbered_more (angles_of places) from n tets [] within)))
