-- The place of a node among the ten that a tetrahedron can have.
use Rattle.std.proofs.Common.{◌≡◌, ℕ, Bool, true, nat_lt, List, length, map, sym, ap, ◌∙◌}
use Rattle.std.specs.Prelude.{Some, None, unwrap_or, position, slice_index, if◌then◌else◌}
use Rattle.std.specs.List.{list_any, position_or_len}
use Rattle.std.proofs.lemmas.Bool.{lt-ltb}
use Rattle.std.proofs.lemmas.List.{get_or-map}
use Rattle.std.proofs.lemmas.List.Sums.{passes_at_first}
use Rattle.definitions.specs.declared.Corner.{Corner}
use Rattle.definitions.specs.declared.Corner.TheVariants.{Whole}
use Rattle.definitions.specs.Stencils.{corners, same_corner}
use Rattle.lattice_laws.specs.NumberedTetrahedra.{is_corner, rank}
use Rattle.lattice_laws.proofs.Lists.{place_below}
use Rattle.lattice_laws.proofs.KeyOrder.{corner_from_same}

-- the first place at which a test holds, where it holds somewhere
pub position_found : {X : Type 0} (t : X → Bool) (xs : List X) (d : ℕ) → list_any t xs ≡ true → unwrap_or (position t xs) d ≡ position_or_len t xs
position_found t xs d h =
    let e : nat_lt (position_or_len t xs) (length xs) ≡ true = lt-ltb _ _ (place_below t xs h) in
    λ i. unwrap_or (if e i then Some (position_or_len t xs) else None) d

-- the key at the place of a node is the node's
pub key_at_rank : (key : Corner → ℕ) (c : Corner) → is_corner c ≡ true → slice_index (map key corners) (rank c) ≡ key c
key_at_rank key c h =
    let b = place_below (same_corner c) corners h in
    get_or-map key corners (rank c) (Whole 4) 0 b ∙ ap key (sym (corner_from_same c _ (passes_at_first (same_corner c) corners (Whole 4) b)))
