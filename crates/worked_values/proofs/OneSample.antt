-- The whole mesh of one sample, its places, angles and texts; it is sound in what computes.
use Rattle.worked_values.proofs.AllOpen.{all_open}
use Rattle.std.specs.Prelude.{◌≡◌, false, [], ◌∷◌, map, length, refl, Some, pos, codes, ◌==◌, ◌&&◌, slice_index}
use Rattle.std.specs.List.{range_with_len}
use Rattle.definitions.specs.Lattice.{dims}
use Rattle.definitions.specs.Values.{field_of, Field}
use Rattle.definitions.specs.Vectors.{det}
use Rattle.definitions.specs.Mesh.{mesh}
use Rattle.definitions.specs.Soundness.{corner_places}
use Rattle.definitions.specs.Angles.{angles, extremes_of, edge_cosine, edges}
use Rattle.std.specs.Prelude.{◌≡◌, map, length, refl, [], ◌∷◌, pos, false}
use Rattle.definitions.specs.Lattice.{dims}
use Rattle.definitions.specs.States.{Shares, states}
use Rattle.definitions.specs.Mesh.{node_keys, mesh}
use Rattle.formats.specs.Texts.{sign_line}
use Rattle.std.specs.Prelude.{codes}
use Rattle.std.specs.Prelude.{◌≡◌, [], ◌∷◌, length, refl, pos, false, true, Bool, ◌&&◌, ◌==◌, nat_le, int_lt, slice_index}
use Rattle.std.specs.List.{list_all, range_with_len}
use Rattle.definitions.specs.Lattice.{dims}
use Rattle.definitions.specs.Mesh.{mesh, node_keys}
use Rattle.definitions.specs.Soundness.{corner_places, tets_at_triangle, all_triangles, boundary, edge_count, is_level_key}
use Rattle.worked_values.specs.Fields.{usual, one_sample}

pub keys : node_keys (dims 1 1 1) (states one_sample usual) ≡ 39 ∷ 78 ∷ 85 ∷ 92 ∷ 99 ∷ 114 ∷ 129 ∷ 136 ∷ 137 ∷ 138 ∷ 139 ∷ 140 ∷ 141 ∷ 142 ∷ 143 ∷ []
unfolding all_open
keys = refl

pub tets :
    (mesh one_sample usual).tets
    ≡ (0 ∷ 1 ∷ 2 ∷ 7 ∷ []) ∷ (0 ∷ 1 ∷ 7 ∷ 3 ∷ []) ∷ (0 ∷ 2 ∷ 4 ∷ 7 ∷ []) ∷ (0 ∷ 3 ∷ 7 ∷ 4 ∷ []) ∷ (1 ∷ 2 ∷ 7 ∷ 5 ∷ []) ∷ (1 ∷ 3 ∷ 6 ∷ 7 ∷ []) ∷ (1 ∷ 5 ∷ 7 ∷ 10 ∷ []) ∷ (1 ∷ 6 ∷ 10 ∷ 7 ∷ [])
    ∷ (2 ∷ 4 ∷ 7 ∷ 8 ∷ []) ∷ (2 ∷ 5 ∷ 11 ∷ 7 ∷ []) ∷ (2 ∷ 7 ∷ 11 ∷ 8 ∷ []) ∷ (3 ∷ 4 ∷ 9 ∷ 7 ∷ []) ∷ (3 ∷ 6 ∷ 7 ∷ 12 ∷ []) ∷ (3 ∷ 7 ∷ 9 ∷ 12 ∷ []) ∷ (4 ∷ 7 ∷ 8 ∷ 13 ∷ []) ∷ (4 ∷ 7 ∷ 13 ∷ 9 ∷ [])
    ∷ (5 ∷ 7 ∷ 10 ∷ 11 ∷ []) ∷ (6 ∷ 7 ∷ 12 ∷ 10 ∷ []) ∷ (7 ∷ 8 ∷ 13 ∷ 11 ∷ []) ∷ (7 ∷ 9 ∷ 12 ∷ 13 ∷ []) ∷ (7 ∷ 10 ∷ 11 ∷ 14 ∷ []) ∷ (7 ∷ 10 ∷ 14 ∷ 12 ∷ []) ∷ (7 ∷ 11 ∷ 13 ∷ 14 ∷ []) ∷ (7 ∷ 12 ∷ 14 ∷ 13 ∷ []) ∷ []
unfolding all_open
tets = refl

pub extremes_are : extremes_of (angles (mesh one_sample usual)) ≡ Some (record { least = record { cosine = record { sign = pos 1; num = 1; den = 4 }; tet = 0; ends = 1 ∷ 7 ∷ [] }; greatest = record { cosine = record { sign = pos 0; num = 0; den = 1 }; tet = 0; ends = 0 ∷ 7 ∷ [] } })
unfolding all_open
extremes_are = refl

pub signs : sign_line one_sample ≡ codes "plus 1 zero 0 minus 34\n"
unfolding all_open
signs = refl

pub volume : det (corner_places (mesh one_sample usual).places (0 ∷ 1 ∷ 2 ∷ 7 ∷ [])) ≡ pos 44894461952
unfolding all_open
volume = refl

pub angles_are :
    map (edge_cosine (corner_places (mesh one_sample usual).places (0 ∷ 1 ∷ 2 ∷ 7 ∷ []))) edges
    ≡ record { sign = pos 1; num = 3080025; den = 17120612 }
    ∷ record { sign = pos 1; num = 3080025; den = 17120612 }
    ∷ record { sign = pos 0; num = 0; den = 1 }
    ∷ record { sign = pos 1; num = 85849; den = 4280153 }
    ∷ record { sign = pos 1; num = 1; den = 4 }
    ∷ record { sign = pos 1; num = 1; den = 4 }
    ∷ []
unfolding all_open
angles_are = refl

-- what computes of a sound mesh
abbrev is_sound : Field → Shares → Bool
is_sound f s =
    let m = mesh f s in
    let keys = node_keys f.dims (states f s) in
    let border = boundary m.tets in
    let nodes = range_with_len 0 (length keys) in
    list_all (λ t. int_lt (pos 0) (det (corner_places m.places t))) m.tets
    && (list_all (λ t. nat_le (tets_at_triangle m.tets t) 2) (all_triangles m.tets)
    && (list_all (list_all (λ n. is_level_key (states f s) (slice_index keys n))) border
    && list_all (λ a. list_all (λ b. edge_count border a b == edge_count border b a) nodes) nodes))

pub sound : is_sound (field_of (dims 1 1 1) (pos 1 ∷ []) (pos 1) false) usual ≡ true
unfolding all_open
sound = refl
