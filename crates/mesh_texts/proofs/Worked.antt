-- Worked values of the texts: coordinates, lines, and both files of one sample.
use Rattle.std.specs.Prelude.{◌≡◌, ℕ, ◌*◌, ◌^◌, true, false, List, [], ◌∷◌, ◌++◌, map, take, codes, refl, ℤ, pos, neg_ℤ, negsuc, Some, None}
use Rattle.std.specs.Fmt.{digits}
use Rattle.definitions.specs.declared.Place.{Place}
use Rattle.definitions.specs.Angles.{angles, edge_cosine, extremes_of, greatest_divisor}
use Rattle.definitions.specs.Lists.{least_by}
use Rattle.definitions.specs.Places.{place}
use Rattle.mesh_texts.specs.Coordinates.{coordinate_text}
use Rattle.formats.specs.declared.Axis.{Axis}
use Rattle.formats.specs.declared.Frame.{Frame}
use Rattle.mesh_texts.specs.Frames.{world_text, world_value}
use Rattle.mesh_texts.specs.Nodes.{Node}
use Rattle.mesh_texts.specs.Lines.{node_line, ele_line}
use Rattle.mesh_texts.specs.Files.{node_text, ele_text, counts_text}
use Rattle.mesh_texts.specs.Report.{mesh_extremes, report, report_text}

zero : coordinate_text (pos 0) ≡ codes "0.0000000000000"
unfolding digits
zero = refl

minus_half : coordinate_text (negsuc 4095) ≡ codes "-0.5000000000000"
unfolding digits
minus_half = refl

a_cut : coordinate_text (pos 2341) ≡ codes "0.2857666015625"
unfolding digits
a_cut = refl

minus_a_cut : coordinate_text (negsuc 2340) ≡ codes "-0.2857666015625"
unfolding digits
minus_a_cut = refl

one : coordinate_text (pos 8192) ≡ codes "1.0000000000000"
unfolding digits
one = refl

least : coordinate_text (pos 1) ≡ codes "0.0001220703125"
unfolding digits
least = refl

minus_least : coordinate_text (negsuc 0) ≡ codes "-0.0001220703125"
unfolding digits
minus_least = refl

below_one : coordinate_text (pos 8191) ≡ codes "0.9998779296875"
unfolding digits
below_one = refl

greatest : coordinate_text (pos 68000000) ≡ codes "8300.7812500000000"
unfolding digits
greatest = refl

abbrev index : ℕ → Frame
index step = record { step = step; world = None }

abbrev level : Place → Node
level p = record { place = p; level = true }

abbrev inside : Place → Node
inside p = record { place = p; level = false }

every_second : node_line (index 2) (1, inside (place (pos 8192) (pos 0) (negsuc 4095))) ≡ codes "1 2.0000000000000 0.0000000000000 -1.0000000000000 0\n"
unfolding digits
every_second = refl

last_line : ele_line (23, 7 ∷ 12 ∷ 14 ∷ 13 ∷ []) ≡ codes "23 7 12 14 13\n"
unfolding digits
last_line = refl

counts : counts_text 15 24 ≡ codes "nodes 15\ntetrahedra 24\n"
unfolding counts_text digits
counts = refl

abbrev nodes : List Node
nodes = level (place (pos 0) (pos 0) (negsuc 4095))
    ∷ level (place (negsuc 2340) (negsuc 2340) (negsuc 2340))
    ∷ level (place (pos 2341) (negsuc 2340) (negsuc 2340))
    ∷ level (place (negsuc 2340) (pos 2341) (negsuc 2340))
    ∷ level (place (pos 2341) (pos 2341) (negsuc 2340))
    ∷ level (place (pos 0) (negsuc 4095) (pos 0))
    ∷ level (place (negsuc 4095) (pos 0) (pos 0))
    ∷ inside (place (pos 0) (pos 0) (pos 0))
    ∷ level (place (pos 4096) (pos 0) (pos 0))
    ∷ level (place (pos 0) (pos 4096) (pos 0))
    ∷ level (place (negsuc 2340) (negsuc 2340) (pos 2341))
    ∷ level (place (pos 2341) (negsuc 2340) (pos 2341))
    ∷ level (place (negsuc 2340) (pos 2341) (pos 2341))
    ∷ level (place (pos 2341) (pos 2341) (pos 2341))
    ∷ level (place (pos 0) (pos 0) (pos 4096))
    ∷ []

one_sample : node_text (index 1) 0 nodes ≡ codes "15 3 0 1\n"
    ++ (codes "0 0.0000000000000 0.0000000000000 -0.5000000000000 1\n"
    ++ (codes "1 -0.2857666015625 -0.2857666015625 -0.2857666015625 1\n"
    ++ (codes "2 0.2857666015625 -0.2857666015625 -0.2857666015625 1\n"
    ++ (codes "3 -0.2857666015625 0.2857666015625 -0.2857666015625 1\n"
    ++ (codes "4 0.2857666015625 0.2857666015625 -0.2857666015625 1\n"
    ++ (codes "5 0.0000000000000 -0.5000000000000 0.0000000000000 1\n"
    ++ (codes "6 -0.5000000000000 0.0000000000000 0.0000000000000 1\n"
    ++ (codes "7 0.0000000000000 0.0000000000000 0.0000000000000 0\n"
    ++ (codes "8 0.5000000000000 0.0000000000000 0.0000000000000 1\n"
    ++ (codes "9 0.0000000000000 0.5000000000000 0.0000000000000 1\n"
    ++ (codes "10 -0.2857666015625 -0.2857666015625 0.2857666015625 1\n"
    ++ (codes "11 0.2857666015625 -0.2857666015625 0.2857666015625 1\n"
    ++ (codes "12 -0.2857666015625 0.2857666015625 0.2857666015625 1\n"
    ++ (codes "13 0.2857666015625 0.2857666015625 0.2857666015625 1\n"
    ++ (codes "14 0.0000000000000 0.0000000000000 0.5000000000000 1\n")))))))))))))))
unfolding node_text digits
one_sample = refl

abbrev tets : List (List ℕ)
tets = (0 ∷ 1 ∷ 2 ∷ 7 ∷ [])
    ∷ (0 ∷ 1 ∷ 7 ∷ 3 ∷ [])
    ∷ (0 ∷ 2 ∷ 4 ∷ 7 ∷ [])
    ∷ (0 ∷ 3 ∷ 7 ∷ 4 ∷ [])
    ∷ (1 ∷ 2 ∷ 7 ∷ 5 ∷ [])
    ∷ (1 ∷ 3 ∷ 6 ∷ 7 ∷ [])
    ∷ (1 ∷ 5 ∷ 7 ∷ 10 ∷ [])
    ∷ (1 ∷ 6 ∷ 10 ∷ 7 ∷ [])
    ∷ (2 ∷ 4 ∷ 7 ∷ 8 ∷ [])
    ∷ (2 ∷ 5 ∷ 11 ∷ 7 ∷ [])
    ∷ (2 ∷ 7 ∷ 11 ∷ 8 ∷ [])
    ∷ (3 ∷ 4 ∷ 9 ∷ 7 ∷ [])
    ∷ (3 ∷ 6 ∷ 7 ∷ 12 ∷ [])
    ∷ (3 ∷ 7 ∷ 9 ∷ 12 ∷ [])
    ∷ (4 ∷ 7 ∷ 8 ∷ 13 ∷ [])
    ∷ (4 ∷ 7 ∷ 13 ∷ 9 ∷ [])
    ∷ (5 ∷ 7 ∷ 10 ∷ 11 ∷ [])
    ∷ (6 ∷ 7 ∷ 12 ∷ 10 ∷ [])
    ∷ (7 ∷ 8 ∷ 13 ∷ 11 ∷ [])
    ∷ (7 ∷ 9 ∷ 12 ∷ 13 ∷ [])
    ∷ (7 ∷ 10 ∷ 11 ∷ 14 ∷ [])
    ∷ (7 ∷ 10 ∷ 14 ∷ 12 ∷ [])
    ∷ (7 ∷ 11 ∷ 13 ∷ 14 ∷ [])
    ∷ (7 ∷ 12 ∷ 14 ∷ 13 ∷ [])
    ∷ []

tetrahedra : ele_text 0 tets ≡ codes "24 4 0\n"
    ++ (codes "0 0 1 2 7\n"
    ++ (codes "1 0 1 7 3\n"
    ++ (codes "2 0 2 4 7\n"
    ++ (codes "3 0 3 7 4\n"
    ++ (codes "4 1 2 7 5\n"
    ++ (codes "5 1 3 6 7\n"
    ++ (codes "6 1 5 7 10\n"
    ++ (codes "7 1 6 10 7\n"
    ++ (codes "8 2 4 7 8\n"
    ++ (codes "9 2 5 11 7\n"
    ++ (codes "10 2 7 11 8\n"
    ++ (codes "11 3 4 9 7\n"
    ++ (codes "12 3 6 7 12\n"
    ++ (codes "13 3 7 9 12\n"
    ++ (codes "14 4 7 8 13\n"
    ++ (codes "15 4 7 13 9\n"
    ++ (codes "16 5 7 10 11\n"
    ++ (codes "17 6 7 12 10\n"
    ++ (codes "18 7 8 13 11\n"
    ++ (codes "19 7 9 12 13\n"
    ++ (codes "20 7 10 11 14\n"
    ++ (codes "21 7 10 14 12\n"
    ++ (codes "22 7 11 13 14\n"
    ++ (codes "23 7 12 14 13\n"))))))))))))))))))))))))
unfolding ele_text digits
tetrahedra = refl

no_nodes : node_text (index 1) 0 [] ≡ codes "0 3 0 1\n"
unfolding node_text digits
no_nodes = refl

no_tetrahedra : ele_text 0 [] ≡ codes "0 4 0\n"
unfolding ele_text digits
no_tetrahedra = refl

told : report 0 (record { places = map (λ (n : Node). n.place) nodes; tets = tets }) ≡ codes "nodes 15\ntetrahedra 24\n"
    ++ (codes "least +1/4 tetrahedron 0 edge 1 7\n"
    ++ codes "greatest 0/1 tetrahedron 0 edge 0 7\n")
unfolding report_text mesh_extremes angles counts_text extremes_of least_by edge_cosine greatest_divisor digits
told = refl

nothing_told : report 0 (record { places = []; tets = [] }) ≡ codes "nodes 0\ntetrahedra 0\nno tetrahedra\n"
unfolding report_text mesh_extremes angles counts_text extremes_of least_by digits
nothing_told = refl

-- numbered from 1 on

first_node : node_text (index 1) 1 (take 1 nodes) ≡ codes "1 3 0 1\n1 0.0000000000000 0.0000000000000 -0.5000000000000 1\n"
unfolding node_text digits
first_node = refl

first_tetrahedra : ele_text 1 (take 2 tets) ≡ codes "2 4 0\n1 1 2 3 8\n2 1 2 8 4\n"
unfolding ele_text digits
first_tetrahedra = refl

told_from_one : report 1 (record { places = map (λ (n : Node). n.place) nodes; tets = tets }) ≡ codes "nodes 15\ntetrahedra 24\n"
    ++ (codes "least +1/4 tetrahedron 1 edge 2 8\n"
    ++ codes "greatest 0/1 tetrahedron 1 edge 1 8\n")
unfolding report_text mesh_extremes angles counts_text extremes_of least_by edge_cosine greatest_divisor digits
told_from_one = refl

-- in the volume's own units

abbrev axis : ℤ → ℤ → Axis
axis spacing offset = record { spacing = spacing; offset = offset }

zero_units : world_text (pos 0) ≡ codes "0.0000000000000000000000000000000"
unfolding digits
zero_units = refl

minus_least_unit : world_text (negsuc 0) ≡ codes "-0.0000000000000000000000000000001"
unfolding digits
minus_least_unit = refl

greatest_units : world_text (pos 99999999999999999999999999999999999999) ≡ codes "9999999.9999999999999999999999999999999"
unfolding digits
greatest_units = refl

-- spacings 0.5 0.5 2 and offsets 10 -20 0.25: the vertex below the sample, a cut, and the vertex to its right
abbrev own : Frame
own = record { step = 1; world = Some (axis (pos (5 * 10 ^ 17)) (pos (10 * 10 ^ 18)) ∷ axis (pos (5 * 10 ^ 17)) (neg_ℤ (pos (20 * 10 ^ 18))) ∷ axis (pos (2 * 10 ^ 18)) (pos (25 * 10 ^ 16)) ∷ []) }

node_below : node_line own (0, level (place (pos 0) (pos 0) (negsuc 4095)))
    ≡ codes "0 10.0000000000000000000000000000000 -20.0000000000000000000000000000000 -0.7500000000000000000000000000000 1\n"
unfolding digits
node_below = refl

node_on_cut : node_line own (1, level (place (negsuc 2340) (negsuc 2340) (negsuc 2340)))
    ≡ codes "1 9.8571166992187500000000000000000 -20.1428833007812500000000000000000 -0.3215332031250000000000000000000 1\n"
unfolding digits
node_on_cut = refl

node_to_right : node_line own (8, level (place (pos 4096) (pos 0) (pos 0)))
    ≡ codes "8 10.2500000000000000000000000000000 -20.0000000000000000000000000000000 0.2500000000000000000000000000000 1\n"
unfolding digits
node_to_right = refl

-- offset + spacing * step * p / 8192: the offset stays as it is where every second sample is kept
every_second_own : world_value (axis (pos (5 * 10 ^ 17)) (pos (10 * 10 ^ 18))) 2 (pos 8192) ≡ pos (11 * 10 ^ 31)
every_second_own = refl
