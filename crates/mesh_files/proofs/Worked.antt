-- Worked files: what they say, and what comes of their tetrahedra.
use Rattle.std.specs.Prelude.{◌≡◌, ℕ, List, [], ◌∷◌, codes, refl, Ok, Err, pos, neg_ℤ}
use Rattle.definitions.specs.declared.Place.{Place}
use Rattle.definitions.specs.Places.{place}
use Rattle.formats.specs.declared.MeshFault.TheVariants.{BadLine, BadPlace, BadNode, EndsEarly}
use Rattle.formats.specs.declared.Verdict.TheVariants.{NotPositive, Crowded, Turned, Sound}
use Rattle.mesh_files.specs.Lines.{lines_from}
use Rattle.mesh_files.specs.Numbers.{is_decimal, are_units, units}
use Rattle.mesh_files.specs.Files.{Nodes, nodes_of, tets_of}
use Rattle.mesh_files.specs.Verdicts.{verdict, is_positive, is_crowded, is_turned}

abbrev places : List Place
places = place (pos 0) (pos 0) (neg_ℤ (pos 4096)) ∷ place (neg_ℤ (pos 2341)) (neg_ℤ (pos 2341)) (neg_ℤ (pos 2341)) ∷ place (pos 2341) (neg_ℤ (pos 2341)) (neg_ℤ (pos 2341)) ∷ place (neg_ℤ (pos 2341)) (pos 2341) (neg_ℤ (pos 2341)) ∷ place (pos 2341) (pos 2341) (neg_ℤ (pos 2341)) ∷ place (pos 0) (neg_ℤ (pos 4096)) (pos 0) ∷ place (neg_ℤ (pos 4096)) (pos 0) (pos 0) ∷ place (pos 0) (pos 0) (pos 0) ∷ place (pos 4096) (pos 0) (pos 0) ∷ place (pos 0) (pos 4096) (pos 0) ∷ place (neg_ℤ (pos 2341)) (neg_ℤ (pos 2341)) (pos 2341) ∷ place (pos 2341) (neg_ℤ (pos 2341)) (pos 2341) ∷ place (neg_ℤ (pos 2341)) (pos 2341) (pos 2341) ∷ place (pos 2341) (pos 2341) (pos 2341) ∷ place (pos 0) (pos 0) (pos 4096) ∷ []

abbrev tets : List (List ℕ)
tets = (0 ∷ 1 ∷ 2 ∷ 7 ∷ []) ∷ (0 ∷ 1 ∷ 7 ∷ 3 ∷ []) ∷ (0 ∷ 2 ∷ 4 ∷ 7 ∷ []) ∷ (0 ∷ 3 ∷ 7 ∷ 4 ∷ []) ∷ (1 ∷ 2 ∷ 7 ∷ 5 ∷ []) ∷ (1 ∷ 3 ∷ 6 ∷ 7 ∷ []) ∷ (1 ∷ 5 ∷ 7 ∷ 10 ∷ []) ∷ (1 ∷ 6 ∷ 10 ∷ 7 ∷ []) ∷ (2 ∷ 4 ∷ 7 ∷ 8 ∷ []) ∷ (2 ∷ 5 ∷ 11 ∷ 7 ∷ []) ∷ (2 ∷ 7 ∷ 11 ∷ 8 ∷ []) ∷ (3 ∷ 4 ∷ 9 ∷ 7 ∷ []) ∷ (3 ∷ 6 ∷ 7 ∷ 12 ∷ []) ∷ (3 ∷ 7 ∷ 9 ∷ 12 ∷ []) ∷ (4 ∷ 7 ∷ 8 ∷ 13 ∷ []) ∷ (4 ∷ 7 ∷ 13 ∷ 9 ∷ []) ∷ (5 ∷ 7 ∷ 10 ∷ 11 ∷ []) ∷ (6 ∷ 7 ∷ 12 ∷ 10 ∷ []) ∷ (7 ∷ 8 ∷ 13 ∷ 11 ∷ []) ∷ (7 ∷ 9 ∷ 12 ∷ 13 ∷ []) ∷ (7 ∷ 10 ∷ 11 ∷ 14 ∷ []) ∷ (7 ∷ 10 ∷ 14 ∷ 12 ∷ []) ∷ (7 ∷ 11 ∷ 13 ∷ 14 ∷ []) ∷ (7 ∷ 12 ∷ 14 ∷ 13 ∷ []) ∷ []

abbrev nodes : ℕ → Nodes
nodes = λ first. record { first = first; places = places }

nodes_are : nodes_of (codes "15 3 0 0\n0 0.0000000000000 0.0000000000000 -0.5000000000000\n1 -0.2857666015625 -0.2857666015625 -0.2857666015625\n2 0.2857666015625 -0.2857666015625 -0.2857666015625\n3 -0.2857666015625 0.2857666015625 -0.2857666015625\n4 0.2857666015625 0.2857666015625 -0.2857666015625\n5 0.0000000000000 -0.5000000000000 0.0000000000000\n6 -0.5000000000000 0.0000000000000 0.0000000000000\n7 0.0000000000000 0.0000000000000 0.0000000000000\n8 0.5000000000000 0.0000000000000 0.0000000000000\n9 0.0000000000000 0.5000000000000 0.0000000000000\n10 -0.2857666015625 -0.2857666015625 0.2857666015625\n11 0.2857666015625 -0.2857666015625 0.2857666015625\n12 -0.2857666015625 0.2857666015625 0.2857666015625\n13 0.2857666015625 0.2857666015625 0.2857666015625\n14 0.0000000000000 0.0000000000000 0.5000000000000\n") ≡ Ok (nodes 0)
unfolding nodes_of tets_of lines_from is_decimal are_units units
nodes_are = refl

nodes_are_from_one : nodes_of (codes "15 3 0 0\n1 0.0000000000000 0.0000000000000 -0.5000000000000\n2 -0.2857666015625 -0.2857666015625 -0.2857666015625\n3 0.2857666015625 -0.2857666015625 -0.2857666015625\n4 -0.2857666015625 0.2857666015625 -0.2857666015625\n5 0.2857666015625 0.2857666015625 -0.2857666015625\n6 0.0000000000000 -0.5000000000000 0.0000000000000\n7 -0.5000000000000 0.0000000000000 0.0000000000000\n8 0.0000000000000 0.0000000000000 0.0000000000000\n9 0.5000000000000 0.0000000000000 0.0000000000000\n10 0.0000000000000 0.5000000000000 0.0000000000000\n11 -0.2857666015625 -0.2857666015625 0.2857666015625\n12 0.2857666015625 -0.2857666015625 0.2857666015625\n13 -0.2857666015625 0.2857666015625 0.2857666015625\n14 0.2857666015625 0.2857666015625 0.2857666015625\n15 0.0000000000000 0.0000000000000 0.5000000000000\n") ≡ Ok (nodes 1)
unfolding nodes_of tets_of lines_from is_decimal are_units units
nodes_are_from_one = refl

tets_are : tets_of (nodes 0) (codes "24 4 0\n0 0 1 2 7\n1 0 1 7 3\n2 0 2 4 7\n3 0 3 7 4\n4 1 2 7 5\n5 1 3 6 7\n6 1 5 7 10\n7 1 6 10 7\n8 2 4 7 8\n9 2 5 11 7\n10 2 7 11 8\n11 3 4 9 7\n12 3 6 7 12\n13 3 7 9 12\n14 4 7 8 13\n15 4 7 13 9\n16 5 7 10 11\n17 6 7 12 10\n18 7 8 13 11\n19 7 9 12 13\n20 7 10 11 14\n21 7 10 14 12\n22 7 11 13 14\n23 7 12 14 13\n") ≡ Ok tets
unfolding nodes_of tets_of lines_from is_decimal are_units units
tets_are = refl

tets_are_from_one : tets_of (nodes 1) (codes "24 4 0\n1 1 2 3 8\n2 1 2 8 4\n3 1 3 5 8\n4 1 4 8 5\n5 2 3 8 6\n6 2 4 7 8\n7 2 6 8 11\n8 2 7 11 8\n9 3 5 8 9\n10 3 6 12 8\n11 3 8 12 9\n12 4 5 10 8\n13 4 7 8 13\n14 4 8 10 13\n15 5 8 9 14\n16 5 8 14 10\n17 6 8 11 12\n18 7 8 13 11\n19 8 9 14 12\n20 8 10 13 14\n21 8 11 12 15\n22 8 11 15 13\n23 8 12 14 15\n24 8 13 15 14\n") ≡ Ok tets
unfolding nodes_of tets_of lines_from is_decimal are_units units
tets_are_from_one = refl

sound : verdict (nodes 0) tets ≡ Sound 15 24 24
unfolding verdict is_positive is_crowded is_turned
sound = refl

sound_from_one : verdict (nodes 1) tets ≡ Sound 15 24 24
unfolding verdict is_positive is_crowded is_turned
sound_from_one = refl

abbrev with_first_changed : List (List ℕ)
with_first_changed = (1 ∷ 0 ∷ 2 ∷ 7 ∷ []) ∷ (0 ∷ 1 ∷ 7 ∷ 3 ∷ []) ∷ (0 ∷ 2 ∷ 4 ∷ 7 ∷ []) ∷ (0 ∷ 3 ∷ 7 ∷ 4 ∷ []) ∷ (1 ∷ 2 ∷ 7 ∷ 5 ∷ []) ∷ (1 ∷ 3 ∷ 6 ∷ 7 ∷ []) ∷ (1 ∷ 5 ∷ 7 ∷ 10 ∷ []) ∷ (1 ∷ 6 ∷ 10 ∷ 7 ∷ []) ∷ (2 ∷ 4 ∷ 7 ∷ 8 ∷ []) ∷ (2 ∷ 5 ∷ 11 ∷ 7 ∷ []) ∷ (2 ∷ 7 ∷ 11 ∷ 8 ∷ []) ∷ (3 ∷ 4 ∷ 9 ∷ 7 ∷ []) ∷ (3 ∷ 6 ∷ 7 ∷ 12 ∷ []) ∷ (3 ∷ 7 ∷ 9 ∷ 12 ∷ []) ∷ (4 ∷ 7 ∷ 8 ∷ 13 ∷ []) ∷ (4 ∷ 7 ∷ 13 ∷ 9 ∷ []) ∷ (5 ∷ 7 ∷ 10 ∷ 11 ∷ []) ∷ (6 ∷ 7 ∷ 12 ∷ 10 ∷ []) ∷ (7 ∷ 8 ∷ 13 ∷ 11 ∷ []) ∷ (7 ∷ 9 ∷ 12 ∷ 13 ∷ []) ∷ (7 ∷ 10 ∷ 11 ∷ 14 ∷ []) ∷ (7 ∷ 10 ∷ 14 ∷ 12 ∷ []) ∷ (7 ∷ 11 ∷ 13 ∷ 14 ∷ []) ∷ (7 ∷ 12 ∷ 14 ∷ 13 ∷ []) ∷ []

abbrev with_second_changed : List (List ℕ)
with_second_changed = (0 ∷ 1 ∷ 2 ∷ 7 ∷ []) ∷ (0 ∷ 1 ∷ 2 ∷ 7 ∷ []) ∷ (0 ∷ 2 ∷ 4 ∷ 7 ∷ []) ∷ (0 ∷ 3 ∷ 7 ∷ 4 ∷ []) ∷ (1 ∷ 2 ∷ 7 ∷ 5 ∷ []) ∷ (1 ∷ 3 ∷ 6 ∷ 7 ∷ []) ∷ (1 ∷ 5 ∷ 7 ∷ 10 ∷ []) ∷ (1 ∷ 6 ∷ 10 ∷ 7 ∷ []) ∷ (2 ∷ 4 ∷ 7 ∷ 8 ∷ []) ∷ (2 ∷ 5 ∷ 11 ∷ 7 ∷ []) ∷ (2 ∷ 7 ∷ 11 ∷ 8 ∷ []) ∷ (3 ∷ 4 ∷ 9 ∷ 7 ∷ []) ∷ (3 ∷ 6 ∷ 7 ∷ 12 ∷ []) ∷ (3 ∷ 7 ∷ 9 ∷ 12 ∷ []) ∷ (4 ∷ 7 ∷ 8 ∷ 13 ∷ []) ∷ (4 ∷ 7 ∷ 13 ∷ 9 ∷ []) ∷ (5 ∷ 7 ∷ 10 ∷ 11 ∷ []) ∷ (6 ∷ 7 ∷ 12 ∷ 10 ∷ []) ∷ (7 ∷ 8 ∷ 13 ∷ 11 ∷ []) ∷ (7 ∷ 9 ∷ 12 ∷ 13 ∷ []) ∷ (7 ∷ 10 ∷ 11 ∷ 14 ∷ []) ∷ (7 ∷ 10 ∷ 14 ∷ 12 ∷ []) ∷ (7 ∷ 11 ∷ 13 ∷ 14 ∷ []) ∷ (7 ∷ 12 ∷ 14 ∷ 13 ∷ []) ∷ []

first_changed : tets_of (nodes 0) (codes "24 4 0\n0 1 0 2 7\n1 0 1 7 3\n2 0 2 4 7\n3 0 3 7 4\n4 1 2 7 5\n5 1 3 6 7\n6 1 5 7 10\n7 1 6 10 7\n8 2 4 7 8\n9 2 5 11 7\n10 2 7 11 8\n11 3 4 9 7\n12 3 6 7 12\n13 3 7 9 12\n14 4 7 8 13\n15 4 7 13 9\n16 5 7 10 11\n17 6 7 12 10\n18 7 8 13 11\n19 7 9 12 13\n20 7 10 11 14\n21 7 10 14 12\n22 7 11 13 14\n23 7 12 14 13\n") ≡ Ok with_first_changed
unfolding nodes_of tets_of lines_from is_decimal are_units units
first_changed = refl

second_changed : tets_of (nodes 0) (codes "24 4 0\n0 0 1 2 7\n1 0 1 2 7\n2 0 2 4 7\n3 0 3 7 4\n4 1 2 7 5\n5 1 3 6 7\n6 1 5 7 10\n7 1 6 10 7\n8 2 4 7 8\n9 2 5 11 7\n10 2 7 11 8\n11 3 4 9 7\n12 3 6 7 12\n13 3 7 9 12\n14 4 7 8 13\n15 4 7 13 9\n16 5 7 10 11\n17 6 7 12 10\n18 7 8 13 11\n19 7 9 12 13\n20 7 10 11 14\n21 7 10 14 12\n22 7 11 13 14\n23 7 12 14 13\n") ≡ Ok with_second_changed
unfolding nodes_of tets_of lines_from is_decimal are_units units
second_changed = refl

not_positive : verdict (nodes 0) with_first_changed ≡ NotPositive 0
unfolding verdict is_positive is_crowded is_turned
not_positive = refl

crowded : verdict (nodes 0) with_second_changed ≡ Crowded 0
unfolding verdict is_positive is_crowded is_turned
crowded = refl

abbrev five : Nodes
five = record { first = 0; places = place (pos 0) (pos 0) (pos 0) ∷ place (pos 8192) (pos 0) (pos 0) ∷ place (pos 0) (pos 8192) (pos 0) ∷ place (pos 0) (pos 0) (pos 8192) ∷ place (pos 0) (pos 0) (pos 16384) ∷ [] }

five_nodes : nodes_of (codes "5 3 0 0\n0 0 0 0\n1 1 0 0\n2 0 1 0\n3 0 0 1\n4 0 0 2\n") ≡ Ok five
unfolding nodes_of tets_of lines_from is_decimal are_units units
five_nodes = refl

two_tets : tets_of five (codes "2 4 0\n0 0 1 2 3\n1 0 1 2 4\n") ≡ Ok ((0 ∷ 1 ∷ 2 ∷ 3 ∷ []) ∷ (0 ∷ 1 ∷ 2 ∷ 4 ∷ []) ∷ [])
unfolding nodes_of tets_of lines_from is_decimal are_units units
two_tets = refl

turned : verdict five ((0 ∷ 1 ∷ 2 ∷ 3 ∷ []) ∷ (0 ∷ 1 ∷ 2 ∷ 4 ∷ []) ∷ []) ≡ Turned 0
unfolding verdict is_positive is_crowded is_turned
turned = refl

no_such_node : tets_of five (codes "2 4 0\n0 0 1 2 3\n1 0 1 2 5\n") ≡ Err (BadNode 16)
unfolding nodes_of tets_of lines_from is_decimal are_units units
no_such_node = refl

no_coordinate : nodes_of (codes "1 3 0 0\n0 0.1 0 0\n") ≡ Err (BadPlace 8)
unfolding nodes_of tets_of lines_from is_decimal are_units units
no_coordinate = refl

empty : nodes_of [] ≡ Err (EndsEarly 0 1)
unfolding nodes_of tets_of lines_from is_decimal are_units units
empty = refl

nodes_1 : nodes_of (codes "1 3 0 0\n0 +1 5. .5") ≡ Ok (record { first = 0; places = place (pos 8192) (pos 40960) (pos 4096) ∷ [] })
unfolding nodes_of tets_of lines_from is_decimal are_units units
nodes_1 = refl

nodes_2 : nodes_of (codes "#\n \t\n1\t3 2 1 # four\r\n1 -0 -.000122070312500000 1048575.99987792968750 a b c\r\n\n# end") ≡ Ok (record { first = 1; places = place (pos 0) (neg_ℤ (pos 1)) (pos 8589934591) ∷ [] })
unfolding nodes_of tets_of lines_from is_decimal are_units units
nodes_2 = refl

nodes_3 : nodes_of (codes "1 3 0 0\n0 1 0 1048576\n") ≡ Err (BadPlace 8)
unfolding nodes_of tets_of lines_from is_decimal are_units units
nodes_3 = refl

nodes_4 : nodes_of (codes "1 3 0 0\n0 1 0 -1048576.0\n") ≡ Err (BadPlace 8)
unfolding nodes_of tets_of lines_from is_decimal are_units units
nodes_4 = refl

nodes_5 : nodes_of (codes "1 3 0 0\n0 1 0 1e3\n") ≡ Err (BadLine 8)
unfolding nodes_of tets_of lines_from is_decimal are_units units
nodes_5 = refl

nodes_6 : nodes_of (codes "1 3 0 0\n0 1 0 .\n") ≡ Err (BadLine 8)
unfolding nodes_of tets_of lines_from is_decimal are_units units
nodes_6 = refl

nodes_7 : nodes_of (codes "1 3 0 0\n0 1 0 1..\n") ≡ Err (BadLine 8)
unfolding nodes_of tets_of lines_from is_decimal are_units units
nodes_7 = refl

nodes_8 : nodes_of (codes "1 3 0 0\n2 1 0 1\n") ≡ Err (BadLine 8)
unfolding nodes_of tets_of lines_from is_decimal are_units units
nodes_8 = refl

nodes_9 : nodes_of (codes "2 3 0 0\n0 1 0 1\n2 0 0 0\n") ≡ Err (BadLine 16)
unfolding nodes_of tets_of lines_from is_decimal are_units units
nodes_9 = refl

nodes_10 : nodes_of (codes "01 3 0 0\n") ≡ Err (BadLine 0)
unfolding nodes_of tets_of lines_from is_decimal are_units units
nodes_10 = refl

nodes_11 : nodes_of (codes "1 3 17 0\n0 1 0 1\n") ≡ Err (BadLine 0)
unfolding nodes_of tets_of lines_from is_decimal are_units units
nodes_11 = refl

nodes_12 : nodes_of (codes "1 3 0 0\n0 1 0 1\r# c\n") ≡ Err (BadLine 8)
unfolding nodes_of tets_of lines_from is_decimal are_units units
nodes_12 = refl

nodes_13 : nodes_of (codes "1 3 0 0\n0 1 0 1\n1 0 0 0") ≡ Err (BadLine 16)
unfolding nodes_of tets_of lines_from is_decimal are_units units
nodes_13 = refl

nodes_14 : nodes_of (codes "4294967294 3 0 0\n0 1 0 1\n") ≡ Err (EndsEarly 2 4294967295)
unfolding nodes_of tets_of lines_from is_decimal are_units units
nodes_14 = refl

nodes_15 : nodes_of (codes "4294967295 3 0 0\n0 1 0 1\n") ≡ Err (BadLine 0)
unfolding nodes_of tets_of lines_from is_decimal are_units units
nodes_15 = refl

nodes_16 : nodes_of (codes "0 3 0 0") ≡ Ok (record { first = 0; places = [] })
unfolding nodes_of tets_of lines_from is_decimal are_units units
nodes_16 = refl
