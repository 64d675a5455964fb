-- Texts of coordinates and of files.
-- The values were computed outside the repository, by programs written from the rules alone.
use Rattle.std.specs.Prelude.{◌≡◌, ℕ, ◌-◌, ◌*◌, ◌^◌, ℤ, List, [], ◌∷◌, ◌++◌, Some, None, true, false, codes, refl, pos, negsuc, neg_ℤ}
use Rattle.std.specs.Fmt.{digits}
use Rattle.definitions.specs.Places.{place}
use Rattle.formats.specs.declared.Axis.{Axis}
use Rattle.formats.specs.declared.Frame.{Frame}
use Rattle.mesh_texts.specs.Frames.{world_text, frame_text}
use Rattle.mesh_texts.specs.Nodes.{Node}
use Rattle.mesh_texts.specs.Coordinates.{coordinate_text}
use Rattle.mesh_texts.specs.Files.{node_text, ele_text, counts_text}

pub minus_one : coordinate_text (negsuc 8191) ≡ codes "-1.0000000000000"
unfolding digits
minus_one = refl

pub just_below_minus_one : coordinate_text (negsuc 8192) ≡ codes "-1.0001220703125"
unfolding digits
just_below_minus_one = refl

pub just_below_two_to_the_27 : coordinate_text (pos 1099511627775) ≡ codes "134217727.9998779296875"
unfolding digits
just_below_two_to_the_27 = refl

pub just_above_minus_two_to_the_27 : coordinate_text (negsuc 1099511627774) ≡ codes "-134217727.9998779296875"
unfolding digits
just_above_minus_two_to_the_27 = refl

pub ten : coordinate_text (pos 81920) ≡ codes "10.0000000000000"
unfolding digits
ten = refl

-- coordinates in units of 10^-31

pub no_value : world_text (pos 0) ≡ codes "0.0000000000000000000000000000000"
unfolding digits
no_value = refl

pub least_below_nothing : world_text (negsuc 0) ≡ codes "-0.0000000000000000000000000000001"
unfolding digits
least_below_nothing = refl

pub just_below_ten_millions : world_text (pos (10 ^ 38 - 1)) ≡ codes "9999999.9999999999999999999999999999999"
unfolding digits
just_below_ten_millions = refl

abbrev axis : ℤ → ℤ → Axis
axis spacing offset = record { spacing = spacing; offset = offset }

-- the greatest spacing and offset: the offset, 64 spacings and 5 parts in 8192 of one
pub greatest_numbers : frame_text (record { step = 1; world = Some (axis (pos (10 ^ 21 - 1)) (pos (10 ^ 24 - 1)) ∷ []) }) 0 (pos 524293) ≡ codes "1064000.6103515624999999349993896484375"
unfolding digits
greatest_numbers = refl

-- frames in index units, and with spacings a half, a half and 2 and offsets 10, -20 and a quarter

abbrev frame : ℕ → Frame
frame step = record { step = step; world = None }

abbrev in_units : ℕ → Frame
in_units step =
    record {
      step = step;
      world = Some (axis (pos (5 * 10 ^ 17)) (pos (10 * 10 ^ 18)) ∷ axis (pos (5 * 10 ^ 17)) (neg_ℤ (pos (20 * 10 ^ 18))) ∷ axis (pos (2 * 10 ^ 18)) (pos (25 * 10 ^ 16)) ∷ []);
    }

abbrev three_nodes : List Node
three_nodes =
    record { place = place (pos 0) (pos 0) (negsuc 4095); level = true }
    ∷ record { place = place (pos 90115) (negsuc 2340) (pos 5); level = false }
    ∷ record { place = place (negsuc 0) (pos 81920) (pos 7); level = true }
    ∷ []

pub nodes_of_step_1 :
    node_text (frame 1) 0 three_nodes
    ≡ codes "3 3 0 1\n"
    ++ (codes "0 0.0000000000000 0.0000000000000 -0.5000000000000 1\n"
    ++ (codes "1 11.0003662109375 -0.2857666015625 0.0006103515625 0\n"
    ++ codes "2 -0.0001220703125 10.0000000000000 0.0008544921875 1\n"))
unfolding node_text digits
nodes_of_step_1 = refl

pub nodes_of_step_3 :
    node_text (frame 3) 0 three_nodes
    ≡ codes "3 3 0 1\n"
    ++ (codes "0 0.0000000000000 0.0000000000000 -1.5000000000000 1\n"
    ++ (codes "1 33.0010986328125 -0.8572998046875 0.0018310546875 0\n"
    ++ codes "2 -0.0003662109375 30.0000000000000 0.0025634765625 1\n"))
unfolding node_text digits
nodes_of_step_3 = refl

pub nodes_of_step_64 :
    node_text (frame 64) 0 three_nodes
    ≡ codes "3 3 0 1\n"
    ++ (codes "0 0.0000000000000 0.0000000000000 -32.0000000000000 1\n"
    ++ (codes "1 704.0234375000000 -18.2890625000000 0.0390625000000 0\n"
    ++ codes "2 -0.0078125000000 640.0000000000000 0.0546875000000 1\n"))
unfolding node_text digits
nodes_of_step_64 = refl

pub nodes_from_1 :
    node_text (frame 1) 1 three_nodes
    ≡ codes "3 3 0 1\n"
    ++ (codes "1 0.0000000000000 0.0000000000000 -0.5000000000000 1\n"
    ++ (codes "2 11.0003662109375 -0.2857666015625 0.0006103515625 0\n"
    ++ codes "3 -0.0001220703125 10.0000000000000 0.0008544921875 1\n"))
unfolding node_text digits
nodes_from_1 = refl

pub nodes_in_units :
    node_text (in_units 1) 0 three_nodes
    ≡ codes "3 3 0 1\n"
    ++ (codes "0 10.0000000000000000000000000000000 -20.0000000000000000000000000000000 -0.7500000000000000000000000000000 1\n"
    ++ (codes "1 15.5001831054687500000000000000000 -20.1428833007812500000000000000000 0.2512207031250000000000000000000 0\n"
    ++ codes "2 9.9999389648437500000000000000000 -15.0000000000000000000000000000000 0.2517089843750000000000000000000 1\n"))
unfolding node_text digits
nodes_in_units = refl

pub nodes_in_units_of_step_3 :
    node_text (in_units 3) 1 three_nodes
    ≡ codes "3 3 0 1\n"
    ++ (codes "1 10.0000000000000000000000000000000 -20.0000000000000000000000000000000 -2.7500000000000000000000000000000 1\n"
    ++ (codes "2 26.5005493164062500000000000000000 -20.4286499023437500000000000000000 0.2536621093750000000000000000000 0\n"
    ++ codes "3 9.9998168945312500000000000000000 -5.0000000000000000000000000000000 0.2551269531250000000000000000000 1\n"))
unfolding node_text digits
nodes_in_units_of_step_3 = refl

abbrev two_tets : List (List ℕ)
two_tets = (0 ∷ 1 ∷ 2 ∷ 7 ∷ []) ∷ (10 ∷ 11 ∷ 12 ∷ 13 ∷ []) ∷ []

pub two_tetrahedra :
    ele_text 0 two_tets
    ≡ codes "2 4 0\n"
    ++ (codes "0 0 1 2 7\n"
    ++ codes "1 10 11 12 13\n")
unfolding ele_text digits
two_tetrahedra = refl

pub two_tetrahedra_from_1 :
    ele_text 1 two_tets
    ≡ codes "2 4 0\n"
    ++ (codes "1 1 2 3 8\n"
    ++ codes "2 11 12 13 14\n")
unfolding ele_text digits
two_tetrahedra_from_1 = refl

pub counts : counts_text 3 2 ≡ codes "nodes 3\ntetrahedra 2\n"
unfolding counts_text digits
counts = refl
