-- Fields and meshes: the answers are those of an independent program.
use Rattle.worked_values.proofs.AllOpen.{all_open}
use Rattle.std.specs.Prelude.{◌≡◌, ℕ, true, false, [], ◌∷◌, map, codes, refl, Some, pos, negsuc}
use Rattle.definitions.specs.Lattice.{dims}
use Rattle.definitions.specs.Values.{field_of, Field}
use Rattle.definitions.specs.States.{Shares, states, code}
use Rattle.definitions.specs.Mesh.{mesh, node_keys}
use Rattle.definitions.specs.Angles.{angles, extremes_of}
use Rattle.formats.specs.Texts.{sign_line}

abbrev shares_of : ℕ → ℕ → Shares
shares_of long short = record { long = long; short = short }

abbrev two_alike : Field
two_alike = field_of (dims 2 1 1) (pos 42619 ∷ pos 42619 ∷ []) (pos 89333) true

pub signs_of_two_alike : sign_line two_alike ≡ codes "plus 2 zero 0 minus 46\n"
unfolding all_open
signs_of_two_alike = refl

pub codes_of_two_alike : map code (states two_alike (shares_of 1023 2047)) ≡ 1 ∷ 1 ∷ 1 ∷ 1 ∷ 1 ∷ 1 ∷ 1 ∷ 1 ∷ 1 ∷ 1 ∷ 1 ∷ 1 ∷ 112346 ∷ 87382 ∷ 112342 ∷ 112338 ∷ 87374 ∷ 112334 ∷ 1 ∷ 1 ∷ 1 ∷ 1 ∷ 1 ∷ 3 ∷ 3 ∷ 1 ∷ 1 ∷ 1 ∷ 1 ∷ 1 ∷ 149866 ∷ 174830 ∷ 149870 ∷ 149874 ∷ 174838 ∷ 149878 ∷ 1 ∷ 1 ∷ 1 ∷ 1 ∷ 1 ∷ 1 ∷ 1 ∷ 1 ∷ 1 ∷ 1 ∷ 1 ∷ 1 ∷ []
unfolding all_open
codes_of_two_alike = refl

pub keys_of_two_alike : node_keys (dims 2 1 1) (states two_alike (shares_of 1023 2047)) ≡ 47 ∷ 55 ∷ 96 ∷ 104 ∷ 112 ∷ 120 ∷ 128 ∷ 136 ∷ 154 ∷ 162 ∷ 177 ∷ 184 ∷ 186 ∷ 191 ∷ 192 ∷ 193 ∷ 194 ∷ 199 ∷ 240 ∷ 248 ∷ 256 ∷ 264 ∷ 272 ∷ 280 ∷ []
unfolding all_open
keys_of_two_alike = refl

pub extremes_of_two_alike : extremes_of (angles (mesh two_alike (shares_of 1023 2047))) ≡ Some (record { least = record { cosine = record { sign = pos 1; num = 170233420306609; den = 295318139426993 }; tet = 5; ends = 3 ∷ 6 ∷ [] }; greatest = record { cosine = record { sign = negsuc 0; num = 1863225; den = 18640441 }; tet = 4; ends = 1 ∷ 14 ∷ [] } })
unfolding all_open
extremes_of_two_alike = refl

abbrev eight_near_the_level : Field
eight_near_the_level = field_of (dims 2 2 2) (pos 70 ∷ pos 70 ∷ pos 78 ∷ pos 66 ∷ pos 66 ∷ pos 78 ∷ pos 66 ∷ pos 74 ∷ []) (pos 140) true

pub signs_of_eight_near_the_level : sign_line eight_near_the_level ≡ codes "plus 3 zero 2 minus 86\n"
unfolding all_open
signs_of_eight_near_the_level = refl

pub codes_of_eight_near_the_level : map code (states eight_near_the_level (shares_of 1023 1687)) ≡ 1 ∷ 1 ∷ 1 ∷ 1 ∷ 1 ∷ 1 ∷ 1 ∷ 1 ∷ 1 ∷ 1 ∷ 1 ∷ 1 ∷ 1 ∷ 1 ∷ 1 ∷ 1 ∷ 1 ∷ 1 ∷ 1 ∷ 1 ∷ 90970 ∷ 60054 ∷ 1 ∷ 1 ∷ 1 ∷ 1 ∷ 1 ∷ 1 ∷ 1 ∷ 1 ∷ 2 ∷ 2 ∷ 1 ∷ 1 ∷ 1 ∷ 3 ∷ 1 ∷ 1 ∷ 1 ∷ 1 ∷ 1 ∷ 60058 ∷ 90966 ∷ 1 ∷ 89170 ∷ 209770 ∷ 1 ∷ 1 ∷ 1 ∷ 1 ∷ 1 ∷ 1 ∷ 1 ∷ 1 ∷ 1 ∷ 3 ∷ 1 ∷ 1 ∷ 1 ∷ 3 ∷ 1 ∷ 1 ∷ 1 ∷ 1 ∷ 1 ∷ 1 ∷ 1 ∷ 1 ∷ 1 ∷ 174834 ∷ 1 ∷ 1 ∷ 1 ∷ 1 ∷ 1 ∷ 1 ∷ 1 ∷ 1 ∷ 1 ∷ 1 ∷ 1 ∷ 1 ∷ 1 ∷ 1 ∷ 1 ∷ 1 ∷ 1 ∷ 1 ∷ 1 ∷ 1 ∷ 1 ∷ []
unfolding all_open
codes_of_eight_near_the_level = refl

pub keys_of_eight_near_the_level : node_keys (dims 2 2 2) (states eight_near_the_level (shares_of 1023 1687)) ≡ 87 ∷ 160 ∷ 168 ∷ 188 ∷ 195 ∷ 240 ∷ 248 ∷ 273 ∷ 279 ∷ 280 ∷ 281 ∷ 282 ∷ 284 ∷ 285 ∷ 286 ∷ 287 ∷ 328 ∷ 336 ∷ 352 ∷ 360 ∷ 380 ∷ 387 ∷ 410 ∷ 433 ∷ 440 ∷ 441 ∷ 443 ∷ 444 ∷ 446 ∷ 447 ∷ 465 ∷ 472 ∷ 473 ∷ 474 ∷ 476 ∷ 477 ∷ 478 ∷ 479 ∷ 552 ∷ []
unfolding all_open
keys_of_eight_near_the_level = refl

pub extremes_of_eight_near_the_level : extremes_of (angles (mesh eight_near_the_level (shares_of 1023 1687))) ≡ Some (record { least = record { cosine = record { sign = pos 1; num = 41434969; den = 50675044 }; tet = 46; ends = 19 ∷ 24 ∷ [] }; greatest = record { cosine = record { sign = negsuc 0; num = 3215648; den = 6469321 }; tet = 57; ends = 28 ∷ 38 ∷ [] } })
unfolding all_open
extremes_of_eight_near_the_level = refl

abbrev one_far_below : Field
one_far_below = field_of (dims 2 2 1) (pos 22 ∷ negsuc 127 ∷ pos 125 ∷ pos 127 ∷ []) (pos 245) false

pub signs_of_one_far_below : sign_line one_far_below ≡ codes "plus 2 zero 0 minus 64\n"
unfolding all_open
signs_of_one_far_below = refl

pub codes_of_one_far_below : map code (states one_far_below (shares_of 1000 1100)) ≡ 1 ∷ 1 ∷ 1 ∷ 1 ∷ 1 ∷ 1 ∷ 1 ∷ 1 ∷ 1 ∷ 1 ∷ 1 ∷ 1 ∷ 1 ∷ 1 ∷ 1 ∷ 1 ∷ 1 ∷ 1 ∷ 1 ∷ 1 ∷ 1 ∷ 1 ∷ 1 ∷ 1 ∷ 1 ∷ 1 ∷ 1 ∷ 1 ∷ 1 ∷ 1 ∷ 1 ∷ 1 ∷ 1 ∷ 1 ∷ 254962 ∷ 257574 ∷ 1 ∷ 1 ∷ 1 ∷ 1 ∷ 1 ∷ 1 ∷ 1 ∷ 1 ∷ 1 ∷ 1 ∷ 1 ∷ 1 ∷ 1 ∷ 1 ∷ 1 ∷ 1 ∷ 1 ∷ 1 ∷ 1 ∷ 1 ∷ 1 ∷ 1 ∷ 1 ∷ 1 ∷ 1 ∷ 1 ∷ 1 ∷ 1 ∷ 1 ∷ 1 ∷ []
unfolding all_open
codes_of_one_far_below = refl

abbrev four_upright : Field
four_upright = field_of (dims 1 2 2) (pos 45 ∷ pos 35 ∷ pos 25 ∷ pos 10 ∷ []) (pos 81) false

pub signs_of_four_upright : sign_line four_upright ≡ codes "plus 1 zero 0 minus 65\n"
unfolding all_open
signs_of_four_upright = refl

pub codes_of_four_upright : map code (states four_upright (shares_of 1023 1687)) ≡ 1 ∷ 1 ∷ 1 ∷ 1 ∷ 1 ∷ 1 ∷ 1 ∷ 1 ∷ 1 ∷ 1 ∷ 1 ∷ 1 ∷ 1 ∷ 1 ∷ 1 ∷ 1 ∷ 1 ∷ 1 ∷ 1 ∷ 1 ∷ 1 ∷ 1 ∷ 67926 ∷ 1 ∷ 1 ∷ 1 ∷ 1 ∷ 1 ∷ 1 ∷ 1 ∷ 1 ∷ 1 ∷ 1 ∷ 1 ∷ 1 ∷ 1 ∷ 1 ∷ 1 ∷ 1 ∷ 1 ∷ 1 ∷ 1 ∷ 1 ∷ 1 ∷ 1 ∷ 1 ∷ 1 ∷ 1 ∷ 1 ∷ 1 ∷ 1 ∷ 1 ∷ 1 ∷ 1 ∷ 1 ∷ 1 ∷ 1 ∷ 1 ∷ 1 ∷ 1 ∷ 1 ∷ 1 ∷ 1 ∷ 1 ∷ 1 ∷ 1 ∷ []
unfolding all_open
codes_of_four_upright = refl

abbrev two_in_depth : Field
two_in_depth = field_of (dims 1 1 2) (pos 41772 ∷ pos 37676 ∷ []) (pos 77399) false

pub signs_of_two_in_depth : sign_line two_in_depth ≡ codes "plus 1 zero 0 minus 47\n"
unfolding all_open
signs_of_two_in_depth = refl

pub codes_of_two_in_depth : map code (states two_in_depth (shares_of 1023 2047)) ≡ 1 ∷ 1 ∷ 1 ∷ 1 ∷ 1 ∷ 1 ∷ 1 ∷ 1 ∷ 1 ∷ 112346 ∷ 112342 ∷ 112338 ∷ 112334 ∷ 1 ∷ 1 ∷ 1 ∷ 1 ∷ 3 ∷ 1 ∷ 1 ∷ 1 ∷ 1 ∷ 185130 ∷ 185134 ∷ 185138 ∷ 185142 ∷ 1 ∷ 1 ∷ 1 ∷ 1 ∷ 196730 ∷ 1 ∷ 1 ∷ 1 ∷ 1 ∷ 1 ∷ 1 ∷ 1 ∷ 1 ∷ 1 ∷ 1 ∷ 1 ∷ 1 ∷ 1 ∷ 1 ∷ 1 ∷ 1 ∷ 1 ∷ []
unfolding all_open
codes_of_two_in_depth = refl

abbrev greatest_samples : Field
greatest_samples = field_of (dims 1 2 1) (pos 2147483647 ∷ pos 2147483647 ∷ []) (negsuc 0) false

pub signs_of_greatest_samples : sign_line greatest_samples ≡ codes "plus 2 zero 0 minus 46\n"
unfolding all_open
signs_of_greatest_samples = refl

pub codes_of_greatest_samples : map code (states greatest_samples (shares_of 500 1365)) ≡ 1 ∷ 1 ∷ 1 ∷ 1 ∷ 1 ∷ 1 ∷ 1 ∷ 1 ∷ 1 ∷ 1 ∷ 1 ∷ 1 ∷ 1 ∷ 1 ∷ 87378 ∷ 87374 ∷ 1 ∷ 1 ∷ 1 ∷ 1 ∷ 1 ∷ 1 ∷ 3 ∷ 1 ∷ 1 ∷ 3 ∷ 1 ∷ 1 ∷ 1 ∷ 1 ∷ 1 ∷ 1 ∷ 174834 ∷ 174838 ∷ 1 ∷ 1 ∷ 1 ∷ 1 ∷ 1 ∷ 1 ∷ 1 ∷ 1 ∷ 1 ∷ 1 ∷ 1 ∷ 1 ∷ 1 ∷ 1 ∷ []
unfolding all_open
codes_of_greatest_samples = refl

abbrev four_in_a_layer : Field
four_in_a_layer = field_of (dims 2 2 1) (pos 5 ∷ pos 2 ∷ pos 4 ∷ pos 6 ∷ []) (pos 9) false

pub signs_of_four_in_a_layer : sign_line four_in_a_layer ≡ codes "plus 2 zero 0 minus 64\n"
unfolding all_open
signs_of_four_in_a_layer = refl

pub codes_of_four_in_a_layer : map code (states four_in_a_layer (shares_of 1023 2047)) ≡ 1 ∷ 1 ∷ 1 ∷ 1 ∷ 1 ∷ 1 ∷ 1 ∷ 1 ∷ 1 ∷ 1 ∷ 1 ∷ 1 ∷ 1 ∷ 1 ∷ 1 ∷ 1 ∷ 112346 ∷ 1 ∷ 1 ∷ 112338 ∷ 87386 ∷ 1 ∷ 1 ∷ 77138 ∷ 112334 ∷ 1 ∷ 1 ∷ 1 ∷ 1 ∷ 1 ∷ 43718 ∷ 1 ∷ 1 ∷ 1 ∷ 1 ∷ 136370 ∷ 1 ∷ 1 ∷ 1 ∷ 1 ∷ 1 ∷ 149866 ∷ 1 ∷ 1 ∷ 149874 ∷ 174826 ∷ 1 ∷ 1 ∷ 185074 ∷ 149878 ∷ 1 ∷ 1 ∷ 1 ∷ 1 ∷ 1 ∷ 1 ∷ 1 ∷ 1 ∷ 1 ∷ 1 ∷ 1 ∷ 1 ∷ 1 ∷ 1 ∷ 1 ∷ 1 ∷ []
unfolding all_open
codes_of_four_in_a_layer = refl

abbrev a_level_between_two : Field
a_level_between_two = field_of (dims 2 1 1) (pos 356477978 ∷ pos 356473882 ∷ []) (pos 712955955) false

pub signs_of_a_level_between_two : sign_line a_level_between_two ≡ codes "plus 1 zero 0 minus 47\n"
unfolding all_open
signs_of_a_level_between_two = refl

pub codes_of_a_level_between_two : map code (states a_level_between_two (shares_of 1000 1100)) ≡ 1 ∷ 1 ∷ 1 ∷ 1 ∷ 1 ∷ 1 ∷ 1 ∷ 1 ∷ 1 ∷ 1 ∷ 1 ∷ 1 ∷ 1 ∷ 1 ∷ 1 ∷ 1 ∷ 1 ∷ 1 ∷ 1 ∷ 1 ∷ 1 ∷ 1 ∷ 1 ∷ 262130 ∷ 1 ∷ 1 ∷ 1 ∷ 1 ∷ 1 ∷ 1 ∷ 1 ∷ 1 ∷ 1 ∷ 1 ∷ 1 ∷ 1 ∷ 1 ∷ 1 ∷ 1 ∷ 1 ∷ 1 ∷ 1 ∷ 1 ∷ 1 ∷ 1 ∷ 1 ∷ 1 ∷ 1 ∷ []
unfolding all_open
codes_of_a_level_between_two = refl
