-- Eight samples, snapped.
use Rattle.worked_values.proofs.AllOpen.{all_open}
use Rattle.std.specs.Prelude.{◌≡◌, [], ◌∷◌, map, refl, Some, pos, negsuc, codes}
use Rattle.definitions.specs.Places.{place}
use Rattle.definitions.specs.States.{states, code}
use Rattle.definitions.specs.Mesh.{mesh}
use Rattle.definitions.specs.Angles.{angles, extremes_of}
use Rattle.formats.specs.Texts.{sign_line}
use Rattle.worked_values.specs.Fields.{eight_samples, usual}

pub signs : sign_line eight_samples ≡ codes "plus 9 zero 6 minus 76\n"
unfolding all_open
signs = refl

pub codes_are : map code (states eight_samples usual) ≡ 1 ∷ 1 ∷ 1 ∷ 1 ∷ 1 ∷ 1 ∷ 1 ∷ 1 ∷ 1 ∷ 1 ∷ 1 ∷ 1 ∷ 1 ∷ 1 ∷ 1 ∷ 1 ∷ 1 ∷ 87382 ∷ 1 ∷ 87378 ∷ 2 ∷ 87374 ∷ 1 ∷ 87374 ∷ 1 ∷ 1 ∷ 1 ∷ 1 ∷ 1 ∷ 1 ∷ 3 ∷ 3 ∷ 1 ∷ 1 ∷ 3 ∷ 3 ∷ 1 ∷ 1 ∷ 1 ∷ 1 ∷ 1 ∷ 174826 ∷ 2 ∷ 174830 ∷ 2 ∷ 3 ∷ 2 ∷ 174834 ∷ 2 ∷ 174838 ∷ 1 ∷ 1 ∷ 1 ∷ 1 ∷ 1 ∷ 3 ∷ 3 ∷ 1 ∷ 1 ∷ 3 ∷ 3 ∷ 1 ∷ 1 ∷ 1 ∷ 1 ∷ 1 ∷ 1 ∷ 174830 ∷ 1 ∷ 174834 ∷ 2 ∷ 174838 ∷ 1 ∷ 174838 ∷ 1 ∷ 1 ∷ 1 ∷ 1 ∷ 1 ∷ 1 ∷ 1 ∷ 1 ∷ 1 ∷ 1 ∷ 1 ∷ 1 ∷ 1 ∷ 1 ∷ 1 ∷ 1 ∷ 1 ∷ []
unfolding all_open
codes_are = refl

pub tets : (mesh eight_samples usual).tets ≡ (0 ∷ 4 ∷ 5 ∷ 16 ∷ []) ∷ (0 ∷ 4 ∷ 16 ∷ 7 ∷ []) ∷ (0 ∷ 5 ∷ 8 ∷ 16 ∷ []) ∷ (0 ∷ 7 ∷ 16 ∷ 8 ∷ []) ∷ (1 ∷ 5 ∷ 6 ∷ 17 ∷ []) ∷ (1 ∷ 5 ∷ 17 ∷ 8 ∷ []) ∷ (1 ∷ 6 ∷ 9 ∷ 17 ∷ []) ∷ (1 ∷ 8 ∷ 17 ∷ 9 ∷ []) ∷ (2 ∷ 7 ∷ 8 ∷ 20 ∷ []) ∷ (2 ∷ 7 ∷ 20 ∷ 10 ∷ []) ∷ (2 ∷ 8 ∷ 11 ∷ 20 ∷ []) ∷ (2 ∷ 10 ∷ 20 ∷ 11 ∷ []) ∷ (3 ∷ 8 ∷ 9 ∷ 22 ∷ []) ∷ (3 ∷ 8 ∷ 22 ∷ 11 ∷ []) ∷ (3 ∷ 9 ∷ 12 ∷ 22 ∷ []) ∷ (3 ∷ 11 ∷ 22 ∷ 12 ∷ []) ∷ (4 ∷ 5 ∷ 16 ∷ 13 ∷ []) ∷ (4 ∷ 7 ∷ 15 ∷ 16 ∷ []) ∷ (4 ∷ 13 ∷ 16 ∷ 25 ∷ []) ∷ (4 ∷ 15 ∷ 25 ∷ 16 ∷ []) ∷ (5 ∷ 6 ∷ 17 ∷ 14 ∷ []) ∷ (5 ∷ 8 ∷ 16 ∷ 17 ∷ []) ∷ (5 ∷ 13 ∷ 26 ∷ 16 ∷ []) ∷ (5 ∷ 14 ∷ 17 ∷ 26 ∷ []) ∷ (5 ∷ 16 ∷ 26 ∷ 17 ∷ []) ∷ (6 ∷ 9 ∷ 17 ∷ 18 ∷ []) ∷ (6 ∷ 14 ∷ 27 ∷ 17 ∷ []) ∷ (6 ∷ 17 ∷ 27 ∷ 18 ∷ []) ∷ (7 ∷ 8 ∷ 20 ∷ 16 ∷ []) ∷ (7 ∷ 10 ∷ 19 ∷ 20 ∷ []) ∷ (7 ∷ 15 ∷ 16 ∷ 28 ∷ []) ∷ (7 ∷ 16 ∷ 20 ∷ 28 ∷ []) ∷ (7 ∷ 19 ∷ 28 ∷ 20 ∷ []) ∷ (8 ∷ 9 ∷ 22 ∷ 17 ∷ []) ∷ (8 ∷ 11 ∷ 20 ∷ 22 ∷ []) ∷ (8 ∷ 16 ∷ 17 ∷ 29 ∷ []) ∷ (8 ∷ 16 ∷ 29 ∷ 20 ∷ []) ∷ (8 ∷ 17 ∷ 22 ∷ 29 ∷ []) ∷ (8 ∷ 20 ∷ 29 ∷ 22 ∷ []) ∷ (9 ∷ 12 ∷ 22 ∷ 23 ∷ []) ∷ (9 ∷ 17 ∷ 18 ∷ 30 ∷ []) ∷ (9 ∷ 17 ∷ 30 ∷ 22 ∷ []) ∷ (9 ∷ 22 ∷ 30 ∷ 23 ∷ []) ∷ (10 ∷ 11 ∷ 21 ∷ 20 ∷ []) ∷ (10 ∷ 19 ∷ 20 ∷ 31 ∷ []) ∷ (10 ∷ 20 ∷ 21 ∷ 31 ∷ []) ∷ (11 ∷ 12 ∷ 24 ∷ 22 ∷ []) ∷ (11 ∷ 20 ∷ 22 ∷ 32 ∷ []) ∷ (11 ∷ 20 ∷ 32 ∷ 21 ∷ []) ∷ (11 ∷ 22 ∷ 24 ∷ 32 ∷ []) ∷ (12 ∷ 22 ∷ 23 ∷ 33 ∷ []) ∷ (12 ∷ 22 ∷ 33 ∷ 24 ∷ []) ∷ (13 ∷ 16 ∷ 25 ∷ 26 ∷ []) ∷ (14 ∷ 17 ∷ 26 ∷ 27 ∷ []) ∷ (15 ∷ 16 ∷ 28 ∷ 25 ∷ []) ∷ (16 ∷ 17 ∷ 29 ∷ 26 ∷ []) ∷ (16 ∷ 20 ∷ 28 ∷ 29 ∷ []) ∷ (16 ∷ 25 ∷ 26 ∷ 37 ∷ []) ∷ (16 ∷ 25 ∷ 37 ∷ 28 ∷ []) ∷ (16 ∷ 26 ∷ 29 ∷ 37 ∷ []) ∷ (16 ∷ 28 ∷ 37 ∷ 29 ∷ []) ∷ (17 ∷ 18 ∷ 30 ∷ 27 ∷ []) ∷ (17 ∷ 22 ∷ 29 ∷ 30 ∷ []) ∷ (17 ∷ 26 ∷ 27 ∷ 40 ∷ []) ∷ (17 ∷ 26 ∷ 40 ∷ 29 ∷ []) ∷ (17 ∷ 27 ∷ 30 ∷ 40 ∷ []) ∷ (17 ∷ 29 ∷ 40 ∷ 30 ∷ []) ∷ (19 ∷ 20 ∷ 31 ∷ 28 ∷ []) ∷ (20 ∷ 22 ∷ 32 ∷ 29 ∷ []) ∷ (20 ∷ 21 ∷ 31 ∷ 32 ∷ []) ∷ (20 ∷ 28 ∷ 29 ∷ 45 ∷ []) ∷ (20 ∷ 28 ∷ 45 ∷ 31 ∷ []) ∷ (20 ∷ 29 ∷ 32 ∷ 45 ∷ []) ∷ (20 ∷ 31 ∷ 45 ∷ 32 ∷ []) ∷ (22 ∷ 23 ∷ 33 ∷ 30 ∷ []) ∷ (22 ∷ 24 ∷ 32 ∷ 33 ∷ []) ∷ (22 ∷ 29 ∷ 30 ∷ 49 ∷ []) ∷ (22 ∷ 29 ∷ 49 ∷ 32 ∷ []) ∷ (22 ∷ 30 ∷ 33 ∷ 49 ∷ []) ∷ (22 ∷ 32 ∷ 49 ∷ 33 ∷ []) ∷ (25 ∷ 26 ∷ 37 ∷ 34 ∷ []) ∷ (25 ∷ 28 ∷ 36 ∷ 37 ∷ []) ∷ (25 ∷ 34 ∷ 37 ∷ 38 ∷ []) ∷ (25 ∷ 36 ∷ 38 ∷ 37 ∷ []) ∷ (26 ∷ 27 ∷ 40 ∷ 35 ∷ []) ∷ (26 ∷ 29 ∷ 37 ∷ 40 ∷ []) ∷ (26 ∷ 34 ∷ 54 ∷ 37 ∷ []) ∷ (26 ∷ 35 ∷ 40 ∷ 54 ∷ []) ∷ (26 ∷ 37 ∷ 54 ∷ 40 ∷ []) ∷ (27 ∷ 30 ∷ 40 ∷ 41 ∷ []) ∷ (27 ∷ 35 ∷ 42 ∷ 40 ∷ []) ∷ (27 ∷ 40 ∷ 42 ∷ 41 ∷ []) ∷ (28 ∷ 29 ∷ 45 ∷ 37 ∷ []) ∷ (28 ∷ 31 ∷ 44 ∷ 45 ∷ []) ∷ (28 ∷ 36 ∷ 37 ∷ 55 ∷ []) ∷ (28 ∷ 37 ∷ 45 ∷ 55 ∷ []) ∷ (28 ∷ 44 ∷ 55 ∷ 45 ∷ []) ∷ (29 ∷ 30 ∷ 49 ∷ 40 ∷ []) ∷ (29 ∷ 32 ∷ 45 ∷ 49 ∷ []) ∷ (29 ∷ 37 ∷ 40 ∷ 56 ∷ []) ∷ (29 ∷ 37 ∷ 56 ∷ 45 ∷ []) ∷ (29 ∷ 40 ∷ 49 ∷ 56 ∷ []) ∷ (29 ∷ 45 ∷ 56 ∷ 49 ∷ []) ∷ (30 ∷ 33 ∷ 49 ∷ 50 ∷ []) ∷ (30 ∷ 40 ∷ 41 ∷ 57 ∷ []) ∷ (30 ∷ 40 ∷ 57 ∷ 49 ∷ []) ∷ (30 ∷ 49 ∷ 57 ∷ 50 ∷ []) ∷ (31 ∷ 32 ∷ 46 ∷ 45 ∷ []) ∷ (31 ∷ 44 ∷ 45 ∷ 47 ∷ []) ∷ (31 ∷ 45 ∷ 46 ∷ 47 ∷ []) ∷ (32 ∷ 33 ∷ 51 ∷ 49 ∷ []) ∷ (32 ∷ 45 ∷ 49 ∷ 58 ∷ []) ∷ (32 ∷ 45 ∷ 58 ∷ 46 ∷ []) ∷ (32 ∷ 49 ∷ 51 ∷ 58 ∷ []) ∷ (33 ∷ 49 ∷ 50 ∷ 52 ∷ []) ∷ (33 ∷ 49 ∷ 52 ∷ 51 ∷ []) ∷ (34 ∷ 37 ∷ 38 ∷ 54 ∷ []) ∷ (35 ∷ 40 ∷ 54 ∷ 42 ∷ []) ∷ (36 ∷ 37 ∷ 55 ∷ 38 ∷ []) ∷ (37 ∷ 40 ∷ 56 ∷ 54 ∷ []) ∷ (37 ∷ 45 ∷ 55 ∷ 56 ∷ []) ∷ (37 ∷ 38 ∷ 54 ∷ 39 ∷ []) ∷ (37 ∷ 38 ∷ 39 ∷ 55 ∷ []) ∷ (37 ∷ 39 ∷ 54 ∷ 56 ∷ []) ∷ (37 ∷ 39 ∷ 56 ∷ 55 ∷ []) ∷ (40 ∷ 41 ∷ 57 ∷ 42 ∷ []) ∷ (40 ∷ 49 ∷ 56 ∷ 57 ∷ []) ∷ (40 ∷ 42 ∷ 43 ∷ 54 ∷ []) ∷ (40 ∷ 43 ∷ 56 ∷ 54 ∷ []) ∷ (40 ∷ 42 ∷ 57 ∷ 43 ∷ []) ∷ (40 ∷ 43 ∷ 57 ∷ 56 ∷ []) ∷ (44 ∷ 45 ∷ 47 ∷ 55 ∷ []) ∷ (45 ∷ 49 ∷ 58 ∷ 56 ∷ []) ∷ (45 ∷ 46 ∷ 47 ∷ 58 ∷ []) ∷ (45 ∷ 48 ∷ 55 ∷ 56 ∷ []) ∷ (45 ∷ 47 ∷ 55 ∷ 48 ∷ []) ∷ (45 ∷ 48 ∷ 56 ∷ 58 ∷ []) ∷ (45 ∷ 47 ∷ 48 ∷ 58 ∷ []) ∷ (49 ∷ 50 ∷ 52 ∷ 57 ∷ []) ∷ (49 ∷ 51 ∷ 58 ∷ 52 ∷ []) ∷ (49 ∷ 53 ∷ 56 ∷ 57 ∷ []) ∷ (49 ∷ 53 ∷ 58 ∷ 56 ∷ []) ∷ (49 ∷ 52 ∷ 53 ∷ 57 ∷ []) ∷ (49 ∷ 52 ∷ 58 ∷ 53 ∷ []) ∷ []
unfolding all_open
tets = refl

pub places_are : (mesh eight_samples usual).places ≡ place (pos 0) (pos 0) (negsuc 4095) ∷ place (pos 8192) (pos 0) (negsuc 4095) ∷ place (pos 0) (pos 8192) (negsuc 4095) ∷ place (pos 8192) (pos 8192) (negsuc 4095) ∷ place (negsuc 2340) (negsuc 2340) (negsuc 2340) ∷ place (pos 2731) (negsuc 2730) (negsuc 2730) ∷ place (pos 10533) (negsuc 2340) (negsuc 2340) ∷ place (negsuc 2730) (pos 2731) (negsuc 2730) ∷ place (pos 4096) (pos 4096) (negsuc 4095) ∷ place (pos 10923) (pos 2731) (negsuc 2730) ∷ place (negsuc 2340) (pos 10533) (negsuc 2340) ∷ place (pos 2731) (pos 10923) (negsuc 2730) ∷ place (pos 10533) (pos 10533) (negsuc 2340) ∷ place (pos 0) (negsuc 4095) (pos 0) ∷ place (pos 8192) (negsuc 4095) (pos 0) ∷ place (negsuc 4095) (pos 0) (pos 0) ∷ place (pos 0) (pos 0) (pos 0) ∷ place (pos 8192) (pos 0) (pos 0) ∷ place (pos 12288) (pos 0) (pos 0) ∷ place (negsuc 4095) (pos 8192) (pos 0) ∷ place (pos 0) (pos 8192) (pos 0) ∷ place (pos 0) (pos 12288) (pos 0) ∷ place (pos 8192) (pos 8192) (pos 0) ∷ place (pos 12288) (pos 8192) (pos 0) ∷ place (pos 8192) (pos 12288) (pos 0) ∷ place (negsuc 2730) (negsuc 2730) (pos 2731) ∷ place (pos 4096) (negsuc 4095) (pos 4096) ∷ place (pos 10923) (negsuc 2730) (pos 2731) ∷ place (negsuc 4095) (pos 4096) (pos 4096) ∷ place (pos 4096) (pos 4096) (pos 4096) ∷ place (pos 12288) (pos 4096) (pos 4096) ∷ place (negsuc 2730) (pos 10923) (pos 2731) ∷ place (pos 4096) (pos 12288) (pos 4096) ∷ place (pos 10923) (pos 10923) (pos 2731) ∷ place (pos 0) (negsuc 4095) (pos 8192) ∷ place (pos 8192) (negsuc 4095) (pos 8192) ∷ place (negsuc 4095) (pos 0) (pos 8192) ∷ place (pos 0) (pos 0) (pos 8192) ∷ place (negsuc 2340) (negsuc 2340) (pos 10533) ∷ place (pos 0) (pos 0) (pos 12288) ∷ place (pos 8192) (pos 0) (pos 8192) ∷ place (pos 12288) (pos 0) (pos 8192) ∷ place (pos 10533) (negsuc 2340) (pos 10533) ∷ place (pos 8192) (pos 0) (pos 12288) ∷ place (negsuc 4095) (pos 8192) (pos 8192) ∷ place (pos 0) (pos 8192) (pos 8192) ∷ place (pos 0) (pos 12288) (pos 8192) ∷ place (negsuc 2340) (pos 10533) (pos 10533) ∷ place (pos 0) (pos 8192) (pos 12288) ∷ place (pos 8192) (pos 8192) (pos 8192) ∷ place (pos 12288) (pos 8192) (pos 8192) ∷ place (pos 8192) (pos 12288) (pos 8192) ∷ place (pos 10533) (pos 10533) (pos 10533) ∷ place (pos 8192) (pos 8192) (pos 12288) ∷ place (pos 2731) (negsuc 2730) (pos 10923) ∷ place (negsuc 2730) (pos 2731) (pos 10923) ∷ place (pos 4096) (pos 4096) (pos 12288) ∷ place (pos 10923) (pos 2731) (pos 10923) ∷ place (pos 2731) (pos 10923) (pos 10923) ∷ []
unfolding all_open
places_are = refl

pub extremes_are : extremes_of (angles (mesh eight_samples usual)) ≡ Some (record { least = record { cosine = record { sign = pos 1; num = 29822521; den = 52197604 }; tet = 21; ends = 8 ∷ 17 ∷ [] }; greatest = record { cosine = record { sign = negsuc 0; num = 1863225; den = 18640441 }; tet = 4; ends = 1 ∷ 17 ∷ [] } })
unfolding all_open
extremes_are = refl
