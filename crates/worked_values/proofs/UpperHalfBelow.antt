-- Eight samples of which four lie below the level.
use Rattle.worked_values.proofs.AllOpen.{all_open}
use Rattle.std.specs.Prelude.{◌≡◌, [], ◌∷◌, map, refl, Some, pos, negsuc, codes}
use Rattle.definitions.specs.Places.{place}
use Rattle.definitions.specs.States.{states, code}
use Rattle.definitions.specs.Mesh.{mesh}
use Rattle.definitions.specs.Angles.{angles, extremes_of}
use Rattle.formats.specs.Texts.{sign_line}
use Rattle.worked_values.specs.Fields.{upper_half_below, usual}

pub signs : sign_line upper_half_below ≡ codes "plus 4 zero 1 minus 86\n"
unfolding all_open
signs = refl

pub codes_are : map code (states upper_half_below usual) ≡ 1 ∷ 1 ∷ 1 ∷ 1 ∷ 1 ∷ 1 ∷ 1 ∷ 1 ∷ 1 ∷ 1 ∷ 1 ∷ 1 ∷ 1 ∷ 1 ∷ 1 ∷ 1 ∷ 1 ∷ 87382 ∷ 1 ∷ 87378 ∷ 2 ∷ 87374 ∷ 1 ∷ 87374 ∷ 1 ∷ 1 ∷ 1 ∷ 1 ∷ 1 ∷ 1 ∷ 3 ∷ 3 ∷ 1 ∷ 1 ∷ 3 ∷ 3 ∷ 1 ∷ 1 ∷ 1 ∷ 1 ∷ 1 ∷ 1 ∷ 1 ∷ 1 ∷ 1 ∷ 196662 ∷ 1 ∷ 1 ∷ 1 ∷ 1 ∷ 1 ∷ 1 ∷ 1 ∷ 1 ∷ 1 ∷ 1 ∷ 1 ∷ 1 ∷ 1 ∷ 1 ∷ 1 ∷ 1 ∷ 1 ∷ 1 ∷ 1 ∷ 1 ∷ 1 ∷ 1 ∷ 1 ∷ 1 ∷ 1 ∷ 1 ∷ 1 ∷ 1 ∷ 1 ∷ 1 ∷ 1 ∷ 1 ∷ 1 ∷ 1 ∷ 1 ∷ 1 ∷ 1 ∷ 1 ∷ 1 ∷ 1 ∷ 1 ∷ 1 ∷ 1 ∷ 1 ∷ 1 ∷ []
unfolding all_open
codes_are = refl

pub tets : (mesh upper_half_below usual).tets ≡ (0 ∷ 4 ∷ 5 ∷ 16 ∷ []) ∷ (0 ∷ 4 ∷ 16 ∷ 7 ∷ []) ∷ (0 ∷ 5 ∷ 8 ∷ 16 ∷ []) ∷ (0 ∷ 7 ∷ 16 ∷ 8 ∷ []) ∷ (1 ∷ 5 ∷ 6 ∷ 21 ∷ []) ∷ (1 ∷ 5 ∷ 21 ∷ 8 ∷ []) ∷ (1 ∷ 6 ∷ 9 ∷ 21 ∷ []) ∷ (1 ∷ 8 ∷ 21 ∷ 9 ∷ []) ∷ (2 ∷ 7 ∷ 8 ∷ 28 ∷ []) ∷ (2 ∷ 7 ∷ 28 ∷ 10 ∷ []) ∷ (2 ∷ 8 ∷ 11 ∷ 28 ∷ []) ∷ (2 ∷ 10 ∷ 28 ∷ 11 ∷ []) ∷ (3 ∷ 8 ∷ 9 ∷ 34 ∷ []) ∷ (3 ∷ 8 ∷ 34 ∷ 11 ∷ []) ∷ (3 ∷ 9 ∷ 12 ∷ 34 ∷ []) ∷ (3 ∷ 11 ∷ 34 ∷ 12 ∷ []) ∷ (4 ∷ 5 ∷ 16 ∷ 13 ∷ []) ∷ (4 ∷ 7 ∷ 15 ∷ 16 ∷ []) ∷ (4 ∷ 13 ∷ 16 ∷ 17 ∷ []) ∷ (4 ∷ 15 ∷ 17 ∷ 16 ∷ []) ∷ (5 ∷ 6 ∷ 21 ∷ 14 ∷ []) ∷ (5 ∷ 8 ∷ 16 ∷ 21 ∷ []) ∷ (5 ∷ 13 ∷ 18 ∷ 16 ∷ []) ∷ (5 ∷ 14 ∷ 21 ∷ 23 ∷ []) ∷ (5 ∷ 16 ∷ 18 ∷ 23 ∷ []) ∷ (5 ∷ 16 ∷ 23 ∷ 21 ∷ []) ∷ (6 ∷ 9 ∷ 21 ∷ 22 ∷ []) ∷ (6 ∷ 14 ∷ 24 ∷ 21 ∷ []) ∷ (6 ∷ 21 ∷ 24 ∷ 22 ∷ []) ∷ (7 ∷ 8 ∷ 28 ∷ 16 ∷ []) ∷ (7 ∷ 10 ∷ 27 ∷ 28 ∷ []) ∷ (7 ∷ 15 ∷ 16 ∷ 19 ∷ []) ∷ (7 ∷ 16 ∷ 30 ∷ 19 ∷ []) ∷ (7 ∷ 16 ∷ 28 ∷ 30 ∷ []) ∷ (7 ∷ 27 ∷ 30 ∷ 28 ∷ []) ∷ (8 ∷ 9 ∷ 34 ∷ 21 ∷ []) ∷ (8 ∷ 11 ∷ 28 ∷ 34 ∷ []) ∷ (8 ∷ 16 ∷ 21 ∷ 41 ∷ []) ∷ (8 ∷ 16 ∷ 41 ∷ 28 ∷ []) ∷ (8 ∷ 21 ∷ 34 ∷ 41 ∷ []) ∷ (8 ∷ 28 ∷ 41 ∷ 34 ∷ []) ∷ (9 ∷ 12 ∷ 34 ∷ 35 ∷ []) ∷ (9 ∷ 21 ∷ 22 ∷ 25 ∷ []) ∷ (9 ∷ 21 ∷ 25 ∷ 37 ∷ []) ∷ (9 ∷ 21 ∷ 37 ∷ 34 ∷ []) ∷ (9 ∷ 34 ∷ 37 ∷ 35 ∷ []) ∷ (10 ∷ 11 ∷ 29 ∷ 28 ∷ []) ∷ (10 ∷ 27 ∷ 28 ∷ 31 ∷ []) ∷ (10 ∷ 28 ∷ 29 ∷ 31 ∷ []) ∷ (11 ∷ 12 ∷ 36 ∷ 34 ∷ []) ∷ (11 ∷ 28 ∷ 38 ∷ 32 ∷ []) ∷ (11 ∷ 28 ∷ 34 ∷ 38 ∷ []) ∷ (11 ∷ 28 ∷ 32 ∷ 29 ∷ []) ∷ (11 ∷ 34 ∷ 36 ∷ 38 ∷ []) ∷ (12 ∷ 34 ∷ 35 ∷ 39 ∷ []) ∷ (12 ∷ 34 ∷ 39 ∷ 36 ∷ []) ∷ (13 ∷ 16 ∷ 17 ∷ 18 ∷ []) ∷ (14 ∷ 21 ∷ 23 ∷ 24 ∷ []) ∷ (15 ∷ 16 ∷ 19 ∷ 17 ∷ []) ∷ (16 ∷ 18 ∷ 23 ∷ 41 ∷ []) ∷ (16 ∷ 21 ∷ 41 ∷ 23 ∷ []) ∷ (16 ∷ 19 ∷ 41 ∷ 30 ∷ []) ∷ (16 ∷ 28 ∷ 30 ∷ 41 ∷ []) ∷ (16 ∷ 17 ∷ 18 ∷ 20 ∷ []) ∷ (16 ∷ 17 ∷ 20 ∷ 19 ∷ []) ∷ (16 ∷ 18 ∷ 41 ∷ 20 ∷ []) ∷ (16 ∷ 19 ∷ 20 ∷ 41 ∷ []) ∷ (21 ∷ 22 ∷ 25 ∷ 24 ∷ []) ∷ (21 ∷ 25 ∷ 37 ∷ 41 ∷ []) ∷ (21 ∷ 34 ∷ 41 ∷ 37 ∷ []) ∷ (21 ∷ 23 ∷ 24 ∷ 26 ∷ []) ∷ (21 ∷ 23 ∷ 26 ∷ 41 ∷ []) ∷ (21 ∷ 24 ∷ 25 ∷ 26 ∷ []) ∷ (21 ∷ 25 ∷ 41 ∷ 26 ∷ []) ∷ (27 ∷ 28 ∷ 31 ∷ 30 ∷ []) ∷ (28 ∷ 32 ∷ 41 ∷ 38 ∷ []) ∷ (28 ∷ 34 ∷ 38 ∷ 41 ∷ []) ∷ (28 ∷ 29 ∷ 31 ∷ 32 ∷ []) ∷ (28 ∷ 30 ∷ 41 ∷ 33 ∷ []) ∷ (28 ∷ 30 ∷ 33 ∷ 31 ∷ []) ∷ (28 ∷ 32 ∷ 33 ∷ 41 ∷ []) ∷ (28 ∷ 31 ∷ 33 ∷ 32 ∷ []) ∷ (34 ∷ 35 ∷ 39 ∷ 37 ∷ []) ∷ (34 ∷ 36 ∷ 38 ∷ 39 ∷ []) ∷ (34 ∷ 37 ∷ 40 ∷ 41 ∷ []) ∷ (34 ∷ 38 ∷ 41 ∷ 40 ∷ []) ∷ (34 ∷ 37 ∷ 39 ∷ 40 ∷ []) ∷ (34 ∷ 38 ∷ 40 ∷ 39 ∷ []) ∷ []
unfolding all_open
tets = refl

pub places_are : (mesh upper_half_below usual).places ≡ place (pos 0) (pos 0) (negsuc 4095) ∷ place (pos 8192) (pos 0) (negsuc 4095) ∷ place (pos 0) (pos 8192) (negsuc 4095) ∷ place (pos 8192) (pos 8192) (negsuc 4095) ∷ place (negsuc 2340) (negsuc 2340) (negsuc 2340) ∷ place (pos 2731) (negsuc 2730) (negsuc 2730) ∷ place (pos 10533) (negsuc 2340) (negsuc 2340) ∷ place (negsuc 2730) (pos 2731) (negsuc 2730) ∷ place (pos 4096) (pos 4096) (negsuc 4095) ∷ place (pos 10923) (pos 2731) (negsuc 2730) ∷ place (negsuc 2340) (pos 10533) (negsuc 2340) ∷ place (pos 2731) (pos 10923) (negsuc 2730) ∷ place (pos 10533) (pos 10533) (negsuc 2340) ∷ place (pos 0) (negsuc 4095) (pos 0) ∷ place (pos 8192) (negsuc 4095) (pos 0) ∷ place (negsuc 4095) (pos 0) (pos 0) ∷ place (pos 0) (pos 0) (pos 0) ∷ place (negsuc 1965) (negsuc 1965) (pos 1966) ∷ place (pos 2234) (negsuc 2233) (pos 2234) ∷ place (negsuc 2233) (pos 2234) (pos 2234) ∷ place (pos 0) (pos 0) (pos 3072) ∷ place (pos 8192) (pos 0) (pos 0) ∷ place (pos 12288) (pos 0) (pos 0) ∷ place (pos 5958) (negsuc 2233) (pos 2234) ∷ place (pos 10158) (negsuc 1965) (pos 1966) ∷ place (pos 10426) (pos 2234) (pos 2234) ∷ place (pos 8192) (pos 0) (pos 3072) ∷ place (negsuc 4095) (pos 8192) (pos 0) ∷ place (pos 0) (pos 8192) (pos 0) ∷ place (pos 0) (pos 12288) (pos 0) ∷ place (negsuc 2233) (pos 5958) (pos 2234) ∷ place (negsuc 1965) (pos 10158) (pos 1966) ∷ place (pos 2234) (pos 10426) (pos 2234) ∷ place (pos 0) (pos 8192) (pos 3072) ∷ place (pos 8192) (pos 8192) (pos 0) ∷ place (pos 12288) (pos 8192) (pos 0) ∷ place (pos 8192) (pos 12288) (pos 0) ∷ place (pos 10426) (pos 5958) (pos 2234) ∷ place (pos 5958) (pos 10426) (pos 2234) ∷ place (pos 10158) (pos 10158) (pos 1966) ∷ place (pos 8192) (pos 8192) (pos 3072) ∷ place (pos 3072) (pos 3072) (pos 3072) ∷ []
unfolding all_open
places_are = refl

pub extremes_are : extremes_of (angles (mesh upper_half_below usual)) ≡ Some (record { least = record { cosine = record { sign = pos 1; num = 184715281; den = 221986004 }; tet = 68; ends = 21 ∷ 41 ∷ [] }; greatest = record { cosine = record { sign = negsuc 0; num = 24651225; den = 49796468 }; tet = 24; ends = 5 ∷ 18 ∷ [] } })
unfolding all_open
extremes_are = refl
