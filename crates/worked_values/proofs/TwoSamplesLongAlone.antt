-- Two samples, snapped along long edges alone.
use Rattle.worked_values.proofs.AllOpen.{all_open}
use Rattle.std.specs.Prelude.{◌≡◌, [], ◌∷◌, map, refl, Some, pos, negsuc, codes}
use Rattle.definitions.specs.Places.{place}
use Rattle.definitions.specs.States.{states, code}
use Rattle.definitions.specs.Mesh.{mesh}
use Rattle.definitions.specs.Angles.{angles, extremes_of}
use Rattle.formats.specs.Texts.{sign_line}
use Rattle.worked_values.specs.Fields.{two_samples, long_alone}

pub signs : sign_line two_samples ≡ codes "plus 2 zero 0 minus 46\n"
unfolding all_open
signs = refl

pub codes_are : map code (states two_samples long_alone) ≡ 1 ∷ 1 ∷ 1 ∷ 1 ∷ 1 ∷ 1 ∷ 1 ∷ 1 ∷ 1 ∷ 1 ∷ 1 ∷ 1 ∷ 1 ∷ 1 ∷ 1 ∷ 1 ∷ 1 ∷ 1 ∷ 1 ∷ 1 ∷ 1 ∷ 1 ∷ 1 ∷ 3 ∷ 3 ∷ 1 ∷ 1 ∷ 1 ∷ 1 ∷ 1 ∷ 1 ∷ 1 ∷ 1 ∷ 1 ∷ 1 ∷ 1 ∷ 1 ∷ 1 ∷ 1 ∷ 1 ∷ 1 ∷ 1 ∷ 1 ∷ 1 ∷ 1 ∷ 1 ∷ 1 ∷ 1 ∷ []
unfolding all_open
codes_are = refl

pub tets : (mesh two_samples long_alone).tets ≡ (0 ∷ 2 ∷ 3 ∷ 13 ∷ []) ∷ (0 ∷ 2 ∷ 13 ∷ 6 ∷ []) ∷ (0 ∷ 3 ∷ 7 ∷ 13 ∷ []) ∷ (0 ∷ 6 ∷ 13 ∷ 7 ∷ []) ∷ (1 ∷ 4 ∷ 5 ∷ 20 ∷ []) ∷ (1 ∷ 4 ∷ 20 ∷ 8 ∷ []) ∷ (1 ∷ 5 ∷ 9 ∷ 20 ∷ []) ∷ (1 ∷ 8 ∷ 20 ∷ 9 ∷ []) ∷ (2 ∷ 3 ∷ 13 ∷ 10 ∷ []) ∷ (2 ∷ 6 ∷ 12 ∷ 13 ∷ []) ∷ (2 ∷ 10 ∷ 13 ∷ 15 ∷ []) ∷ (2 ∷ 12 ∷ 15 ∷ 13 ∷ []) ∷ (4 ∷ 5 ∷ 20 ∷ 11 ∷ []) ∷ (3 ∷ 4 ∷ 8 ∷ 20 ∷ []) ∷ (3 ∷ 7 ∷ 20 ∷ 8 ∷ []) ∷ (3 ∷ 7 ∷ 13 ∷ 20 ∷ []) ∷ (3 ∷ 10 ∷ 16 ∷ 13 ∷ []) ∷ (4 ∷ 11 ∷ 20 ∷ 23 ∷ []) ∷ (3 ∷ 4 ∷ 20 ∷ 23 ∷ []) ∷ (3 ∷ 13 ∷ 16 ∷ 23 ∷ []) ∷ (3 ∷ 13 ∷ 23 ∷ 20 ∷ []) ∷ (5 ∷ 9 ∷ 20 ∷ 21 ∷ []) ∷ (5 ∷ 11 ∷ 24 ∷ 20 ∷ []) ∷ (5 ∷ 20 ∷ 24 ∷ 21 ∷ []) ∷ (6 ∷ 7 ∷ 14 ∷ 13 ∷ []) ∷ (6 ∷ 12 ∷ 13 ∷ 17 ∷ []) ∷ (6 ∷ 13 ∷ 14 ∷ 17 ∷ []) ∷ (8 ∷ 9 ∷ 22 ∷ 20 ∷ []) ∷ (7 ∷ 8 ∷ 25 ∷ 20 ∷ []) ∷ (7 ∷ 13 ∷ 25 ∷ 18 ∷ []) ∷ (7 ∷ 13 ∷ 20 ∷ 25 ∷ []) ∷ (7 ∷ 13 ∷ 18 ∷ 14 ∷ []) ∷ (8 ∷ 20 ∷ 22 ∷ 25 ∷ []) ∷ (9 ∷ 20 ∷ 21 ∷ 26 ∷ []) ∷ (9 ∷ 20 ∷ 26 ∷ 22 ∷ []) ∷ (10 ∷ 13 ∷ 15 ∷ 16 ∷ []) ∷ (11 ∷ 20 ∷ 23 ∷ 24 ∷ []) ∷ (12 ∷ 13 ∷ 17 ∷ 15 ∷ []) ∷ (13 ∷ 16 ∷ 25 ∷ 18 ∷ []) ∷ (13 ∷ 16 ∷ 23 ∷ 25 ∷ []) ∷ (13 ∷ 20 ∷ 25 ∷ 23 ∷ []) ∷ (13 ∷ 14 ∷ 17 ∷ 18 ∷ []) ∷ (13 ∷ 15 ∷ 16 ∷ 19 ∷ []) ∷ (13 ∷ 15 ∷ 19 ∷ 17 ∷ []) ∷ (13 ∷ 16 ∷ 18 ∷ 19 ∷ []) ∷ (13 ∷ 17 ∷ 19 ∷ 18 ∷ []) ∷ (20 ∷ 21 ∷ 26 ∷ 24 ∷ []) ∷ (20 ∷ 22 ∷ 25 ∷ 26 ∷ []) ∷ (20 ∷ 23 ∷ 24 ∷ 27 ∷ []) ∷ (20 ∷ 23 ∷ 27 ∷ 25 ∷ []) ∷ (20 ∷ 24 ∷ 26 ∷ 27 ∷ []) ∷ (20 ∷ 25 ∷ 27 ∷ 26 ∷ []) ∷ []
unfolding all_open
tets = refl

pub places_are : (mesh two_samples long_alone).places ≡ place (pos 0) (pos 0) (negsuc 4095) ∷ place (pos 8192) (pos 0) (negsuc 4095) ∷ place (negsuc 2340) (negsuc 2340) (negsuc 2340) ∷ place (pos 2731) (negsuc 2730) (negsuc 2730) ∷ place (pos 5461) (negsuc 2730) (negsuc 2730) ∷ place (pos 10533) (negsuc 2340) (negsuc 2340) ∷ place (negsuc 2340) (pos 2341) (negsuc 2340) ∷ place (pos 2731) (pos 2731) (negsuc 2730) ∷ place (pos 5461) (pos 2731) (negsuc 2730) ∷ place (pos 10533) (pos 2341) (negsuc 2340) ∷ place (pos 0) (negsuc 4095) (pos 0) ∷ place (pos 8192) (negsuc 4095) (pos 0) ∷ place (negsuc 4095) (pos 0) (pos 0) ∷ place (pos 0) (pos 0) (pos 0) ∷ place (pos 0) (pos 4096) (pos 0) ∷ place (negsuc 2340) (negsuc 2340) (pos 2341) ∷ place (pos 2731) (negsuc 2730) (pos 2731) ∷ place (negsuc 2340) (pos 2341) (pos 2341) ∷ place (pos 2731) (pos 2731) (pos 2731) ∷ place (pos 0) (pos 0) (pos 4096) ∷ place (pos 8192) (pos 0) (pos 0) ∷ place (pos 12288) (pos 0) (pos 0) ∷ place (pos 8192) (pos 4096) (pos 0) ∷ place (pos 5461) (negsuc 2730) (pos 2731) ∷ place (pos 10533) (negsuc 2340) (pos 2341) ∷ place (pos 5461) (pos 2731) (pos 2731) ∷ place (pos 10533) (pos 2341) (pos 2341) ∷ place (pos 8192) (pos 0) (pos 4096) ∷ []
unfolding all_open
places_are = refl

pub extremes_are : extremes_of (angles (mesh two_samples long_alone)) ≡ Some (record { least = record { cosine = record { sign = pos 1; num = 889627081664689; den = 972986357703364 }; tet = 14; ends = 3 ∷ 20 ∷ [] }; greatest = record { cosine = record { sign = negsuc 0; num = 8388608; den = 13049401 }; tet = 14; ends = 3 ∷ 8 ∷ [] } })
unfolding all_open
extremes_are = refl
