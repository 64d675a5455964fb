-- Two samples, snapped.
use Rattle.worked_values.proofs.AllOpen.{all_open}
use Rattle.std.specs.Prelude.{◌≡◌, [], ◌∷◌, map, refl, Some, pos, negsuc, codes}
use Rattle.definitions.specs.Places.{place}
use Rattle.definitions.specs.States.{states, code}
use Rattle.definitions.specs.Mesh.{mesh}
use Rattle.definitions.specs.Angles.{angles, extremes_of}
use Rattle.formats.specs.Texts.{sign_line}
use Rattle.worked_values.specs.Fields.{two_samples, usual}

pub signs : sign_line two_samples ≡ codes "plus 2 zero 0 minus 46\n"
unfolding all_open
signs = refl

pub codes_are : map code (states two_samples usual) ≡ 1 ∷ 1 ∷ 1 ∷ 1 ∷ 1 ∷ 1 ∷ 1 ∷ 1 ∷ 1 ∷ 1 ∷ 1 ∷ 1 ∷ 1 ∷ 87382 ∷ 1 ∷ 1 ∷ 87374 ∷ 1 ∷ 1 ∷ 1 ∷ 1 ∷ 1 ∷ 1 ∷ 3 ∷ 3 ∷ 1 ∷ 1 ∷ 1 ∷ 1 ∷ 1 ∷ 1 ∷ 174830 ∷ 1 ∷ 1 ∷ 174838 ∷ 1 ∷ 1 ∷ 1 ∷ 1 ∷ 1 ∷ 1 ∷ 1 ∷ 1 ∷ 1 ∷ 1 ∷ 1 ∷ 1 ∷ 1 ∷ []
unfolding all_open
codes_are = refl

pub tets : (mesh two_samples usual).tets ≡ (0 ∷ 2 ∷ 3 ∷ 11 ∷ []) ∷ (0 ∷ 2 ∷ 11 ∷ 5 ∷ []) ∷ (0 ∷ 3 ∷ 6 ∷ 11 ∷ []) ∷ (0 ∷ 5 ∷ 11 ∷ 6 ∷ []) ∷ (1 ∷ 3 ∷ 4 ∷ 16 ∷ []) ∷ (1 ∷ 3 ∷ 16 ∷ 6 ∷ []) ∷ (1 ∷ 4 ∷ 7 ∷ 16 ∷ []) ∷ (1 ∷ 6 ∷ 16 ∷ 7 ∷ []) ∷ (2 ∷ 3 ∷ 11 ∷ 8 ∷ []) ∷ (2 ∷ 5 ∷ 10 ∷ 11 ∷ []) ∷ (2 ∷ 8 ∷ 11 ∷ 13 ∷ []) ∷ (2 ∷ 10 ∷ 13 ∷ 11 ∷ []) ∷ (3 ∷ 4 ∷ 16 ∷ 9 ∷ []) ∷ (3 ∷ 6 ∷ 11 ∷ 16 ∷ []) ∷ (3 ∷ 8 ∷ 22 ∷ 11 ∷ []) ∷ (3 ∷ 9 ∷ 16 ∷ 22 ∷ []) ∷ (3 ∷ 11 ∷ 22 ∷ 16 ∷ []) ∷ (4 ∷ 7 ∷ 16 ∷ 17 ∷ []) ∷ (4 ∷ 9 ∷ 19 ∷ 16 ∷ []) ∷ (4 ∷ 16 ∷ 19 ∷ 17 ∷ []) ∷ (5 ∷ 6 ∷ 12 ∷ 11 ∷ []) ∷ (5 ∷ 10 ∷ 11 ∷ 14 ∷ []) ∷ (5 ∷ 11 ∷ 12 ∷ 14 ∷ []) ∷ (6 ∷ 7 ∷ 18 ∷ 16 ∷ []) ∷ (6 ∷ 11 ∷ 16 ∷ 23 ∷ []) ∷ (6 ∷ 11 ∷ 23 ∷ 12 ∷ []) ∷ (6 ∷ 16 ∷ 18 ∷ 23 ∷ []) ∷ (7 ∷ 16 ∷ 17 ∷ 20 ∷ []) ∷ (7 ∷ 16 ∷ 20 ∷ 18 ∷ []) ∷ (8 ∷ 11 ∷ 13 ∷ 22 ∷ []) ∷ (9 ∷ 16 ∷ 22 ∷ 19 ∷ []) ∷ (10 ∷ 11 ∷ 14 ∷ 13 ∷ []) ∷ (11 ∷ 16 ∷ 23 ∷ 22 ∷ []) ∷ (11 ∷ 12 ∷ 14 ∷ 23 ∷ []) ∷ (11 ∷ 13 ∷ 22 ∷ 15 ∷ []) ∷ (11 ∷ 13 ∷ 15 ∷ 14 ∷ []) ∷ (11 ∷ 15 ∷ 22 ∷ 23 ∷ []) ∷ (11 ∷ 14 ∷ 15 ∷ 23 ∷ []) ∷ (16 ∷ 17 ∷ 20 ∷ 19 ∷ []) ∷ (16 ∷ 18 ∷ 23 ∷ 20 ∷ []) ∷ (16 ∷ 19 ∷ 21 ∷ 22 ∷ []) ∷ (16 ∷ 21 ∷ 23 ∷ 22 ∷ []) ∷ (16 ∷ 19 ∷ 20 ∷ 21 ∷ []) ∷ (16 ∷ 20 ∷ 23 ∷ 21 ∷ []) ∷ []
unfolding all_open
tets = refl

pub places_are : (mesh two_samples usual).places ≡ place (pos 0) (pos 0) (negsuc 4095) ∷ place (pos 8192) (pos 0) (negsuc 4095) ∷ place (negsuc 2340) (negsuc 2340) (negsuc 2340) ∷ place (pos 2731) (negsuc 2730) (negsuc 2730) ∷ place (pos 10533) (negsuc 2340) (negsuc 2340) ∷ place (negsuc 2340) (pos 2341) (negsuc 2340) ∷ place (pos 2731) (pos 2731) (negsuc 2730) ∷ place (pos 10533) (pos 2341) (negsuc 2340) ∷ place (pos 0) (negsuc 4095) (pos 0) ∷ place (pos 8192) (negsuc 4095) (pos 0) ∷ place (negsuc 4095) (pos 0) (pos 0) ∷ place (pos 0) (pos 0) (pos 0) ∷ place (pos 0) (pos 4096) (pos 0) ∷ place (negsuc 2340) (negsuc 2340) (pos 2341) ∷ place (negsuc 2340) (pos 2341) (pos 2341) ∷ place (pos 0) (pos 0) (pos 4096) ∷ place (pos 8192) (pos 0) (pos 0) ∷ place (pos 12288) (pos 0) (pos 0) ∷ place (pos 8192) (pos 4096) (pos 0) ∷ place (pos 10533) (negsuc 2340) (pos 2341) ∷ place (pos 10533) (pos 2341) (pos 2341) ∷ place (pos 8192) (pos 0) (pos 4096) ∷ place (pos 2731) (negsuc 2730) (pos 2731) ∷ place (pos 2731) (pos 2731) (pos 2731) ∷ []
unfolding all_open
places_are = refl

pub extremes_are : extremes_of (angles (mesh two_samples usual)) ≡ Some (record { least = record { cosine = record { sign = pos 1; num = 170233420306609; den = 295318139426993 }; tet = 5; ends = 3 ∷ 6 ∷ [] }; greatest = record { cosine = record { sign = negsuc 0; num = 1863225; den = 18640441 }; tet = 4; ends = 1 ∷ 16 ∷ [] } })
unfolding all_open
extremes_are = refl
