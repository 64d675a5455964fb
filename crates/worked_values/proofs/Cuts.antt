-- Worked values of cuts.
use Rattle.worked_values.proofs.AllOpen.{all_open}
use Rattle.std.specs.Prelude.{◌≡◌, [], ◌∷◌, map, refl, ℤ, pos, negsuc, Some, None}
use Rattle.definitions.specs.Cuts.{cut_number}

pub cuts :
    map (λ (p : ℤ × ℤ). cut_number p.0 p.1)
    ((pos 8, negsuc 5) ∷ (negsuc 5, pos 8) ∷ (pos 8, negsuc 7) ∷ (pos 8, negsuc 3) ∷ (negsuc 3, pos 8) ∷ (pos 24, negsuc 7) ∷ (pos 8, negsuc 320007) ∷ (negsuc 160005, pos 8) ∷ (negsuc 6399, pos 8000) ∷ (pos 8, pos 6) ∷ (pos 8, pos 0) ∷ [])
    ≡ Some 2341 ∷ Some 1755 ∷ Some 2048 ∷ Some 2731 ∷ Some 1365 ∷ Some 3072 ∷ Some 0 ∷ Some 4096 ∷ Some 1820 ∷ None ∷ None ∷ []
unfolding all_open
cuts = refl
