-- Worked states of vertices.
use Rattle.worked_values.proofs.AllOpen.{all_open}
use Rattle.std.specs.Prelude.{◌≡◌, refl}
use Rattle.definitions.specs.declared.State.TheVariants as state
use Rattle.definitions.specs.Lattice.{vertex}
use Rattle.definitions.specs.States.{state_of, code}
use Rattle.worked_values.specs.Fields.{usual, two_samples, upper_half_below}

pub state_of_half : state_of upper_half_below usual (vertex 3 3 3) ≡ state.Zero 13 3072
unfolding all_open
state_of_half = refl

pub code_of_half : code (state.Zero 13 3072) ≡ 196662
unfolding all_open
code_of_half = refl

pub state_of_two : state_of two_samples usual (vertex 1 1 3) ≡ state.Zero 5 1365
unfolding all_open
state_of_two = refl

pub code_of_two : code (state.Zero 5 1365) ≡ 87382
unfolding all_open
code_of_two = refl
