-- What two calls in a row leave as it was.
use Rattle.std.proofs.Common.{ℕ, List, refl, ◌∙◌}
use Rattle.std.specs.Prelude.{Option}
use Rattle.formats.specs.declared.Port.{Port}
use Rattle.st_base.specs.Desk.{InputState, PortState, KeepsAllButInput, KeepsAllButPort}

pub same_port : {S : Type 0} (input_of : S → InputState) (ports_of : S → Port → PortState) (tried_of : S → Option (List (List ℕ))) (held_of : S → List ℕ → Option (List ℕ)) (port : Port) (a : S) → KeepsAllButPort input_of ports_of tried_of held_of port a a
same_port input_of ports_of tried_of held_of port a = record { input = refl; others = λ p ne. refl; tried = refl; held = λ name. refl }

pub then_port : {S : Type 0} {input_of : S → InputState} {ports_of : S → Port → PortState} {tried_of : S → Option (List (List ℕ))} {held_of : S → List ℕ → Option (List ℕ)} {port : Port} {a b c : S} → KeepsAllButPort input_of ports_of tried_of held_of port a b → KeepsAllButPort input_of ports_of tried_of held_of port b c → KeepsAllButPort input_of ports_of tried_of held_of port a c
then_port first second =
    record {
      input = second.input ∙ first.input;
      others = λ p ne. second.others p ne ∙ first.others p ne;
      tried = second.tried ∙ first.tried;
      held = λ name. second.held name ∙ first.held name;
    }

pub then_input : {S : Type 0} {ports_of : S → Port → PortState} {tried_of : S → Option (List (List ℕ))} {held_of : S → List ℕ → Option (List ℕ)} {a b c : S} → KeepsAllButInput ports_of tried_of held_of a b → KeepsAllButInput ports_of tried_of held_of b c → KeepsAllButInput ports_of tried_of held_of a c
then_input first second =
    record {
      ports = λ p. second.ports p ∙ first.ports p;
      tried = second.tried ∙ first.tried;
      held = λ name. second.held name ∙ first.held name;
    }
