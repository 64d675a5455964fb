-- Where the column of a vertex and that of the next one along x have one sign, the vertex and all its neighbours upwards have it.
use Rattle.std.proofs.Common.{◌≡◌, ℕ, ◌+◌, ◌-◌, ◌*◌, true, Some, [], ◌∷◌, arith, sym, ap, ◌∙◌}
use Rattle.std.specs.Option.{option_map}
use Rattle.definitions.specs.declared.Dims.{Dims}
use Rattle.definitions.specs.declared.Sign.{Sign}
use Rattle.definitions.specs.declared.State.{State}
use Rattle.definitions.specs.declared.Vertex.{Vertex}
use Rattle.definitions.specs.Lattice.{InDomain, neighbour, vertex}
use Rattle.definitions.specs.States.{sign_of_state}
use Rattle.vertex_numbers.specs.Alike.{AreAlike, HasNext, IsColumn}
use Rattle.vertex_numbers.specs.Around.{sign_towards}
use Rattle.vertex_numbers.proofs.Upwards.{column_next, up_1, up_3, up_4, up_5, up_6}

module _ (d : Dims) (t : Vertex → State) where
  -- the sign in a direction is that of the neighbour there
  there : (v w : Vertex) (dir : ℕ) → neighbour d v dir true ≡ Some w → sign_towards d t v true dir ≡ Some (sign_of_state (t w))
  there v w dir e = ap (option_map (λ u. sign_of_state (t u))) e

  module _ (v : Vertex) (s : Sign) (k : InDomain d v) (a : HasNext d v) (here : IsColumn d t v s) (next : IsColumn d t (vertex v.h v.y (v.x + 2)) s) where
    inside : InDomain d (vertex v.h v.y (v.x + 2))
    inside = (up_1 d v k a).inside

    back : v.x + 2 - 1 ≡ v.x + 1
    back = omega arith

    first : sign_towards d t v true 1 ≡ Some s
    first = there v (vertex v.h v.y (v.x + 2)) 1 (up_1 d v k a).is ∙ ap Some next.own

    fourth : sign_towards d t v true 4 ≡ Some s
    fourth =
        there v (vertex (v.h + 1) (v.y - 1) (v.x + 1)) 4 (up_4 d v k a).is
        ∙ (λ i. Some (sign_of_state (t (vertex (v.h + 1) (v.y - 1) (sym back i)))))
        ∙ sym (there (vertex v.h v.y (v.x + 2)) (vertex (v.h + 1) (v.y - 1) (v.x + 2 - 1)) 3 (up_3 d (vertex v.h v.y (v.x + 2)) inside (column_next d v k a)).is)
        ∙ next.third

    sixth : sign_towards d t v true 6 ≡ Some s
    sixth =
        there v (vertex (v.h + 1) (v.y + 1) (v.x + 1)) 6 (up_6 d v k a).is
        ∙ (λ i. Some (sign_of_state (t (vertex (v.h + 1) (v.y + 1) (sym back i)))))
        ∙ sym (there (vertex v.h v.y (v.x + 2)) (vertex (v.h + 1) (v.y + 1) (v.x + 2 - 1)) 5 (up_5 d (vertex v.h v.y (v.x + 2)) inside (column_next d v k a)).is)
        ∙ next.fifth

    pub alike : AreAlike d t v s
    alike = record { own = here.own; up = λ i. first i ∷ here.second i ∷ here.third i ∷ fourth i ∷ here.fifth i ∷ sixth i ∷ here.seventh i ∷ [] }

-- the number along x of the next vertex of a row
pub next_x : (i p : ℕ) → (i + 1) * 2 + p ≡ i * 2 + p + 2
next_x i p = omega arith
