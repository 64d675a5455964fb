-- The ids of the neighbours upwards, where all are in the domain.
use Rattle.std.proofs.Common.{◌≡◌, ℕ, ◌+◌, ◌-◌, ◌<◌, length, true, Some, Fits, w32, arith, sym, ap, subst, ◌∙◌}
use Rattle.std.specs.Option.{option_map}
use Rattle.definitions.specs.declared.Dims.{Dims}
use Rattle.definitions.specs.declared.Vertex.{Vertex}
use Rattle.definitions.specs.Lattice.{InDomain, IsDims, id, neighbour, vertex, vertices}
use Rattle.lattice_counts.proofs.Ranks.{id_within}
use Rattle.vertex_numbers.specs.Alike.{HasColumn, HasNext, IsUp}
use Rattle.vertex_numbers.specs.Later.{AreBelow, AreLater, HasAllLater}
use Rattle.vertex_numbers.specs.Steps.{AreColumnIds}
use Rattle.vertex_numbers.specs.declared.later.Later.{Later}
use Rattle.vertex_numbers.specs.declared.steps.ColumnIds.{ColumnIds}
use Rattle.vertex_numbers.proofs.StepIds.{fits_at, id_next}
use Rattle.vertex_numbers.proofs.Upwards.{column_here, next_here, up_1, up_2, up_3, up_4, up_5, up_6, up_7}

-- the id of the neighbour in a direction
id_towards : (d : Dims) (v w : Vertex) (dir n : ℕ) → IsUp d v dir w → n ≡ id d w → option_map (id d) (neighbour d v dir true) ≡ Some n
id_towards d v w dir n up e = ap (option_map (id d)) up.is ∙ ap Some (sym e)

-- all of them, by the vertex's own id and those of its column
abbrev pub later_of : ℕ → ColumnIds → Later
later_of own ids = record { first = own + 1; second = ids.second; third = ids.third; fourth = ids.third + 1; fifth = ids.fifth; sixth = ids.fifth + 1; seventh = ids.seventh }

module _ (d : Dims) (v : Vertex) (k : InDomain d v) (a : HasAllLater d v) (own : ℕ) (e : own ≡ id d v) (ids : ColumnIds) (at : AreColumnIds d v ids) where
  column : HasColumn d v
  column = column_here d v a

  next : HasNext d v
  next = next_here d v a

  first : own + 1 ≡ id d (vertex v.h v.y (v.x + 2))
  first = ap (λ m. m + 1) e ∙ sym (id_next d v k (up_1 d v k next).inside)

  across : (h y n : ℕ) → InDomain d (vertex h y (v.x - 1)) → InDomain d (vertex h y (v.x + 1)) → n ≡ id d (vertex h y (v.x - 1)) → n + 1 ≡ id d (vertex h y (v.x + 1))
  across h y n left right e =
      ap (λ m. m + 1) e ∙ sym (id_next d (vertex h y (v.x - 1)) left (subst (λ x. InDomain d (vertex h y x)) (sym two) right)) ∙ ap (λ x. id d (vertex h y x)) two
    where
      two : v.x - 1 + 2 ≡ v.x + 1
      two = let low = a.x_low in omega arith

  fourth : ids.third + 1 ≡ id d (vertex (v.h + 1) (v.y - 1) (v.x + 1))
  fourth = across (v.h + 1) (v.y - 1) ids.third (up_3 d v k column).inside (up_4 d v k next).inside at.third

  sixth : ids.fifth + 1 ≡ id d (vertex (v.h + 1) (v.y + 1) (v.x + 1))
  sixth = across (v.h + 1) (v.y + 1) ids.fifth (up_5 d v k column).inside (up_6 d v k next).inside at.fifth

  pub first_fits : IsDims d → Fits w32 (own + 1)
  first_fits is = fits_at d is (vertex v.h v.y (v.x + 2)) (up_1 d v k next).inside (own + 1) first

  pub fourth_fits : IsDims d → Fits w32 (ids.third + 1)
  fourth_fits is = fits_at d is (vertex (v.h + 1) (v.y - 1) (v.x + 1)) (up_4 d v k next).inside (ids.third + 1) fourth

  pub sixth_fits : IsDims d → Fits w32 (ids.fifth + 1)
  sixth_fits is = fits_at d is (vertex (v.h + 1) (v.y + 1) (v.x + 1)) (up_6 d v k next).inside (ids.fifth + 1) sixth

  pub are_later : AreLater d v (later_of own ids)
  are_later = record {
    first = id_towards d v (vertex v.h v.y (v.x + 2)) 1 (own + 1) (up_1 d v k next) first;
    second = id_towards d v (vertex v.h (v.y + 2) v.x) 2 ids.second (up_2 d v k column) at.second;
    third = id_towards d v (vertex (v.h + 1) (v.y - 1) (v.x - 1)) 3 ids.third (up_3 d v k column) at.third;
    fourth = id_towards d v (vertex (v.h + 1) (v.y - 1) (v.x + 1)) 4 (ids.third + 1) (up_4 d v k next) fourth;
    fifth = id_towards d v (vertex (v.h + 1) (v.y + 1) (v.x - 1)) 5 ids.fifth (up_5 d v k column) at.fifth;
    sixth = id_towards d v (vertex (v.h + 1) (v.y + 1) (v.x + 1)) 6 (ids.fifth + 1) (up_6 d v k next) sixth;
    seventh = id_towards d v (vertex (v.h + 2) v.y v.x) 7 ids.seventh (up_7 d v k column) at.seventh;
  }

  pub are_below : AreBelow (length (vertices d)) (later_of own ids)
  are_below = record {
    first = below (vertex v.h v.y (v.x + 2)) (up_1 d v k next).inside first;
    second = below (vertex v.h (v.y + 2) v.x) (up_2 d v k column).inside at.second;
    third = below (vertex (v.h + 1) (v.y - 1) (v.x - 1)) (up_3 d v k column).inside at.third;
    fourth = below (vertex (v.h + 1) (v.y - 1) (v.x + 1)) (up_4 d v k next).inside fourth;
    fifth = below (vertex (v.h + 1) (v.y + 1) (v.x - 1)) (up_5 d v k column).inside at.fifth;
    sixth = below (vertex (v.h + 1) (v.y + 1) (v.x + 1)) (up_6 d v k next).inside sixth;
    seventh = below (vertex (v.h + 2) v.y v.x) (up_7 d v k column).inside at.seventh;
  }
    where
      below : {n : ℕ} (w : Vertex) → InDomain d w → n ≡ id d w → n < length (vertices d)
      below w inside e = subst (λ n. n < length (vertices d)) (sym e) (id_within d w inside)
