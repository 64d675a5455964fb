-- How far the ids of the neighbours upwards stand behind that of a vertex.
use Rattle.std.proofs.Common.{◌≡◌, ◌⊎◌, inl, inr, ℕ, ◌+◌, ◌-◌, ◌*◌, ◌/◌, ◌%◌, ◌^◌, ◌<◌, ◌≤◌, true, Fits, w32, arith, refl, sym, ap, ◌∙◌}
use Rattle.std.proofs.Math.Nat.{mul-le-mul_right}
use Rattle.definitions.specs.declared.Dims.{Dims}
use Rattle.definitions.specs.declared.Vertex.{Vertex}
use Rattle.definitions.specs.Lattice.{InDomain, IsDims, id, vertex}
use Rattle.definitions.specs.Layout.{layer_len}
use Rattle.lattice_counts.specs.Counts.{below_layer, row_len}
use Rattle.lattice_counts.proofs.Ranks.{below_grows, id_small, layer_length, rank}
use Rattle.lattice_laws.proofs.LaterNeighbours.{neighbour_leads}
use Rattle.lattice_laws.proofs.Steps.{after_step_2, after_step_3, after_step_5, after_step_7}
use Rattle.lattice_laws.proofs.Vertices.{domain_out}
use Rattle.vertex_numbers.specs.Alike.{IsUp}
use Rattle.vertex_numbers.specs.Steps.{LeadsBy}

even_or_odd : (n : ℕ) → (n % 2 ≡ 0) ⊎ (n % 2 ≡ 1)
even_or_odd n = grind arith

-- the ids of two vertices, the second of them n behind the first
module _ (d : Dims) (v w : Vertex) (k : InDomain d v) (m : InDomain d w) where
  apart : (n : ℕ) → below_layer d w.h + (w.y / 2 * row_len d.nx w.h + w.x / 2) ≡ below_layer d v.h + (v.y / 2 * row_len d.nx v.h + v.x / 2) + n → id d w ≡ id d v + n
  apart n e = rank d w m ∙ e ∙ ap (λ p. p + n) (sym (rank d v k))

-- the next vertex along x
pub id_next : (d : Dims) (v : Vertex) → InDomain d v → InDomain d (vertex v.h v.y (v.x + 2)) → id d (vertex v.h v.y (v.x + 2)) ≡ id d v + 1
id_next d v k m = apart d v (vertex v.h v.y (v.x + 2)) k m 1 (ap (λ x. below_layer d v.h + (v.y / 2 * row_len d.nx v.h + x)) half ∙ one (below_layer d v.h) (v.y / 2 * row_len d.nx v.h) (v.x / 2))
  where
    half : (v.x + 2) / 2 ≡ v.x / 2 + 1
    half = omega arith

    one : (b p x : ℕ) → b + (p + (x + 1)) ≡ b + (p + x) + 1
    one b p x = omega arith

module _ (d : Dims) (h y : ℕ) where
  -- in the same layer, and two above
  pub second_leads : LeadsBy d h y 2 (row_len d.nx h)
  second_leads v w k eh ey e =
      let l = neighbour_leads d v w 2 true e in
      let s = after_step_2 v w l.0 in
      let q : w.y / 2 ≡ v.y / 2 + 1 = half v.y w.y s.1 in
      apart d v w k (domain_out d w l.1) (row_len d.nx h)
      ((λ i. below_layer d (s.0 i) + (q i * row_len d.nx (s.0 i) + s.2 i / 2)) ∙ more (below_layer d v.h) (v.y / 2) (row_len d.nx v.h) (v.x / 2)
      ∙ (λ i. below_layer d v.h + (v.y / 2 * row_len d.nx v.h + v.x / 2) + row_len d.nx (eh i)))
    where
      half : (a b : ℕ) → b ≡ a + 2 → b / 2 ≡ a / 2 + 1
      half a b e = omega arith

      more : (b q r x : ℕ) → b + ((q + 1) * r + x) ≡ b + (q * r + x) + r
      more b q r x = omega arith

  above : below_layer d (h + 2) ≡ below_layer d h + (layer_len d h + layer_len d (h + 1))
  above = ap (below_layer d) two ∙ below_grows d (h + 1) ∙ ap (λ n. n + layer_len d (h + 1)) (below_grows d h) ∙ join (below_layer d h) (layer_len d h) (layer_len d (h + 1))
    where
      two : h + 2 ≡ h + 1 + 1
      two = omega arith

      join : (a b c : ℕ) → a + b + c ≡ a + (b + c)
      join a b c = omega arith

  pub seventh_leads : LeadsBy d h y 7 (layer_len d h + layer_len d (h + 1))
  seventh_leads v w k eh ey e =
      let l = neighbour_leads d v w 7 true e in
      let s = after_step_7 v w l.0 in
      let up : w.h ≡ h + 2 = s.0 ∙ ap (λ n. n + 2) eh in
      let rows : row_len d.nx w.h ≡ row_len d.nx v.h = ap (row_len d.nx) s.0 ∙ ap (λ m. d.nx + 2 - m) (let p : (v.h + 2) % 2 ≡ v.h % 2 = omega arith in p) in
      apart d v w k (domain_out d w l.1) (layer_len d h + layer_len d (h + 1))
      ((λ i. (ap (below_layer d) up ∙ above ∙ ap (λ n. below_layer d n + (layer_len d h + layer_len d (h + 1))) (sym eh)) i + (s.1 i / 2 * rows i + s.2 i / 2))
      ∙ swap (below_layer d v.h) (layer_len d h + layer_len d (h + 1)) (v.y / 2 * row_len d.nx v.h + v.x / 2))
    where
      swap : (a b c : ℕ) → a + b + c ≡ a + c + b
      swap a b c = omega arith

  -- in the layer above, by the step of direction 3
  pub record IsThird (n : ℕ) : Type 0 where
    pub even : h % 2 ≡ 0 → n + (row_len d.nx h + y / 2) ≡ layer_len d h
    pub odd : h % 2 ≡ 1 → n ≡ layer_len d h + y / 2

  module _ (n : ℕ) (t : IsThird n) (v w : Vertex) (k : InDomain d v) (m : InDomain d w) (eh : v.h ≡ h) (ey : v.y ≡ y) (up : w.h ≡ v.h + 1) (left : w.x + 1 ≡ v.x) where
    raised : below_layer d w.h ≡ below_layer d v.h + layer_len d h
    raised = ap (below_layer d) up ∙ below_grows d v.h ∙ ap (λ g. below_layer d v.h + layer_len d g) eh

    pub third : w.y + 1 ≡ v.y → id d w ≡ id d v + n
    third down = apart d v w k m n (elim (even_or_odd h) [ inl p ↦ in_even p | inr p ↦ in_odd p ])
      where
        even : (b l r s p q y2 x2 n : ℕ) → y2 ≡ p + 1 → x2 ≡ q + 1 → r ≡ s + 1 → n + (r + y2) ≡ l → b + l + (p * s + q) ≡ b + (y2 * r + x2) + n
        even b l r s p q y2 x2 n e1 e2 e3 e4 = let m : y2 * r ≡ (p + 1) * (s + 1) = (λ i. e1 i * e3 i) in omega arith

        odd : (b l r s p q y2 x2 n : ℕ) → y2 ≡ p → x2 ≡ q → s ≡ r + 1 → n ≡ l + y2 → b + l + (p * s + q) ≡ b + (y2 * r + x2) + n
        odd b l r s p q y2 x2 n e1 e2 e3 e4 = let m : p * s ≡ y2 * (r + 1) = (λ i. sym e1 i * e3 i) in omega arith

        in_even : h % 2 ≡ 0 → below_layer d w.h + (w.y / 2 * row_len d.nx w.h + w.x / 2) ≡ below_layer d v.h + (v.y / 2 * row_len d.nx v.h + v.x / 2) + n
        in_even p =
            let a = k.y_alike in let b = k.x_alike in
            ap (λ z. z + (w.y / 2 * row_len d.nx w.h + w.x / 2)) raised
            ∙ even (below_layer d v.h) (layer_len d h) (row_len d.nx v.h) (row_len d.nx w.h) (w.y / 2) (w.x / 2) (v.y / 2) (v.x / 2) n (omega arith) (omega arith) (omega arith)
            ((λ i. n + (row_len d.nx (eh i) + ey i / 2)) ∙ t.even p)

        in_odd : h % 2 ≡ 1 → below_layer d w.h + (w.y / 2 * row_len d.nx w.h + w.x / 2) ≡ below_layer d v.h + (v.y / 2 * row_len d.nx v.h + v.x / 2) + n
        in_odd p =
            let a = k.y_alike in let b = k.x_alike in
            ap (λ z. z + (w.y / 2 * row_len d.nx w.h + w.x / 2)) raised
            ∙ odd (below_layer d v.h) (layer_len d h) (row_len d.nx v.h) (row_len d.nx w.h) (w.y / 2) (w.x / 2) (v.y / 2) (v.x / 2) n (omega arith) (omega arith) (omega arith)
            (t.odd p ∙ ap (λ z. layer_len d h + z / 2) (sym ey))

    pub fifth : w.y ≡ v.y + 1 → id d w ≡ id d v + (n + row_len d.nx (h + 1))
    fifth over = apart d v w k m (n + row_len d.nx (h + 1)) (elim (even_or_odd h) [ inl p ↦ in_even p | inr p ↦ in_odd p ])
      where
        even : (b l r s p q y2 x2 n : ℕ) → y2 ≡ p → x2 ≡ q + 1 → r ≡ s + 1 → n + (r + y2) ≡ l → b + l + (p * s + q) ≡ b + (y2 * r + x2) + (n + s)
        even b l r s p q y2 x2 n e1 e2 e3 e4 = let m : y2 * r ≡ p * (s + 1) = (λ i. e1 i * e3 i) in omega arith

        odd : (b l r s p q y2 x2 n : ℕ) → p ≡ y2 + 1 → x2 ≡ q → s ≡ r + 1 → n ≡ l + y2 → b + l + (p * s + q) ≡ b + (y2 * r + x2) + (n + s)
        odd b l r s p q y2 x2 n e1 e2 e3 e4 = let m : p * s ≡ (y2 + 1) * (r + 1) = (λ i. e1 i * e3 i) in omega arith

        rows : row_len d.nx w.h ≡ row_len d.nx (h + 1)
        rows = ap (row_len d.nx) (up ∙ ap (λ g. g + 1) eh)

        in_even : h % 2 ≡ 0 → below_layer d w.h + (w.y / 2 * row_len d.nx w.h + w.x / 2) ≡ below_layer d v.h + (v.y / 2 * row_len d.nx v.h + v.x / 2) + (n + row_len d.nx (h + 1))
        in_even p =
            let a = k.y_alike in let b = k.x_alike in
            ap (λ z. z + (w.y / 2 * row_len d.nx w.h + w.x / 2)) raised
            ∙ even (below_layer d v.h) (layer_len d h) (row_len d.nx v.h) (row_len d.nx w.h) (w.y / 2) (w.x / 2) (v.y / 2) (v.x / 2) n (omega arith) (omega arith) (omega arith)
            ((λ i. n + (row_len d.nx (eh i) + ey i / 2)) ∙ t.even p)
            ∙ ap (λ z. below_layer d v.h + (v.y / 2 * row_len d.nx v.h + v.x / 2) + (n + z)) rows

        in_odd : h % 2 ≡ 1 → below_layer d w.h + (w.y / 2 * row_len d.nx w.h + w.x / 2) ≡ below_layer d v.h + (v.y / 2 * row_len d.nx v.h + v.x / 2) + (n + row_len d.nx (h + 1))
        in_odd p =
            let a = k.y_alike in let b = k.x_alike in
            ap (λ z. z + (w.y / 2 * row_len d.nx w.h + w.x / 2)) raised
            ∙ odd (below_layer d v.h) (layer_len d h) (row_len d.nx v.h) (row_len d.nx w.h) (w.y / 2) (w.x / 2) (v.y / 2) (v.x / 2) n (omega arith) (omega arith) (omega arith)
            (t.odd p ∙ ap (λ z. layer_len d h + z / 2) (sym ey))
            ∙ ap (λ z. below_layer d v.h + (v.y / 2 * row_len d.nx v.h + v.x / 2) + (n + z)) rows

  pub third_leads : (n : ℕ) → IsThird n → LeadsBy d h y 3 n
  third_leads n t v w k eh ey e =
      let l = neighbour_leads d v w 3 true e in
      let s = after_step_3 v w l.0 in
      third n t v w k (domain_out d w l.1) eh ey s.0 s.2 s.1

  pub fifth_leads : (n : ℕ) → IsThird n → LeadsBy d h y 5 (n + row_len d.nx (h + 1))
  fifth_leads n t v w k eh ey e =
      let l = neighbour_leads d v w 5 true e in
      let s = after_step_5 v w l.0 in
      fifth n t v w k (domain_out d w l.1) eh ey s.0 s.2 s.1

  -- there are so many vertices in a layer
  pub layer_holds : y < 2 * d.ny + 3 → h % 2 ≡ 0 → row_len d.nx h + y / 2 ≤ layer_len d h
  layer_holds below even =
      let l = layer_length d h in
      let some : 1 ≤ row_len d.nx h = omega arith in
      let p : 1 * (d.ny + 1) ≤ row_len d.nx h * (d.ny + 1) = mul-le-mul_right (d.ny + 1) some in
      sum (row_len d.ny h) (row_len d.nx h) d.ny (y / 2) (layer_len d h) l p (omega arith) (omega arith)
    where
      sum : (a r n q l : ℕ) → l ≡ a * r → 1 * (n + 1) ≤ r * (n + 1) → a ≡ n + 2 → q ≤ n + 1 → r + q ≤ l
      sum a r n q l e p f g = let m : a * r ≡ (n + 2) * r = ap (λ z. z * r) f in omega arith

-- an id is a small number
pub fits_at : (d : Dims) → IsDims d → (w : Vertex) → InDomain d w → (n : ℕ) → n ≡ id d w → Fits w32 n
fits_at d is w inside n e = let s = id_small d is w inside in small n (id d w) e s
  where
    small : (a b : ℕ) → a ≡ b → b < 2 ^ 27 → Fits w32 a
    small a b e l = omega arith

-- the id of a neighbour upwards, by the step to it
module _ (d : Dims) (v w : Vertex) (dir id_of n : ℕ) (k : InDomain d v) (up : IsUp d v dir w) (e : id_of ≡ id d v) (lead : LeadsBy d v.h v.y dir n) where
  pub id_led : id_of + n ≡ id d w
  id_led = ap (λ m. m + n) e ∙ sym (lead v w k refl refl up.is)

  pub id_fits : IsDims d → Fits w32 (id_of + n)
  id_fits is = fits_at d is w up.inside (id_of + n) id_led
