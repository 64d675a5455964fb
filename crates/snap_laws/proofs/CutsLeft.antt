-- After snapping an edge from Plus to Minus has a cut that is at neither end: a cut at an end has distance 0 from it, which no share is below.
use Rattle.std.proofs.Common.{◌≡◌, ℕ, zero, suc, ◌+◌, ◌-◌, ◌<◌, ◌≤◌, arith, refl, sym, ◌∙◌, ap, subst, true, false, nat_le, List, [], ◌∷◌, Option, Some, None}
use Rattle.std.specs.Prelude.{if◌then◌else◌, fold, filter_map, option_and_then, unsigned_abs, IsSomeAnd}
use Rattle.std.specs.List.{range_with_len}
use Rattle.std.proofs.lemmas.Bool.Decides.{nat_tests}
use Rattle.definitions.specs.declared.Vertex.{Vertex}
use Rattle.definitions.specs.declared.Near.{Near}
use Rattle.definitions.specs.declared.Sign.{Sign}
use Rattle.definitions.specs.declared.Sign.TheVariants.{Minus, Zero, Plus}
use Rattle.definitions.specs.Lists.{least_by, lesser}
use Rattle.definitions.specs.Lattice.{InDomain, neighbour, key, is_long}
use Rattle.definitions.specs.Values.{Field, value, sign_of}
use Rattle.definitions.specs.Cuts.{scale, cut_number, cut_between, are_opposite}
use Rattle.definitions.specs.States.{Shares, is_up, direction_of, near_at, near_up, near_down, near_on, near_cuts, is_nearer, snapped, share, square_of, state_of, sign_of_state}
use Rattle.lattice_laws.specs.Ascending.{Has}
use Rattle.lattice_laws.proofs.Members.{has_given}
use Rattle.lattice_laws.proofs.LaterNeighbours.{neighbour_leads, neighbour_led}
use Rattle.lattice_laws.proofs.EdgeSteps.{back_from}
use Rattle.lattice_laws.proofs.Vertices.{domain_in}
use Rattle.snap_laws.specs.Laws.{CutsLeftAreInner}
use Rattle.snap_laws.proofs.StatesAre.{at_most_scale}

-- ---- a vertex that was not moved has no near cut

-- what a state that is not Zero says of a vertex
record Unmoved (f : Field) (s : Shares) (v : Vertex) : Type 0 where
  pub sign : sign_of_state (state_of f s v) ≡ sign_of (value f v)
  pub none : (edge : ℕ) → 1 ≤ edge → edge < 15 → near_on f s v edge ≡ None

some_left : (xs : List Near) (a : Near) → (b : Near) × (fold (λ a x. Some (lesser is_nearer a x)) (Some a) xs ≡ Some b)
some_left [] a = (a, refl)
some_left (x ∷ xs) a = some_left xs (lesser is_nearer (Some a) x)

none_least : (xs : List Near) → fold (λ a x. Some (lesser is_nearer a x)) None xs ≡ None → xs ≡ []
none_least [] e = refl
none_least (x ∷ xs) e = let r = some_left xs x in absurd (differ r.0 (sym r.1 ∙ e))
  where
    differ : (b : Near) → Some b ≡ None → ⊥
    differ b e = cc

not_zero : (g : Sign) → sign_of_state (snapped g None) ≡ g
not_zero Minus = refl
not_zero Zero = refl
not_zero Plus = refl

moved_is_zero : (g : Sign) (n : Near) → sign_of_state (snapped g (Some n)) ≡ Zero
moved_is_zero Minus n = refl
moved_is_zero Zero n = refl
moved_is_zero Plus n = refl

unmoved : (f : Field) (s : Shares) (v : Vertex) → (sign_of_state (state_of f s v) ≡ Zero → ⊥) → Unmoved f s v
unfolding state_of near_cuts least_by
unmoved f s v h = go (fold (λ a x. Some (lesser is_nearer a x)) None (filter_map (near_on f s v) (range_with_len 1 14))) refl
  where
    go : (o : Option Near) → fold (λ a x. Some (lesser is_nearer a x)) None (filter_map (near_on f s v) (range_with_len 1 14)) ≡ o → Unmoved f s v
    go (Some n) e = absurd (h (ap (λ o. sign_of_state (snapped (sign_of (value f v)) o)) e ∙ moved_is_zero (sign_of (value f v)) n))
    go None e =
        let empty : filter_map (near_on f s v) (range_with_len 1 14) ≡ [] = none_least (filter_map (near_on f s v) (range_with_len 1 14)) e in
        record {
          sign = ap (λ o. sign_of_state (snapped (sign_of (value f v)) o)) e ∙ not_zero (sign_of (value f v));
          none = λ edge low high. nothing edge low high empty (near_on f s v edge) refl;
        }
      where
        nothing : (edge : ℕ) → 1 ≤ edge → edge < 15 → filter_map (near_on f s v) (range_with_len 1 14) ≡ [] → (o : Option Near) → near_on f s v edge ≡ o → near_on f s v edge ≡ None
        nothing edge low high empty None q = q
        nothing edge low high empty (Some n) q = absurd (subst (Has n) empty (has_given (near_on f s v) 1 14 edge n low high q))

opposite_ends : (a b : Sign) → are_opposite a b ≡ true → (a ≡ Zero → ⊥) × (b ≡ Zero → ⊥)
opposite_ends Plus Minus e = (λ p. cc, λ p. cc)
opposite_ends Minus Plus e = (λ p. cc, λ p. cc)
opposite_ends Plus Plus e = cc
opposite_ends Minus Minus e = cc
opposite_ends Zero b e = cc
opposite_ends Plus Zero e = cc
opposite_ends Minus Zero e = cc

-- ---- a cut at an end is near

at_zero : (s : Shares) (edge k c : ℕ) → near_at s edge k 0 c ≡ None → ⊥
at_zero s edge k c e =
    let near : Near = record { edge = edge; k = k; square = square_of (is_long (direction_of edge)) 0; key = c } in
    differ near (share s (direction_of edge)) (least (share s (direction_of edge))) e
  where
    least : (n : ℕ) → nat_le 0 n ≡ true
    least n = grind (arith, nat_tests)

    differ : (near : Near) (n : ℕ) → nat_le 0 n ≡ true → (if nat_le 0 n then Some near else None) ≡ None → ⊥
    differ near n t e = let q : Some near ≡ None = sym (ap (λ b. if b then Some near else None) t) ∙ e in cc

module _ (f : Field) (s : Shares) (u w : Vertex) (dir : ℕ) (low : 1 ≤ dir) (high : dir ≤ 7) (inside : InDomain f.dims u) (leads : neighbour f.dims u dir true ≡ Some w) where
  is_upwards : is_up dir ≡ true
  is_upwards = grind (arith, nat_tests)

  from_below : (k : ℕ) → cut_number (value f u) (value f w) ≡ Some k → near_on f s u dir ≡ near_at s dir k k (key f.dims u (direction_of dir))
  unfolding near_on
  from_below k e =
      (λ i. option_and_then (λ x. if is_upwards i then near_up f s u dir x else near_down f s u dir x) (neighbour f.dims u (if is_upwards i then dir else dir - 7) (is_upwards i)))
      ∙ ap (option_and_then (near_up f s u dir)) leads
      ∙ ap (option_and_then (λ n. near_at s dir n n (key f.dims u (direction_of dir)))) e

  is_downwards : is_up (dir + 7) ≡ false
  is_downwards = grind (arith, nat_tests)

  back : neighbour f.dims w dir false ≡ Some u
  back =
      let l = neighbour_leads f.dims u w dir true leads in
      neighbour_led f.dims w u dir false (back_from dir w u low (omega arith) l.0) (domain_in f.dims u inside)

  from_above : (k : ℕ) → cut_number (value f u) (value f w) ≡ Some k → near_on f s w (dir + 7) ≡ near_at s (dir + 7) k (scale - k) (key f.dims u (direction_of (dir + 7)))
  unfolding near_on
  from_above k e =
      (λ i. option_and_then (λ x. if is_downwards i then near_up f s w (dir + 7) x else near_down f s w (dir + 7) x) (neighbour f.dims w (if is_downwards i then dir + 7 else dir + 7 - 7) (is_downwards i)))
      ∙ ap (λ n. option_and_then (near_down f s w (dir + 7)) (neighbour f.dims w n false)) less
      ∙ ap (option_and_then (near_down f s w (dir + 7))) back
      ∙ ap (option_and_then (λ n. near_at s (dir + 7) n (scale - n) (key f.dims u (direction_of (dir + 7))))) e
    where
      less : dir + 7 - 7 ≡ dir
      less = omega arith

  pub cut_left : are_opposite (sign_of_state (state_of f s u)) (sign_of_state (state_of f s w)) ≡ true → IsSomeAnd (cut_number (value f u) (value f w)) (λ k. (1 ≤ k) × (k ≤ 4095))
  unfolding cut_number
  cut_left opposite =
      subst (λ o. IsSomeAnd o (λ k. (1 ≤ k) × (k ≤ 4095))) (sym cut) (inner number cut (at_most_scale (unsigned_abs (value f u)) (unsigned_abs (value f w))))
    where
      ends : (sign_of_state (state_of f s u) ≡ Zero → ⊥) × (sign_of_state (state_of f s w) ≡ Zero → ⊥)
      ends = opposite_ends (sign_of_state (state_of f s u)) (sign_of_state (state_of f s w)) opposite

      at_u : Unmoved f s u
      at_u = unmoved f s u ends.0

      at_w : Unmoved f s w
      at_w = unmoved f s w ends.1

      number : ℕ
      number = cut_between (unsigned_abs (value f u)) (unsigned_abs (value f w))

      cut : cut_number (value f u) (value f w) ≡ Some (cut_between (unsigned_abs (value f u)) (unsigned_abs (value f w)))
      cut = ap (λ b. if b then Some (cut_between (unsigned_abs (value f u)) (unsigned_abs (value f w))) else None) ((λ i. are_opposite (sym at_u.sign i) (sym at_w.sign i)) ∙ opposite)

      inner : (k : ℕ) → cut_number (value f u) (value f w) ≡ Some k → k ≤ 4096 → (1 ≤ k) × (k ≤ 4095)
      inner k e le = (above k (λ z. at_zero s dir k (key f.dims u (direction_of dir)) (first k z e)), below k le (λ z. at_zero s (dir + 7) k (key f.dims u (direction_of (dir + 7))) (last k z e)))
        where
          above : (k : ℕ) → (k ≡ 0 → ⊥) → 1 ≤ k
          above zero h = absurd (h refl)
          above (suc k) h = omega arith

          below : (k : ℕ) → k ≤ 4096 → (4096 - k ≡ 0 → ⊥) → k ≤ 4095
          below k le h = grind arith

          first : (k : ℕ) → k ≡ 0 → cut_number (value f u) (value f w) ≡ Some k → near_at s dir k 0 (key f.dims u (direction_of dir)) ≡ None
          first k z e = ap (λ t. near_at s dir k t (key f.dims u (direction_of dir))) (sym z) ∙ sym (from_below k e) ∙ at_u.none dir low (omega arith)

          last : (k : ℕ) → 4096 - k ≡ 0 → cut_number (value f u) (value f w) ≡ Some k → near_at s (dir + 7) k 0 (key f.dims u (direction_of (dir + 7))) ≡ None
          last k z e = ap (λ t. near_at s (dir + 7) k t (key f.dims u (direction_of (dir + 7)))) (sym z) ∙ sym (from_above k e) ∙ at_w.none (dir + 7) (omega arith) (omega arith)

pub cuts_left_are_inner : CutsLeftAreInner
cuts_left_are_inner f s u w dir inside low high leads opposite = cut_left f s u w dir low high inside leads opposite
