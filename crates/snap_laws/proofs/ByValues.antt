-- The state of a vertex by the values around it: the near cuts of the definition are those by values, with keys in place of ranks.
use Rattle.std.proofs.Common.{◌≡◌, ℕ, zero, suc, ◌+◌, ◌-◌, ◌≤◌, arith, refl, sym, ◌∙◌, ap, subst, Bool, true, false, ◌&&◌, ◌||◌, nat_lt, nat_le, nat_eq, List, [], ◌∷◌, map, Option, Some, None, ℤ, pos, negsuc}
use Rattle.std.specs.Prelude.{if◌then◌else◌, fold, filter_map, option_and_then, option_map}
use Rattle.std.specs.Option.{option_map_or}
use Rattle.std.specs.List.{range_with_len, cons_option, AllByRecursion}
use Rattle.definitions.specs.declared.Vertex.{Vertex}
use Rattle.definitions.specs.declared.Near.{Near}
use Rattle.definitions.specs.declared.Sign.{Sign}
use Rattle.definitions.specs.declared.Sign.TheVariants.{Minus, Zero, Plus}
use Rattle.definitions.specs.Lists.{least_by, lesser}
use Rattle.definitions.specs.Lattice.{InDomain, neighbour, key, is_long}
use Rattle.definitions.specs.Values.{Field, value, sign_of}
use Rattle.definitions.specs.Cuts.{scale, cut_number}
use Rattle.definitions.specs.States.{Shares, is_up, direction_of, near_at, near_up, near_down, near_on, near_cuts, is_nearer, snapped, share, square_of, state_of}
use Rattle.snap_laws.specs.Around.{around, rank, number_of_cut, distance_of_cut, near_here, nears_here, state_here}
use Rattle.snap_laws.specs.Laws.{StatesByValues}
use Rattle.snap_laws.proofs.Ranks.{key_of, IsEdge, keys_by_rank}

-- ---- a value of 0 makes no cut

no_cut_above : (a : ℤ) → cut_number a (pos 0) ≡ None
unfolding cut_number
no_cut_above (pos zero) = refl
no_cut_above (pos (suc n)) = refl
no_cut_above (negsuc n) = refl

no_cut_below : (a : ℤ) → cut_number (pos 0) a ≡ None
unfolding cut_number
no_cut_below (pos zero) = refl
no_cut_below (pos (suc n)) = refl
no_cut_below (negsuc n) = refl

pub no_near : (s : Shares) (own : ℤ) (edge : ℕ) → near_here s own (pos 0) edge ≡ None
unfolding near_here
no_near s own edge =
    ap (option_and_then (λ k. near_at s edge k (distance_of_cut edge k) (rank edge))) (none (is_up edge))
  where
    none : (b : Bool) → (if b then cut_number own (pos 0) else cut_number (pos 0) own) ≡ None
    none true = no_cut_above own
    none false = no_cut_below own

-- ---- with another key

abbrev with_key : (ℕ → ℕ) → Near → Near
with_key K n = record { edge = n.edge; k = n.k; square = n.square; key = K n.edge }

with_its_key : (K : ℕ → ℕ) (s : Shares) (edge k t c : ℕ) → near_at s edge k t (K edge) ≡ option_map (with_key K) (near_at s edge k t c)
with_its_key K s edge k t c = go (nat_le t (share s (direction_of edge)))
  where
    go : (b : Bool) → (if b then Some (record { edge = edge; k = k; square = square_of (is_long (direction_of edge)) t; key = K edge }) else None)
        ≡ option_map (with_key K) (if b then Some (record { edge = edge; k = k; square = square_of (is_long (direction_of edge)) t; key = c }) else None)
    go true = refl
    go false = refl

mapped : {X Y Z : Type 0} (r : Y → Z) (g : X → Option Y) (h : X → Option Z) (o : Option X) → ((x : X) → h x ≡ option_map r (g x)) → option_and_then h o ≡ option_map r (option_and_then g o)
mapped r g h None e = refl
mapped r g h (Some x) e = e x

module _ (f : Field) (s : Shares) (v : Vertex) (inside : InDomain f.dims v) where
  abbrev here : ℕ → Option Near
  here edge = near_here s (value f v) (around f v edge) edge

  abbrev key_at : ℕ → ℕ
  key_at edge = key_of f.dims v inside edge

  near_by_value : (edge : ℕ) → near_on f s v edge ≡ option_map (with_key key_at) (here edge)
  unfolding near_on near_here
  near_by_value edge = go (neighbour f.dims v (direction_of edge) (is_up edge)) refl (is_up edge) refl
    where
      go : (o : Option Vertex) → neighbour f.dims v (direction_of edge) (is_up edge) ≡ o → (b : Bool) → is_up edge ≡ b → near_on f s v edge ≡ option_map (with_key key_at) (here edge)
      go None n b e =
          ap (option_and_then (λ w. if is_up edge then near_up f s v edge w else near_down f s v edge w)) n
          ∙ sym (ap (λ o. option_map (with_key key_at) (near_here s (value f v) (option_map_or (value f) o (pos 0)) edge)) n ∙ ap (option_map (with_key key_at)) (no_near s (value f v) edge))
      go (Some w) n true e =
          ap (option_and_then (λ u. if is_up edge then near_up f s v edge u else near_down f s v edge u)) n
          ∙ (λ i. if e i then near_up f s v edge w else near_down f s v edge w)
          ∙ ap (λ c. option_and_then (λ k. near_at s edge k k c) (cut_number (value f v) (value f w))) (sym (λ i. if e i then key f.dims v (direction_of edge) else option_map_or (λ u. key f.dims u (direction_of edge)) (neighbour f.dims v (direction_of edge) false) 0))
          ∙ mapped (with_key key_at) (λ k. near_at s edge k k (rank edge)) (λ k. near_at s edge k k (key_at edge)) (cut_number (value f v) (value f w)) (λ k. with_its_key key_at s edge k k (rank edge))
          ∙ sym (λ i. option_map (with_key key_at) (option_and_then (λ k. near_at s edge k (if e i then k else scale - k) (rank edge)) (if e i then cut_number (value f v) (value f w) else cut_number (value f w) (value f v))))
          ∙ sym (ap (λ o. option_map (with_key key_at) (near_here s (value f v) (option_map_or (value f) o (pos 0)) edge)) n)
      go (Some w) n false e =
          let below : neighbour f.dims v (direction_of edge) false ≡ Some w = sym (ap (λ b. neighbour f.dims v (direction_of edge) b) e) ∙ n in
          ap (option_and_then (λ u. if is_up edge then near_up f s v edge u else near_down f s v edge u)) n
          ∙ (λ i. if e i then near_up f s v edge w else near_down f s v edge w)
          ∙ ap (λ c. option_and_then (λ k. near_at s edge k (scale - k) c) (cut_number (value f w) (value f v)))
          (sym ((λ i. if e i then key f.dims v (direction_of edge) else option_map_or (λ u. key f.dims u (direction_of edge)) (neighbour f.dims v (direction_of edge) false) 0) ∙ ap (λ o. option_map_or (λ u. key f.dims u (direction_of edge)) o 0) below))
          ∙ mapped (with_key key_at) (λ k. near_at s edge k (scale - k) (rank edge)) (λ k. near_at s edge k (scale - k) (key_at edge)) (cut_number (value f w) (value f v)) (λ k. with_its_key key_at s edge k (scale - k) (rank edge))
          ∙ sym (λ i. option_map (with_key key_at) (option_and_then (λ k. near_at s edge k (if e i then k else scale - k) (rank edge)) (if e i then cut_number (value f v) (value f w) else cut_number (value f w) (value f v))))
          ∙ sym (ap (λ o. option_map (with_key key_at) (near_here s (value f v) (option_map_or (value f) o (pos 0)) edge)) n)

  -- ---- the near cuts by values are on edges of v, and bear their ranks

  pub record IsOfEdge (n : Near) : Type 0 where
    pub other : Vertex
    pub edge : IsEdge f.dims v inside n.edge other
    pub rank_is : n.key ≡ rank n.edge

  at_edge : (edge k t c : ℕ) (n : Near) → near_at s edge k t c ≡ Some n → (n.edge ≡ edge) × (n.key ≡ c)
  at_edge edge k t c n = go (nat_le t (share s (direction_of edge)))
    where
      go : (b : Bool) → (if b then Some (record { edge = edge; k = k; square = square_of (is_long (direction_of edge)) t; key = c }) else None) ≡ Some n → (n.edge ≡ edge) × (n.key ≡ c)
      go true e = let q : record { edge = edge; k = k; square = square_of (is_long (direction_of edge)) t; key = c } ≡ n = cc in (ap (λ m. m.edge) (sym q), ap (λ m. m.key) (sym q))
      go false e = cc

  and_then_some : {X Y : Type 0} (g : X → Option Y) (o : Option X) (y : Y) → option_and_then g o ≡ Some y → (x : X) × (g x ≡ Some y)
  and_then_some g None y e = cc
  and_then_some g (Some x) y e = (x, e)

  of_edge : (edge : ℕ) (n : Near) → 1 ≤ edge → edge ≤ 14 → here edge ≡ Some n → IsOfEdge n
  unfolding near_here
  of_edge edge n low high e = go (neighbour f.dims v (direction_of edge) (is_up edge)) refl
    where
      found : (n.edge ≡ edge) × (n.key ≡ rank edge)
      found = let r = and_then_some (λ k. near_at s edge k (distance_of_cut edge k) (rank edge)) (number_of_cut (value f v) (around f v edge) edge) n e in at_edge edge r.0 (distance_of_cut edge r.0) (rank edge) n r.1

      go : (o : Option Vertex) → neighbour f.dims v (direction_of edge) (is_up edge) ≡ o → IsOfEdge n
      go None q =
          let none : here edge ≡ None = ap (λ o. near_here s (value f v) (option_map_or (value f) o (pos 0)) edge) q ∙ no_near s (value f v) edge in
          cc
      go (Some w) q = record {
        other = w;
        edge = subst (λ m. IsEdge f.dims v inside m w) (sym found.0) (record { low = low; high = high; leads = q });
        rank_is = found.1 ∙ ap rank (sym found.0);
      }

  all_of_edges : (a n : ℕ) → 1 ≤ a → a + n ≤ 15 → AllByRecursion IsOfEdge (filter_map here (range_with_len a n))
  all_of_edges a zero low high = tt
  all_of_edges a (suc n) low high = go (here a) refl (all_of_edges (a + 1) n (omega arith) (omega arith))
    where
      go : (o : Option Near) → here a ≡ o → AllByRecursion IsOfEdge (filter_map here (range_with_len (a + 1) n)) → AllByRecursion IsOfEdge (cons_option o (filter_map here (range_with_len (a + 1) n)))
      go None e rest = rest
      go (Some m) e rest = (of_edge a m low (omega arith) e, rest)

  same_order : (m n : Near) → IsOfEdge m → IsOfEdge n → is_nearer (with_key key_at m) (with_key key_at n) ≡ is_nearer m n
  same_order m n p q =
      λ i. nat_lt m.square n.square || (nat_eq m.square n.square && (keys_by_rank f.dims v inside m.edge n.edge p.other q.other p.edge q.edge ∙ sym (λ j. nat_lt (p.rank_is j) (q.rank_is j))) i)

  -- ---- the least of them

  abbrev IfOfEdge : Option Near → Type 0
  IfOfEdge o = AllByRecursion IsOfEdge (cons_option o [])

  lesser_alike : (a : Option Near) (x : Near) → IfOfEdge a → IsOfEdge x → lesser is_nearer (option_map (with_key key_at) a) (with_key key_at x) ≡ with_key key_at (lesser is_nearer a x)
  lesser_alike None x h k = refl
  lesser_alike (Some y) x h k =
      ap (λ b. if b then with_key key_at x else with_key key_at y) (same_order x y k h.0) ∙ choice (is_nearer x y)
    where
      choice : (b : Bool) → (if b then with_key key_at x else with_key key_at y) ≡ with_key key_at (if b then x else y)
      choice true = refl
      choice false = refl

  lesser_of_edge : (a : Option Near) (x : Near) → IfOfEdge a → IsOfEdge x → IsOfEdge (lesser is_nearer a x)
  lesser_of_edge None x h k = k
  lesser_of_edge (Some y) x h k = elim (is_nearer x y) as (λ b. IsOfEdge (if b then x else y)) [ true ↦ k | false ↦ h.0 ]

  least_alike : (xs : List Near) → AllByRecursion IsOfEdge xs → (a : Option Near) → IfOfEdge a →
      fold (λ a x. Some (lesser is_nearer a x)) (option_map (with_key key_at) a) (map (with_key key_at) xs) ≡ option_map (with_key key_at) (fold (λ a x. Some (lesser is_nearer a x)) a xs)
  least_alike [] h a k = refl
  least_alike (x ∷ xs) h a k =
      ap (λ y. fold (λ a x. Some (lesser is_nearer a x)) (Some y) (map (with_key key_at) xs)) (lesser_alike a x k h.0)
      ∙ least_alike xs h.1 (Some (lesser is_nearer a x)) (lesser_of_edge a x k h.0, tt)

  all_by_value : (xs : List ℕ) → filter_map (near_on f s v) xs ≡ map (with_key key_at) (filter_map here xs)
  all_by_value [] = refl
  all_by_value (x ∷ xs) = (λ i. cons_option (near_by_value x i) (all_by_value xs i)) ∙ front (here x) (filter_map here xs)
    where
      front : (o : Option Near) (ys : List Near) → cons_option (option_map (with_key key_at) o) (map (with_key key_at) ys) ≡ map (with_key key_at) (cons_option o ys)
      front None ys = refl
      front (Some y) ys = refl

  snapped_alike : (g : Sign) (o : Option Near) → snapped g (option_map (with_key key_at) o) ≡ snapped g o
  snapped_alike Zero o = refl
  snapped_alike Minus None = refl
  snapped_alike Minus (Some n) = refl
  snapped_alike Plus None = refl
  snapped_alike Plus (Some n) = refl

  -- over the edges from 1 to 14
  listed : nears_here s (value f v) (map (around f v) (range_with_len 1 14)) ≡ filter_map here (range_with_len 1 14)
  unfolding nears_here
  listed = refl

  pub state_by_values : state_of f s v ≡ state_here s (value f v) (map (around f v) (range_with_len 1 14))
  unfolding state_of state_here near_cuts least_by
  state_by_values =
      ap (λ ns. snapped (sign_of (value f v)) (fold (λ a x. Some (lesser is_nearer a x)) None ns)) (all_by_value (range_with_len 1 14))
      ∙ ap (snapped (sign_of (value f v))) (least_alike (filter_map here (range_with_len 1 14)) (all_of_edges 1 14 (omega arith) (omega arith)) None tt)
      ∙ snapped_alike (sign_of (value f v)) (fold (λ a x. Some (lesser is_nearer a x)) None (filter_map here (range_with_len 1 14)))
      ∙ sym (ap (λ ns. snapped (sign_of (value f v)) (fold (λ a x. Some (lesser is_nearer a x)) None ns)) listed)

pub states_by_values : StatesByValues
states_by_values f s v inside = state_by_values f s v inside
