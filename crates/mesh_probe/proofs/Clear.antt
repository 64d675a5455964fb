-- Vertices that are not near the point, and the first found in rows, layers and all.
use Rattle.std.specs.Prelude.{ℕ, ◌+◌, ◌<◌, ◌≤◌, Option, None, Some, MatchOption}
use Rattle.std.proofs.Common.{◌≡◌, sym, ap, subst, arith, inl, inr, ◌⊎◌}
use Rattle.definitions.specs.declared.Vertex.{Vertex}
use Rattle.definitions.specs.declared.Place.{Place}
use Rattle.definitions.specs.Lattice.{InDomain, vertex}
use Rattle.definitions.specs.Values.{Field}
use Rattle.definitions.specs.States.{Shares, IsShares}
use Rattle.mesh_probe.specs.declared.hold.Hold.{Hold}
use Rattle.mesh_probe.specs.Found.{IsClear, IsFirstFound, IsFound, IsFoundInLayer, IsFoundInRow}
use Rattle.mesh_probe.specs.Near.{IsNear, StartsAxis, StartsPair}
use Rattle.mesh_probe.proofs.TetsOfVertex.{held_near_lowest}

pub match_map : {X : Type 0} (o : Option X) (P P' : Type 0) (Q Q' : X → Type 0) → (P → P') → ((x : X) → Q x → Q' x) → MatchOption o P Q → MatchOption o P' Q'
match_map None P P' Q Q' f g h = f h
match_map (Some x) P P' Q Q' f g h = g x h

module _ (f : Field) (s : Shares) (is : IsShares s) (p : Place) where
  pub clear_by : (v : Vertex) → (InDomain f.dims v → IsNear v p → IsClear f s p v) → IsClear f s p v
  clear_by v h k keys m g = h k (held_near_lowest f s is v k keys p m g) k keys m g

  module _ (h y x : ℕ) (start : StartsPair p.x h x) where
    pub row_first : (hold : Hold) → IsFound f s p hold × (hold.lowest ≡ vertex h y x) → IsFoundInRow f s p h y hold
    row_first hold e = record {
      found = e.0;
      layer = ap (λ (v : Vertex). v.h) e.1;
      row = ap (λ (v : Vertex). v.y) e.1;
      clear = λ a lt. clear_by (vertex h y a) (λ k n. absurd (never a (subst (λ m. a < m) (ap (λ (v : Vertex). v.x) e.1) lt) (start a k.x_alike n.x)));
    }
      where
        never : (a : ℕ) → a < x → (a ≡ x) ⊎ (a ≡ x + 2) → ⊥
        never a lt (inl q) = omega arith
        never a lt (inr q) = omega arith

    pub row_second : IsClear f s p (vertex h y x) → (hold : Hold) → IsFound f s p hold × (hold.lowest ≡ vertex h y (x + 2)) → IsFoundInRow f s p h y hold
    row_second first hold e = record {
      found = e.0;
      layer = ap (λ (v : Vertex). v.h) e.1;
      row = ap (λ (v : Vertex). v.y) e.1;
      clear = λ a lt. clear_by (vertex h y a) (λ k n. go a (subst (λ m. a < m) (ap (λ (v : Vertex). v.x) e.1) lt) (start a k.x_alike n.x));
    }
      where
        go : (a : ℕ) → a < x + 2 → (a ≡ x) ⊎ (a ≡ x + 2) → IsClear f s p (vertex h y a)
        go a lt (inl q) = subst (λ m. IsClear f s p (vertex h y m)) (sym q) first
        go a lt (inr q) = absurd (omega arith)

    pub row_none : IsClear f s p (vertex h y x) → IsClear f s p (vertex h y (x + 2)) → (a : ℕ) → IsClear f s p (vertex h y a)
    row_none first second a = clear_by (vertex h y a) (λ k n. go (start a k.x_alike n.x))
      where
        go : (a ≡ x) ⊎ (a ≡ x + 2) → IsClear f s p (vertex h y a)
        go (inl q) = subst (λ m. IsClear f s p (vertex h y m)) (sym q) first
        go (inr q) = subst (λ m. IsClear f s p (vertex h y m)) (sym q) second

  module _ (h y : ℕ) (start : StartsPair p.y h y) where
    pub layer_first : (hold : Hold) → IsFoundInRow f s p h y hold → IsFoundInLayer f s p h hold
    layer_first hold r = record {
      found = r.found;
      layer = r.layer;
      clear_row = λ x lt. subst (λ m. IsClear f s p (vertex h m x)) (sym r.row) (r.clear x lt);
      clear_rows = λ a x lt. clear_by (vertex h a x) (λ k n. absurd (never a (subst (λ m. a < m) r.row lt) (start a k.y_alike n.y)));
    }
      where
        never : (a : ℕ) → a < y → (a ≡ y) ⊎ (a ≡ y + 2) → ⊥
        never a lt (inl q) = omega arith
        never a lt (inr q) = omega arith

    pub layer_second : ((x : ℕ) → IsClear f s p (vertex h y x)) → (hold : Hold) → IsFoundInRow f s p h (y + 2) hold → IsFoundInLayer f s p h hold
    layer_second first hold r = record {
      found = r.found;
      layer = r.layer;
      clear_row = λ x lt. subst (λ m. IsClear f s p (vertex h m x)) (sym r.row) (r.clear x lt);
      clear_rows = λ a x lt. clear_by (vertex h a x) (λ k n. go a x (subst (λ m. a < m) r.row lt) (start a k.y_alike n.y));
    }
      where
        go : (a x : ℕ) → a < y + 2 → (a ≡ y) ⊎ (a ≡ y + 2) → IsClear f s p (vertex h a x)
        go a x lt (inl q) = subst (λ m. IsClear f s p (vertex h m x)) (sym q) (first x)
        go a x lt (inr q) = absurd (omega arith)

    pub layer_none : ((x : ℕ) → IsClear f s p (vertex h y x)) → ((x : ℕ) → IsClear f s p (vertex h (y + 2) x)) → (a x : ℕ) → IsClear f s p (vertex h a x)
    layer_none first second a x = clear_by (vertex h a x) (λ k n. go (start a k.y_alike n.y))
      where
        go : (a ≡ y) ⊎ (a ≡ y + 2) → IsClear f s p (vertex h a x)
        go (inl q) = subst (λ m. IsClear f s p (vertex h m x)) (sym q) (first x)
        go (inr q) = subst (λ m. IsClear f s p (vertex h m x)) (sym q) (second x)

  module _ (h : ℕ) (start : StartsAxis p.z h) where
    abbrev ClearLayer : ℕ → Type 0
    ClearLayer a = (y x : ℕ) → IsClear f s p (vertex a y x)

    -- a layer that is none of those before the m-th from h on
    below : (m : ℕ) → ((a : ℕ) → h ≤ a → a < h + m → ClearLayer a) → (a : ℕ) → a < h + m → ClearLayer a
    below m clear a lt y x = clear_by (vertex a y x) (λ k n. clear a (start 0 a (omega arith) n.z).0 lt y x)

    pub found_in : (m : ℕ) → ((a : ℕ) → h ≤ a → a < h + m → ClearLayer a) → (hold : Hold) → IsFoundInLayer f s p (h + m) hold → IsFirstFound f s p hold
    found_in m clear hold r = record {
      found = r.found;
      clear_row = λ x lt. subst (λ a. IsClear f s p (vertex a hold.lowest.y x)) (sym r.layer) (r.clear_row x lt);
      clear_rows = λ y x lt. subst (λ a. IsClear f s p (vertex a y x)) (sym r.layer) (r.clear_rows y x lt);
      clear_layers = λ a y x lt. below m clear a (subst (λ b. a < b) r.layer lt) y x;
    }

    none_before : (a : ℕ) → h ≤ a → a < h + 0 → ClearLayer a
    none_before a low high = absurd (omega arith)

    one_before : ClearLayer h → (a : ℕ) → h ≤ a → a < h + 1 → ClearLayer a
    one_before first a low high = let e : h ≡ a = omega arith in subst ClearLayer e first

    two_before : ClearLayer h → ClearLayer (h + 1) → (a : ℕ) → h ≤ a → a < h + 2 → ClearLayer a
    two_before first second a low high = go (cases h a low high)
      where
        cases : (h a : ℕ) → h ≤ a → a < h + 2 → (h ≡ a) ⊎ (h + 1 ≡ a)
        cases h a low high = grind arith

        go : (h ≡ a) ⊎ (h + 1 ≡ a) → ClearLayer a
        go (inl e) = subst ClearLayer e first
        go (inr e) = subst ClearLayer e second

    pub in_first : (hold : Hold) → IsFoundInLayer f s p h hold → IsFirstFound f s p hold
    in_first hold r = let e : h ≡ h + 0 = omega arith in found_in 0 none_before hold (subst (λ a. IsFoundInLayer f s p a hold) e r)

    pub in_second : ClearLayer h → (hold : Hold) → IsFoundInLayer f s p (h + 1) hold → IsFirstFound f s p hold
    in_second first = found_in 1 (one_before first)

    pub in_third : ClearLayer h → ClearLayer (h + 1) → (hold : Hold) → IsFoundInLayer f s p (h + 2) hold → IsFirstFound f s p hold
    in_third first second = found_in 2 (two_before first second)

    pub in_none : ClearLayer h → ClearLayer (h + 1) → ClearLayer (h + 2) → (a : ℕ) → ClearLayer a
    in_none first second third a y x = clear_by (vertex a y x) (λ k n. let r = start 0 a (omega arith) n.z in go (cases h a r.0 (at_most a h r.1)) y x)
      where
        at_most : (a h : ℕ) → a ≤ h + 2 + 0 → a ≤ h + 2
        at_most a h l = omega arith

        cases : (h a : ℕ) → h ≤ a → a ≤ h + 2 → (h ≡ a) ⊎ ((h + 1 ≡ a) ⊎ (h + 2 ≡ a))
        cases h a low high = grind arith

        go : (h ≡ a) ⊎ ((h + 1 ≡ a) ⊎ (h + 2 ≡ a)) → ClearLayer a
        go (inl e) = subst ClearLayer e first
        go (inr (inl e)) = subst ClearLayer e second
        go (inr (inr e)) = subst ClearLayer e third
