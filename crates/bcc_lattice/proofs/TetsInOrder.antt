-- The tetrahedra at all vertices are the lattice tetrahedra, in order and each once.
use Rattle.std.proofs.Common.{◌≡◌, ◌≢◌, ℕ, zero, suc, refl, sym, ap, subst, inl, inr, Bool, true, false, List, [], ◌∷◌, ◌++◌, map}
use Rattle.std.specs.Prelude.{◌&&◌, filter, flat_map}
use Rattle.std.specs.List.{AllByRecursion}
use Rattle.std.proofs.lemmas.Bool.{both_ways}
use Rattle.definitions.specs.declared.Dims.{Dims}
use Rattle.definitions.specs.declared.Vertex.{Vertex}
use Rattle.definitions.specs.Lattice.{InDomain, are_neighbours, before, vertices}
use Rattle.definitions.specs.Lists.{cliques, each_with_later}
use Rattle.definitions.specs.Tetrahedra.{lattice_tets, tets_from}
use Rattle.lattice_laws.specs.Ascending.{Ascends}
use Rattle.lattice_laws.proofs.AscendingLists.{all_append, ascends_append, ascends_filter}
use Rattle.lattice_laws.proofs.ListedTetrahedra.{lattice_tets_listed}
use Rattle.lattice_laws.proofs.Sublists.{pairs_by_place}
use Rattle.lattice_laws.proofs.Vertices.{before_itself, from_vertices, vertices_ascend}
use Rattle.lattice_laws.proofs.Members.{flat_map_same}
use Rattle.bcc_lattice.specs.declared.tetrahedra.TetsAt.{TetsAt}
use Rattle.bcc_lattice.specs.Laws.{FoundTetsAreListed, ListsTets, StandsBefore, all_found}
use Rattle.bcc_lattice.specs.TetLists.{tets_of}

-- ---- lists of lists in order

all_weaker : {X : Type 0} (P Q : X → Type 0) → ((x : X) → P x → Q x) → (xs : List X) → AllByRecursion P xs → AllByRecursion Q xs
all_weaker P Q f [] h = tt
all_weaker P Q f (x ∷ xs) h = (f x h.0, all_weaker P Q f xs h.1)

all_mapped : {X Y : Type 0} (P : Y → Type 0) (g : X → Y) → ((x : X) → P (g x)) → (xs : List X) → AllByRecursion P (map g xs)
all_mapped P g f [] = tt
all_mapped P g f (x ∷ xs) = (f x, all_mapped P g f xs)

module _ {X : Type 0} (lt : X → X → Bool) where
  abbrev Follows : X → X → Type 0
  Follows x y = lt x y ≡ true

  -- the list begins with an element before which x stands
  abbrev BeginsAfter : X → List X → Type 0
  BeginsAfter x [] = ⊥
  BeginsAfter x (y ∷ c) = lt x y ≡ true

  abbrev with_head : X → List (List X) → List (List X)
  with_head x cs = map (λ c. x ∷ c) cs

  -- lists with one first element
  all_with_head : (x : X) (c : List X) (cs : List (List X)) → AllByRecursion (StandsBefore lt c) cs → AllByRecursion (StandsBefore lt (x ∷ c)) (with_head x cs)
  all_with_head x c [] h = tt
  all_with_head x c (d ∷ cs) h = (inr (refl, h.0), all_with_head x c cs h.1)

  with_head_ascends : (x : X) (cs : List (List X)) → Ascends (StandsBefore lt) cs → Ascends (StandsBefore lt) (with_head x cs)
  with_head_ascends x [] h = tt
  with_head_ascends x (c ∷ cs) h = (all_with_head x c cs h.0, with_head_ascends x cs h.1)

  -- and those that begin with a later one
  later_begin : (x : X) (c ds : List X) → BeginsAfter x ds → StandsBefore lt (x ∷ c) ds
  later_begin x c [] h = absurd h
  later_begin x c (d ∷ ds) h = inl h

  heads_before : (x : X) (cs ds : List (List X)) → AllByRecursion (BeginsAfter x) ds → AllByRecursion (λ a. AllByRecursion (StandsBefore lt a) ds) (with_head x cs)
  heads_before x [] ds h = tt
  heads_before x (c ∷ cs) ds h = (all_weaker (BeginsAfter x) (StandsBefore lt (x ∷ c)) (λ a k. later_begin x c a k) ds h, heads_before x cs ds h)

  -- over elements in order: those with each as the first, one after another
  module _ (g : X → List X → List (List X)) where
    abbrev joined : List X → List (List X)
    joined xs = each_with_later (λ x later. with_head x (g x later)) xs

    joined_begin : (x : X) (xs : List X) → AllByRecursion (Follows x) xs → AllByRecursion (BeginsAfter x) (joined xs)
    joined_begin x [] h = tt
    joined_begin x (y ∷ xs) h = all_append (BeginsAfter x) (with_head y (g y xs)) (joined xs) (all_mapped (BeginsAfter x) (λ c. y ∷ c) (λ c. h.0) (g y xs)) (joined_begin x xs h.1)

    joined_ascends : ((x : X) (later : List X) → Ascends Follows later → Ascends (StandsBefore lt) (g x later)) → (xs : List X) → Ascends Follows xs → Ascends (StandsBefore lt) (joined xs)
    joined_ascends each [] h = tt
    joined_ascends each (x ∷ xs) h =
        ascends_append (StandsBefore lt) (with_head x (g x xs)) (joined xs) (with_head_ascends x (g x xs) (each x xs h.1)) (joined_ascends each xs h.1)
        (heads_before x (g x xs) (joined xs) (joined_begin x xs h.0))

  -- the choices of n elements stand in order
  cliques_ascend : (R : X → X → Bool) (n : ℕ) (xs : List X) → Ascends Follows xs → Ascends (StandsBefore lt) (cliques R n xs)
  cliques_ascend R zero xs h = (tt, tt)
  cliques_ascend R (suc n) xs h = joined_ascends (λ x later. cliques R n (filter (R x) later)) (λ x later k. cliques_ascend R n (filter (R x) later) (ascends_filter Follows (R x) later k)) xs h

  -- lists with each element as the first
  flat_is_joined : (g : X → List (List X)) (xs : List X) → flat_map (λ x. with_head x (g x)) xs ≡ joined (λ x later. g x) xs
  flat_is_joined g [] = refl
  flat_is_joined g (x ∷ xs) = ap (λ r. with_head x (g x) ++ r) (flat_is_joined g xs)

  -- no list stands before itself
  differs : ((x : X) → lt x x ≡ false) → (a b : List X) → StandsBefore lt a b → a ≢ b
  differs irreflexive a b h e = itself a (subst (StandsBefore lt a) (sym e) h)
    where
      itself : (a : List X) → StandsBefore lt a a → ⊥
      itself [] h = h
      itself (x ∷ a) (inl h) = both_ways (lt x x) (irreflexive x) h
      itself (x ∷ a) (inr h) = itself a h.1

ascends_weaker : {X : Type 0} (R S : X → X → Type 0) → ((x y : X) → R x y → S x y) → (xs : List X) → Ascends R xs → Ascends S xs
ascends_weaker R S f [] h = tt
ascends_weaker R S f (x ∷ xs) h = (all_weaker (R x) (S x) (f x) xs h.0, ascends_weaker R S f xs h.1)

-- ---- lattice tetrahedra

module _ (d : Dims) where
  -- those with one lowest vertex, without it
  abbrev above : Vertex → List (List Vertex)
  above v = cliques are_neighbours 3 (filter (λ w. before v w && are_neighbours v w) (vertices d))

  tets_ascend : Ascends (StandsBefore before) (lattice_tets d)
  unfolding lattice_tets tets_from
  tets_ascend =
      subst (Ascends (StandsBefore before)) (sym (flat_is_joined before above (vertices d)))
      (joined_ascends before (λ v later. above v)
      (λ v later h. cliques_ascend before are_neighbours 3 (filter (λ w. before v w && are_neighbours v w) (vertices d)) (ascends_filter (Follows before) (λ w. before v w && are_neighbours v w) (vertices d) (vertices_ascend d)))
      (vertices d) (vertices_ascend d))

  pub lists_tets : ListsTets d (lattice_tets d)
  lists_tets = record {
    all = refl;
    exactly = lattice_tets_listed d;
    ordered = pairs_by_place (StandsBefore before) (lattice_tets d) tets_ascend;
    once =
        pairs_by_place (λ s t. s ≢ t) (lattice_tets d)
        (ascends_weaker (StandsBefore before) (λ s t. s ≢ t) (differs before before_itself) (lattice_tets d) tets_ascend);
  }

  found_all : (found : Vertex → TetsAt) → ((v : Vertex) → InDomain d v → map (λ tet. tet.at) (tets_of (found v)) ≡ tets_from d v) → all_found d found ≡ lattice_tets d
  unfolding lattice_tets
  found_all found h = flat_map_same (λ v. map (λ tet. tet.at) (tets_of (found v))) (tets_from d) (vertices d) (λ v k. h v (from_vertices d v k))

pub found_tets_are_listed : FoundTetsAreListed
found_tets_are_listed d found h = subst (ListsTets d) (sym (found_all d found h)) (lists_tets d)
