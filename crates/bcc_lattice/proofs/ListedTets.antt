-- The tetrahedra that are pushed one after another are those of the six triples of directions, and so the ones of the definition.
use Rattle.std.proofs.Common.{◌≡◌, ℕ, inl, inr, refl, sym, ap, ◌∙◌, subst, List, [], ◌∷◌, ◌++◌, map, Option, Some, None, append_assoc}
use Rattle.std.specs.Prelude.{option_and_then, option_map, option_to_list, All, IfSome}
use Rattle.std.specs.List.{cons_option, AllByRecursion}
use Rattle.definitions.specs.declared.Dims.{Dims}
use Rattle.definitions.specs.declared.Vertex.{Vertex}
use Rattle.definitions.specs.Lattice.{InDomain, id, vertices, are_neighbours}
use Rattle.definitions.specs.Tetrahedra.{IsLatticeTet, tets_from, lattice_tets}
use Rattle.lattice_laws.specs.Ascending.{Has}
use Rattle.lattice_laws.specs.NumberedTetrahedra.{IsNumberedTet}
use Rattle.lattice_laws.proofs.KeyOrder.{tet_ids_rise}
use Rattle.lattice_laws.proofs.ListedTetrahedra.{lattice_tets_listed}
use Rattle.lattice_laws.proofs.Members.{has_flat_map}
use Rattle.lattice_laws.proofs.Sublists.{all_by_place}
use Rattle.lattice_laws.proofs.TetrahedraFromLowest.{all_of, vertex_in, adjacent, tets_by_triples}
use Rattle.lattice_laws.proofs.Vertices.{has_vertex}
use Rattle.bcc_lattice.specs.declared.tetrahedra.Tet.{Tet}
use Rattle.bcc_lattice.specs.declared.tetrahedra.Numbered.{Numbered}
use Rattle.bcc_lattice.specs.TetLists.{IsNumbered, NumbersNeighbour, tet_of_four}

-- lists of what may be there, pushed one after another
abbrev pub given : {X : Type 0} → List (Option X) → List X
given [] = []
given (o ∷ os) = cons_option o (given os)

abbrev pub pushed : {X : Type 0} → List X → List (Option X) → List X
pushed xs [] = xs
pushed xs (o ∷ os) = pushed (xs ++ option_to_list o) os

append_nil : {X : Type 0} (ys : List X) → ys ++ [] ≡ ys
append_nil [] = refl
append_nil (y ∷ ys) = ap (λ r. y ∷ r) (append_nil ys)

in_front : {X : Type 0} (o : Option X) (xs ys : List X) → (xs ++ option_to_list o) ++ ys ≡ xs ++ cons_option o ys
in_front None xs ys = ap (λ l. l ++ ys) (append_nil xs)
in_front (Some x) xs ys = append_assoc xs (x ∷ []) ys

pub pushed_given : {X : Type 0} (os : List (Option X)) (xs : List X) → pushed xs os ≡ xs ++ given os
pushed_given [] xs = sym (append_nil xs)
pushed_given (o ∷ os) xs = pushed_given os (xs ++ option_to_list o) ∙ in_front o xs (given os)

-- ---- the vertices

cons_alike : {X Y Z : Type 0} (f : X → Z) (g : Y → Z) (o : Option X) (p : Option Y) (xs : List X) (ys : List Y) → option_map f o ≡ option_map g p → map f xs ≡ map g ys → map f (cons_option o xs) ≡ map g (cons_option p ys)
cons_alike f g None None xs ys e h = h
cons_alike f g None (Some y) xs ys e h = cc
cons_alike f g (Some x) None xs ys e h = cc
cons_alike f g (Some x) (Some y) xs ys e h = let s : f x ≡ g y = cc in λ i. s i ∷ h i

module _ (d : Dims) (v : Vertex) where
  abbrev chosen : List ℕ → Option (List Vertex)
  chosen c = all_of (vertex_in d v) are_neighbours adjacent c

  vertex_of_numbered : (dir : ℕ) (o : Option Numbered) → NumbersNeighbour d v dir o → option_map (λ n. n.vertex) o ≡ vertex_in d v dir
  vertex_of_numbered dir None h = sym h
  vertex_of_numbered dir (Some n) h = sym h.0

  abbrev three : Option Vertex → Option Vertex → Option Vertex → Option (List Vertex)
  three a b c = option_and_then (λ x. option_map (λ xs. x ∷ xs) (option_and_then (λ y. option_map (λ ys. y ∷ ys) (option_and_then (λ z. option_map (λ zs. z ∷ zs) (Some [])) c)) b)) a

  of_four : (l : Numbered) (a b c : Option Numbered) → l.vertex ≡ v → option_map (λ tet. tet.at) (tet_of_four l a b c) ≡ option_map (λ vs. v ∷ vs) (three (option_map (λ n. n.vertex) a) (option_map (λ n. n.vertex) b) (option_map (λ n. n.vertex) c))
  of_four l (Some a) (Some b) (Some c) e = λ i. Some (e i ∷ a.vertex ∷ b.vertex ∷ c.vertex ∷ [])
  of_four l None b c e = refl
  of_four l (Some a) None c e = refl
  of_four l (Some a) (Some b) None e = refl

  pub of_triple : (l : Numbered) (i j k : ℕ) (a b c : Option Numbered) → l.vertex ≡ v → NumbersNeighbour d v i a → NumbersNeighbour d v j b → NumbersNeighbour d v k c →
      option_map (λ tet. tet.at) (tet_of_four l a b c) ≡ option_map (λ vs. v ∷ vs) (chosen (i ∷ j ∷ k ∷ []))
  of_triple l i j k a b c e p q r =
      of_four l a b c e ∙ (λ t. option_map (λ vs. v ∷ vs) (three (vertex_of_numbered i a p t) (vertex_of_numbered j b q t) (vertex_of_numbered k c r t)))

  -- the ids are the vertices'
  abbrev HasIds : Tet → Type 0
  HasIds tet = tet.ids ≡ map (id d) tet.at

  pub ids_of_four : (l : Numbered) (i j k : ℕ) (a b c : Option Numbered) → IsNumbered d l → NumbersNeighbour d v i a → NumbersNeighbour d v j b → NumbersNeighbour d v k c → IfSome (tet_of_four l a b c) HasIds
  ids_of_four l i j k (Some a) (Some b) (Some c) h p q r = λ t. h.number t ∷ p.1.number t ∷ q.1.number t ∷ r.1.number t ∷ []
  ids_of_four l i j k None b c h p q r = tt
  ids_of_four l i j k (Some a) None c h p q r = tt
  ids_of_four l i j k (Some a) (Some b) None h p q r = tt

  all_given : (P : Tet → Type 0) (o : Option Tet) (xs : List Tet) → IfSome o P → AllByRecursion P xs → AllByRecursion P (cons_option o xs)
  all_given P None xs h k = k
  all_given P (Some x) xs h k = (h, k)

  ids_of_all : (xs : List Tet) → AllByRecursion HasIds xs → map (λ tet. tet.ids) xs ≡ map (map (id d)) (map (λ tet. tet.at) xs)
  ids_of_all [] h = refl
  ids_of_all (x ∷ xs) h = λ i. h.0 i ∷ ids_of_all xs h.1 i

  members : {X : Type 0} (P : X → Type 0) (xs : List X) → ((x : X) → Has x xs → P x) → AllByRecursion P xs
  members P [] h = tt
  members P (x ∷ xs) h = (h x (inl refl), members P xs (λ y k. h y (inr k)))

  all_lattice : InDomain d v → AllByRecursion (IsLatticeTet d) (tets_from d v)
  unfolding lattice_tets
  all_lattice k = members (IsLatticeTet d) (tets_from d v) (λ t h. (lattice_tets_listed d t).0 (has_flat_map (tets_from d) v t (vertices d) (has_vertex d v k) h))

  from_map : (P : List Vertex → Type 0) (xs : List Tet) → AllByRecursion P (map (λ tet. tet.at) xs) → AllByRecursion (λ tet. P tet.at) xs
  from_map P [] h = tt
  from_map P (x ∷ xs) h = (h.0, from_map P xs h.1)

  both : (xs : List Tet) → AllByRecursion (λ tet. IsLatticeTet d tet.at) xs → AllByRecursion HasIds xs → AllByRecursion (λ tet. IsNumberedTet tet.at tet.ids) xs
  both [] h k = tt
  both (x ∷ xs) h k = (subst (λ ns. IsNumberedTet x.at ns) (sym k.0) (tet_ids_rise d x.at h.0), both xs h.1 k.1)

-- the seven later neighbours, with their ids
pub record Later (d : Dims) (v : Vertex) (l : Numbered) (o1 o2 o3 o4 o5 o6 o7 : Option Numbered) : Type 0 where
  pub is_v : l.vertex ≡ v
  pub lowest : IsNumbered d l
  pub first : NumbersNeighbour d v 1 o1
  pub second : NumbersNeighbour d v 2 o2
  pub third : NumbersNeighbour d v 3 o3
  pub fourth : NumbersNeighbour d v 4 o4
  pub fifth : NumbersNeighbour d v 5 o5
  pub sixth : NumbersNeighbour d v 6 o6
  pub seventh : NumbersNeighbour d v 7 o7

-- what the definition says of the list of tetrahedra
pub record AreTetsFrom (d : Dims) (v : Vertex) (tets : List Tet) : Type 0 where
  pub vertices : map (λ tet. tet.at) tets ≡ tets_from d v
  pub ids : map (λ tet. tet.ids) tets ≡ map (map (id d)) (tets_from d v)
  pub lattice : All (λ tet. IsLatticeTet d tet.at) tets
  pub numbered : All (λ tet. IsNumberedTet tet.at tet.ids) tets

module _ (d : Dims) (v : Vertex) (l : Numbered) (o1 o2 o3 o4 o5 o6 o7 : Option Numbered) (h : Later d v l o1 o2 o3 o4 o5 o6 o7) where
  abbrev pub six : List (Option Tet)
  six = tet_of_four l o1 o4 o6 ∷ tet_of_four l o2 o5 o6 ∷ tet_of_four l o3 o4 o7 ∷ tet_of_four l o3 o5 o7 ∷ tet_of_four l o4 o6 o7 ∷ tet_of_four l o5 o6 o7 ∷ []

  vertices_are : map (λ tet. tet.at) (given six) ≡ tets_from d v
  vertices_are =
      cons_alike (λ tet. tet.at) (λ vs. v ∷ vs) (tet_of_four l o1 o4 o6) (chosen d v (1 ∷ 4 ∷ 6 ∷ [])) _ _ (of_triple d v l 1 4 6 o1 o4 o6 h.is_v h.first h.fourth h.sixth)
      (cons_alike (λ tet. tet.at) (λ vs. v ∷ vs) (tet_of_four l o2 o5 o6) (chosen d v (2 ∷ 5 ∷ 6 ∷ [])) _ _ (of_triple d v l 2 5 6 o2 o5 o6 h.is_v h.second h.fifth h.sixth)
      (cons_alike (λ tet. tet.at) (λ vs. v ∷ vs) (tet_of_four l o3 o4 o7) (chosen d v (3 ∷ 4 ∷ 7 ∷ [])) _ _ (of_triple d v l 3 4 7 o3 o4 o7 h.is_v h.third h.fourth h.seventh)
      (cons_alike (λ tet. tet.at) (λ vs. v ∷ vs) (tet_of_four l o3 o5 o7) (chosen d v (3 ∷ 5 ∷ 7 ∷ [])) _ _ (of_triple d v l 3 5 7 o3 o5 o7 h.is_v h.third h.fifth h.seventh)
      (cons_alike (λ tet. tet.at) (λ vs. v ∷ vs) (tet_of_four l o4 o6 o7) (chosen d v (4 ∷ 6 ∷ 7 ∷ [])) _ _ (of_triple d v l 4 6 7 o4 o6 o7 h.is_v h.fourth h.sixth h.seventh)
      (cons_alike (λ tet. tet.at) (λ vs. v ∷ vs) (tet_of_four l o5 o6 o7) (chosen d v (5 ∷ 6 ∷ 7 ∷ [])) [] [] (of_triple d v l 5 6 7 o5 o6 o7 h.is_v h.fifth h.sixth h.seventh) refl)))))
      ∙ sym (tets_by_triples d v)

  ids_are : AllByRecursion (HasIds d v) (given six)
  ids_are =
      all_given d v (HasIds d v) (tet_of_four l o1 o4 o6) _ (ids_of_four d v l 1 4 6 o1 o4 o6 h.lowest h.first h.fourth h.sixth)
      (all_given d v (HasIds d v) (tet_of_four l o2 o5 o6) _ (ids_of_four d v l 2 5 6 o2 o5 o6 h.lowest h.second h.fifth h.sixth)
      (all_given d v (HasIds d v) (tet_of_four l o3 o4 o7) _ (ids_of_four d v l 3 4 7 o3 o4 o7 h.lowest h.third h.fourth h.seventh)
      (all_given d v (HasIds d v) (tet_of_four l o3 o5 o7) _ (ids_of_four d v l 3 5 7 o3 o5 o7 h.lowest h.third h.fifth h.seventh)
      (all_given d v (HasIds d v) (tet_of_four l o4 o6 o7) _ (ids_of_four d v l 4 6 7 o4 o6 o7 h.lowest h.fourth h.sixth h.seventh)
      (all_given d v (HasIds d v) (tet_of_four l o5 o6 o7) [] (ids_of_four d v l 5 6 7 o5 o6 o7 h.lowest h.fifth h.sixth h.seventh) tt)))))

  are_tets : InDomain d v → AreTetsFrom d v (given six)
  are_tets k =
      let all = from_map d v (IsLatticeTet d) (given six) (subst (AllByRecursion (IsLatticeTet d)) (sym vertices_are) (all_lattice d v k)) in
      record {
        vertices = vertices_are;
        ids = ids_of_all d v (given six) ids_are ∙ ap (map (map (id d))) vertices_are;
        lattice = all_by_place (λ tet. IsLatticeTet d tet.at) (given six) all;
        numbered = all_by_place (λ tet. IsNumberedTet tet.at tet.ids) (given six) (both d v (given six) all ids_are);
      }

  -- the tetrahedra that were pushed, one list after another
  pub pushed_are_tets : InDomain d v → (t1 t2 t3 t4 t5 t6 : List Tet) →
      t1 ≡ [] ++ option_to_list (tet_of_four l o1 o4 o6) → t2 ≡ t1 ++ option_to_list (tet_of_four l o2 o5 o6) → t3 ≡ t2 ++ option_to_list (tet_of_four l o3 o4 o7) →
      t4 ≡ t3 ++ option_to_list (tet_of_four l o3 o5 o7) → t5 ≡ t4 ++ option_to_list (tet_of_four l o4 o6 o7) → t6 ≡ t5 ++ option_to_list (tet_of_four l o5 o6 o7) → AreTetsFrom d v t6
  pushed_are_tets k t1 t2 t3 t4 t5 t6 e1 e2 e3 e4 e5 e6 =
      subst (AreTetsFrom d v) (sym (all ∙ pushed_given six [])) (are_tets k)
    where
      more : {X : Type 0} (s t : List X) (o : Option X) {u : List X} → u ≡ t ++ option_to_list o → t ≡ s → u ≡ s ++ option_to_list o
      more s t o e f = e ∙ ap (λ z. z ++ option_to_list o) f

      all : t6 ≡ pushed [] six
      all = more _ t5 _ e6 (more _ t4 _ e5 (more _ t3 _ e4 (more _ t2 _ e3 (more _ t1 _ e2 e1))))
