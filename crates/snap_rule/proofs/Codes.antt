-- The words that are written are codes, and lead back to the states.
use Rattle.std.proofs.Common.{◌≡◌, ℕ, ◌+◌, ◌*◌, ◌/◌, ◌%◌, ◌≤◌, ◌⊎◌, inl, inr, arith, refl, sym, ◌∙◌, ap, subst, true, false, ◌&&◌, ◌||◌, nat_eq, nat_le, List, [], ◌∷◌, map}
use Rattle.std.specs.Prelude.{IsTrue, if◌then◌else◌}
use Rattle.std.specs.List.{AllByRecursion}
use Rattle.std.proofs.lemmas.Bool.Decides.{nat_tests}
use Rattle.std.proofs.lemmas.List.{length-map}
use Rattle.definitions.specs.declared.Vertex.{Vertex}
use Rattle.definitions.specs.declared.State.{State}
use Rattle.definitions.specs.declared.State.TheVariants as state
use Rattle.definitions.specs.Lattice.{IsDims, InDomain, vertices}
use Rattle.definitions.specs.Values.{Field}
use Rattle.definitions.specs.States.{IsState, Shares, code, state_of, states}
use Rattle.lattice_laws.proofs.Sublists.{all_by_place}
use Rattle.lattice_laws.proofs.Vertices.{from_vertices}
use Rattle.lattice_laws.proofs.Members.{all_from_members}
use Rattle.snap_laws.proofs.StatesAre.{states_are_states}
use Rattle.snap_rule.specs.Codes.{is_code, state_of_code, AreCodes}

-- the word of a Zero vertex
record ZeroWord (edge k : ℕ) : Type 0 where
  pub kind : (2 + 4 * edge + 64 * k) % 4 ≡ 2
  pub edge_is : (2 + 4 * edge + 64 * k) / 4 % 16 ≡ edge
  pub k_is : (2 + 4 * edge + 64 * k) / 64 ≡ k
  pub no_one : nat_eq (2 + 4 * edge + 64 * k) 1 ≡ false
  pub no_three : nat_eq (2 + 4 * edge + 64 * k) 3 ≡ false

zero_word : (edge k : ℕ) → edge ≤ 14 → ZeroWord edge k
zero_word edge k h = record {
  kind = omega arith;
  edge_is = omega arith;
  k_is = omega arith;
  no_one = grind (arith, nat_tests);
  no_three = other edge k;
}
  where
    other : (edge k : ℕ) → nat_eq (2 + 4 * edge + 64 * k) 3 ≡ false
    other edge k = let e : (2 + 4 * edge + 64 * k) % 2 ≡ 0 = omega arith in grind (arith, nat_tests)

-- back from the code of a state
pub decoded : (s : State) → IsState s → (state_of_code (code s) ≡ s) × (is_code (code s) ≡ true)
decoded state.Minus h = (refl, refl)
decoded state.Plus h = (refl, refl)
decoded (state.Zero edge k) h =
    let w = zero_word edge k (small h) in (
      (λ i. if w.no_one i then state.Minus else if w.no_three i then state.Plus else state.Zero (w.edge_is i) (w.k_is i)),
      (λ i. w.no_one i || (w.no_three i || (nat_eq (w.kind i) 2 && ((nat_eq (w.edge_is i) 0 && nat_eq (w.k_is i) 0) || (nat_le 1 (w.edge_is i) && (nat_le (w.edge_is i) 14 && nat_le (w.k_is i) 4096)))))) ∙ passes h,
    )
  where
    small : ((edge ≡ 0) × (k ≡ 0)) ⊎ ((1 ≤ edge) × (edge ≤ 14) × (k ≤ 4096)) → edge ≤ 14
    small (inl p) = let e = p.0 in omega arith
    small (inr p) = p.1

    passes : ((edge ≡ 0) × (k ≡ 0)) ⊎ ((1 ≤ edge) × (edge ≤ 14) × (k ≤ 4096)) → ((nat_eq edge 0 && nat_eq k 0) || (nat_le 1 edge && (nat_le edge 14 && nat_le k 4096))) ≡ true
    passes (inl p) = (λ i. (nat_eq (p.0 i) 0 && nat_eq (p.1 i) 0) || (nat_le 1 (p.0 i) && (nat_le (p.0 i) 14 && nat_le (p.1 i) 4096)))
    passes (inr p) = let a = p.0 in let b = p.1 in let c = p.2 in grind (arith, nat_tests)

module _ (f : Field) (s : Shares) where
  abbrev word_of : Vertex → ℕ
  word_of v = code (state_of f s v)

  all_inside : AllByRecursion (InDomain f.dims) (vertices f.dims)
  all_inside = all_from_members (InDomain f.dims) (vertices f.dims) (from_vertices f.dims)

  all_codes : (vs : List Vertex) → AllByRecursion (InDomain f.dims) vs → AllByRecursion (λ word. IsTrue (is_code word)) (map word_of vs)
  all_codes [] h = tt
  all_codes (v ∷ vs) h = ((decoded (state_of f s v) (states_are_states f s v h.0)).1, all_codes vs h.1)

  all_decoded : (vs : List Vertex) → AllByRecursion (InDomain f.dims) vs → map state_of_code (map word_of vs) ≡ map (state_of f s) vs
  all_decoded [] h = refl
  all_decoded (v ∷ vs) h = λ i. (decoded (state_of f s v) (states_are_states f s v h.0)).0 i ∷ all_decoded vs h.1 i

  -- the words of all vertices
  pub are_codes : IsDims f.dims → (words : List ℕ) → words ≡ map word_of (vertices f.dims) → AreCodes f.dims words
  are_codes is words e = subst (AreCodes f.dims) (sym e) (record {
    sizes = is;
    whole = length-map (vertices f.dims) word_of;
    each = all_by_place (λ word. IsTrue (is_code word)) (map word_of (vertices f.dims)) (all_codes (vertices f.dims) all_inside);
  })

  pub states_decoded : (words : List ℕ) → words ≡ map word_of (vertices f.dims) → map state_of_code words ≡ states f s
  unfolding states
  states_decoded words e = ap (map state_of_code) e ∙ all_decoded (vertices f.dims) all_inside
