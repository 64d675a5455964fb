-- Tetrahedra whose angles can be measured.
use Rattle.std.proofs.Common.{◌≡◌, ℕ, suc, ◌+◌, ◌-◌, ◌<◌, ◌≤◌, arith, ◌∙◌, ap, subst, List, [], ◌∷◌, ◌++◌, All, map, length, get_or}
use Rattle.std.specs.Prelude.{flat_map}
use Rattle.std.specs.List.{range_with_len}
use Rattle.std.proofs.lemmas.List.{map-append}
use Rattle.std.proofs.lemmas.List.Concat.{flat_map-append}
use Rattle.list_words.proofs.Ranges.{range_add}
use Rattle.list_words.proofs.Lists.{all_left, all_right}
use Rattle.definitions.specs.declared.Dims.{Dims}
use Rattle.definitions.specs.declared.State.{State}
use Rattle.definitions.specs.Mesh.{node_keys, number_of}
use Rattle.mesh_lists.specs.Parts.{numbered}
use Rattle.slab_texts.specs.declared.nodes.Nodes.{Nodes}
use Rattle.slab_texts.specs.Texts.{AreMeasuredIn, IsMeasured}

-- one of them
pub one_measured : (n : Nodes) (tets : List (List ℕ)) (i : ℕ) (d : List ℕ) → i < length tets → AreMeasuredIn n tets → AreMeasuredIn n (get_or tets i d ∷ [])
one_measured n tets i d lt h = record { all = h.all; row = h.row; measured = single (IsMeasured h.all) (get_or tets i d) (h.measured i d lt) }
  where
    single : (P : List ℕ → Type 0) (t : List ℕ) → P t → All P (t ∷ [])
    single P t p = λ k z lt. subst (λ (m : ℕ). P (get_or (t ∷ []) m z)) (let e : 0 ≡ k = omega arith in e) p

-- those of one id
pub at_id : (P : List ℕ → Type 0) (d : Dims) (ss : List State) (f : ℕ → List (List ℕ)) (a n b : ℕ) → a ≤ n → n < b → All P (numbered d ss (flat_map f (range_with_len a (b - a)))) → All P (numbered d ss (f n))
at_id P d ss f a n b le lt h =
    let g = map (number_of (node_keys d ss)) in
    let here : range_with_len a (b - a) ≡ range_with_len a (n - a) ++ (n ∷ range_with_len (n + 1) (b - n - 1)) =
    ap (range_with_len a) (sums a n b le lt) ∙ range_add a (n - a) (suc (b - n - 1)) ∙ ap (λ m. range_with_len a (n - a) ++ (m ∷ range_with_len (m + 1) (b - n - 1))) (back a n le)
    in
    let parts : numbered d ss (flat_map f (range_with_len a (b - a))) ≡ map g (flat_map f (range_with_len a (n - a))) ++ (map g (f n) ++ map g (flat_map f (range_with_len (n + 1) (b - n - 1)))) =
    ap (λ l. map g (flat_map f l)) here ∙ ap (map g) (flat_map-append f (range_with_len a (n - a)) (n ∷ range_with_len (n + 1) (b - n - 1)))
    ∙ map-append g (flat_map f (range_with_len a (n - a))) (f n ++ flat_map f (range_with_len (n + 1) (b - n - 1)))
    ∙ ap (λ l. map g (flat_map f (range_with_len a (n - a))) ++ l) (map-append g (f n) (flat_map f (range_with_len (n + 1) (b - n - 1))))
    in
    all_left P (map g (f n)) (map g (flat_map f (range_with_len (n + 1) (b - n - 1)))) (all_right P (map g (flat_map f (range_with_len a (n - a)))) _ (subst (All P) parts h))
  where
    sums : (a n b : ℕ) → a ≤ n → n < b → b - a ≡ (n - a) + suc (b - n - 1)
    sums a n b p q = omega arith

    back : (a n : ℕ) → a ≤ n → a + (n - a) ≡ n
    back a n p = omega arith
