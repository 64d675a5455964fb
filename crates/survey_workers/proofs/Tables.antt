-- Counts in a table by layers.
use Rattle.std.proofs.Common.{◌≡◌, ◌≢◌, ◌⊎◌, inl, inr, ℕ, zero, suc, ◌+◌, ◌/◌, ◌*◌, ◌<◌, ◌≤◌, ◌==◌, List, [], ◌∷◌, ◌++◌, get_or, length, map, set, true, false, refl, sym, ap, ◌∙◌, subst, ⊎_elim, arith}
use Rattle.std.specs.List.{range_with_len}
use Rattle.std.proofs.lemmas.Bool.Decides.{nat_tests}
use Rattle.std.proofs.lemmas.List.{get_or-set_same, get_or-set_other, length-set}
use Rattle.std.proofs.lemmas.List.Concat.{flat_map-append}
use Rattle.std.proofs.lemmas.Bool.{both_ways, or_cases, or_left, or_right, cases_eq}
use Rattle.definitions.specs.declared.Dims.{Dims}
use Rattle.definitions.specs.Lattice.{layers}
use Rattle.definitions.specs.Layout.{slabs}
use Rattle.definitions.specs.States.{states}
use Rattle.list_words.specs.Words.{has, EachOnce}
use Rattle.list_words.proofs.Lists.{has_append, each_stands}
use Rattle.layer_cells.specs.Seats.{Subject}
use Rattle.vertex_numbers.specs.declared.LayerCount.{LayerCount}
use Rattle.vertex_numbers.specs.Counts.{count_of_layer, layer_counts}
use Rattle.slab_survey.specs.Layers.{counts_of_layers, slab_layers}
use Rattle.survey_workers.specs.Going.{layers_of}
use Rattle.survey_workers.specs.Tables.{with_counts, AreRight, IsRight}
use Rattle.survey_workers.proofs.Slabs.{slab_of}

pub filled_length : (table cs : List LayerCount) → length (with_counts table cs) ≡ length table
filled_length table [] = refl
filled_length table (c ∷ cs) = filled_length (set table c.h c) cs ∙ length-set table c.h c

pub filled_push : (table cs : List LayerCount) (c : LayerCount) → with_counts table (cs ++ c ∷ []) ≡ set (with_counts table cs) c.h c
filled_push table [] c = refl
filled_push table (x ∷ xs) c = filled_push (set table x.h x) xs c

-- what the table has of a layer stays right as right counts are put in, and is right once the layer's are
set_right : (a : Subject) (table : List LayerCount) (g h : ℕ) → (g ≡ h) ⊎ IsRight a table h → IsRight a (set table g (count_of_layer a.field.dims (states a.field a.shares) g)) h
set_right a table g h which e lt =
    let w : LayerCount = count_of_layer a.field.dims (states a.field a.shares) g in
    let l = length-set table g w in
    ⊎_elim
    (λ (same : g ≡ h). subst (λ (k : ℕ). get_or (set table g w) k e ≡ count_of_layer a.field.dims (states a.field a.shares) k) same (get_or-set_same table g w e (omega arith)))
    (λ (right : IsRight a table h). ⊎_elim
    (λ (s : h ≡ g). subst (λ (k : ℕ). get_or (set table g w) k e ≡ count_of_layer a.field.dims (states a.field a.shares) k) (sym s) (get_or-set_same table g w e (omega arith)))
    (λ (o : h ≢ g). get_or-set_other table g h w e o ∙ right e (omega arith))
    (cases_eq h g))
    which

pub stays_right : (a : Subject) (hs : List ℕ) (table : List LayerCount) (h : ℕ) → IsRight a table h → IsRight a (with_counts table (counts_of_layers a hs)) h
stays_right a [] table h r = r
stays_right a (g ∷ gs) table h r = stays_right a gs (set table g (count_of_layer a.field.dims (states a.field a.shares) g)) h (set_right a table g h (inr r))

pub gets_right : (a : Subject) (hs : List ℕ) (table : List LayerCount) → AreRight a (with_counts table (counts_of_layers a hs)) hs
gets_right a [] table h e = absurd (both_ways false refl e)
gets_right a (g ∷ gs) table h e = ⊎_elim
    (λ (s : (g == h) ≡ true). stays_right a gs (set table g (count_of_layer a.field.dims (states a.field a.shares) g)) h (set_right a table g h (inl (let same : g ≡ h = grind (arith, nat_tests) in same))))
    (λ (o : has h gs ≡ true). gets_right a gs (set table g (count_of_layer a.field.dims (states a.field a.shares) g)) h o)
    (or_cases (g == h) (has h gs) e)

-- the counts of more slabs are put in
pub fills : (a : Subject) (d : Dims) (t : ℕ) (before drawn : List ℕ) (table : List LayerCount) → AreRight a table (layers_of d t before) → AreRight a (with_counts table (counts_of_layers a (layers_of d t drawn))) (layers_of d t (before ++ drawn))
fills a d t before drawn table right h e = ⊎_elim
    (λ (b : has h (layers_of d t before) ≡ true). stays_right a (layers_of d t drawn) table h (right h b))
    (λ (n : has h (layers_of d t drawn) ≡ true). gets_right a (layers_of d t drawn) table h n)
    (or_cases (has h (layers_of d t before)) (has h (layers_of d t drawn)) (sym (has_append h (layers_of d t before) (layers_of d t drawn)) ∙ ap (has h) (sym (flat_map-append (slab_layers d t) before drawn)) ∙ e))

-- a layer of one of these slabs is among their layers
pub in_layers : (d : Dims) (t j h : ℕ) (drawn : List ℕ) → has j drawn ≡ true → has h (slab_layers d t j) ≡ true → has h (layers_of d t drawn) ≡ true
in_layers d t j h [] e k = absurd (both_ways false refl e)
in_layers d t j h (x ∷ xs) e k = has_append h (slab_layers d t x) (layers_of d t xs) ∙ ⊎_elim
    (λ (s : (x == j) ≡ true). or_left (has h (slab_layers d t x)) (has h (layers_of d t xs)) (let same : x ≡ j = grind (arith, nat_tests) in ap (λ (i : ℕ). has h (slab_layers d t i)) same ∙ k))
    (λ (o : has j xs ≡ true). or_right (has h (slab_layers d t x)) (has h (layers_of d t xs)) (in_layers d t j h xs o k))
    (or_cases (x == j) (has j xs) e)

-- where each slab is drawn, the table has all counts
pub all_right : (a : Subject) (d : Dims) (t : ℕ) (drawn : List ℕ) (table : List LayerCount) → d ≡ a.field.dims → 1 ≤ t → EachOnce (slabs d t) drawn → length table ≡ layers d → AreRight a table (layers_of d t drawn) → table ≡ layer_counts a.field.dims (states a.field a.shares)
all_right a d t drawn table is some once len right =
    let f = count_of_layer a.field.dims (states a.field a.shares) in
    let l : length table ≡ layers a.field.dims = len ∙ ap layers is in
    filled f (layers a.field.dims) table l (λ h lt e.
    let s = slab_of d t h some (subst (λ (c : Dims). h < layers c) (sym is) lt) in
    right h (in_layers d t (h / (2 * t)) h drawn (each_stands (slabs d t) (h / (2 * t)) drawn once s.0) s.1) e (omega arith))
  where
    filled : (f : ℕ → LayerCount) (n : ℕ) (table : List LayerCount) → length table ≡ n → ((h : ℕ) → h < n → (e : LayerCount) → get_or table h e ≡ f h) → table ≡ map f (range_with_len 0 n)
    filled f n table len each = from f table 0 n len (λ k lt e. each k lt e ∙ ap f (let z : k ≡ 0 + k = omega arith in z))
      where
        from : (f : ℕ → LayerCount) (table : List LayerCount) (a n : ℕ) → length table ≡ n → ((k : ℕ) → k < n → (e : LayerCount) → get_or table k e ≡ f (a + k)) → table ≡ map f (range_with_len a n)
        from f [] a zero len each = refl
        from f [] a (suc n) len each = absurd (omega arith)
        from f (x ∷ xs) a zero len each = absurd (omega arith)
        from f (x ∷ xs) a (suc n) len each = λ i. (each 0 (omega arith) x ∙ ap f (let z : a + 0 ≡ a = omega arith in z)) i ∷ from f xs (a + 1) n (omega arith) (λ k lt e. each (suc k) (omega arith) e ∙ ap f (let z : a + suc k ≡ a + 1 + k = omega arith in z)) i
