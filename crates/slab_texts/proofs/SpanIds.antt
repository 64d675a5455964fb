-- The ids of the vertices of some layers: where they begin and end, and where those of the two layers above end.
use Rattle.std.proofs.Common.{◌≡◌, ℕ, ◌+◌, ◌-◌, ◌*◌, ◌^◌, ◌<◌, ◌≤◌, arith, sym, ◌∙◌, subst, length, min, List, [], None, refl}
use Rattle.std.specs.Prelude.{flat_map}
use Rattle.std.specs.List.{range_with_len}
use Rattle.definitions.specs.declared.Dims.{Dims}
use Rattle.definitions.specs.declared.State.{State}
use Rattle.definitions.specs.Angles.{extremes_of}
use Rattle.definitions.specs.Lists as lists
use Rattle.definitions.specs.Lattice.{IsDims, layers, vertex_at, vertices}
use Rattle.definitions.specs.Layout.{layer_start}
use Rattle.lattice_counts.proofs.Ranks.{all_small}
use Rattle.node_laws.proofs.Layers.{all_start}
use Rattle.vertex_numbers.proofs.LayerStarts.{starts_rise}
use Rattle.mesh_lists.specs.Layers.{HoldLayers}
use Rattle.slab_texts.specs.Nodes.{pieces_at}
use Rattle.slab_texts.specs.Spans.{span_pieces}
use Rattle.slab_texts.proofs.Spans.{pieces_by_ids}
use Rattle.slab_texts.proofs.Walks.{hold_span}

-- the first id of the layers, the first past them, and the first past the two above
pub record AreIds (d : Dims) (from to top start mid end : ℕ) : Type 0 where
  pub some : from < to
  pub within : to ≤ layers d
  pub top_is : top ≡ min (to + 2) (layers d)
  pub start_is : start ≡ layer_start d from
  pub mid_is : mid ≡ layer_start d to
  pub end_is : end ≡ layer_start d top

module _ (d : Dims) (from to top start mid end : ℕ) (h : AreIds d from to top start mid end) where
  top_low : to ≤ top
  top_low = let e = h.top_is in let w = h.within in omega arith

  top_high : top ≤ layers d
  top_high = let e = h.top_is in omega arith

  pub mid_after : start ≤ mid
  mid_after = let r = starts_rise d from to (let s = h.some in omega arith) h.within in let s = h.start_is in let m = h.mid_is in chain start mid (layer_start d from) (layer_start d to) s m r
    where
      chain : (a b s t : ℕ) → a ≡ s → b ≡ t → s ≤ t → a ≤ b
      chain a b s t e f r = omega arith

  pub mid_before : mid ≤ end
  mid_before = let r = starts_rise d to top top_low top_high in chain mid end (layer_start d to) (layer_start d top) h.mid_is h.end_is r
    where
      chain : (a b s t : ℕ) → a ≡ s → b ≡ t → s ≤ t → a ≤ b
      chain a b s t e f r = omega arith

  pub end_within : end ≤ length (vertices d)
  end_within = let r = starts_rise d top (layers d) top_high (omega arith) in chain end (layer_start d top) (layer_start d (layers d)) (length (vertices d)) h.end_is r (all_start d)
    where
      chain : (a s t l : ℕ) → a ≡ s → s ≤ t → t ≡ l → a ≤ l
      chain a s t l e r f = omega arith

  pub mid_within : mid ≤ length (vertices d)
  mid_within = let a = mid_before in let b = end_within in omega arith

  pub holds : (n : ℕ) → start ≤ n → n < mid → HoldLayers d (vertex_at d n).h start end
  holds n low high =
      subst (λ (a : ℕ). HoldLayers d (vertex_at d n).h a end) (sym h.start_is)
      (subst (λ (b : ℕ). HoldLayers d (vertex_at d n).h (layer_start d from) b) (sym h.end_is)
      (hold_span d from to top n (let s = h.some in omega arith) h.within h.top_is (subst (λ (a : ℕ). a ≤ n) h.start_is low) (subst (λ (b : ℕ). n < b) h.mid_is high)))

  pub room : (ss : List State) → IsDims d → (count below : ℕ) → count ≡ below → below < 2 ^ 32 → count + 18 * (mid - start) < 2 ^ 63
  room ss is count below e few = small count below mid start (length (vertices d)) e few mid_within (all_small d is)
    where
      small : (c b m s l : ℕ) → c ≡ b → b < 2 ^ 32 → m ≤ l → l ≤ 2 ^ 27 → c + 18 * (m - s) < 2 ^ 63
      small c b m s l e f g k = omega arith

  pub pieces_are : (ss : List State) → IsDims d → flat_map (pieces_at d ss) (range_with_len start (mid - start)) ≡ span_pieces d ss from to
  pieces_are ss is =
      (λ i. flat_map (pieces_at d ss) (range_with_len (h.start_is i) (h.mid_is i - h.start_is i)))
      ∙ sym (pieces_by_ids d ss is from to (let s = h.some in omega arith) h.within)

pub extremes_of_none : None ≡ extremes_of []
unfolding extremes_of lists.least_by
extremes_of_none = refl
