-- The texts and the extremes of parts of slabs, and those of all slabs.
use Rattle.std.proofs.Common.{◌≡◌, ◌⊎◌, ℕ, suc, ◌+◌, ◌-◌, ◌*◌, ◌<◌, ◌≤◌, ◌^◌, arith, refl, sym, ◌∙◌, ap, subst, inl, inr, List, [], ◌∷◌, ◌++◌, All, min, length, get_or, take, drop, Option, None}
use Rattle.std.specs.Prelude.{flat_map}
use Rattle.std.specs.List.{range_with_len}
use Rattle.std.specs.Io.KnownBytes.{Appends}
use Rattle.std.proofs.lemmas.List.{append-nil, take-append-drop, take_all, take_more}
use Rattle.std.proofs.lemmas.List.Concat.{flat_map-append}
use Rattle.list_words.proofs.Ranges.{range_add}
use Rattle.definitions.specs.declared.Extreme.{Extreme}
use Rattle.definitions.specs.declared.Extremes.{Extremes}
use Rattle.definitions.specs.Angles.{extremes_of}
use Rattle.definitions.specs.Lattice.{layers}
use Rattle.definitions.specs.Layout.{slab_from, slab_to, slabs}
use Rattle.definitions.specs.Mesh.{layer_pieces}
use Rattle.dihedral.specs.Fractions.{IsAngle}
use Rattle.node_ele_write.proofs.Pieces.{part_behind, part_longer}
use Rattle.mesh_lists.specs.Parts.{mesh_of, numbered}
use Rattle.slab_texts.specs.Spans.{span_pieces, span_tets}
use Rattle.slab_texts.specs.Texts.{IsMeasured}
use Rattle.slab_texts.proofs.Joining.{angles_are_fractions, slabs_join, tets_hold}
use Rattle.slab_texts.proofs.SpanIds.{extremes_of_none}
use Rattle.st_base.specs.Desk.{AppendsPart}
use Rattle.slab_emit.specs.declared.Lines.{Lines}
use Rattle.slab_emit.specs.declared.Lines.TheVariants.{Nodes, Tets, Angles}
use Rattle.slab_emit.specs.declared.Part.{Part}
use Rattle.mesh_rounds.specs.Rounds.{IsReached, all_extremes, all_lines, extremes_to, text_of}
use Rattle.slab_emit.specs.Parts.{AreParts, IsPart}
use Rattle.slab_emit.specs.Sources.{AreMeasured, SourceValue, slab_angles, slab_extremes, slab_lines}

-- as many slabs are done as there are
pub at_end : (done count all : ℕ) → done ≤ all → count ≡ all → count ≤ done → done ≡ all
at_end done count all within same no_more = omega arith

-- ---- texts

pub parts_text : (lines : Lines) (s : SourceValue) (first : ℕ) (ps : List Part) → AreParts lines s first ps → text_of ps ≡ flat_map (slab_lines lines s) (range_with_len first (length ps))
parts_text lines s first [] h = refl
parts_text lines s first (p ∷ ps) h =
    let here = (h.each 0 p (omega arith)).text ∙ ap (slab_lines lines s) (let e : first + 0 ≡ first = omega arith in e) in
    (λ i. here i ++ parts_text lines s (first + 1) ps (record { each = λ k d lt. subst (λ n. IsPart lines s n (get_or ps k d)) (let e : first + suc k ≡ first + 1 + k = omega arith in e) (h.each (suc k) d (omega arith)) }) i)

pub text_more : (ps : List Part) (n : ℕ) (d : Part) → n < length ps → text_of (take n ps) ++ (get_or ps n d).text.items ≡ text_of (take (n + 1) ps)
text_more ps n d lt =
    ap (λ l. text_of (take n ps) ++ l) (sym (append-nil (get_or ps n d).text.items))
    ∙ sym (flat_map-append (λ (p : Part). p.text.items) (take n ps) (get_or ps n d ∷ [])) ∙ ap text_of (sym (take_more ps n d lt))

text_split : (ps : List Part) (n : ℕ) → text_of (take n ps) ++ text_of (drop n ps) ≡ text_of ps
text_split ps n = sym (flat_map-append (λ (p : Part). p.text.items) (take n ps) (drop n ps)) ∙ ap text_of (take-append-drop n ps)

-- some of a part was written
pub part_broke : (a b c : Option (List ℕ)) (ps : List Part) (n : ℕ) (d : Part) → n < length ps → Appends a b (text_of (take n ps)) → AppendsPart b c (get_or ps n d).text.items → AppendsPart a c (text_of ps)
part_broke a b c ps n d lt h k =
    subst (λ (t : List ℕ). AppendsPart a c t) (text_split ps (n + 1))
    (part_longer a c (text_of (take (n + 1) ps)) (text_of (drop (n + 1) ps))
    (subst (λ (t : List ℕ). AppendsPart a c t) (text_more ps n d lt) (part_behind a b c (text_of (take n ps)) (get_or ps n d).text.items h k)))

pub front_part : (a b : Option (List ℕ)) (xs ys : List ℕ) → Appends a b xs → AppendsPart a b (xs ++ ys)
front_part a b xs ys h = part_longer a b xs ys (length xs, omega arith, subst (λ (t : List ℕ). Appends a b t) (sym (take_all (length xs) xs (omega arith))) h)

-- slabs in a row
pub slabs_then : {X : Type 0} (f : ℕ → List X) (m n : ℕ) → flat_map f (range_with_len 0 m) ++ flat_map f (range_with_len m n) ≡ flat_map f (range_with_len 0 (m + n))
slabs_then f m n =
    ap (λ k. flat_map f (range_with_len 0 m) ++ flat_map f (range_with_len k n)) (let e : m ≡ 0 + m = omega arith in e)
    ∙ sym (ap (flat_map f) (range_add 0 m n) ∙ flat_map-append f (range_with_len 0 m) (range_with_len (0 + m) n))

no_lines : (s : SourceValue) (js : List ℕ) → flat_map (slab_lines Angles s) js ≡ []
no_lines s [] = refl
no_lines s (j ∷ js) = no_lines s js

pub all_slabs : (lines : Lines) (s : SourceValue) → 0 < s.slab → flat_map (slab_lines lines s) (range_with_len 0 (slabs s.field.dims s.slab)) ≡ all_lines lines s
all_slabs (Nodes frame first) s some = (slabs_join s.field s.states s.slab some).nodes frame first
all_slabs (Tets first) s some = (slabs_join s.field s.states s.slab some).tets first
all_slabs Angles s some = no_lines s (range_with_len 0 (slabs s.field.dims s.slab))

-- the first slabs are a front of all
front_of : (lines : Lines) (s : SourceValue) (m : ℕ) → 0 < s.slab → m ≤ slabs s.field.dims s.slab →
    flat_map (slab_lines lines s) (range_with_len 0 m) ++ flat_map (slab_lines lines s) (range_with_len m (slabs s.field.dims s.slab - m)) ≡ all_lines lines s
front_of lines s m some le =
    slabs_then (slab_lines lines s) m (slabs s.field.dims s.slab - m)
    ∙ ap (λ n. flat_map (slab_lines lines s) (range_with_len 0 n)) (back m (slabs s.field.dims s.slab) le) ∙ all_slabs lines s some
  where
    back : (m n : ℕ) → m ≤ n → m + (n - m) ≡ n
    back m n h = omega arith

pub stopped : (lines : Lines) (s : SourceValue) (m : ℕ) (a b : Option (List ℕ)) → 0 < s.slab → m ≤ slabs s.field.dims s.slab → Appends a b (flat_map (slab_lines lines s) (range_with_len 0 m)) → AppendsPart a b (all_lines lines s)
stopped lines s m a b some le h =
    subst (λ (t : List ℕ). AppendsPart a b t) (front_of lines s m some le)
    (front_part a b (flat_map (slab_lines lines s) (range_with_len 0 m)) (flat_map (slab_lines lines s) (range_with_len m (slabs s.field.dims s.slab - m))) h)

pub broke : (lines : Lines) (s : SourceValue) (m : ℕ) (ps : List Part) (a b c : Option (List ℕ)) → 0 < s.slab → m + length ps ≤ slabs s.field.dims s.slab → AreParts lines s m ps →
    Appends a b (flat_map (slab_lines lines s) (range_with_len 0 m)) → AppendsPart b c (text_of ps) → AppendsPart a c (all_lines lines s)
broke lines s m ps a b c some le are h k =
    let f = slab_lines lines s in
    let n = length ps in
    subst (λ (t : List ℕ). AppendsPart a c t) (front_of lines s (m + n) some le)
    (part_longer a c (flat_map f (range_with_len 0 (m + n))) (flat_map f (range_with_len (m + n) (slabs s.field.dims s.slab - (m + n))))
    (subst (λ (t : List ℕ). AppendsPart a c t) (ap (λ l. flat_map f (range_with_len 0 m) ++ l) (parts_text lines s m ps are) ∙ slabs_then f m n)
    (part_behind a b c (flat_map f (range_with_len 0 m)) (text_of ps) h k)))

-- ---- extremes

no_tets : (s : SourceValue) (from to : ℕ) → to < from → span_tets s.field.dims s.states from to ≡ []
unfolding span_pieces
no_tets s from to b = ap (λ n. numbered s.field.dims s.states (flat_map (layer_pieces s.field.dims s.states) (range_with_len from n))) (let e : to - from ≡ 0 = omega arith in e)

from_or_none : (P : List ℕ → Type 0) (s : SourceValue) (from to : ℕ) → to ≤ layers s.field.dims → All P (mesh_of s.field s.states).tets → All P (span_tets s.field.dims s.states from to)
from_or_none P s from to le h = elim (either from to) [
  | inl a ↦ tets_hold P s.field s.states from to a le h
  | inr b ↦ subst (λ (ts : List (List ℕ)). All P ts) (sym (no_tets s from to b)) (λ k d lt. absurd (omega arith))
]
  where
    either : (a b : ℕ) → (a ≤ b) ⊎ (b < a)
    either a b = grind arith

slab_is_fractions : (s : SourceValue) (j : ℕ) → AreMeasured s → All IsAngle (slab_angles s j)
slab_is_fractions s j h =
    angles_are_fractions s.field s.states (slab_from s.slab j) (slab_to s.field.dims s.slab j)
    (from_or_none (IsMeasured (mesh_of s.field s.states).places) s (slab_from s.slab j) (slab_to s.field.dims s.slab j) (capped (2 * s.slab * (j + 1)) (layers s.field.dims)) h)
  where
    capped : (a l : ℕ) → min a l ≤ l
    capped a l = omega arith

-- what folding does
abbrev pub Folds : Option Extremes → Option Extremes → Option Extremes → Type 0
Folds a b r = (xs ys : List Extreme) → All IsAngle ys → a ≡ extremes_of xs → b ≡ extremes_of ys → r ≡ extremes_of (xs ++ ys)

tets_more : (s : SourceValue) (m : ℕ) (a b r : Option Extremes) → AreMeasured s → a ≡ extremes_of (flat_map (slab_angles s) (range_with_len 0 m)) → b ≡ extremes_of (slab_angles s m) → Folds a b r → r ≡ extremes_of (flat_map (slab_angles s) (range_with_len 0 (m + 1)))
tets_more s m a b r measured h k f =
    f (flat_map (slab_angles s) (range_with_len 0 m)) (slab_angles s m) (slab_is_fractions s m measured) h k
    ∙ ap extremes_of (ap (λ l. flat_map (slab_angles s) (range_with_len 0 m) ++ l) (sym (append-nil (slab_angles s m))) ∙ slabs_then (slab_angles s) m 1)

pub found_more : (lines : Lines) (s : SourceValue) (m : ℕ) (a b r : Option Extremes) → AreMeasured s → a ≡ extremes_to lines s m → b ≡ slab_extremes lines s m → Folds a b r → r ≡ extremes_to lines s (m + 1)
found_more (Nodes frame first) s m a b r measured h k f = f [] [] (λ i d lt. absurd (omega arith)) (h ∙ extremes_of_none) (k ∙ extremes_of_none) ∙ sym extremes_of_none
found_more (Tets first) s m a b r measured h k f = tets_more s m a b r measured h k f
found_more Angles s m a b r measured h k f = tets_more s m a b r measured h k f

found_none : (lines : Lines) (s : SourceValue) → None ≡ extremes_to lines s 0
found_none (Nodes frame first) s = refl
found_none (Tets first) s = extremes_of_none
found_none Angles s = extremes_of_none

-- before the first round
pub none_reached : (lines : Lines) (s : SourceValue) → slabs s.field.dims s.slab ≤ 2 ^ 23 → AreMeasured s → IsReached lines s (record { first = 0; found = None })
none_reached lines s small measured = record { within = omega arith; small = small; measured = measured; found = found_none lines s; fractions = λ x e. (let q = e in cc) }

pub found_all : (lines : Lines) (s : SourceValue) (found : Option Extremes) → 0 < s.slab → found ≡ extremes_to lines s (slabs s.field.dims s.slab) → found ≡ all_extremes lines s
found_all (Nodes frame first) s found some h = h
found_all (Tets first) s found some h = h ∙ ap extremes_of (slabs_join s.field s.states s.slab some).angles
found_all Angles s found some h = h ∙ ap extremes_of (slabs_join s.field s.states s.slab some).angles
