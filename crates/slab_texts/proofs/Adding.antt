-- Lines of tetrahedra, one after another.
use Rattle.std.proofs.Common.{◌≡◌, ℕ, ◌+◌, arith, refl, sym, ◌∙◌, ap, Bool, true, false, List, [], ◌++◌, length, map, length-append, append_assoc, append-nil}
use Rattle.std.specs.Prelude.{flat_map}
use Rattle.std.proofs.lemmas.List.{length-map, map-append}
use Rattle.std.specs.List.{enumerate_from}
use Rattle.definitions.specs.declared.Place.{Place}
use Rattle.definitions.specs.Angles.{angles_of, extremes_of}
use Rattle.mesh_lists.proofs.NumberedLists.{numbered_append}
use Rattle.mesh_texts.specs.Lines.{ele_line, ele_lines, renumbered}
use Rattle.slab_texts.specs.declared.lines.TetLines.{TetLines}
use Rattle.slab_texts.specs.Texts.{AddsTets, lines_if}

-- lines of both
pub lines_then : (writes : Bool) (first from : ℕ) (xs ys : List (List ℕ)) → lines_if writes first from xs ++ lines_if writes first (from + length xs) ys ≡ lines_if writes first from (xs ++ ys)
lines_then true first from xs ys =
    ap (λ n. ele_lines (first + from) (map (renumbered first) xs) ++ ele_lines n (map (renumbered first) ys)) (behind first from (length xs) (length (map (renumbered first) xs)) (length-map xs (renumbered first)))
    ∙ sym (numbered_append ele_line (first + from) (map (renumbered first) xs) (map (renumbered first) ys)) ∙ ap (ele_lines (first + from)) (sym (map-append (renumbered first) xs ys))
  where
    behind : (a b n m : ℕ) → m ≡ n → a + (b + n) ≡ a + b + m
    behind a b n m e = omega arith
lines_then false first from xs ys = refl

no_lines : (writes : Bool) (first from : ℕ) → [] ≡ lines_if writes first from []
no_lines true first from = refl
no_lines false first from = refl

module _ (places : List Place) where
  pub adds_none : (a : TetLines) → AddsTets places a [] a
  adds_none a = record {
    text = sym (append-nil a.text.items) ∙ ap (λ l. a.text.items ++ l) (no_lines a.writes a.numbering a.number);
    writes = refl;
    numbering = refl;
    number = (let e : a.number ≡ a.number + 0 = omega arith in e);
    angles = λ xs e. e ∙ ap extremes_of (sym (append-nil xs));
  }

  pub adds_more : (a b c : TetLines) (xs ys : List (List ℕ)) → AddsTets places a xs b → AddsTets places b ys c → AddsTets places a (xs ++ ys) c
  adds_more a b c xs ys h k =
      let next : b.number ≡ a.number + length xs = h.number in
      record {
        text =
            k.text ∙ (λ i. h.text i ++ lines_if (h.writes i) (h.numbering i) (next i) ys)
            ∙ append_assoc a.text.items (lines_if a.writes a.numbering a.number xs) (lines_if a.writes a.numbering (a.number + length xs) ys)
            ∙ ap (λ l. a.text.items ++ l) (lines_then a.writes a.numbering a.number xs ys);
        writes = k.writes ∙ h.writes;
        numbering = k.numbering ∙ h.numbering;
        number = (let e = k.number in let l = length-append xs ys in omega arith);
        angles = λ zs e.
            (k.angles (zs ++ flat_map (angles_of places) (enumerate_from a.number xs)) (h.angles zs e)
            ∙ ap extremes_of
            (ap (λ n. (zs ++ flat_map (angles_of places) (enumerate_from a.number xs)) ++ flat_map (angles_of places) (enumerate_from n ys)) next
            ∙ append_assoc zs (flat_map (angles_of places) (enumerate_from a.number xs)) (flat_map (angles_of places) (enumerate_from (a.number + length xs) ys))
            ∙ ap (λ l. zs ++ l) (sym (numbered_append (angles_of places) a.number xs ys))));
      }
