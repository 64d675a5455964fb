-- The whole texts, by their first lines.
use Rattle.std.proofs.Common.{◌≡◌, ℕ, List, [], ◌∷◌, ◌++◌, length, map, codes, decimal, ap, sym, ◌∙◌, append_assoc}
use Rattle.formats.specs.declared.Frame.{Frame}
use Rattle.mesh_texts.specs.Nodes.{Node}
use Rattle.mesh_texts.specs.Lines.{node_lines, ele_lines, renumbered}
use Rattle.mesh_texts.specs.Files.{node_text, ele_text}

pub node_text_begun : (frame : Frame) (first : ℕ) (nodes : List Node) (front : List ℕ) → front ≡ decimal (length nodes) ++ codes " 3 0 1\n" → front ++ node_lines frame first nodes ≡ node_text frame first nodes
unfolding node_text
node_text_begun frame first nodes front e =
    ap (λ (t : List ℕ). t ++ node_lines frame first nodes) (e ∙ sym (append_assoc (decimal (length nodes)) (codes " 3 0 1") (10 ∷ [])))

pub ele_text_begun : (first : ℕ) (tets : List (List ℕ)) (front : List ℕ) → front ≡ decimal (length tets) ++ codes " 4 0\n" → front ++ ele_lines first (map (renumbered first) tets) ≡ ele_text first tets
unfolding ele_text
ele_text_begun first tets front e =
    ap (λ (t : List ℕ). t ++ ele_lines first (map (renumbered first) tets)) (e ∙ sym (append_assoc (decimal (length tets)) (codes " 4 0") (10 ∷ [])))
