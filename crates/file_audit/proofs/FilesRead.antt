-- What is said of the nodes and the tetrahedra that are read from told files.
use Rattle.std.proofs.Common.{◌≡◌, ℕ, List, Option, Some, Result, Ok, sym, subst}
use Rattle.std.specs.Prelude.{IfOk}
use Rattle.formats.specs.declared.Verdict.{Verdict}
use Rattle.formats.specs.declared.Status.{Status}
use Rattle.mesh_files.specs.Files.{Nodes, nodes_of, tets_of}
use Rattle.file_audit.specs.Status.{AreRead}

-- what holds of an answer over the nodes that were read
pub for_read : (P : Nodes → List (List ℕ) → Verdict → Type 0) (r : Result Verdict Status) (node_held ele_held : Option (List ℕ)) (nodes : Nodes) → ((text : List ℕ) → node_held ≡ Some text → nodes_of text ≡ Ok nodes)
    → ((text : List ℕ) (tets : List (List ℕ)) → ele_held ≡ Some text → tets_of nodes text ≡ Ok tets → IfOk r (P nodes tets))
    → (others : Nodes) (tets : List (List ℕ)) → AreRead node_held ele_held others tets → IfOk r (P others tets)
for_read P r node_held ele_held nodes h k others tets a =
    let first : nodes_of a.node_text ≡ Ok nodes = h a.node_text a.node_told in
    let second : nodes_of a.node_text ≡ Ok others = a.nodes_said in
    let same : nodes ≡ others = cc in
    subst (λ (n : Nodes). IfOk r (P n tets)) same (k a.ele_text tets a.ele_told (subst (λ (n : Nodes). tets_of n a.ele_text ≡ Ok tets) (sym same) a.tets_said))
