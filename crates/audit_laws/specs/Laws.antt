-- What is proved of the texts of a mesh that are read back as finished files.
use Rattle.std.specs.Prelude.{◌≡◌, ◌≤◌, ◌<◌, ℕ, ◌*◌, ◌^◌, Ok, None, List, [], ◌∷◌, map, length, All, pos, ◌*ℤ◌}
use Rattle.definitions.specs.declared.Dims.{Dims}
use Rattle.definitions.specs.declared.Place.{Place}
use Rattle.definitions.specs.Places.{place}
use Rattle.definitions.specs.Values.{Field}
use Rattle.definitions.specs.States.{Shares, IsShares}
use Rattle.definitions.specs.Mesh.{mesh}
use Rattle.definitions.specs.Soundness.{boundary}
use Rattle.formats.specs.declared.Frame.{Frame}
use Rattle.formats.specs.declared.Verdict.TheVariants.{Sound}
use Rattle.mesh_texts.specs.Nodes.{Node, mesh_nodes}
use Rattle.mesh_texts.specs.Files.{node_text, ele_text}
use Rattle.triangle_laws.specs.Laws.{AreConforming}
use Rattle.mesh_files.specs.Verdicts.{verdict}
use Rattle.mesh_files.specs.Lines.{text_limit}
use Rattle.mesh_files.specs.Files.{Nodes, nodes_of, tets_of, IsSmallPlace, AreOf}

-- index units
abbrev pub index_frame : ℕ → Frame
index_frame step = record { step = step; world = None }

-- a place in steps of the file: each coordinate times the step
abbrev pub scaled : ℕ → Place → Place
scaled step p = place (pos step *ℤ p.x) (pos step *ℤ p.y) (pos step *ℤ p.z)

-- Where there are no nodes a file doesn't say with which number they begin, and it is 0.
abbrev pub first_said : {X : Type 0} → ℕ → List X → ℕ
first_said first [] = 0
first_said first (x ∷ xs) = first

-- these nodes, read back
abbrev pub nodes_read : ℕ → ℕ → List Node → Nodes
nodes_read step first nodes = record { first = first_said first nodes; places = map (λ n. scaled step n.place) nodes }

-- The text of nodes is read back as these nodes, each place times the step, where it is within the limits of files.
abbrev pub NodesAreReadBack : Type 0
NodesAreReadBack =
    (step first : ℕ) (nodes : List Node) → first ≤ 1 → length (node_text (index_frame step) first nodes) ≤ text_limit
    → All (λ n. IsSmallPlace (scaled step n.place)) nodes
    → nodes_of (node_text (index_frame step) first nodes) ≡ Ok (nodes_read step first nodes)

-- The text of tetrahedra is read back as these tetrahedra, over any nodes that are numbered from the same number on and that they name.
abbrev pub TetsAreReadBack : Type 0
TetsAreReadBack =
    (first : ℕ) (nodes : Nodes) (tets : List (List ℕ)) → first ≤ 1 → nodes.first ≡ first_said first nodes.places → length nodes.places < 2 ^ 30
    → All (λ t. length t ≡ 4) tets → AreOf (length nodes.places) tets → length (ele_text first tets) ≤ text_limit
    → tets_of nodes (ele_text first tets) ≡ Ok tets

-- Conforming tetrahedra over such nodes, at places in any step and with any first number, are found sound.
abbrev pub ConformingAreSound : Type 0
ConformingAreSound =
    (step first : ℕ) (places : List Place) (tets : List (List ℕ)) → 1 ≤ step → AreConforming places tets → AreOf (length places) tets → length places < 2 ^ 30
    → verdict (record { first = first; places = map (scaled step) places }) tets ≡ Sound (length places) (length tets) (length (boundary tets))

-- the nodes that the text of the nodes of a mesh says
abbrev pub nodes_back : ℕ → ℕ → Field → Shares → Nodes
nodes_back step first f s = record { first = first_said first (mesh f s).places; places = map (scaled step) (mesh f s).places }

-- The texts of the mesh of a field are read back as this mesh, and it is found sound.
pub record IsReadBack (step first : ℕ) (f : Field) (s : Shares) : Type 0 where
  pub nodes : nodes_of (node_text (index_frame step) first (mesh_nodes f s)) ≡ Ok (nodes_back step first f s)
  pub tets : tets_of (nodes_back step first f s) (ele_text first (mesh f s).tets) ≡ Ok (mesh f s).tets
  pub sound : verdict (nodes_back step first f s) (mesh f s).tets ≡ Sound (length (mesh f s).places) (length (mesh f s).tets) (length (boundary (mesh f s).tets))

-- In this step the nodes of an image of these sizes have coordinates within the limits of files.
pub record FitsFiles (step : ℕ) (d : Dims) : Type 0 where
  pub one : 1 ≤ step
  pub small : step < 1048576
  pub x : step * d.nx < 1048576
  pub y : step * d.ny < 1048576
  pub z : step * d.nz < 1048576

-- So are the texts of the mesh of every field in index units, numbered from 0 or from 1, where they are no longer than texts may be.
abbrev pub MeshIsReadBack : Type 0
MeshIsReadBack =
    (f : Field) (s : Shares) (step first : ℕ) → IsShares s → FitsFiles step f.dims → first ≤ 1
    → length (node_text (index_frame step) first (mesh_nodes f s)) ≤ text_limit → length (ele_text first (mesh f s).tets) ≤ text_limit
    → IsReadBack step first f s
