-- What finished files come to, as a status.
use Rattle.std.specs.Prelude.{◌≡◌, ℕ, List, [], ◌∷◌, ◌++◌, codes, decimal, take, Option, Some, None, IfSome, Result, Ok, Err, ⊤}
use Rattle.std.specs.Option.{option_map}
use Rattle.formats.specs.Texts.{line}
use Rattle.formats.specs.declared.Port.{Port}
use Rattle.formats.specs.declared.Port.TheVariants.{Node, Ele, Report, Trouble, Face, Neigh}
use Rattle.formats.specs.declared.MeshFault.{MeshFault}
use Rattle.formats.specs.declared.MeshFault.TheVariants as mesh
use Rattle.formats.specs.declared.Verdict.{Verdict}
use Rattle.formats.specs.declared.Verdict.TheVariants.{NotPositive, Crowded, Turned, Sound}
use Rattle.formats.specs.declared.Status.{Status}
use Rattle.formats.specs.declared.Status.TheVariants.{Done, BadWords, BadHeader, Unsupported, TooLarge, Truncated, ReadFault, WriteFault, NoMemory, TooManyTets, BadMesh, NotSound}
use Rattle.mesh_files.specs.Files.{Nodes, nodes_of, tets_of}
use Rattle.mesh_files.specs.Verdicts.{verdict}
use Rattle.file_audit.specs.Opening.{IsOfText}

-- the names of the two files
abbrev pub node_name : List ℕ → List ℕ
node_name name = name ++ codes ".node"

abbrev pub ele_name : List ℕ → List ℕ
ele_name name = name ++ codes ".ele"

-- the line that tells that tetrahedra are sound
unfoldable pub sound_line : ℕ → ℕ → ℕ → List ℕ
sound_line nodes tets boundary =
    line (codes "sound" ∷ codes "nodes" ∷ decimal nodes ∷ codes "tetrahedra" ∷ decimal tets ∷ codes "boundary" ∷ decimal boundary ∷ [])

-- the status of a verdict
abbrev pub verdict_status : Verdict → Status
verdict_status (Sound nodes tets boundary) = Done
verdict_status (NotPositive tet) = NotSound (NotPositive tet)
verdict_status (Crowded tet) = NotSound (Crowded tet)
verdict_status (Turned tet) = NotSound (Turned tet)

-- the status of a fault of a file
abbrev pub fault_status : Port → MeshFault → Status
fault_status file mesh.ReadFault = ReadFault
fault_status file mesh.NoMemory = NoMemory
fault_status file fault = BadMesh file fault

-- what tetrahedra that were read, or have a fault, come to over these nodes
abbrev pub tets_status : Nodes → Result (List (List ℕ)) MeshFault → Status
tets_status nodes (Ok tets) = verdict_status (verdict nodes tets)
tets_status nodes (Err fault) = BadMesh Ele fault

-- what nodes that were read, or have a fault, come to with an .ele file that is told or not
abbrev pub nodes_status : Result Nodes MeshFault → Option (List ℕ) → Option Status
nodes_status (Ok nodes) ele = option_map (λ text. tets_status nodes (tets_of nodes text)) ele
nodes_status (Err fault) ele = Some (BadMesh Node fault)

-- What a .node and an .ele file come to, each told or not, where nothing fails and memory is there.
abbrev pub audit_status : Option (List ℕ) → Option (List ℕ) → Option Status
audit_status None ele = None
audit_status (Some text) ele = nodes_status (nodes_of text) ele

-- the files of a mesh
abbrev pub IsMeshFile : Port → Type 0
IsMeshFile Node = ⊤
IsMeshFile Ele = ⊤
IsMeshFile Report = ⊥
IsMeshFile Trouble = ⊥
IsMeshFile Face = ⊥
IsMeshFile Neigh = ⊥

-- An answer is what told files come to, unless reading failed or memory ran out.
abbrev pub AnswersAs : Option Status → Result Verdict Status → Type 0
AnswersAs wanted (Ok v) = IfSome wanted (λ s. s ≡ verdict_status v)
AnswersAs wanted (Err (BadMesh file fault)) = IsMeshFile file × IsOfText fault × IfSome wanted (λ s. s ≡ BadMesh file fault)
AnswersAs wanted (Err ReadFault) = ⊤
AnswersAs wanted (Err NoMemory) = ⊤
AnswersAs wanted (Err Done) = ⊥
AnswersAs wanted (Err (BadWords place)) = ⊥
AnswersAs wanted (Err (BadHeader fault)) = ⊥
AnswersAs wanted (Err (Unsupported key)) = ⊥
AnswersAs wanted (Err (TooLarge padded)) = ⊥
AnswersAs wanted (Err (Truncated got all)) = ⊥
AnswersAs wanted (Err (WriteFault port)) = ⊥
AnswersAs wanted (Err (TooManyTets tets)) = ⊥
AnswersAs wanted (Err (NotSound v)) = ⊥

-- both files are told, and these nodes and tetrahedra are read from them
pub record AreRead (node ele : Option (List ℕ)) (nodes : Nodes) (tets : List (List ℕ)) : Type 0 where
  pub node_text : List ℕ
  pub ele_text : List ℕ
  pub node_told : node ≡ Some node_text
  pub ele_told : ele ≡ Some ele_text
  pub nodes_said : nodes_of node_text ≡ Ok nodes
  pub tets_said : tets_of nodes ele_text ≡ Ok tets

-- a told list of names has grown by some first ones of these
abbrev pub GrowsAlong : List (List ℕ) → Option (List (List ℕ)) → Option (List (List ℕ)) → Type 0
GrowsAlong names old new = (n : ℕ) × (new ≡ option_map (λ tried. tried ++ take n names) old)

-- a told list of names with these behind it
abbrev pub with_names : Option (List (List ℕ)) → List (List ℕ) → Option (List (List ℕ))
with_names tried names = option_map (λ told. told ++ names) tried
