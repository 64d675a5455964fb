-- What .node and .ele files say, or why they say nothing.
use Rattle.std.specs.Prelude.{◌≡◌, ◌<◌, ◌≤◌, ℕ, ◌+◌, ◌^◌, nat_lt, List, [], ◌∷◌, filter_map, length, codes, Option, Some, None, Result, Ok, Err, if◌then◌else◌, unsigned_abs, All}
use Rattle.std.specs.List.{scan}
use Rattle.std.specs.Option.{option_map_or}
use Rattle.std.specs.Str.{bytes_eq}
use Rattle.definitions.specs.declared.Place.{Place}
use Rattle.formats.specs.declared.MeshFault.{MeshFault}
use Rattle.formats.specs.declared.MeshFault.TheVariants.{TooLong, BadLine, BadPlace, BadNode, EndsEarly}
use Rattle.mesh_files.specs.declared.LineFault.{LineFault}
use Rattle.mesh_files.specs.declared.FileHead.{FileHead}
use Rattle.mesh_files.specs.declared.LineFault.TheVariants.{Form, Coordinate, Node}
use Rattle.mesh_files.specs.Lines.{Line, text_limit, lines_of}
use Rattle.mesh_files.specs.Forms.{node_head, tet_head, node_line, tet_line}

-- a line's fault at its place
abbrev pub fault_at : ℕ → LineFault → MeshFault
fault_at place Form = BadLine place
fault_at place Coordinate = BadPlace place
fault_at place Node = BadNode place

-- the fault of a line, if it has one, at its place
abbrev pub fault_of : {X : Type 0} → ℕ → Result X LineFault → Option MeshFault
fault_of place (Ok x) = None
fault_of place (Err fault) = Some (fault_at place fault)

abbrev pub item_of : {X : Type 0} → Result X LineFault → Option X
item_of (Ok x) = Some x
item_of (Err fault) = None

-- the fault of line i of those behind the first, where so many are wanted
abbrev pub judged : {X : Type 0} → (ℕ → List (List ℕ) → Result X LineFault) → ℕ → ℕ → Line → Option MeshFault
judged read count i l = if nat_lt i count then fault_of l.place (read i l.fields) else Some (BadLine l.place)

-- the faults of lines in their order, and what they say, the first of them being line i
abbrev pub faults_from : {X : Type 0} → (ℕ → List (List ℕ) → Result X LineFault) → ℕ → ℕ → List Line → List MeshFault
faults_from read count i ls = filter_map (λ f. f) (scan (λ n l. n + 1) (judged read count) i ls)

abbrev pub items_from : {X : Type 0} → (ℕ → List (List ℕ) → Result X LineFault) → ℕ → List Line → List X
items_from read i ls = filter_map item_of (scan (λ n l. n + 1) (λ n l. read n l.fields) i ls)

abbrev pub first_fault_or : {X : Type 0} → Result X MeshFault → List MeshFault → Result X MeshFault
first_fault_or answer [] = answer
first_fault_or answer (fault ∷ more) = Err fault

-- what the lines behind the first say: the first fault, or that there are too few, or all items
abbrev pub items_or_fault : {X : Type 0} → (ℕ → List (List ℕ) → Result X LineFault) → ℕ → List Line → Result (List X) MeshFault
items_or_fault read count ls =
    first_fault_or
    (if nat_lt (length ls) count then Err (EndsEarly (1 + length ls) (1 + count)) else Ok (items_from read 0 ls))
    (faults_from read count 0 ls)

-- what the lines of a file say, by how its first and its other lines are read
abbrev pub contents : {X : Type 0} → (List (List ℕ) → Option FileHead) → (FileHead → ℕ → List (List ℕ) → Result X LineFault) → List Line → Result (List X) MeshFault
contents head read [] = Err (EndsEarly 0 1)
contents head read (l ∷ ls) = option_map_or (λ h. items_or_fault (read h) h.count ls) (head l.fields) (Err (BadLine l.place))

-- The number of the first node: 1 where the line behind the first begins so, and else 0.
abbrev pub first_field : List (List ℕ) → List ℕ
first_field [] = []
first_field (f ∷ fs) = f

abbrev pub number_at_start : List Line → ℕ
number_at_start [] = 0
number_at_start (l ∷ ls) = if bytes_eq (first_field l.fields) (codes "1") then 1 else 0

abbrev pub first_number : List Line → ℕ
first_number [] = 0
first_number (h ∷ ls) = number_at_start ls

-- The number of the first node, and the places of the nodes in units of 1/8192.
pub record Nodes : Type 0 where
  pub first : ℕ
  pub places : List Place

abbrev pub within_limit : {X : Type 0} → (List ℕ → Result X MeshFault) → List ℕ → Result X MeshFault
within_limit read text = if nat_lt text_limit (length text) then Err TooLong else read text

abbrev pub nodes_from : ℕ → Result (List Place) MeshFault → Result Nodes MeshFault
nodes_from first (Ok places) = Ok (record { first = first; places = places })
nodes_from first (Err fault) = Err fault

-- the nodes of a .node text
unfoldable pub nodes_of : List ℕ → Result Nodes MeshFault
nodes_of text =
    within_limit
    (λ t. let first = first_number (lines_of t) in nodes_from first (contents node_head (λ h i. node_line h.extra (first + i)) (lines_of t)))
    text

-- the tetrahedra of an .ele text over these nodes, as ranks of nodes
unfoldable pub tets_of : Nodes → List ℕ → Result (List (List ℕ)) MeshFault
tets_of nodes text = within_limit (λ t. contents tet_head (λ h i. tet_line nodes.first (length nodes.places) h.extra (nodes.first + i)) (lines_of t)) text

-- a coordinate is below 1048576 in size
pub record IsSmallPlace (p : Place) : Type 0 where
  pub x : unsigned_abs p.x < 2 ^ 33
  pub y : unsigned_abs p.y < 2 ^ 33
  pub z : unsigned_abs p.z < 2 ^ 33

pub record AreNodes (nodes : Nodes) : Type 0 where
  pub first : nodes.first ≤ 1
  pub few : length nodes.places < 2 ^ 30
  pub small : All IsSmallPlace nodes.places

-- fewer than 2^30 tetrahedra of four nodes each
pub record AreTets (tets : List (List ℕ)) : Type 0 where
  pub few : length tets < 2 ^ 30
  pub four : All (λ t. length t ≡ 4) tets

-- each rank is that of a node
abbrev pub AreOf : ℕ → List (List ℕ) → Type 0
AreOf count tets = All (All (λ n. n < count)) tets
