-- How the lines of .node and .ele files are formed, and what they say.
use Rattle.std.specs.Prelude.{ℕ, ◌+◌, ◌-◌, Bool, ◌&&◌, ◌==◌, nat_le, nat_lt, List, [], ◌∷◌, length, Option, Some, None, Result, Ok, Err, if◌then◌else◌}
use Rattle.std.specs.Str.Parse.{digits_value}
use Rattle.definitions.specs.declared.Place.{Place}
use Rattle.definitions.specs.Places.{place}
use Rattle.mesh_files.specs.declared.LineFault.{LineFault}
use Rattle.mesh_files.specs.declared.LineFault.TheVariants.{Form, Coordinate, Node}
use Rattle.mesh_files.specs.declared.FileHead.{FileHead}
use Rattle.mesh_files.specs.Numbers.{is_number, is_the_number, is_number_to, is_decimal, is_coordinate, coordinate}

-- the first line of a .node file: how many nodes, 3, how many attributes and how many markers
abbrev pub node_head : List (List ℕ) → Option FileHead
node_head (n ∷ d ∷ a ∷ m ∷ []) =
    if is_number n && (is_the_number 3 d && (is_number_to 16 a && is_number_to 1 m))
    then Some (record { count = digits_value 10 n; extra = digits_value 10 a + digits_value 10 m })
    else None
node_head fields = None

-- the first line of an .ele file: how many tetrahedra, 4, and how many attributes
abbrev pub tet_head : List (List ℕ) → Option FileHead
tet_head (t ∷ d ∷ a ∷ []) =
    if is_number t && (is_the_number 4 d && is_number_to 16 a)
    then Some (record { count = digits_value 10 t; extra = digits_value 10 a })
    else None
tet_head fields = None

-- three decimals that are coordinates
abbrev pub place_of_texts : List ℕ → List ℕ → List ℕ → Result Place LineFault
place_of_texts x y z =
    if is_decimal x && (is_decimal y && is_decimal z)
    then (if is_coordinate x && (is_coordinate y && is_coordinate z) then Ok (place (coordinate x) (coordinate y) (coordinate z)) else Err Coordinate)
    else Err Form

-- the line of node `number`: that number, three decimals, and the fields that are passed over
abbrev pub node_line : ℕ → ℕ → List (List ℕ) → Result Place LineFault
node_line extra number (n ∷ x ∷ y ∷ z ∷ more) = if is_the_number number n && length more == extra then place_of_texts x y z else Err Form
node_line extra number fields = Err Form

-- The nodes have `count` numbers from `first` on. The rank of a node is its number less the first.
abbrev pub is_node_number : ℕ → ℕ → ℕ → Bool
is_node_number first count n = nat_le first n && nat_lt n (first + count)

abbrev pub is_node : ℕ → ℕ → List ℕ → Bool
is_node first count v = is_node_number first count (digits_value 10 v)

abbrev pub rank : ℕ → List ℕ → ℕ
rank first v = digits_value 10 v - first

-- four numbers of nodes
abbrev pub ranks_of_texts : ℕ → ℕ → List ℕ → List ℕ → List ℕ → List ℕ → Result (List ℕ) LineFault
ranks_of_texts first count a b c d =
    if is_number a && (is_number b && (is_number c && is_number d))
    then (if is_node first count a && (is_node first count b && (is_node first count c && is_node first count d))
    then Ok (rank first a ∷ rank first b ∷ rank first c ∷ rank first d ∷ [])
    else Err Node)
    else Err Form

-- the line of tetrahedron `number`: that number, four numbers of nodes, and the fields that are passed over
abbrev pub tet_line : ℕ → ℕ → ℕ → ℕ → List (List ℕ) → Result (List ℕ) LineFault
tet_line first count extra number (n ∷ a ∷ b ∷ c ∷ d ∷ more) = if is_the_number number n && length more == extra then ranks_of_texts first count a b c d else Err Form
tet_line first count extra number fields = Err Form
