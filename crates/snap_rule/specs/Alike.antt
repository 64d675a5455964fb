-- Corners with one sign around a vertex, and in the lines of corners along x around a row of vertices.
use Rattle.std.specs.Prelude.{◌≡◌, ℕ, ◌+◌, ◌*◌, ◌%◌, ◌≤◌}
use Rattle.definitions.specs.declared.Sign.{Sign}
use Rattle.definitions.specs.declared.Vertex.{Vertex}
use Rattle.definitions.specs.Lattice.{vertex}
use Rattle.definitions.specs.Values.{Field, corner_difference, sign_of}
use Rattle.samples.specs.declared.SignWords.{SignWords}
use Rattle.samples.specs.SignWords.{IsTold}
use Rattle.snap_rule.specs.declared.columns.Lines.{Lines}

-- corner i of an axis of n samples is at most 3 half units from the number x
pub record IsNear (n x i : ℕ) : Type 0 where
  pub within : i ≤ n + 1
  pub above : x ≤ 2 * i + 3
  pub below : 2 * i ≤ x + 3

-- all corners at most 3 half units from the vertex on each axis have the sign
abbrev pub HasAround : Field → Vertex → Sign → Type 0
HasAround f v s =
    (i j k : ℕ) → IsNear f.dims.nx v.x i → IsNear f.dims.ny v.y j → IsNear f.dims.nz v.h k → sign_of (corner_difference f i j k) ≡ s

-- the corners of the lines with the numbers i and k have the sign
abbrev pub IsSide : Field → Lines → Sign → ℕ → ℕ → Type 0
IsSide f l s i k = (j : ℕ) → l.j_low ≤ j → j ≤ l.j_high → sign_of (corner_difference f i j k) ≡ s

-- the corners of the lines with the number i have the sign
abbrev pub IsColumn : Field → Lines → Sign → ℕ → Type 0
IsColumn f l s i =
    (j k : ℕ) → l.j_low ≤ j → j ≤ l.j_high → l.k_low ≤ k → k ≤ l.k_high → sign_of (corner_difference f i j k) ≡ s

-- the lines hold the corners at most 3 half units from a row of vertices on the axes y and z
pub record AreAround (f : Field) (l : Lines) (h y : ℕ) : Type 0 where
  pub y_lines : (j : ℕ) → IsNear f.dims.ny y j → (l.j_low ≤ j) × (j ≤ l.j_high)
  pub z_lines : (k : ℕ) → IsNear f.dims.nz h k → (l.k_low ≤ k) × (k ≤ l.k_high)

-- the words tell the signs of the sides with the number k, from the one before side i on
abbrev pub TellSides : Field → Lines → ℕ → ℕ → SignWords → Type 0
TellSides f l i k w = (s : Sign) (b : ℕ) → IsTold w s b → (c : ℕ) → c + 1 ≡ i + b → IsSide f l s c k

-- the words tell the signs of the columns, from the one before column i on
abbrev pub TellColumns : Field → Lines → ℕ → SignWords → Type 0
TellColumns f l i w = (s : Sign) (b : ℕ) → IsTold w s b → (c : ℕ) → c + 1 ≡ i + b → IsColumn f l s c

-- vertex i of row j of layer h
abbrev pub vertex_of_row : ℕ → ℕ → ℕ → Vertex
vertex_of_row h j i = vertex h (j * 2 + h % 2) (i * 2 + h % 2)

-- the words tell the signs of all corners around the vertices of a row, from vertex i on
abbrev pub TellAround : Field → ℕ → ℕ → ℕ → SignWords → Type 0
TellAround f h j i w = (s : Sign) (b : ℕ) → IsTold w s b → HasAround f (vertex_of_row h j (i + b)) s
