-- What is told of a mesh: how many nodes and tetrahedra it has, and its least and its greatest dihedral angle.
use Rattle.std.specs.Prelude.{ℕ, ◌+◌, zero, suc, List, [], ◌∷◌, ◌++◌, length, slice_index, codes, decimal, ℤ, pos, negsuc, Option, Some, None}
use Rattle.definitions.specs.declared.Cosine.{Cosine}
use Rattle.definitions.specs.declared.Extreme.{Extreme}
use Rattle.definitions.specs.declared.Extremes.{Extremes}
use Rattle.definitions.specs.Angles.{angles, extremes_of}
use Rattle.definitions.specs.Mesh.{Mesh}
use Rattle.formats.specs.Texts.{line}
use Rattle.mesh_texts.specs.Files.{counts_text}

-- the sign in front of a fraction, none in front of 0
abbrev pub sign_text : ℤ → List ℕ
sign_text (pos zero) = []
sign_text (pos (suc n)) = codes "+"
sign_text (negsuc n) = codes "-"

-- the square of a cosine with the cosine's sign, as a fraction
abbrev pub cosine_text : Cosine → List ℕ
cosine_text c = sign_text c.sign ++ (decimal c.num ++ (codes "/" ++ decimal c.den))

-- the tetrahedron of an angle and the two nodes of its edge, numbered from `first` on
abbrev pub place_of_angle : ℕ → Extreme → List ℕ
place_of_angle first a =
    line (codes "tetrahedron" ∷ decimal (first + a.tet) ∷ codes "edge" ∷ decimal (first + slice_index a.ends 0) ∷ decimal (first + slice_index a.ends 1) ∷ [])

-- the line of an angle: its square, and where it is
abbrev pub angle_line : ℕ → List ℕ → Extreme → List ℕ
angle_line first word a =
    line (word ∷ cosine_text a.cosine ∷ codes "tetrahedron" ∷ decimal (first + a.tet) ∷ codes "edge" ∷ decimal (first + slice_index a.ends 0) ∷ decimal (first + slice_index a.ends 1) ∷ [])

abbrev pub angle_lines : ℕ → Option Extremes → List ℕ
angle_lines first None = codes "no tetrahedra\n"
angle_lines first (Some e) = angle_line first (codes "least") e.least ++ angle_line first (codes "greatest") e.greatest

unfoldable pub report_text : ℕ → ℕ → Option Extremes → ℕ → List ℕ
report_text nodes tets extremes first = counts_text nodes tets ++ angle_lines first extremes

-- the least and the greatest angle of a mesh
unfoldable pub mesh_extremes : Mesh → Option Extremes
mesh_extremes m = extremes_of (angles m)

-- all that is told of a mesh
abbrev pub report : ℕ → Mesh → List ℕ
report first m = report_text (length m.places) (length m.tets) (mesh_extremes m) first
