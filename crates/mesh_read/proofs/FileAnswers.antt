-- What a file says, from what its lines say.
use Rattle.std.proofs.Common.{◌≡◌, ℕ, ◌+◌, ◌^◌, ◌≤◌, List, [], ◌∷◌, length, Bool, if◌then◌else◌, Option, Some, None, Result, Err, sym, ap, ◌∙◌}
use Rattle.std.proofs.lemmas.Bool.{le-ltb}
use Rattle.std.specs.Option.{option_map_or}
use Rattle.definitions.specs.declared.Place.{Place}
use Rattle.formats.specs.declared.MeshFault.{MeshFault}
use Rattle.formats.specs.declared.MeshFault.TheVariants.{TooLong, BadLine, BadPlace, BadNode, EndsEarly, ReadFault, NoMemory}
use Rattle.mesh_files.specs.declared.FileHead.{FileHead}
use Rattle.mesh_files.specs.Lines.{Line, text_limit, lines_from}
use Rattle.mesh_files.specs.Forms.{node_head, tet_head, node_line, tet_line}
use Rattle.mesh_files.specs.Files.{Nodes, nodes_of, tets_of, nodes_from, contents, first_number, number_at_start, items_or_fault}
use Rattle.mesh_read.specs.Told.{Says}

abbrev nodes_at : List Line → Result Nodes MeshFault
nodes_at ls = nodes_from (first_number ls) (contents node_head (λ h i. node_line h.extra (first_number ls + i)) ls)

abbrev tets_at : Nodes → List Line → Result (List (List ℕ)) MeshFault
tets_at nodes ls = contents tet_head (λ h i. tet_line nodes.first (length nodes.places) h.extra (nodes.first + i)) ls

nodes_by_lines : (text : List ℕ) (ls : List Line) → length text ≤ 2 ^ 30 → lines_from 0 text ≡ ls → nodes_of text ≡ nodes_at ls
unfolding nodes_of
nodes_by_lines text ls h e = ap (λ (b : Bool). if b then Err TooLong else nodes_at (lines_from 0 text)) (le-ltb text_limit (length text) h) ∙ ap nodes_at e

tets_by_lines : (nodes : Nodes) (text : List ℕ) (ls : List Line) → length text ≤ 2 ^ 30 → lines_from 0 text ≡ ls → tets_of nodes text ≡ tets_at nodes ls
unfolding tets_of
tets_by_lines nodes text ls h e = ap (λ (b : Bool). if b then Err TooLong else tets_at nodes (lines_from 0 text)) (le-ltb text_limit (length text) h) ∙ ap (tets_at nodes) e

pub no_nodes : (text : List ℕ) → length text ≤ 2 ^ 30 → lines_from 0 text ≡ [] → nodes_of text ≡ Err (EndsEarly 0 1)
no_nodes text h e = nodes_by_lines text [] h e

pub no_tets : (nodes : Nodes) (text : List ℕ) → length text ≤ 2 ^ 30 → lines_from 0 text ≡ [] → tets_of nodes text ≡ Err (EndsEarly 0 1)
no_tets nodes text h e = tets_by_lines nodes text [] h e

pub bad_nodes : (text : List ℕ) (l : Line) (ls : List Line) → length text ≤ 2 ^ 30 → lines_from 0 text ≡ l ∷ ls → node_head l.fields ≡ None → nodes_of text ≡ Err (BadLine l.place)
bad_nodes text l ls h e f = nodes_by_lines text (l ∷ ls) h e ∙ ap (λ (o : Option FileHead). nodes_from (number_at_start ls) (option_map_or (λ d. items_or_fault (λ i. node_line d.extra (number_at_start ls + i)) d.count ls) o (Err (BadLine l.place)))) f

pub bad_tets : (nodes : Nodes) (text : List ℕ) (l : Line) (ls : List Line) → length text ≤ 2 ^ 30 → lines_from 0 text ≡ l ∷ ls → tet_head l.fields ≡ None → tets_of nodes text ≡ Err (BadLine l.place)
bad_tets nodes text l ls h e f = tets_by_lines nodes text (l ∷ ls) h e ∙ ap (λ (o : Option FileHead). option_map_or (λ d. items_or_fault (λ i. tet_line nodes.first (length nodes.places) d.extra (nodes.first + i)) d.count ls) o (Err (BadLine l.place))) f

pub read_nodes_lines : (text : List ℕ) (l : Line) (ls : List Line) (d : FileHead) (first : ℕ) → length text ≤ 2 ^ 30 → lines_from 0 text ≡ l ∷ ls → node_head l.fields ≡ Some d → first ≡ number_at_start ls → nodes_of text ≡ nodes_from first (items_or_fault (λ i. node_line d.extra (first + i)) d.count ls)
read_nodes_lines text l ls d first h e f g =
    nodes_by_lines text (l ∷ ls) h e
    ∙ ap (λ (o : Option FileHead). nodes_from (number_at_start ls) (option_map_or (λ d. items_or_fault (λ i. node_line d.extra (number_at_start ls + i)) d.count ls) o (Err (BadLine l.place)))) f
    ∙ ap (λ (n : ℕ). nodes_from n (items_or_fault (λ i. node_line d.extra (n + i)) d.count ls)) (sym g)

pub read_tets_lines : (nodes : Nodes) (text : List ℕ) (l : Line) (ls : List Line) (d : FileHead) → length text ≤ 2 ^ 30 → lines_from 0 text ≡ l ∷ ls → tet_head l.fields ≡ Some d → tets_of nodes text ≡ items_or_fault (λ i. tet_line nodes.first (length nodes.places) d.extra (nodes.first + i)) d.count ls
read_tets_lines nodes text l ls d h e f = tets_by_lines nodes text (l ∷ ls) h e ∙ ap (λ (o : Option FileHead). option_map_or (λ d. items_or_fault (λ i. tet_line nodes.first (length nodes.places) d.extra (nodes.first + i)) d.count ls) o (Err (BadLine l.place))) f

-- a fault of lines is that of the file
pub nodes_fault : {X Y : Type 0} (items : X → List Place) (shown : Y → Nodes) (fault : MeshFault) (first : ℕ) (w : Result (List Place) MeshFault) (n : Result Nodes MeshFault) → n ≡ nodes_from first w → Says items (Err fault) w → Says shown (Err fault) n
nodes_fault items shown TooLong first w n e h = e ∙ ap (nodes_from first) h
nodes_fault items shown (BadLine p) first w n e h = e ∙ ap (nodes_from first) h
nodes_fault items shown (BadPlace p) first w n e h = e ∙ ap (nodes_from first) h
nodes_fault items shown (BadNode p) first w n e h = e ∙ ap (nodes_from first) h
nodes_fault items shown (EndsEarly g a) first w n e h = e ∙ ap (nodes_from first) h
nodes_fault items shown ReadFault first w n e h = h
nodes_fault items shown NoMemory first w n e h = tt

pub tets_fault : {X Y Z : Type 0} (items : X → Z) (shown : Y → Z) (fault : MeshFault) (w n : Result Z MeshFault) → n ≡ w → Says items (Err fault) w → Says shown (Err fault) n
tets_fault items shown TooLong w n e h = e ∙ h
tets_fault items shown (BadLine p) w n e h = e ∙ h
tets_fault items shown (BadPlace p) w n e h = e ∙ h
tets_fault items shown (BadNode p) w n e h = e ∙ h
tets_fault items shown (EndsEarly g a) w n e h = e ∙ h
tets_fault items shown ReadFault w n e h = h
tets_fault items shown NoMemory w n e h = tt
