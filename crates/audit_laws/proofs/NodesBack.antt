-- The text of nodes is read back as these nodes.
use Rattle.std.proofs.Common.{◌≡◌, ℕ, zero, suc, ◌+◌, ◌^◌, ◌<◌, ◌≤◌, ◌&&◌, if◌then◌else◌, List, [], ◌∷◌, ◌++◌, length, map, codes, decimal, Bool, true, false, Option, Some, None, Result, Ok, Err, refl, ap, sym, ◌∙◌, arith, pos, ◌*ℤ◌}
use Rattle.std.proofs.lemmas.Bool.{le-ltb, and_from}
use Rattle.std.proofs.lemmas.Fmt.{decimal_digit}
use Rattle.std.proofs.lemmas.List.{append-nil, append_assoc, length-append}
use Rattle.std.proofs.lemmas.List.Elements.{All-head, All-tail}
use Rattle.std.specs.List.{All, AllByRecursion, join_with_byte}
use Rattle.std.specs.Option.{option_map_or}
use Rattle.std.specs.Str.{bytes_eq}
use Rattle.std.specs.Str.Parse.{digits_value}
use Rattle.definitions.specs.declared.Place.{Place}
use Rattle.definitions.specs.Places.{place}
use Rattle.formats.specs.Texts.{line}
use Rattle.formats.specs.declared.MeshFault.TheVariants.{TooLong, BadLine}
use Rattle.mesh_texts.specs.Coordinates.{coordinate_text}
use Rattle.mesh_texts.specs.Lines.{marker_text, node_lines}
use Rattle.mesh_texts.specs.Nodes.{Node as MeshNode}
use Rattle.mesh_texts.specs.Files.{node_text}
use Rattle.mesh_files.specs.declared.LineFault.{LineFault}
use Rattle.mesh_files.specs.declared.LineFault.TheVariants.{Form, Coordinate}
use Rattle.mesh_files.specs.declared.FileHead.{FileHead}
use Rattle.mesh_files.specs.Lines.{Line, text_limit, lines_from}
use Rattle.mesh_files.specs.Numbers.{is_the_number, is_number_to}
use Rattle.mesh_files.specs.Forms.{node_head, place_of_texts, node_line as read_node}
use Rattle.mesh_files.specs.Files.{nodes_of, nodes_from, contents, items_or_fault, first_number, number_at_start, IsSmallPlace}
use Rattle.mesh_files.proofs.LineSteps.{no_lines}
use Rattle.mesh_files.proofs.LinesRead.{gone_on, read_start, read_more, read_all}
use Rattle.audit_laws.specs.Laws.{index_frame, scaled, first_said, nodes_read, NodesAreReadBack}
use Rattle.audit_laws.proofs.Fields.{IsField, line_back}
use Rattle.audit_laws.proofs.Numbers.{number_field, number_is, number_value, the_number, coordinate_back}

-- the places of nodes in steps of the file, as they are read
abbrev placed : ℕ → MeshNode → Place
placed step n = scaled step n.place

-- the fields of a node behind its number
abbrev behind_number : ℕ → MeshNode → List (List ℕ)
behind_number step n = coordinate_text (pos step *ℤ n.place.x) ∷ coordinate_text (pos step *ℤ n.place.y) ∷ coordinate_text (pos step *ℤ n.place.z) ∷ marker_text n.level ∷ []

marker_field : (level : Bool) → IsField (marker_text level)
marker_field true = record { some = omega arith; plain = ((omega arith, omega arith), tt) }
marker_field false = record { some = omega arith; plain = ((omega arith, omega arith), tt) }

fields_behind : (step : ℕ) (n : MeshNode) → IsSmallPlace (placed step n) → AllByRecursion IsField (behind_number step n)
fields_behind step n small =
    let x = coordinate_back (pos step *ℤ n.place.x) small.x in
    let y = coordinate_back (pos step *ℤ n.place.y) small.y in
    let z = coordinate_back (pos step *ℤ n.place.z) small.z in
    (x.field, (y.field, (z.field, (marker_field n.level, tt))))

-- one line
node_back : (step i : ℕ) (n : MeshNode) → i ≤ 4294967294 → IsSmallPlace (placed step n) → read_node 1 i (decimal i ∷ behind_number step n) ≡ Ok (placed step n)
node_back step i n few small =
    let x = coordinate_back (pos step *ℤ n.place.x) small.x in
    let y = coordinate_back (pos step *ℤ n.place.y) small.y in
    let z = coordinate_back (pos step *ℤ n.place.z) small.z in
    let texts : List ℕ → List ℕ → List ℕ → Result Place LineFault = place_of_texts in
    ap (λ (b : Bool). if b then texts (coordinate_text (pos step *ℤ n.place.x)) (coordinate_text (pos step *ℤ n.place.y)) (coordinate_text (pos step *ℤ n.place.z)) else Err Form) (and_from _ _ (the_number i few) refl)
    ∙ (λ k. if x.form k && (y.form k && z.form k)
    then (if x.grid k && (y.grid k && z.grid k) then Ok (place (x.value k) (y.value k) (z.value k)) else Err Coordinate)
    else Err Form)

-- the lines of nodes from a place on, of which the first has number `first + i`
nodes_gone_on : (step first count i before : ℕ) (done : List Place) (ns : List MeshNode) → first ≤ 1 → i + length ns ≡ count → count < 2 ^ 30 → All (λ n. IsSmallPlace (placed step n)) ns
    → gone_on (λ k. read_node 1 (first + k)) count i done (lines_from before (node_lines (index_frame step) (first + i) ns)) ≡ Ok (done ++ map (placed step) ns)
nodes_gone_on step first count i before done [] low all few small =
    ap (gone_on (λ k. read_node 1 (first + k)) count i done) (no_lines before)
    ∙ read_all (λ k. read_node 1 (first + k)) count i done (omega arith)
    ∙ ap (λ (xs : List Place). Ok xs) (sym (append-nil done))
nodes_gone_on step first count i before done (n ∷ ns) low all few small =
    let read : ℕ → List (List ℕ) → Result Place LineFault = λ k. read_node 1 (first + k) in
    let here = All-head (λ m. IsSmallPlace (placed step m)) n ns small in
    let rest = All-tail (λ m. IsSmallPlace (placed step m)) n ns small in
    let within : i + 1 ≤ count = omega arith in
    let number : first + i + 1 ≡ first + (i + 1) = omega arith in
    let l : Line = record { place = before; fields = decimal (first + i) ∷ behind_number step n } in
    let next = before + length (join_with_byte 32 (decimal (first + i) ∷ behind_number step n)) + 1 in
    ap (gone_on read count i done) (line_back before (decimal (first + i)) (behind_number step n) (node_lines (index_frame step) (first + i + 1) ns) (number_field (first + i) (omega arith)) (fields_behind step n here))
    ∙ ap (λ (m : ℕ). gone_on read count i done (l ∷ lines_from next (node_lines (index_frame step) m ns))) number
    ∙ read_more read count i done l (lines_from next (node_lines (index_frame step) (first + (i + 1)) ns)) (placed step n) (omega arith) (node_back step (first + i) n (omega arith) here)
    ∙ nodes_gone_on step first count (i + 1) next (done ++ placed step n ∷ []) ns low (omega arith) few rest
    ∙ ap (λ (xs : List Place). Ok xs) (append_assoc done (placed step n ∷ []) (map (placed step) ns))

-- the first line
head_back : (n : ℕ) → n ≤ 4294967294 → node_head (decimal n ∷ codes "3" ∷ codes "0" ∷ codes "1" ∷ []) ≡ Some (record { count = n; extra = 1 })
head_back n few =
    let a = number_is n few in
    let v = number_value n (omega arith) in
    (λ k. if a k && (is_the_number 3 (codes "3") && (is_number_to 16 (codes "0") && is_number_to 1 (codes "1")))
    then Some (record { count = v k; extra = digits_value 10 (codes "0") + digits_value 10 (codes "1") })
    else None)

-- the number with which the second line begins
begins_with : (first : ℕ) → first ≤ 1 → (if bytes_eq (decimal first) (codes "1") then 1 else 0) ≡ first
begins_with zero low = ap (λ (f : List ℕ). if bytes_eq f (codes "1") then 1 else 0) (decimal_digit 0 (omega arith))
begins_with (suc zero) low = ap (λ (f : List ℕ). if bytes_eq f (codes "1") then 1 else 0) (decimal_digit 1 (omega arith))
begins_with (suc (suc n)) low = absurd (omega arith)

starts : (step first before : ℕ) (ns : List MeshNode) → first ≤ 1 → All (λ n. IsSmallPlace (placed step n)) ns → number_at_start (lines_from before (node_lines (index_frame step) first ns)) ≡ first_said first ns
starts step first before [] low small = ap number_at_start (no_lines before)
starts step first before (n ∷ ns) low small =
    let here = All-head (λ m. IsSmallPlace (placed step m)) n ns small in
    ap number_at_start (line_back before (decimal first) (behind_number step n) (node_lines (index_frame step) (first + 1) ns) (number_field first (omega arith)) (fields_behind step n here))
    ∙ begins_with first low

-- a text has at least as many bytes as lines
lines_are_long : (step i : ℕ) (ns : List MeshNode) → length ns ≤ length (node_lines (index_frame step) i ns)
lines_are_long step i [] = omega arith
lines_are_long step i (n ∷ ns) =
    let joined = join_with_byte 32 (decimal i ∷ behind_number step n) in
    omega (arith, lines_are_long step (i + 1) ns, length-append (joined ++ (10 ∷ [])) (node_lines (index_frame step) (i + 1) ns), length-append joined (10 ∷ []))

-- a text within the limit has few nodes
pub few_nodes : (step first : ℕ) (ns : List MeshNode) → length (node_text (index_frame step) first ns) ≤ text_limit → length ns < 2 ^ 30
unfolding node_text
few_nodes step first ns within =
    let joined = join_with_byte 32 (decimal (length ns) ∷ codes "3" ∷ codes "0" ∷ codes "1" ∷ []) in
    omega (arith, lines_are_long step first ns, length-append (joined ++ (10 ∷ [])) (node_lines (index_frame step) first ns), length-append joined (10 ∷ []))

-- lines behind a first one that says how many there are, numbered from `first` on
lines_said : (step first next : ℕ) (ns : List MeshNode) → first ≤ 1 → length ns < 2 ^ 30 → All (λ n. IsSmallPlace (placed step n)) ns
    → nodes_from first (items_or_fault (λ i. read_node 1 (first + i)) (length ns) (lines_from next (node_lines (index_frame step) first ns))) ≡ Ok (record { first = first; places = map (placed step) ns })
lines_said step first next ns low few small =
    let number : first ≡ first + 0 = omega arith in
    ap (λ (n : ℕ). nodes_from first (items_or_fault (λ i. read_node 1 (first + i)) (length ns) (lines_from next (node_lines (index_frame step) n ns)))) number
    ∙ ap (nodes_from first) (read_start (λ i. read_node 1 (first + i)) (length ns) (lines_from next (node_lines (index_frame step) (first + 0) ns)) ∙ nodes_gone_on step first (length ns) 0 next [] ns low (omega arith) few small)

lines_read : (step first next : ℕ) (ns : List MeshNode) → first ≤ 1 → length ns < 2 ^ 30 → All (λ n. IsSmallPlace (placed step n)) ns
    → nodes_from (first_said first ns) (items_or_fault (λ i. read_node 1 (first_said first ns + i)) (length ns) (lines_from next (node_lines (index_frame step) first ns))) ≡ Ok (nodes_read step first ns)
lines_read step first next [] low few small = lines_said step 0 next [] (omega arith) few small
lines_read step first next (n ∷ ns) low few small = lines_said step first next (n ∷ ns) low few small

pub nodes_are_read_back : NodesAreReadBack
unfolding node_text nodes_of
nodes_are_read_back step first ns low within small =
    let rest = node_lines (index_frame step) first ns in
    let front = line (decimal (length ns) ∷ codes "3" ∷ codes "0" ∷ codes "1" ∷ []) in
    let few : length ns < 2 ^ 30 = few_nodes step first ns within in
    let next = 0 + length (join_with_byte 32 (decimal (length ns) ∷ codes "3" ∷ codes "0" ∷ codes "1" ∷ [])) + 1 in
    let h : Line = record { place = 0; fields = decimal (length ns) ∷ codes "3" ∷ codes "0" ∷ codes "1" ∷ [] } in
    let rows = lines_from next rest in
    let three : IsField (codes "3") = record { some = omega arith; plain = ((omega arith, omega arith), tt) } in
    let lines : lines_from 0 (front ++ rest) ≡ h ∷ rows = line_back 0 (decimal (length ns)) (codes "3" ∷ codes "0" ∷ codes "1" ∷ []) rest (number_field (length ns) (omega arith)) (three, (marker_field false, (marker_field true, tt))) in
    ap (λ (b : Bool). if b then Err TooLong else nodes_from (first_number (lines_from 0 (front ++ rest))) (contents node_head (λ g i. read_node g.extra (first_number (lines_from 0 (front ++ rest)) + i)) (lines_from 0 (front ++ rest)))) (le-ltb text_limit (length (front ++ rest)) within)
    ∙ ap (λ (ls : List Line). nodes_from (first_number ls) (contents node_head (λ g i. read_node g.extra (first_number ls + i)) ls)) lines
    ∙ ap (λ (n : ℕ). nodes_from n (contents node_head (λ g i. read_node g.extra (n + i)) (h ∷ rows))) (starts step first next ns low small)
    ∙ ap (λ (o : Option FileHead). nodes_from (first_said first ns) (option_map_or (λ g. items_or_fault (λ i. read_node g.extra (first_said first ns + i)) g.count rows) o (Err (BadLine 0)))) (head_back (length ns) (omega arith))
    ∙ lines_read step first next ns low few small
