-- The text of tetrahedra is read back as these tetrahedra.
use Rattle.std.proofs.Common.{◌≡◌, ℕ, ◌+◌, ◌-◌, ◌^◌, ◌<◌, ◌≤◌, ◌&&◌, nat_le, nat_lt, if◌then◌else◌, List, [], ◌∷◌, ◌++◌, length, map, codes, decimal, Bool, true, Option, Some, None, Result, Ok, Err, refl, ap, sym, subst, ◌∙◌, arith}
use Rattle.std.proofs.lemmas.Bool.{le-ltb, le-leb, lt-ltb, and_from}
use Rattle.std.proofs.lemmas.List.{append-nil, append_assoc, length-append, length-map}
use Rattle.std.proofs.lemmas.List.Elements.{All-head, All-tail}
use Rattle.std.specs.List.{All, AllByRecursion, join_with_byte}
use Rattle.std.specs.Option.{option_map_or}
use Rattle.std.specs.Str.Parse.{digits_value}
use Rattle.definitions.specs.declared.Place.{Place}
use Rattle.formats.specs.Texts.{line}
use Rattle.formats.specs.declared.MeshFault.TheVariants.{TooLong, BadLine}
use Rattle.mesh_texts.specs.Lines.{ele_lines, renumbered}
use Rattle.mesh_texts.specs.Files.{ele_text}
use Rattle.mesh_files.specs.declared.LineFault.{LineFault}
use Rattle.mesh_files.specs.declared.LineFault.TheVariants.{Form, Node}
use Rattle.mesh_files.specs.declared.FileHead.{FileHead}
use Rattle.mesh_files.specs.Lines.{Line, text_limit, lines_from}
use Rattle.mesh_files.specs.Numbers.{is_the_number, is_number_to}
use Rattle.mesh_files.specs.Forms.{tet_head, ranks_of_texts, tet_line}
use Rattle.mesh_files.specs.Files.{Nodes, tets_of, contents, items_or_fault}
use Rattle.mesh_files.proofs.LineSteps.{no_lines}
use Rattle.mesh_files.proofs.LinesRead.{gone_on, read_start, read_more, read_all}
use Rattle.mesh_audit.proofs.FlatTets.{FourNodes, as_four}
use Rattle.audit_laws.specs.Laws.{first_said, TetsAreReadBack}
use Rattle.audit_laws.proofs.Fields.{IsField, line_back}
use Rattle.audit_laws.proofs.Numbers.{number_field, number_is, number_value, the_number}

is_node_back : (first count n : ℕ) → first ≤ 1 → n < count → count < 2 ^ 30 → (nat_le first (digits_value 10 (decimal (first + n))) && nat_lt (digits_value 10 (decimal (first + n))) (first + count)) ≡ true
is_node_back first count n low below few =
    let v = number_value (first + n) (omega arith) in
    and_from _ _ (le-leb first (digits_value 10 (decimal (first + n))) (omega arith)) (lt-ltb (digits_value 10 (decimal (first + n))) (first + count) (omega arith))

rank_back : (first n : ℕ) → first ≤ 1 → n < 2 ^ 30 → digits_value 10 (decimal (first + n)) - first ≡ n
rank_back first n low small = let v = number_value (first + n) (omega arith) in omega arith

-- one line
tet_back : (first count i a b c d : ℕ) → first ≤ 1 → i ≤ 4294967294 → count < 2 ^ 30 → a < count → b < count → c < count → d < count
    → tet_line first count 0 i (decimal i ∷ decimal (first + a) ∷ decimal (first + b) ∷ decimal (first + c) ∷ decimal (first + d) ∷ []) ≡ Ok (a ∷ b ∷ c ∷ d ∷ [])
tet_back first count i a b c d low number few below_a below_b below_c below_d =
    let na = number_is (first + a) (omega arith) in
    let nb = number_is (first + b) (omega arith) in
    let nc = number_is (first + c) (omega arith) in
    let nd = number_is (first + d) (omega arith) in
    let ia = is_node_back first count a low below_a few in
    let ib = is_node_back first count b low below_b few in
    let ic = is_node_back first count c low below_c few in
    let id = is_node_back first count d low below_d few in
    let ra = rank_back first a low (omega arith) in
    let rb = rank_back first b low (omega arith) in
    let rc = rank_back first c low (omega arith) in
    let rd = rank_back first d low (omega arith) in
    ap (λ (t : Bool). if t then ranks_of_texts first count (decimal (first + a)) (decimal (first + b)) (decimal (first + c)) (decimal (first + d)) else Err Form) (and_from _ _ (the_number i number) refl)
    ∙ (λ k. if na k && (nb k && (nc k && nd k))
    then (if ia k && (ib k && (ic k && id k)) then Ok (ra k ∷ rb k ∷ rc k ∷ rd k ∷ []) else Err Node)
    else Err Form)

-- the lines of tetrahedra from a place on, of which the first has number `first + i`
tets_gone_on : (first nodes count i before : ℕ) (done ts : List (List ℕ)) → first ≤ 1 → i + length ts ≡ count → count < 2 ^ 30 → nodes < 2 ^ 30 → All (λ t. length t ≡ 4) ts → All (All (λ n. n < nodes)) ts
    → gone_on (λ n. tet_line first nodes 0 (first + n)) count i done (lines_from before (ele_lines (first + i) (map (renumbered first) ts))) ≡ Ok (done ++ ts)
tets_gone_on first nodes count i before done [] low all few small four below =
    ap (gone_on (λ n. tet_line first nodes 0 (first + n)) count i done) (no_lines before)
    ∙ read_all (λ n. tet_line first nodes 0 (first + n)) count i done (omega arith)
    ∙ ap (λ (xs : List (List ℕ)). Ok xs) (sym (append-nil done))
tets_gone_on first nodes count i before done (t ∷ ts) low all few small four below = go (as_four t (All-head (λ u. length u ≡ 4) t ts four))
    (λ next. tets_gone_on first nodes count (i + 1) next (done ++ t ∷ []) ts low (omega arith) few small (All-tail (λ u. length u ≡ 4) t ts four) (All-tail (All (λ n. n < nodes)) t ts below))
  where
    go : FourNodes t → ((next : ℕ) → gone_on (λ n. tet_line first nodes 0 (first + n)) count (i + 1) (done ++ t ∷ []) (lines_from next (ele_lines (first + (i + 1)) (map (renumbered first) ts))) ≡ Ok ((done ++ t ∷ []) ++ ts)) → gone_on (λ n. tet_line first nodes 0 (first + n)) count i done (lines_from before (ele_lines (first + i) (map (renumbered first) (t ∷ ts)))) ≡ Ok (done ++ t ∷ ts)
    go q more =
        let read : ℕ → List (List ℕ) → Result (List ℕ) LineFault = λ n. tet_line first nodes 0 (first + n) in
        let lines : ℕ → List ℕ = λ n. ele_lines n (map (renumbered first) ts) in
        let tail : List (List ℕ) = decimal (first + q.a) ∷ decimal (first + q.b) ∷ decimal (first + q.c) ∷ decimal (first + q.d) ∷ [] in
        let each : All (λ n. n < nodes) (q.a ∷ q.b ∷ q.c ∷ q.d ∷ []) = subst (All (λ n. n < nodes)) q.is (All-head (All (λ n. n < nodes)) t ts below) in
        let below_a : q.a < nodes = each 0 0 (omega arith) in
        let below_b : q.b < nodes = each 1 0 (omega arith) in
        let below_c : q.c < nodes = each 2 0 (omega arith) in
        let below_d : q.d < nodes = each 3 0 (omega arith) in
        let here : i + 1 ≤ count = omega arith in
        let l : Line = record { place = before; fields = decimal (first + i) ∷ tail } in
        let next = before + length (join_with_byte 32 (decimal (first + i) ∷ tail)) + 1 in
        let number : first + i + 1 ≡ first + (i + 1) = omega arith in
        let plain : AllByRecursion IsField tail = (number_field (first + q.a) (omega arith), (number_field (first + q.b) (omega arith), (number_field (first + q.c) (omega arith), (number_field (first + q.d) (omega arith), tt)))) in
        ap (λ (u : List ℕ). gone_on read count i done (lines_from before (line (decimal (first + i) ∷ map decimal (renumbered first u)) ++ lines (first + i + 1)))) q.is
        ∙ ap (gone_on read count i done) (line_back before (decimal (first + i)) tail (lines (first + i + 1)) (number_field (first + i) (omega arith)) plain)
        ∙ ap (λ (m : ℕ). gone_on read count i done (l ∷ lines_from next (lines m))) number
        ∙ read_more read count i done l (lines_from next (lines (first + (i + 1)))) t (omega arith)
        (tet_back first nodes (first + i) q.a q.b q.c q.d low (omega arith) small below_a below_b below_c below_d ∙ ap (λ (u : List ℕ). Ok u) (sym q.is))
        ∙ more next
        ∙ ap (λ (xs : List (List ℕ)). Ok xs) (append_assoc done (t ∷ []) ts)

-- the first line
head_back : (n : ℕ) → n ≤ 4294967294 → tet_head (decimal n ∷ codes "4" ∷ codes "0" ∷ []) ≡ Some (record { count = n; extra = 0 })
head_back n few =
    let a = number_is n few in
    let v = number_value n (omega arith) in
    (λ k. if a k && (is_the_number 4 (codes "4") && is_number_to 16 (codes "0")) then Some (record { count = v k; extra = digits_value 10 (codes "0") }) else None)

-- a text has at least as many bytes as lines
lines_are_long : (i : ℕ) (ts : List (List ℕ)) → length ts ≤ length (ele_lines i ts)
lines_are_long i [] = omega arith
lines_are_long i (t ∷ ts) =
    let joined = join_with_byte 32 (decimal i ∷ map decimal t) in
    omega (arith, lines_are_long (i + 1) ts, length-append (joined ++ (10 ∷ [])) (ele_lines (i + 1) ts), length-append joined (10 ∷ []))

-- over nodes that are numbered from `first` on
over_nodes : (first : ℕ) (nodes : Nodes) (ts : List (List ℕ)) → first ≤ 1 → nodes.first ≡ first → length nodes.places < 2 ^ 30
    → All (λ t. length t ≡ 4) ts → All (All (λ n. n < length nodes.places)) ts → length (ele_text first ts) ≤ text_limit
    → tets_of nodes (ele_text first ts) ≡ Ok ts
unfolding ele_text tets_of
over_nodes first nodes ts low same small four below within =
    let count = length nodes.places in
    let rest = ele_lines first (map (renumbered first) ts) in
    let front = line (decimal (length ts) ∷ codes "4" ∷ codes "0" ∷ []) in
    let few : length ts < 2 ^ 30 = omega (arith, lines_are_long first (map (renumbered first) ts), length-map ts (renumbered first), length-append (join_with_byte 32 (decimal (length ts) ∷ codes "4" ∷ codes "0" ∷ [])) (10 ∷ []), length-append front rest) in
    let next = 0 + length (join_with_byte 32 (decimal (length ts) ∷ codes "4" ∷ codes "0" ∷ [])) + 1 in
    let h : Line = record { place = 0; fields = decimal (length ts) ∷ codes "4" ∷ codes "0" ∷ [] } in
    let rows = lines_from next rest in
    let number : first ≡ first + 0 = omega arith in
    let four_field : IsField (codes "4") = record { some = omega arith; plain = ((omega arith, omega arith), tt) } in
    let zero_field : IsField (codes "0") = record { some = omega arith; plain = ((omega arith, omega arith), tt) } in
    let lines : lines_from 0 (front ++ rest) ≡ h ∷ rows = line_back 0 (decimal (length ts)) (codes "4" ∷ codes "0" ∷ []) rest (number_field (length ts) (omega arith)) (four_field, (zero_field, tt)) in
    ap (λ (b : Bool). if b then Err TooLong else contents tet_head (λ g i. tet_line nodes.first count g.extra (nodes.first + i)) (lines_from 0 (front ++ rest))) (le-ltb text_limit (length (front ++ rest)) within)
    ∙ ap (contents tet_head (λ g i. tet_line nodes.first count g.extra (nodes.first + i))) lines
    ∙ ap (λ (n : ℕ). contents tet_head (λ g i. tet_line n count g.extra (n + i)) (h ∷ rows)) same
    ∙ ap (λ (o : Option FileHead). option_map_or (λ g. items_or_fault (λ i. tet_line first count g.extra (first + i)) g.count rows) o (Err (BadLine 0))) (head_back (length ts) (omega arith))
    ∙ read_start (λ i. tet_line first count 0 (first + i)) (length ts) rows
    ∙ ap (λ (n : ℕ). gone_on (λ i. tet_line first count 0 (first + i)) (length ts) 0 [] (lines_from next (ele_lines n (map (renumbered first) ts)))) number
    ∙ tets_gone_on first count (length ts) 0 next [] ts low (omega arith) few small four below

-- without nodes there are no tetrahedra
none_of_none : (ts : List (List ℕ)) → All (λ t. length t ≡ 4) ts → All (All (λ n. n < 0)) ts → ts ≡ []
none_of_none [] four below = refl
none_of_none (t ∷ ts) four below = go t (All-head (λ u. length u ≡ 4) t ts four) (All-head (All (λ n. n < 0)) t ts below)
  where
    go : (u : List ℕ) → length u ≡ 4 → All (λ n. n < 0) u → t ∷ ts ≡ []
    go [] four below = absurd (omega arith)
    go (n ∷ ns) four below = let no : n < 0 = below 0 0 (omega arith) in absurd (omega arith)

-- the text of no tetrahedra has no number
empty_text : (first : ℕ) → ele_text first [] ≡ ele_text 0 []
unfolding ele_text
empty_text first = refl

pub tets_are_read_back : TetsAreReadBack
tets_are_read_back first nodes ts low said small four below within = by_nodes nodes.places refl
  where
    by_nodes : (places : List Place) → nodes.places ≡ places → tets_of nodes (ele_text first ts) ≡ Ok ts
    by_nodes [] e =
        let none : ts ≡ [] = none_of_none ts four (subst (λ (ps : List Place). All (All (λ n. n < length ps)) ts) e below) in
        let zero_first : nodes.first ≡ 0 = said ∙ ap (λ (ps : List Place). first_said first ps) e in
        let same : ele_text first ts ≡ ele_text 0 ts = ap (ele_text first) none ∙ empty_text first ∙ ap (ele_text 0) (sym none) in
        ap (tets_of nodes) same ∙ over_nodes 0 nodes ts (omega arith) zero_first small four below (subst (λ (text : List ℕ). length text ≤ text_limit) same within)
    by_nodes (p ∷ ps) e = over_nodes first nodes ts low (said ∙ ap (λ (qs : List Place). first_said first qs) e) small four below within
