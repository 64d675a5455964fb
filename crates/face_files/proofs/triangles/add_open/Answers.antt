use Rattle.std.proofs.Common.{◌≡◌, ℕ, ◌+◌, List, [], ◌∷◌, ◌++◌, length, map, get_or, ap, ◌∙◌, append-nil, sym, None, rules}
use Rattle.std.specs.Prelude.{is_none}
use Rattle.std.proofs.lemmas.Result.{on_ok_weaker}
use Rattle.adjacency.specs.Texts.{face_line}
use Rattle.face_neigh.specs.Open.{one_if, open_triangles}
use Rattle.face_files.specs.FileLines.{face_lines}
use Rattle.face_files.proofs.Boundary.{open_one_by_one}
use Rattle.face_files.proofs.Numbered.{lines_behind}
use Rattle.face_files.proofs.triangles.add_open.Goals as goal

pub returns-clause-text : goal.returns-clause-text
returns-clause-text c =
    let first = c.args.first in
    let tet = c.args.tet in
    let told : List ℕ → List ℕ = map (λ m. first + m) in
    let len : length tet ≡ 4 = search rules in
    let a : List (List ℕ) = one_if c.is_none.result (get_or tet 0 0 ∷ get_or tet 2 0 ∷ get_or tet 1 0 ∷ []) in
    let b : List (List ℕ) = one_if c.is_none-2.result (get_or tet 0 0 ∷ get_or tet 1 0 ∷ get_or tet 3 0 ∷ []) in
    let d : List (List ℕ) = one_if c.is_none-3.result (get_or tet 0 0 ∷ get_or tet 3 0 ∷ get_or tet 2 0 ∷ []) in
    let e : List (List ℕ) = one_if c.is_none-4.result (get_or tet 1 0 ∷ get_or tet 2 0 ∷ get_or tet 3 0 ∷ []) in
    let p : c.is_none.result ≡ is_none (get_or c.args.across 3 None) = search rules in
    let q : c.is_none-2.result ≡ is_none (get_or c.args.across 2 None) = search rules in
    let r : c.is_none-3.result ≡ is_none (get_or c.args.across 1 None) = search rules in
    let s : c.is_none-4.result ≡ is_none (get_or c.args.across 0 None) = search rules in
    let all : a ++ (b ++ (d ++ (e ++ []))) ≡ open_triangles tet c.args.across =
    (λ i. one_if (p i) (get_or tet 0 0 ∷ get_or tet 2 0 ∷ get_or tet 1 0 ∷ [])
    ++ (one_if (q i) (get_or tet 0 0 ∷ get_or tet 1 0 ∷ get_or tet 3 0 ∷ [])
    ++ (one_if (r i) (get_or tet 0 0 ∷ get_or tet 3 0 ∷ get_or tet 2 0 ∷ [])
    ++ (one_if (s i) (get_or tet 1 0 ∷ get_or tet 2 0 ∷ get_or tet 3 0 ∷ []) ++ []))))
    ∙ sym (open_one_by_one tet c.args.across len) in
    on_ok_weaker c.add_if-4.result
    (λ last. lines_behind face_line told c.args.number c.in_ok-second.second a (b ++ (d ++ (e ++ []))) c.args.out.now.items c.add_if.new.out.items c.add_if-4.new.out.items c.in_ok-second.ensures.text c.in_ok-second.ensures.next
    (lines_behind face_line told c.in_ok-second.second c.in_ok-third.third b (d ++ (e ++ [])) c.add_if.new.out.items c.add_if-2.new.out.items c.add_if-4.new.out.items c.in_ok-third.ensures.text c.in_ok-third.ensures.next
    (lines_behind face_line told c.in_ok-third.third c.in_ok-fourth.fourth d (e ++ []) c.add_if-2.new.out.items c.add_if-3.new.out.items c.add_if-4.new.out.items c.in_ok-fourth.ensures.text c.in_ok-fourth.ensures.next
    (last ∙ ap (λ l. c.add_if-3.new.out.items ++ face_lines first c.in_ok-fourth.fourth l) (sym (append-nil e)))))
    ∙ ap (λ l. c.args.out.now.items ++ face_lines first c.args.number l) all)
    c.add_if-4.ensures.text
