-- What reading a file comes to where the input is told.
use Rattle.std.proofs.Common.{◌≡◌, ℕ, ◌+◌, ◌^◌, ◌<◌, ◌≤◌, List, [], ◌++◌, length, drop, Bool, Option, Some, None, Result, Ok, Err, if◌then◌else◌, refl, sym, ap, ◌∙◌, arith}
use Rattle.std.proofs.lemmas.Bool.{lt-ltb}
use Rattle.std.proofs.lemmas.List.{append-nil, drop_at, drop_all, length-append}
use Rattle.std.specs.Io.KnownBytes.{Consumes, IsAtEnd}
use Rattle.formats.specs.declared.MeshFault.{MeshFault}
use Rattle.formats.specs.declared.MeshFault.TheVariants.{TooLong, BadLine, BadPlace, BadNode, EndsEarly, ReadFault, NoMemory}
use Rattle.mesh_files.specs.Lines.{text_limit, lines_from}
use Rattle.mesh_files.specs.Forms.{node_head, tet_head, node_line, tet_line}
use Rattle.mesh_files.specs.Files.{Nodes, nodes_of, tets_of, nodes_from, contents, first_number}
use Rattle.mesh_read.specs.Told.{Says, ReadsText, FileTold}

whole_text : (text bytes : List ℕ) (new : Option (List ℕ)) → Consumes (Some text) new bytes → IsAtEnd new → (text ≡ bytes) × (new ≡ Some [])
whole_text text bytes None h g = absurd h
whole_text text bytes (Some ys) h g = (h ∙ ap (λ zs. bytes ++ zs) g ∙ append-nil bytes, ap Some g)

pub finish_ok : {X Y : Type 0} (shown : X → Y) (wanted : List ℕ → Result Y MeshFault) (r : Result X MeshFault) (text bytes : List ℕ) (new : Option (List ℕ)) → length bytes ≤ 2 ^ 30 → Consumes (Some text) new bytes → IsAtEnd new → Says shown r (wanted bytes) → FileTold shown (wanted text) r text new
finish_ok shown wanted (Ok x) text bytes new few h g s = let e = whole_text text bytes new h g in (ap wanted e.0 ∙ s, e.1)
finish_ok shown wanted (Err TooLong) text bytes new few h g s = let e = whole_text text bytes new h g in (ap wanted e.0 ∙ s, e.1 ∙ ap Some (sym (drop_all (text_limit + 1) text (omega (arith, ap length e.0)))))
finish_ok shown wanted (Err (BadLine p)) text bytes new few h g s = let e = whole_text text bytes new h g in (ap wanted e.0 ∙ s, e.1)
finish_ok shown wanted (Err (BadPlace p)) text bytes new few h g s = let e = whole_text text bytes new h g in (ap wanted e.0 ∙ s, e.1)
finish_ok shown wanted (Err (BadNode p)) text bytes new few h g s = let e = whole_text text bytes new h g in (ap wanted e.0 ∙ s, e.1)
finish_ok shown wanted (Err (EndsEarly k a)) text bytes new few h g s = let e = whole_text text bytes new h g in (ap wanted e.0 ∙ s, e.1)
finish_ok shown wanted (Err ReadFault) text bytes new few h g s = absurd s
finish_ok shown wanted (Err NoMemory) text bytes new few h g s = tt

pub finish_err : {X Y : Type 0} (shown : X → Y) (wanted : Result Y MeshFault) (fault : MeshFault) (text : List ℕ) (new : Option (List ℕ)) → (text_limit < length text → wanted ≡ Err TooLong) → ReadsText (Some text) new (Err fault) → FileTold shown wanted (Err fault) text new
finish_err shown wanted TooLong text None long h = absurd h.1
finish_err shown wanted TooLong text (Some ys) long h =
    (long (omega (arith, ap length h.1, length-append h.0 ys, h.2)), ap Some (sym (ap (drop (text_limit + 1)) h.1 ∙ drop_at h.0 ys (text_limit + 1) h.2)))
finish_err shown wanted ReadFault text None long h = absurd h.1
finish_err shown wanted ReadFault text (Some ys) long h =
    (length h.0, h.2, omega (arith, ap length h.1, length-append h.0 ys), ap Some (sym (ap (drop (length h.0)) h.1 ∙ drop_at h.0 ys (length h.0) refl)))
finish_err shown wanted NoMemory text new long h = tt
finish_err shown wanted (BadLine p) text new long h = absurd h
finish_err shown wanted (BadPlace p) text new long h = absurd h
finish_err shown wanted (BadNode p) text new long h = absurd h
finish_err shown wanted (EndsEarly k a) text new long h = absurd h

pub long_nodes : (text : List ℕ) → text_limit < length text → nodes_of text ≡ Err TooLong
unfolding nodes_of
long_nodes text h = ap (λ (b : Bool). if b then Err TooLong else nodes_from (first_number (lines_from 0 text)) (contents node_head (λ d i. node_line d.extra (first_number (lines_from 0 text) + i)) (lines_from 0 text))) (lt-ltb text_limit (length text) h)

pub long_tets : (nodes : Nodes) (text : List ℕ) → text_limit < length text → tets_of nodes text ≡ Err TooLong
unfolding tets_of
long_tets nodes text h = ap (λ (b : Bool). if b then Err TooLong else contents tet_head (λ d i. tet_line nodes.first (length nodes.places) d.extra (nodes.first + i)) (lines_from 0 text)) (lt-ltb text_limit (length text) h)

-- what a text says is never a fault of reading
pub never_read_fault : {X Y : Type 0} (shown : X → Y) (r : Result X MeshFault) (wanted : Result Y MeshFault) → Says shown r wanted → r ≡ Err ReadFault → ⊥
never_read_fault shown (Ok x) wanted s e = cc
never_read_fault shown (Err TooLong) wanted s e = cc
never_read_fault shown (Err (BadLine p)) wanted s e = cc
never_read_fault shown (Err (BadPlace p)) wanted s e = cc
never_read_fault shown (Err (BadNode p)) wanted s e = cc
never_read_fault shown (Err (EndsEarly k a)) wanted s e = cc
never_read_fault shown (Err ReadFault) wanted s e = s
never_read_fault shown (Err NoMemory) wanted s e = cc
