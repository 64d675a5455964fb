-- Texts that are written one after another, and the files that lines stand in.
use Rattle.std.proofs.Common.{◌≡◌, ◌≤◌, ℕ, List, ◌++◌, length, codes, decimal, Option, ap, refl, subst, sym, ◌∙◌}
use Rattle.std.specs.Prelude.{OnErr, OnOk, Result, Ok, Err}
use Rattle.std.specs.Io.KnownBytes.{Appends}
use Rattle.std.proofs.KnownBytes.{Appends-trans}
use Rattle.std.proofs.lemmas.List.{length-map}
use Rattle.definitions.specs.declared.State.{State}
use Rattle.definitions.specs.Mesh.{node_keys, node_place}
use Rattle.definitions.specs.Values.{Field}
use Rattle.formats.specs.declared.Port.{Port}
use Rattle.mesh_lists.specs.Parts.{mesh_of}
use Rattle.mesh_texts.specs.Nodes.{node_of_key, nodes_of}
use Rattle.node_ele_write.proofs.Files.{ele_text_begun, node_text_begun}
use Rattle.node_ele_write.proofs.Pieces.{part_behind, part_longer}
use Rattle.node_ele_write.specs.declared.PutFault.{PutFault}
use Rattle.slab_emit.specs.declared.Lines.{Lines}
use Rattle.slab_emit.specs.declared.Lines.TheVariants.{Nodes, Tets, Angles}
use Rattle.slab_emit.specs.Sources.{SourceValue}
use Rattle.st_base.proofs.Frames.{then_port}
use Rattle.st_base.specs.Causes.{Rose}
use Rattle.st_base.specs.Desk.{AppendsPart}
use Rattle.st_base.specs.declared.desk.Desk.{Ghosts}
use Rattle.mesh_rounds.specs.Puts.{PutsText}
use Rattle.mesh_rounds.specs.Rounds.{all_lines, file_text, first_line}

-- there are as many nodes as places
nodes_count : (f : Field) (ss : List State) → length (mesh_of f ss).places ≡ length (nodes_of f ss)
unfolding mesh_of nodes_of
nodes_count f ss = length-map (node_keys f.dims ss) (node_place f ss) ∙ sym (length-map (node_keys f.dims ss) (node_of_key f ss))

-- a file is its first line, and then its lines
pub whole_file : (lines : Lines) (s : SourceValue) → first_line lines s ++ all_lines lines s ≡ file_text lines s
whole_file (Nodes frame first) s = node_text_begun frame first (nodes_of s.field s.states) (first_line (Nodes frame first) s) (ap (λ n. decimal n ++ codes " 3 0 1\n") (nodes_count s.field s.states))
whole_file (Tets first) s = ele_text_begun first (mesh_of s.field s.states).tets (first_line (Tets first) s) refl
whole_file Angles s = refl

all_then : {T E : Type 0} (a b c : Option (List ℕ)) (xs ys zs : List ℕ) (r : Result T E) → xs ++ ys ≡ zs → Appends a b xs → OnOk r (Appends b c ys) → OnOk r (Appends a c zs)
all_then a b c xs ys zs (Ok x) e h k = subst (λ (t : List ℕ). Appends a c t) e (Appends-trans a b c xs ys h k)
all_then a b c xs ys zs (Err x) e h k = tt

part_then : {T E : Type 0} (a b c : Option (List ℕ)) (xs ys zs : List ℕ) (r : Result T E) → xs ++ ys ≡ zs → Appends a b xs → OnErr r (AppendsPart b c ys) → OnErr r (AppendsPart a c zs)
part_then a b c xs ys zs (Ok x) e h k = tt
part_then a b c xs ys zs (Err x) e h k = subst (λ (t : List ℕ). AppendsPart a c t) e (part_behind a b c xs ys h k)

-- a text, and then another or some of it
pub puts_then : {S T U : Type 0} (desk : Ghosts S) (port : Port) (a b c : S) (xs ys zs : List ℕ) (u : U) (r : Result T PutFault) → xs ++ ys ≡ zs
    → PutsText {S = S} {T = U} desk port a b xs (Ok u) → PutsText desk port b c ys r → PutsText desk port a c zs r
puts_then desk port a b c xs ys zs u r e p q =
    let same : (desk.ports b port).faults ≡ (desk.ports a port).faults = p.none (λ k. (let q = k in cc)) in
    record {
      all = all_then (desk.ports a port).text (desk.ports b port).text (desk.ports c port).text xs ys zs r e p.all q.all;
      part = part_then (desk.ports a port).text (desk.ports b port).text (desk.ports c port).text xs ys zs r e p.all q.part;
      fault = λ k. subst (λ (n : ℕ). Rose n (desk.ports c port).faults) same (q.fault k);
      none = λ k. q.none k ∙ same;
      later = subst (λ (n : ℕ). n ≤ (desk.ports c port).faults) same q.later;
      is_open = q.is_open;
      name = q.name ∙ p.name;
      apart = then_port p.apart q.apart;
    }

-- some of a text's front
pub puts_front : {S T U : Type 0} (desk : Ghosts S) (port : Port) (a b : S) (xs ys zs : List ℕ) (f : PutFault) → xs ++ ys ≡ zs
    → PutsText {S = S} {T = T} desk port a b xs (Err f) → PutsText {S = S} {T = U} desk port a b zs (Err f)
puts_front desk port a b xs ys zs f e p = record {
  all = tt;
  part = subst (λ (t : List ℕ). AppendsPart (desk.ports a port).text (desk.ports b port).text t) e (part_longer (desk.ports a port).text (desk.ports b port).text xs ys p.part);
  fault = λ k. p.fault (let q = k in cc);
  none = λ k. p.none (λ q. k (let r = q in cc));
  later = p.later;
  is_open = p.is_open;
  name = p.name;
  apart = p.apart;
}
