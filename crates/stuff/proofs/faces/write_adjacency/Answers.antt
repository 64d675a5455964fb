use Rattle.std.proofs.Common.{ℕ, List, ap, sym, ◌∙◌, subst}
use Rattle.definitions.specs.Soundness.{boundary}
use Rattle.formats.specs.declared.Port.TheVariants.{Face, Neigh}
use Rattle.adjacency.specs.Laws.{NodesDiffer, ShareByTwo}
use Rattle.adjacency.specs.Neighbours.{neighbours}
use Rattle.adjacency.specs.Texts.{face_text, neigh_text}
use Rattle.stuff.specs.Ports.{mesh_files}
use Rattle.stuff.specs.Writing.{IsBroken, IsThis, IsWritten, Puts, Reaches}
use Rattle.stuff.proofs.FilesInTurn.{face_among, four_files, neigh_among}
use Rattle.stuff.proofs.MeshTriangles.{nodes_differ, share_by_two}
use Rattle.stuff.proofs.Writings.{nothing_written, not_written, one_put, one_written}
use Rattle.stuff.proofs.faces.write_adjacency.Goals as goal

pub neighbours-requires-clause-differ : goal.neighbours-requires-clause-differ
neighbours-requires-clause-differ g c =
    subst NodesDiffer (sym (c.deref.ensures.value ∙ c.in-Ok.ensures)) (nodes_differ c.args.survey.now.subject.field c.args.survey.now.subject.shares c.requires.limits)

pub neighbours-requires-clause-by_two : goal.neighbours-requires-clause-by_two
neighbours-requires-clause-by_two g c =
    subst ShareByTwo (sym (c.deref.ensures.value ∙ c.in-Ok.ensures)) (share_by_two c.args.survey.now.subject.field c.args.survey.now.subject.shares c.requires.limits)

pub returns-in_default-clause-continues : goal.returns-in_default-clause-continues
returns-in_default-clause-continues g c = λ name texts face neigh before h.
    nothing_written g.D.Desk.ports (mesh_files c.args.asked) name (IsThis texts) before Face (texts Face) tt (face_among c.args.asked c.if-not-asked.false) (λ t e. e) c.args.desk.now h

pub returns-in_default-neighbours-clause-continues : goal.returns-in_default-neighbours-clause-continues
returns-in_default-neighbours-clause-continues g c = λ name texts face neigh before h.
    nothing_written g.D.Desk.ports (mesh_files c.args.asked) name (IsThis texts) before Face (texts Face) tt (face_among c.args.asked c.if-not-asked.false) (λ t e. e) c.args.desk.now h

pub write_faces-requires-clause-differ : goal.write_faces-requires-clause-differ
write_faces-requires-clause-differ g c =
    subst NodesDiffer (sym (c.deref-2.ensures.value ∙ c.in-Ok.ensures)) (nodes_differ c.args.survey.now.subject.field c.args.survey.now.subject.shares c.requires.limits)

pub write_faces-requires-clause-by_two : goal.write_faces-requires-clause-by_two
write_faces-requires-clause-by_two g c =
    subst ShareByTwo (sym (c.deref-2.ensures.value ∙ c.in-Ok.ensures)) (share_by_two c.args.survey.now.subject.field c.args.survey.now.subject.shares c.requires.limits)

-- the boundary triangles were not all written
pub returns-in-Err-clause-continues : goal.returns-in-Err-clause-continues
returns-in-Err-clause-continues g c = λ name texts face neigh before h.
    let text = ap (λ (ts : List (List ℕ)). face_text c.args.numbering (boundary ts)) (c.deref-2.ensures.value ∙ c.in-Ok.ensures) ∙ sym face in
    not_written g.D.Desk.ports (mesh_files c.args.asked) name (IsThis texts) before Face (texts Face) tt (face_among c.args.asked c.if-not-asked.false) (λ t e. e)
    c.args.desk.now c.write_faces.new.desk c.in-Err.ensures.apart.others h c.in-Err.status
    (subst (λ (t : List ℕ). IsBroken c.in-Err.status Face (g.D.Desk.ports c.args.desk.now Face) (g.D.Desk.ports c.write_faces.new.desk Face) t) text c.in-Err.ensures.puts)

-- they were, and so were the neighbours, or not all of these
pub returns-clause-continues : goal.returns-clause-continues
returns-clause-continues g c = λ name texts face neigh before h.
    let tets = c.deref-2.ensures.value ∙ c.in-Ok.ensures in
    let triangles = ap (λ (ts : List (List ℕ)). face_text c.args.numbering (boundary ts)) tets ∙ sym face in
    let across = c.deref-4.ensures.value ∙ (c.in-Ok-neighbours.ensures.neighbours ∙ ap neighbours (c.deref.ensures.value ∙ c.in-Ok.ensures)) in
    let text = ap (neigh_text c.args.numbering) across ∙ sym neigh in
    let faces = one_written g.D.Desk.ports (mesh_files c.args.asked) name (IsThis texts) before Face (texts Face) tt (face_among c.args.asked c.if-not-asked.false) (λ t e. e)
    c.args.desk.now c.write_faces.new.desk c.in-Ok-write_faces.ensures.apart.others h
    (subst (λ (t : List ℕ). IsWritten (g.D.Desk.ports c.args.desk.now Face) (g.D.Desk.ports c.write_faces.new.desk Face) t) triangles c.in-Ok-write_faces.ensures.puts) in
    subst (λ (n : ℕ). Reaches c.write_neighbours.result g.D.Desk.ports (mesh_files c.args.asked) n name (IsThis texts) before c.write_neighbours.new.desk) (four_files c.args.asked c.if-not-asked.false)
    (one_put g.D.Desk.ports (mesh_files c.args.asked) name (IsThis texts) before c.write_neighbours.result Neigh (texts Neigh) tt (neigh_among c.args.asked c.if-not-asked.false) (λ t e. e)
    c.write_faces.new.desk c.write_neighbours.new.desk c.write_neighbours.ensures.apart.others faces
    (subst (λ (t : List ℕ). Puts c.write_neighbours.result Neigh (g.D.Desk.ports c.write_faces.new.desk Neigh) (g.D.Desk.ports c.write_neighbours.new.desk Neigh) t) text c.write_neighbours.ensures.puts))
