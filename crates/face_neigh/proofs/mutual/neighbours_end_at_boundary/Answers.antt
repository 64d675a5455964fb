use Rattle.face_neigh.proofs.Partners.{ends_of}
use Rattle.face_neigh.proofs.mutual.neighbours_end_at_boundary.Goals as goal

pub returns : goal.returns
returns c = λ tets four differ by_two. ends_of tets (record { four = four; differ = differ; by_two = by_two })
