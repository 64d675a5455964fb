use Rattle.face_neigh.proofs.Partners.{mutual_of}
use Rattle.face_neigh.proofs.mutual.neighbours_are_mutual.Goals as goal

pub returns : goal.returns
returns c = λ tets four differ by_two. mutual_of tets (record { four = four; differ = differ; by_two = by_two })
