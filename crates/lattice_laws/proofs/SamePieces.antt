-- Tests for equal lists of nodes.
use Rattle.std.proofs.Common.{◌≡◌, Bool, true, false, ◌&&◌, List, [], ◌∷◌, refl}
use Rattle.std.proofs.lemmas.Bool.{and_parts}
use Rattle.definitions.specs.declared.Corner.{Corner}
use Rattle.definitions.specs.Stencils.{same_corner}
use Rattle.lattice_laws.proofs.KeyOrder.{corner_from_same}

abbrev pub same_piece : List Corner → List Corner → Bool
same_piece [] [] = true
same_piece [] (d ∷ q) = false
same_piece (c ∷ p) [] = false
same_piece (c ∷ p) (d ∷ q) = same_corner c d && same_piece p q

pub piece_from_same : (p q : List Corner) → same_piece p q ≡ true → p ≡ q
piece_from_same [] [] e = refl
piece_from_same [] (d ∷ q) e = cc
piece_from_same (c ∷ p) [] e = cc
piece_from_same (c ∷ p) (d ∷ q) e = let f = and_parts (same_corner c d) _ e in λ i. corner_from_same c d f.0 i ∷ piece_from_same p q f.1 i

abbrev pub same_pieces : List (List Corner) → List (List Corner) → Bool
same_pieces [] [] = true
same_pieces [] (q ∷ qs) = false
same_pieces (p ∷ ps) [] = false
same_pieces (p ∷ ps) (q ∷ qs) = same_piece p q && same_pieces ps qs

pub pieces_from_same : (ps qs : List (List Corner)) → same_pieces ps qs ≡ true → ps ≡ qs
pieces_from_same [] [] e = refl
pieces_from_same [] (q ∷ qs) e = cc
pieces_from_same (p ∷ ps) [] e = cc
pieces_from_same (p ∷ ps) (q ∷ qs) e = let f = and_parts (same_piece p q) _ e in λ i. piece_from_same p q f.0 i ∷ pieces_from_same ps qs f.1 i
