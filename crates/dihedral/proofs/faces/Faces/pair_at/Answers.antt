use Rattle.std.proofs.Common.{◌≡◌, ap, sym, ◌∙◌, arith}
use Rattle.dihedral.specs.Fractions.{square_at}
use Rattle.dihedral.specs.TetAngles.{edge_at}
use Rattle.dihedral.proofs.FaceSquares.{edge_0, edge_1, edge_2, edge_3, edge_4, edge_5, pair_square, pair_square-turned}
use Rattle.dihedral.proofs.faces.Faces.pair_at.Goals as goal

pub returns-in-0 : goal.returns-in-0
returns-in-0 c = λ tet f. pair_square c.args.self.now.edge_0 _ _ f.edge_0 ∙ sym (edge_0 tet) ∙ ap (λ e. square_at tet (edge_at e)) (sym c.in-0.is)

pub returns-in-1 : goal.returns-in-1
returns-in-1 c = λ tet f. pair_square c.args.self.now.edge_1 _ _ f.edge_1 ∙ sym (edge_1 tet) ∙ ap (λ e. square_at tet (edge_at e)) (sym c.in-1.is)

pub returns-in-2 : goal.returns-in-2
returns-in-2 c = λ tet f. pair_square c.args.self.now.edge_2 _ _ f.edge_2 ∙ sym (edge_2 tet) ∙ ap (λ e. square_at tet (edge_at e)) (sym c.in-2.is)

pub returns-in-3 : goal.returns-in-3
returns-in-3 c = λ tet f. pair_square c.args.self.now.edge_3 _ _ f.edge_3 ∙ sym (edge_3 tet) ∙ ap (λ e. square_at tet (edge_at e)) (sym c.in-3.is)

pub returns-in-4 : goal.returns-in-4
returns-in-4 c = λ tet f. pair_square-turned c.args.self.now.edge_4 _ _ f.edge_4 ∙ sym (edge_4 tet) ∙ ap (λ e. square_at tet (edge_at e)) (sym c.in-4.is)

pub returns-in_default : goal.returns-in_default
returns-in_default c = λ tet f. let edge : c.args.edge ≡ 5 = omega arith in pair_square c.args.self.now.edge_5 _ _ f.edge_5 ∙ sym (edge_5 tet) ∙ ap (λ e. square_at tet (edge_at e)) (sym edge)
