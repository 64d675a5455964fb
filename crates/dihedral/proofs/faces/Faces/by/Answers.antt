use Rattle.std.proofs.Common.{◌∙◌, arith}
use Rattle.dihedral.specs.TetFaces.{closing}
use Rattle.dihedral.proofs.FaceSquares.{held}
use Rattle.dihedral.proofs.NormalSums.{above_zero, product-first, product-second, product-third, square-closing}
use Rattle.dihedral.proofs.faces.Faces.by.Goals as goal

pub closing_square-first_square-requires-clause-some : goal.closing_square-first_square-requires-clause-some
closing_square-first_square-requires-clause-some c =
    let l = c.args.second in
    let m = c.args.third in
    let n = c.args.fourth in
    let first = product-first l m n _ _ _ _ c.with_closing-first_second.ensures.value c.square-second_square.ensures.value c.dot-second_third.ensures.small c.dot-second_third.ensures.value c.dot-second_fourth.ensures.small c.dot-second_fourth.ensures.value in
    let second = product-second l m n _ _ _ _ c.with_closing-first_third.ensures.value c.square-third_square.ensures.value c.dot-second_third.ensures.small c.dot-second_third.ensures.value c.dot-third_fourth.ensures.small c.dot-third_fourth.ensures.value in
    let third = product-third l m n _ _ _ _ c.with_closing-first_fourth.ensures.value c.square-fourth_square.ensures.value c.dot-second_fourth.ensures.small c.dot-second_fourth.ensures.value c.dot-third_fourth.ensures.small c.dot-third_fourth.ensures.value in
    let square = square-closing l m n _ _ _ c.with_closing-first_second.ensures.small first c.with_closing-first_third.ensures.small second c.with_closing-first_fourth.ensures.small third in
    above_zero (closing l m n) _ c.requires.some_first square

pub returns : goal.returns
returns c =
    let l = c.args.second in
    let m = c.args.third in
    let n = c.args.fourth in
    let first = product-first l m n _ _ _ _ c.with_closing-first_second.ensures.value c.square-second_square.ensures.value c.dot-second_third.ensures.small c.dot-second_third.ensures.value c.dot-second_fourth.ensures.small c.dot-second_fourth.ensures.value in
    let second = product-second l m n _ _ _ _ c.with_closing-first_third.ensures.value c.square-third_square.ensures.value c.dot-second_third.ensures.small c.dot-second_third.ensures.value c.dot-third_fourth.ensures.small c.dot-third_fourth.ensures.value in
    let third = product-third l m n _ _ _ _ c.with_closing-first_fourth.ensures.value c.square-fourth_square.ensures.value c.dot-second_fourth.ensures.small c.dot-second_fourth.ensures.value c.dot-third_fourth.ensures.small c.dot-third_fourth.ensures.value in
    let square = square-closing l m n _ _ _ c.with_closing-first_second.ensures.small first c.with_closing-first_third.ensures.small second c.with_closing-first_fourth.ensures.small third in
    record {
      edge_0 = record { product = held c.dot-third_fourth.result (omega (arith, c.dot-third_fourth.ensures.small)) ∙ c.dot-third_fourth.ensures.value; one = c.square-fourth_square.ensures.value; other = c.square-third_square.ensures.value };
      edge_1 = record { product = held c.dot-second_fourth.result (omega (arith, c.dot-second_fourth.ensures.small)) ∙ c.dot-second_fourth.ensures.value; one = c.square-second_square.ensures.value; other = c.square-fourth_square.ensures.value };
      edge_2 = record { product = held c.dot-second_third.result (omega (arith, c.dot-second_third.ensures.small)) ∙ c.dot-second_third.ensures.value; one = c.square-third_square.ensures.value; other = c.square-second_square.ensures.value };
      edge_3 = record { product = held c.with_closing-first_fourth.result (omega (arith, c.with_closing-first_fourth.ensures.small)) ∙ third; one = c.square-fourth_square.ensures.value; other = c.closing_square-first_square.ensures.value ∙ square };
      edge_4 = record { product = held c.with_closing-first_third.result (omega (arith, c.with_closing-first_third.ensures.small)) ∙ second; one = c.square-third_square.ensures.value; other = c.closing_square-first_square.ensures.value ∙ square };
      edge_5 = record { product = held c.with_closing-first_second.result (omega (arith, c.with_closing-first_second.ensures.small)) ∙ first; one = c.square-second_square.ensures.value; other = c.closing_square-first_square.ensures.value ∙ square };
    }
