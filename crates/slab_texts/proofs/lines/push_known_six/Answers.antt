use Rattle.std.proofs.Common.{ℕ, [], ◌∷◌, ◌+◌, ◌<◌, ◌^◌, arith}
use Rattle.std.proofs.lemmas.List.Elements.{All-cons, All-nil}
use Rattle.slab_texts.proofs.lines.push_known_six.Goals as goal

pub star_lines-requires-clause-own : goal.star_lines-requires-clause-own
star_lines-requires-clause-own c =
    let own : c.args.whole.now.own < 2 ^ 31 = c.requires.small 0 [] (omega arith) 0 0 (omega arith) in
    omega arith

pub star_lines-requires-clause-others : goal.star_lines-requires-clause-others
star_lines-requires-clause-others c =
    let later = c.args.whole.now.later in
    let first = c.from-then-out.result in
    let P = λ (n : ℕ). first + n < 2 ^ 32 in
    let small = c.requires.small in
    let a : later.first < 2 ^ 31 = small 0 [] (omega arith) 1 0 (omega arith) in
    let b : later.second < 2 ^ 31 = small 1 [] (omega arith) 1 0 (omega arith) in
    let d : later.third < 2 ^ 31 = small 2 [] (omega arith) 1 0 (omega arith) in
    let e : later.fourth < 2 ^ 31 = small 0 [] (omega arith) 3 0 (omega arith) in
    let f : later.fifth < 2 ^ 31 = small 1 [] (omega arith) 2 0 (omega arith) in
    let g : later.sixth < 2 ^ 31 = small 0 [] (omega arith) 2 0 (omega arith) in
    let h : later.seventh < 2 ^ 31 = small 2 [] (omega arith) 3 0 (omega arith) in
    All-cons P later.first (later.second ∷ later.third ∷ later.fourth ∷ later.fifth ∷ later.sixth ∷ later.seventh ∷ []) (omega arith)
    (All-cons P later.second (later.third ∷ later.fourth ∷ later.fifth ∷ later.sixth ∷ later.seventh ∷ []) (omega arith)
    (All-cons P later.third (later.fourth ∷ later.fifth ∷ later.sixth ∷ later.seventh ∷ []) (omega arith)
    (All-cons P later.fourth (later.fifth ∷ later.sixth ∷ later.seventh ∷ []) (omega arith)
    (All-cons P later.fifth (later.sixth ∷ later.seventh ∷ []) (omega arith)
    (All-cons P later.sixth (later.seventh ∷ []) (omega arith)
    (All-cons P later.seventh [] (omega arith) (All-nil P)))))))
