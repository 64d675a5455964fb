-- Rows of texts: a text at the end.
use Rattle.std.proofs.Common.{◌≡◌, ℕ, ◌+◌, ◌-◌, ◌≤◌, ◌<◌, List, [], ◌∷◌, ◌++◌, append_assoc, length, take, drop, arith, refl, ap, sym, ◌∙◌}
use borrow.Rule.Slice.PartMut.{put_mid}
use Rattle.std.proofs.lemmas.List.{length-append, length-drop, length-take-le, take-take, take_more_set}
use Rattle.std.specs.Prelude.{slice_set}
use Rattle.std.specs.Simd.Lanes.{put_chunk}
use Rattle.std.proofs.lemmas.Simd.{length-put_chunk, put_chunk_whole}
use Rattle.std.proofs.lemmas.Slice.{take-put_mid}
use Rattle.std.proofs.Math.Seq.{take-append-add}

-- the first n bytes of what was written at the end of a row stand behind it
pub text_behind : (end k n : ℕ) (bytes ys row text : List ℕ) → end ≤ length bytes → n ≤ length ys → take end bytes ≡ row → take n ys ≡ text → take (end + n) (put_mid end k bytes ys) ≡ row ++ text
text_behind end k n bytes ys row text within few r t =
    let front : length (take end bytes) ≡ end = length-take-le end bytes within in
    sym (take-take (end + n) (end + length ys) (put_mid end k bytes ys) (omega arith))
    ∙ ap (take (end + n)) (take-put_mid end k bytes ys (end + length ys) refl within)
    ∙ ap (λ m. take (m + n) (take end bytes ++ ys)) (sym front)
    ∙ take-append-add (take end bytes) ys n
    ∙ (λ i. r i ++ t i)

-- what stands in a buffer with the w lanes of a vector from a place on
abbrev pub with_lanes : ℕ → ℕ → List ℕ → List ℕ → List ℕ
with_lanes end w bytes lanes = put_mid end (end + w - end) bytes (put_chunk 0 (take (end + w - end) (drop end bytes)) lanes)

-- the first n lanes of a vector stand behind a row
pub lanes_behind : (end w n : ℕ) (bytes lanes text : List ℕ) → end + w ≤ length bytes → length lanes ≡ w → n ≤ w → take n lanes ≡ text → take (end + n) (with_lanes end w bytes lanes) ≡ take end bytes ++ text
lanes_behind end w n bytes lanes text within wide few t =
    let k : end + w - end ≡ w = omega arith in
    let part : length (take (end + w - end) (drop end bytes)) ≡ length lanes = length-take-le (end + w - end) (drop end bytes) (omega (arith, length-drop end bytes)) ∙ k ∙ sym wide in
    let whole : put_chunk 0 (take (end + w - end) (drop end bytes)) lanes ≡ lanes = put_chunk_whole (take (end + w - end) (drop end bytes)) lanes part in
    ap (λ (ys : List ℕ). take (end + n) (put_mid end (end + w - end) bytes ys)) whole ∙ text_behind end (end + w - end) n bytes lanes (take end bytes) text (omega arith) (omega arith) refl t

-- and a byte behind them
pub lanes_and_byte : (end w n byte : ℕ) (bytes lanes text : List ℕ) → end + w ≤ length bytes → length lanes ≡ w → n < w → take n lanes ++ byte ∷ [] ≡ text →
    take (end + n + 1) (slice_set (with_lanes end w bytes lanes) (end + n) byte) ≡ take end bytes ++ text
lanes_and_byte end w n byte bytes lanes text within wide few t =
    take_more_set (with_lanes end w bytes lanes) (end + n) byte (omega (arith, length_lanes))
    ∙ ap (λ (xs : List ℕ). xs ++ byte ∷ []) (lanes_behind end w n bytes lanes (take n lanes) within wide (omega arith) refl)
    ∙ append_assoc (take end bytes) (take n lanes) (byte ∷ [])
    ∙ ap (λ (xs : List ℕ). take end bytes ++ xs) t
  where
    length_lanes : length (with_lanes end w bytes lanes) ≡ length bytes
    length_lanes =
        let rest = drop end bytes in
        let k = end + w - end in
        let put = put_chunk 0 (take k rest) lanes in
        let a = length-append (take end bytes) (put ++ drop k rest) in
        let b = length-append put (drop k rest) in
        let c = length-put_chunk 0 (take k rest) lanes in
        let d = length-drop end bytes in
        let e = length-take-le end bytes (omega arith) in
        let f = length-take-le k rest (omega arith) in
        let g = length-drop k rest in
        omega arith
