-- The head in the parts in which it is written, and the bytes of samples.
use Rattle.std.proofs.Common.{◌≡◌, ℕ, ◌≤◌, zero, suc, List, [], ◌∷◌, ◌++◌, take, codes, ℤ, refl, ap, sym, ◌∙◌, arith, append_assoc, w64, of_z, to_z, FitsSigned}
use Rattle.std.proofs.lemmas.Int.{to_z-of_z}
use Rattle.std.specs.Int.{bytes_low_first, byte_at}
use Rattle.definitions.specs.declared.Dims.{Dims}
use Rattle.formats.specs.declared.Kind.{Kind}
use Rattle.mha_write.specs.Text.{type_name, sizes_text, plain_head}

abbrev pub front : List ℕ
front = codes "ObjectType = Image\nNDims = 3\nBinaryData = True\nBinaryDataByteOrderMSB = False\nCompressedData = False\nTransformMatrix = 1 0 0 0 1 0 0 0 1\nOffset = 0 0 0\nCenterOfRotation = 0 0 0\nAnatomicalOrientation = RAI\nElementSpacing = 1 1 1\nDimSize = "

abbrev pub behind_sizes : Kind → List ℕ
behind_sizes kind = codes "\nElementType = " ++ (type_name kind ++ codes "\nElementDataFile = LOCAL\n")

with_newline : (s r : List ℕ) → s ++ 10 ∷ r ≡ (s ++ 10 ∷ []) ++ r
with_newline s r = sym (append_assoc s (10 ∷ []) r)

pub head_parts : (d : Dims) (kind : Kind) → front ++ (sizes_text d ++ behind_sizes kind) ≡ plain_head d kind
unfolding plain_head
head_parts d kind =
    ap (λ (zs : List ℕ). front ++ (sizes_text d ++ 10 ∷ (codes "ElementType = " ++ zs))) (with_newline (type_name kind) (codes "ElementDataFile = LOCAL\n"))
    ∙ ap (λ (zs : List ℕ). front ++ zs) (with_newline (sizes_text d) (codes "ElementType = " ++ ((type_name kind ++ 10 ∷ []) ++ codes "ElementDataFile = LOCAL\n")))

-- five parts at the end of a text
pub five_parts : (t0 t1 t2 t3 t4 t5 a b c d e : List ℕ) → t1 ≡ t0 ++ a → t2 ≡ t1 ++ b → t3 ≡ t2 ++ c → t4 ≡ t3 ++ d → t5 ≡ t4 ++ e → t5 ≡ t0 ++ (a ++ (b ++ (c ++ (d ++ e))))
five_parts t0 t1 t2 t3 t4 t5 a b c d e p q r s t =
    t ∙ ap (λ (z : List ℕ). z ++ e) (s ∙ ap (λ (z : List ℕ). z ++ d) (r ∙ ap (λ (z : List ℕ). z ++ c) (q ∙ ap (λ (z : List ℕ). z ++ b) p))) ∙ simp append_assoc

take_low : (i k n x : ℕ) → n ≤ k → take n (bytes_low_first i k x) ≡ bytes_low_first i n x
take_low i k zero x h = refl
take_low i zero (suc n) x h = absurd (omega arith)
take_low i (suc k) (suc n) x h = ap (λ (r : List ℕ). byte_at i x ∷ r) (take_low (suc i) k n x (omega arith))

-- the first bytes of a number that was passed
pub first_bytes : (size : ℕ) (z : ℤ) → FitsSigned w64 z → size ≤ 8 → take size (bytes_low_first 0 8 (of_z w64 (to_z w64 (of_z w64 z)))) ≡ bytes_low_first 0 size (of_z w64 z)
first_bytes size z fits small =
    ap (λ (y : ℤ). take size (bytes_low_first 0 8 (of_z w64 y))) (to_z-of_z w64 z fits) ∙ take_low 0 8 size (of_z w64 z) small
