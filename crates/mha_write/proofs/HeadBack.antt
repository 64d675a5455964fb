-- The head of a plain head's text.
use Rattle.std.proofs.Common.{◌≡◌, ◌≢◌, ℕ, ◌+◌, ◌*◌, ◌^◌, ◌<◌, ◌≤◌, ◌==◌, ◌&&◌, ◌||◌, not, List, [], ◌∷◌, ◌++◌, length, take, map, codes, decimal, Option, Some, Bool, true, false, nat_lt, is_some, refl, ap, sym, ◌∙◌, arith, length-append, unwrap_or, eq-eqb}
use Rattle.std.proofs.lemmas.Grind.{common_steps}
use Rattle.std.proofs.lemmas.Fmt.{decimal_nonempty, decimal_is_IsNumeral, length-decimal-le}
use Rattle.std.proofs.lemmas.List.Elements.{All-from_recursion, All-append, All-cons}
use Rattle.std.proofs.Math.Nat.{mul-le-mul}
use Rattle.std.specs.List.{AllByRecursion, All, list_all, cons_option}
use Rattle.std.specs.Str.Parse.{digits_value}
use Rattle.std.specs.declared.result.Result.TheVariants.{Ok}
use Rattle.list_words.proofs.Digits.{IsDigit, all_digits}
use Rattle.definitions.specs.declared.Dims.{Dims}
use Rattle.definitions.specs.Lattice.{IsDims, dims}
use Rattle.formats.specs.declared.Kind.{Kind}
use Rattle.formats.specs.declared.Kind.TheVariants.{Uchar, Char, Ushort, Short, Uint, Int}
use Rattle.formats.specs.Counts.{head_limit, is_positive_count}
use Rattle.formats.specs.HeadLines.{Meaning, Pair, meaning_of, is_bad, is_data_line, pair_of}
use Rattle.formats.specs.Frames.{unit_axes}
use Rattle.formats.specs.Heads.{head_of, head_of_found, first_fault_or, head_of_pairs, words_of, kind_of, form_fault, refusal, faults}
use Rattle.mha_read.specs.Lines.{HasNoNewline}
use Rattle.mha_read.specs.LinesRead.{bytes_of}
use Rattle.mha_read.specs.Told.{pairs_in}
use Rattle.mha_write.specs.Text.{type_name, sizes_text, plain_lines, plain_head}
use Rattle.mha_write.proofs.Digits.{size_is_count, not_newline}
use Rattle.mha_write.proofs.Sizes.{three_words, sizes_meaning}
use Rattle.mha_write.proofs.HeadLines.{with_newlines, length_lines, pairs_found_in}

-- the pairs of a plain head with these sizes and this name of a type
abbrev plain_pairs : List ℕ → List ℕ → List (List ℕ × List ℕ)
plain_pairs sizes name =
    (codes "ObjectType", codes "Image")
    ∷ (codes "NDims", codes "3")
    ∷ (codes "BinaryData", codes "True")
    ∷ (codes "BinaryDataByteOrderMSB", codes "False")
    ∷ (codes "CompressedData", codes "False")
    ∷ (codes "TransformMatrix", codes "1 0 0 0 1 0 0 0 1")
    ∷ (codes "Offset", codes "0 0 0")
    ∷ (codes "CenterOfRotation", codes "0 0 0")
    ∷ (codes "AnatomicalOrientation", codes "RAI")
    ∷ (codes "ElementSpacing", codes "1 1 1")
    ∷ (codes "DimSize", sizes)
    ∷ (codes "ElementType", name)
    ∷ (codes "ElementDataFile", codes "LOCAL")
    ∷ []

name_is_kind : (kind : Kind) → kind_of (type_name kind) ≡ Some kind
name_is_kind Uchar = refl
name_is_kind Char = refl
name_is_kind Ushort = refl
name_is_kind Short = refl
name_is_kind Uint = refl
name_is_kind Int = refl

-- what the sizes and the name of the type say
record Say (sizes name : List ℕ) : Type 0 where
  pub formed : (length (words_of sizes) == 3 && list_all is_positive_count (words_of sizes)) ≡ true
  pub named : nat_lt 0 (length name) ≡ true
  pub supported : is_some (kind_of name) ≡ true

say : (sizes name : List ℕ) (ws : List (List ℕ)) (kind : Kind) → words_of sizes ≡ ws → (length ws == 3 && list_all is_positive_count ws) ≡ true → 0 < length name → kind_of name ≡ Some kind → Say sizes name
say sizes name ws kind words three some is =
    let named : nat_lt 0 (length name) ≡ true = grind (arith, common_steps) in
    record {
      formed = ap (λ (vs : List (List ℕ)). length vs == 3 && list_all is_positive_count vs) words ∙ three;
      named = named;
      supported = ap (λ (o : Option Kind). is_some o) is;
    }

no_faults : (world : Bool) (sizes name : List ℕ) (ws : List (List ℕ)) (kind : Kind) → words_of sizes ≡ ws → (length ws == 3 && list_all is_positive_count ws) ≡ true → 0 < length name → kind_of name ≡ Some kind → faults world (plain_pairs sizes name) ≡ []
unfolding form_fault refusal
no_faults true sizes name ws kind words three some is = let s = say sizes name ws kind words three some is in rw (s.formed, s.named, s.supported) refl
no_faults false sizes name ws kind words three some is = let s = say sizes name ws kind words three some is in rw (s.formed, s.named, s.supported) refl

head_is : (world : Bool) (sizes name : List ℕ) (ws : List (List ℕ)) (kind : Kind) → words_of sizes ≡ ws → kind_of name ≡ Some kind → head_of_pairs world (plain_pairs sizes name) ≡ record { raw = map (digits_value 10) ws; kind = kind; big = false; axes = unit_axes }
unfolding head_of_pairs
head_is true sizes name ws kind words is = λ i. record { raw = map (digits_value 10) (words i); kind = unwrap_or (is i) Uchar; big = false; axes = unit_axes }
head_is false sizes name ws kind words is = λ i. record { raw = map (digits_value 10) (words i); kind = unwrap_or (is i) Uchar; big = false; axes = unit_axes }

type_meaning : (kind : Kind) → meaning_of (codes "ElementType = " ++ type_name kind) ≡ Pair (codes "ElementType") (type_name kind)
type_meaning Uchar = refl
type_meaning Char = refl
type_meaning Ushort = refl
type_meaning Short = refl
type_meaning Uint = refl
type_meaning Int = refl

name_length : (kind : Kind) → (0 < length (type_name kind)) × (length (type_name kind) ≤ 10)
name_length Uchar = (omega arith, omega arith)
name_length Char = (omega arith, omega arith)
name_length Ushort = (omega arith, omega arith)
name_length Short = (omega arith, omega arith)
name_length Uint = (omega arith, omega arith)
name_length Int = (omega arith, omega arith)

-- no line has a newline in it
abbrev no_newline : List ℕ → Bool
no_newline bs = list_all (λ b. not (b == 10)) bs

differs : (b : ℕ) → (b == 10) ≡ false → b ≢ 10
differs b t = λ (e : b ≡ 10). let u : (b == 10) ≡ true = eq-eqb b 10 e in let v : false ≡ true = sym t ∙ u in cc

is_plain : (bs : List ℕ) → no_newline bs ≡ true → AllByRecursion (λ b. b ≢ 10) bs
is_plain [] h = tt
is_plain (b ∷ bs) h = by_test (b == 10) refl h (is_plain bs)
  where
    by_test : (t : Bool) → (b == 10) ≡ t → (not t && no_newline bs) ≡ true → (no_newline bs ≡ true → AllByRecursion (λ c. c ≢ 10) bs) → AllByRecursion (λ c. c ≢ 10) (b ∷ bs)
    by_test true t h more = cc
    by_test false t h more = (differs b t, more h)

plain_line : (bs : List ℕ) → no_newline bs ≡ true → HasNoNewline bs
plain_line bs h = All-from_recursion (λ b. b ≢ 10) bs (is_plain bs h)

type_is_plain : (kind : Kind) → no_newline (codes "ElementType = " ++ type_name kind) ≡ true
type_is_plain Uchar = refl
type_is_plain Char = refl
type_is_plain Ushort = refl
type_is_plain Short = refl
type_is_plain Uint = refl
type_is_plain Int = refl

digits_plain : (bs : List ℕ) → AllByRecursion IsDigit bs → AllByRecursion (λ b. b ≢ 10) bs
digits_plain [] h = tt
digits_plain (b ∷ bs) h = (not_newline b h.0, digits_plain bs h.1)

sizes_plain : (a b c : List ℕ) → AllByRecursion IsDigit a → AllByRecursion IsDigit b → AllByRecursion IsDigit c → HasNoNewline (codes "DimSize = " ++ (a ++ 32 ∷ (b ++ 32 ∷ c)))
sizes_plain a b c da db dc =
    let P : ℕ → Type 0 = λ n. n ≢ 10 in
    let blank : P 32 = differs 32 refl in
    let part : (bs : List ℕ) → AllByRecursion IsDigit bs → All P bs = λ bs d. All-from_recursion P bs (digits_plain bs d) in
    All-append P (codes "DimSize = ") (a ++ 32 ∷ (b ++ 32 ∷ c)) (plain_line (codes "DimSize = ") refl)
    (All-append P a (32 ∷ (b ++ 32 ∷ c)) (part a da) (All-cons P 32 (b ++ 32 ∷ c) blank (All-append P b (32 ∷ c) (part b db) (All-cons P 32 c blank (part c dc)))))

-- what is known of a size
pub record IsSize (n : ℕ) : Type 0 where
  pub positive : 1 ≤ n
  pub small : n < 10 ^ 9
  pub digits : AllByRecursion IsDigit (decimal n)
  pub some : 0 < length (decimal n)
  pub few : length (decimal n) ≤ 9
  pub value : digits_value 10 (decimal n) ≡ n

is_size : (n : ℕ) → 1 ≤ n → n ≤ 2 ^ 26 → IsSize n
is_size n positive small =
    let big : n < 2 ^ 64 = omega arith in
    let limit : n < 10 ^ 9 = omega arith in
    record {
      positive = positive;
      small = limit;
      digits = all_digits n big;
      some = decimal_nonempty n big;
      few = length-decimal-le 9 n (omega arith) limit big;
      value = (decimal_is_IsNumeral n big).1;
    }

first_within : (x y z : ℕ) → (x + 2) * (y + 2) * (z + 2) ≤ 2 ^ 26 → x ≤ 2 ^ 26
first_within x y z h =
    let same : x + 2 ≤ x + 2 = omega arith in
    let a : 1 ≤ y + 2 = omega arith in
    let b : 1 ≤ z + 2 = omega arith in
    omega (arith, mul-le-mul (mul-le-mul same a) b)

second_within : (x y z : ℕ) → (x + 2) * (y + 2) * (z + 2) ≤ 2 ^ 26 → y ≤ 2 ^ 26
second_within x y z h =
    let same : y + 2 ≤ y + 2 = omega arith in
    let a : 1 ≤ x + 2 = omega arith in
    let b : 1 ≤ z + 2 = omega arith in
    omega (arith, mul-le-mul (mul-le-mul a same) b)

third_within : (x y z : ℕ) → (x + 2) * (y + 2) * (z + 2) ≤ 2 ^ 26 → z ≤ 2 ^ 26
third_within x y z h =
    let same : z + 2 ≤ z + 2 = omega arith in
    let a : 1 ≤ x + 2 = omega arith in
    let b : 1 ≤ y + 2 = omega arith in
    omega (arith, mul-le-mul (mul-le-mul a b) same)

-- the sizes of an image
pub record AreSizes (d : Dims) : Type 0 where
  pub x : IsSize d.nx
  pub y : IsSize d.ny
  pub z : IsSize d.nz

are_sizes : (d : Dims) → IsDims d → AreSizes d
are_sizes d h = record {
  x = is_size d.nx h.nx_positive (first_within d.nx d.ny d.nz h.within);
  y = is_size d.ny h.ny_positive (second_within d.nx d.ny d.nz h.within);
  z = is_size d.nz h.nz_positive (third_within d.nx d.ny d.nz h.within);
}

-- all lines but the data line
abbrev front_lines : Dims → Kind → List (List ℕ)
front_lines d kind = take 12 (plain_lines d kind)

abbrev ends : Meaning → Bool
ends m = is_bad m || is_data_line m

words_are : (d : Dims) → AreSizes d → words_of (sizes_text d) ≡ decimal d.nx ∷ decimal d.ny ∷ decimal d.nz ∷ []
words_are d s = three_words (decimal d.nx) (decimal d.ny) (decimal d.nz) s.x.digits s.y.digits s.z.digits s.x.some s.y.some s.z.some

sizes_say : (d : Dims) → AreSizes d → meaning_of (codes "DimSize = " ++ sizes_text d) ≡ Pair (codes "DimSize") (sizes_text d)
sizes_say d s = sizes_meaning (decimal d.nx) (decimal d.ny) (decimal d.nz) s.x.digits s.z.digits s.x.some s.z.some

lines_plain : (d : Dims) (kind : Kind) → AreSizes d → AllByRecursion HasNoNewline (plain_lines d kind)
lines_plain d kind s =
    let sizes = sizes_plain (decimal d.nx) (decimal d.ny) (decimal d.nz) s.x.digits s.y.digits s.z.digits in
    (plain_line (codes "ObjectType = Image") refl, (plain_line (codes "NDims = 3") refl, (plain_line (codes "BinaryData = True") refl, (plain_line (codes "BinaryDataByteOrderMSB = False") refl, (plain_line (codes "CompressedData = False") refl, (plain_line (codes "TransformMatrix = 1 0 0 0 1 0 0 0 1") refl, (plain_line (codes "Offset = 0 0 0") refl, (plain_line (codes "CenterOfRotation = 0 0 0") refl, (plain_line (codes "AnatomicalOrientation = RAI") refl, (plain_line (codes "ElementSpacing = 1 1 1") refl, (sizes, (plain_line (codes "ElementType = " ++ type_name kind) (type_is_plain kind), (plain_line (codes "ElementDataFile = LOCAL") refl, tt)))))))))))))

lines_pass : (d : Dims) (kind : Kind) → AreSizes d → AllByRecursion (λ t. ends (meaning_of t) ≡ false) (front_lines d kind)
lines_pass d kind s =
    (refl, (refl, (refl, (refl, (refl, (refl, (refl, (refl, (refl, (refl, (ap ends (sizes_say d s), (ap ends (type_meaning kind), tt))))))))))))

lines_few : (d : Dims) (kind : Kind) → AreSizes d → bytes_of (plain_lines d kind) ≤ head_limit
lines_few d kind s =
    let name = (name_length kind).1 in
    let sizes : length (sizes_text d) ≤ 29 = omega (arith, s.x.few, s.y.few, s.z.few, length-append (decimal d.nx) (32 ∷ (decimal d.ny ++ 32 ∷ decimal d.nz)), length-append (decimal d.ny) (32 ∷ decimal d.nz)) in
    omega (arith, name, sizes)

abbrev pairs_with : Meaning → Meaning → List (List ℕ × List ℕ)
pairs_with sizes name =
    pairs_in (take 10 (plain_lines (dims 1 1 1) Uchar)) ++ cons_option (pair_of sizes) (cons_option (pair_of name) ((codes "ElementDataFile", codes "LOCAL") ∷ []))

pairs_are : (d : Dims) (kind : Kind) → AreSizes d → pairs_in (plain_lines d kind) ≡ plain_pairs (sizes_text d) (type_name kind)
pairs_are d kind s = λ i. pairs_with (sizes_say d s i) (type_meaning kind i)

sizes_count : (d : Dims) → AreSizes d → (length (decimal d.nx ∷ decimal d.ny ∷ decimal d.nz ∷ []) == 3 && list_all is_positive_count (decimal d.nx ∷ decimal d.ny ∷ decimal d.nz ∷ [])) ≡ true
sizes_count d s =
    let x = size_is_count d.nx s.x.positive s.x.small in
    let y = size_is_count d.ny s.y.positive s.y.small in
    let z = size_is_count d.nz s.z.positive s.z.small in
    λ i. x i && (y i && (z i && true))

pub head_back : (world : Bool) (d : Dims) (kind : Kind) (rest : List ℕ) → IsDims d → head_of world (plain_head d kind ++ rest) ≡ Ok (record { head = record { raw = d.nx ∷ d.ny ∷ d.nz ∷ []; kind = kind; big = false; axes = unit_axes }; len = length (plain_head d kind) })
unfolding head_of plain_head
head_back world d kind rest sized =
    let s : AreSizes d = are_sizes d sized in
    let ws : List (List ℕ) = decimal d.nx ∷ decimal d.ny ∷ decimal d.nz ∷ [] in
    let found = pairs_found_in (front_lines d kind) (codes "ElementDataFile = LOCAL") rest (lines_plain d kind s) (lines_few d kind s) (lines_pass d kind s) refl refl in
    let len : bytes_of (plain_lines d kind) ≡ length (with_newlines (plain_lines d kind)) = sym (length_lines (plain_lines d kind)) in
    let none : faults world (plain_pairs (sizes_text d) (type_name kind)) ≡ [] = no_faults world (sizes_text d) (type_name kind) ws kind (words_are d s) (sizes_count d s) (name_length kind).0 (name_is_kind kind) in
    let head = head_is world (sizes_text d) (type_name kind) ws kind (words_are d s) (name_is_kind kind) in
    ap (head_of_found world) found
    ∙ (λ i. head_of_found world (Ok (record { pairs = pairs_are d kind s i; len = len i })))
    ∙ (λ i. first_fault_or (record { head = head i; len = length (with_newlines (plain_lines d kind)) }) (none i))
    ∙ (λ i. Ok (record { head = record { raw = s.x.value i ∷ s.y.value i ∷ s.z.value i ∷ []; kind = kind; big = false; axes = unit_axes }; len = length (with_newlines (plain_lines d kind)) }))
