-- The exit code of each status, and the line that tells it.
-- The values were computed outside the repository, by programs written from the rules alone.
use Rattle.std.specs.Prelude.{◌≡◌, ℕ, List, [], ◌∷◌, map, codes, refl}
use Rattle.std.specs.Fmt.{digits}
use Rattle.formats.specs.declared.HeadFault.TheVariants.{BadLine, Missing, BadValue, HeaderTooLong, HeadEnds}
use Rattle.formats.specs.declared.Key.{Key}
use Rattle.formats.specs.declared.Key.TheVariants.{ObjectType, NDims, BinaryData, CompressedData, Channels, DimSize, ElementType, DataFile, Spacing, Offset}
use Rattle.formats.specs.declared.Port.TheVariants.{Node, Ele, Report, Face, Neigh}
use Rattle.formats.specs.declared.Status.{Status}
use Rattle.formats.specs.declared.Status.TheVariants.{Done, BadWords, BadHeader, Unsupported, TooLarge, Truncated, ReadFault, WriteFault, NoMemory, TooManyTets, BadMesh, NotSound}
use Rattle.formats.specs.declared.MeshFault.TheVariants.{TooLong, BadLine as BadMeshLine, BadPlace, BadNode, EndsEarly}
use Rattle.formats.specs.declared.Verdict.TheVariants.{NotPositive, Crowded, Turned}
use Rattle.formats.specs.Faults.{status_code, trouble_text}

abbrev told : List Status → List (ℕ × List ℕ)
told statuses = map (λ s. (status_code s, trouble_text s)) statuses

abbrev some_keys : List Key
some_keys = ObjectType ∷ NDims ∷ BinaryData ∷ CompressedData ∷ Channels ∷ DimSize ∷ ElementType ∷ DataFile ∷ Spacing ∷ Offset ∷ []

pub missing :
    told (map (λ k. BadHeader (Missing k)) some_keys)
    ≡ (3, codes "stuff: header key missing: ObjectType\n")
    ∷ (3, codes "stuff: header key missing: NDims\n")
    ∷ (3, codes "stuff: header key missing: BinaryData\n")
    ∷ (3, codes "stuff: header key missing: CompressedData\n")
    ∷ (3, codes "stuff: header key missing: ElementNumberOfChannels\n")
    ∷ (3, codes "stuff: header key missing: DimSize\n")
    ∷ (3, codes "stuff: header key missing: ElementType\n")
    ∷ (3, codes "stuff: header key missing: ElementDataFile\n")
    ∷ (3, codes "stuff: header key missing: ElementSpacing\n")
    ∷ (3, codes "stuff: header key missing: Offset\n")
    ∷ []
unfolding digits
missing = refl

pub bad_values :
    told (map (λ k. BadHeader (BadValue k)) some_keys)
    ≡ (3, codes "stuff: bad header value: ObjectType\n")
    ∷ (3, codes "stuff: bad header value: NDims\n")
    ∷ (3, codes "stuff: bad header value: BinaryData\n")
    ∷ (3, codes "stuff: bad header value: CompressedData\n")
    ∷ (3, codes "stuff: bad header value: ElementNumberOfChannels\n")
    ∷ (3, codes "stuff: bad header value: DimSize\n")
    ∷ (3, codes "stuff: bad header value: ElementType\n")
    ∷ (3, codes "stuff: bad header value: ElementDataFile\n")
    ∷ (3, codes "stuff: bad header value: ElementSpacing\n")
    ∷ (3, codes "stuff: bad header value: Offset\n")
    ∷ []
unfolding digits
bad_values = refl

pub unsupported :
    told (map (λ k. Unsupported k) some_keys)
    ≡ (4, codes "stuff: unsupported: ObjectType\n")
    ∷ (4, codes "stuff: unsupported: NDims\n")
    ∷ (4, codes "stuff: unsupported: BinaryData\n")
    ∷ (4, codes "stuff: unsupported: CompressedData\n")
    ∷ (4, codes "stuff: unsupported: ElementNumberOfChannels\n")
    ∷ (4, codes "stuff: unsupported: DimSize\n")
    ∷ (4, codes "stuff: unsupported: ElementType\n")
    ∷ (4, codes "stuff: unsupported: ElementDataFile\n")
    ∷ (4, codes "stuff: unsupported: ElementSpacing\n")
    ∷ (4, codes "stuff: unsupported: Offset\n")
    ∷ []
unfolding digits
unsupported = refl

pub other_heads :
    told (BadHeader (BadLine 19) ∷ BadHeader HeaderTooLong ∷ BadHeader HeadEnds ∷ [])
    ≡ (3, codes "stuff: bad header line at byte 19\n")
    ∷ (3, codes "stuff: header too long\n")
    ∷ (3, codes "stuff: header ends early\n")
    ∷ []
unfolding digits
other_heads = refl

pub write_faults :
    told (WriteFault Node ∷ WriteFault Ele ∷ WriteFault Report ∷ WriteFault Face ∷ WriteFault Neigh ∷ [])
    ≡ (8, codes "stuff: write fault: node\n")
    ∷ (8, codes "stuff: write fault: ele\n")
    ∷ (8, codes "stuff: write fault: report\n")
    ∷ (8, codes "stuff: write fault: face\n")
    ∷ (8, codes "stuff: write fault: neigh\n")
    ∷ []
unfolding digits
write_faults = refl

pub others :
    told (Done ∷ BadWords 12 ∷ TooLarge 4210688 ∷ Truncated 0 1 ∷ ReadFault ∷ NoMemory ∷ [])
    ≡ (0, [])
    ∷ (2, codes "stuff: bad words at 12\n")
    ∷ (5, codes "stuff: too large: 4210688\n")
    ∷ (6, codes "stuff: truncated: 0 of 1 bytes\n")
    ∷ (7, codes "stuff: read fault\n")
    ∷ (9, codes "stuff: no memory\n")
    ∷ []
unfolding digits
others = refl

pub too_many : told (TooManyTets 33554433 ∷ []) ≡ (10, codes "stuff: too many tetrahedra: 33554433\n") ∷ []
unfolding digits
too_many = refl

pub bad_files :
    told (BadMesh Node (BadMeshLine 0) ∷ BadMesh Node (BadPlace 8) ∷ BadMesh Node TooLong ∷ BadMesh Ele (BadNode 6) ∷ BadMesh Ele (EndsEarly 0 1) ∷ [])
    ≡ (11, codes "stuff: bad mesh file: node\n")
    ∷ (11, codes "stuff: bad mesh file: node\n")
    ∷ (11, codes "stuff: bad mesh file: node\n")
    ∷ (11, codes "stuff: bad mesh file: ele\n")
    ∷ (11, codes "stuff: bad mesh file: ele\n")
    ∷ []
unfolding digits
bad_files = refl

pub not_sound :
    told (NotSound (NotPositive 0) ∷ NotSound (Crowded 17) ∷ NotSound (Turned 4294967295) ∷ [])
    ≡ (12, codes "stuff: not sound: tetrahedron 0\n")
    ∷ (12, codes "stuff: not sound: tetrahedron 17\n")
    ∷ (12, codes "stuff: not sound: tetrahedron 4294967295\n")
    ∷ []
unfolding digits
not_sound = refl
