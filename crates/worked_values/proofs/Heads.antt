-- Heads: texts, and what is read of each or why it is refused. The answers are those of an independent program.
use Rattle.std.specs.Prelude.{◌≡◌, ℕ, Bool, true, false, [], ◌∷◌, ◌++◌, replicate, codes, refl, map, List, Result, Ok, Err}
use Rattle.formats.specs.declared.Kind.{Kind}
use Rattle.formats.specs.declared.Kind.TheVariants.{Uchar, Char, Ushort, Short, Uint, Int}
use Rattle.formats.specs.declared.Key.TheVariants.{ObjectType, NDims, BinaryData, CompressedData, Channels, DimSize, ElementType, DataFile}
use Rattle.formats.specs.declared.HeadFault.{HeadFault}
use Rattle.formats.specs.declared.HeadFault.TheVariants.{BadLine, Missing, BadValue, Unsupported, HeaderTooLong, HeadEnds}
use Rattle.formats.specs.HeadLines.{pairs_of}
use Rattle.formats.specs.Frames.{unit_axes}
use Rattle.formats.specs.Heads.{HeadAt, head_of, head_of_pairs, form_fault, refusal}

abbrev good : ℕ → ℕ → ℕ → Kind → Bool → ℕ → HeadAt
good a b c kind big len = record { head = record { raw = a ∷ b ∷ c ∷ []; kind = kind; big = big; axes = unit_axes }; len = len }

-- what is read of each text is what stands beside it
abbrev AreRead : List (List ℕ × Result HeadAt HeadFault) → Type 0
AreRead rows = map (λ (row : List ℕ × Result HeadAt HeadFault). head_of false row.0) rows ≡ map (λ (row : List ℕ × Result HeadAt HeadFault). row.1) rows

-- heads without a fault
pub heads_that_are_read :
    AreRead (
    (codes "NDims = 3\nDimSize = 1 1 1\nElementType = MET_CHAR\nElementDataFile = LOCAL\n hello", Ok (good 1 1 1 Char false 73))
    ∷ (codes "NDims=3\nElementByteOrderMSB = True\nDimSize=1 2 3\nElementType=MET_SHORT\nElementDataFile=LOCAL\n", Ok (good 1 2 3 Short true 93))
    ∷ (codes "NDims=3\nBinaryDataByteOrderMSB = True\nDimSize=1 2 3\nElementType=MET_SHORT\nElementDataFile=LOCAL\n", Ok (good 1 2 3 Short true 96))
    ∷ (codes "NDims=3\nElementByteOrderMSB = True\nDimSize=1 2 3\nBinaryDataByteOrderMSB = False\nElementType=MET_SHORT\nElementDataFile=LOCAL\n", Ok (good 1 2 3 Short true 124))
    ∷ (codes "NDims=3\nBinaryDataByteOrderMSB = False\nDimSize=1 2 3\nElementByteOrderMSB = True\nElementType=MET_SHORT\nElementDataFile=LOCAL\n", Ok (good 1 2 3 Short false 124))
    ∷ (codes "NDims=3\nElementByteOrderMSB = no\nDimSize=1 2 3\nBinaryDataByteOrderMSB = True\nElementType=MET_SHORT\nElementDataFile=LOCAL\n", Ok (good 1 2 3 Short false 121))
    ∷ (codes "NDims=3\nBinaryDataByteOrderMSB = 1\nDimSize=1 2 3\nElementByteOrderMSB = 0\nElementType=MET_SHORT\nElementDataFile=LOCAL\n", Ok (good 1 2 3 Short true 117))
    ∷ (codes "NDims=3\nByteOrder = True\nDimSize=1 2 3\nElementType=MET_SHORT\nElementDataFile=LOCAL\n", Ok (good 1 2 3 Short false 83))
    ∷ (codes "NDims=3\nChannels = 2\nDimSize=1 2 3\nDataFile = x\nElementType=MET_SHORT\nElementDataFile=LOCAL\n", Ok (good 1 2 3 Short false 92))
    ∷ (codes "NDims=3\nCompressedData = False\nDimSize=1 2 3\nCompressedData = True\nElementType=MET_SHORT\nElementDataFile=LOCAL\n", Ok (good 1 2 3 Short false 111))
    ∷ (codes "NDims=3\nCompressedData =\nDimSize=1 2 3\nElementType=MET_SHORT\nElementDataFile=LOCAL\n", Ok (good 1 2 3 Short false 83))
    ∷ (codes "NDims=3\nObjectType = Image\nDimSize=1 2 3\nObjectType = X\nElementType=MET_SHORT\nElementDataFile=LOCAL\n", Ok (good 1 2 3 Short false 100))
    ∷ (codes "NDims=3\nElementNumberOfChannels = 000000001\nDimSize=1 2 3\nElementNumberOfChannels = 0\nElementType=MET_SHORT\nElementDataFile=LOCAL\n", Ok (good 1 2 3 Short false 130))
    ∷ (codes "C=" ++ (replicate 65461 120 ++ codes "\nNDims = 3\nDimSize = 1 2 3\nElementType = MET_INT\nElementDataFile = LOCAL\n"), Ok (good 1 2 3 Int false 65536))
    ∷ (codes "TransformMatrix = 1 0 0 0 1 0 0 0 1\n \t \nBinaryDataByteOrderMSB = False\nBinaryData = True\nCompressedData = False\nCenterOfRotation =0 0 0\nElementType = MET_UCHAR\nAnatomicalOrientation = RAI\nElementSpacing = 1 1 1\nOffset = 0 0 0\n   \nNDims = 3\nObjectType =Image\nDimSize = 3\t3\t6\nElementDataFile = LOCAL\n", Ok (good 3 3 6 Uchar false 298))
    ∷ (codes "ObjectType = Image\nNDims = 3\nBinaryData = True\nBinaryDataByteOrderMSB = False\nCompressedData = False\nTransformMatrix = 1 0 0 0 1 0 0 0 1\nOffset = -788297.8999133036 3.11004577218518222 487561.894\nCenterOfRotation = 0 0 0\nAnatomicalOrientation = RAI\nElementSpacing = 320.611597143987 212.43351417195364052\nDimSize = 7\t7\t9\nElementType = MET_USHORT\nElementDataFile = LOCAL\n", Ok (good 7 7 9 Ushort false 370))
    ∷ (codes "ObjectType = Image\nNDims = 3\nBinaryData = True\nX=\nBinaryDataByteOrderMSB = False\nCompressedData = False\nTransformMatrix = 1 0 0 0 1 0 0 0 1\nOffset = -475251.87870652470690059 -2.4469 -510252.70\nCenterOfRotation = 0 0 0\nAnatomicalOrientation = RAI\nElementSpacing = 1 1 1\nElementNumberOfChannels = 000000001 \r\nDimSize = 1 6 0009\nElementType = MET_INT\nElementDataFile = LOCAL\n", Ok (good 1 6 9 Int false 373))
    ∷ (codes "ObjectType = Image\nNDims = 3\nBinaryData = True\nByteOrder = True\nCompressedData = False\nTransformMatrix = 1 0 0 0 1 0 0 0 1\nOffset = 0 0 0\nCenterOfRotation = 0 0 0\nAnatomicalOrientation = RAI\nElementSpacing = 1 1 1\nDimSize = 0003  2  9\nElementType = MET_USHORT\nElementDataFile = LOCAL\n", Ok (good 3 2 9 Ushort false 284))
    ∷ (codes "ObjectType = Image\nNDims = 3\nBinaryData = True\nBinaryDataByteOrderMSB = False\nCompressedData = False\nTransformMatrix = 1 0 0 0 1 0 0 0 1\nOffset = -791790.50280726708 678547.51406045 794869.416\nCenterOfRotation = 0 0 0\nAnatomicalOrientation = RAI\nElementSpacing = 678.765443 1.569880586838614914 1.6\nDimSize = 1 1 9\nElementType = MET_UCHAR\nElementDataFile = LOCAL\n", Ok (good 1 1 9 Uchar false 363))
    ∷ (codes "ObjectType = Image\nNDims = 3\nBinaryData = True\nBinaryDataByteOrderMSB = False\nCompressedData = False\nTransformMatrix = 1 0 0 0 1 0 0 0 1\nOffset = 0 0 0\nCenterOfRotation = 0 0 0\nAnatomicalOrientation = RAI\nElementSpacing = 1 1 1\nDimSize = 9\t7\t1\nElementType = MET_UINT\nElementDataFile = LOCAL\n", Ok (good 9 7 1 Uint false 291))
    ∷ (codes "Offset = 0 0 0\nTransformMatrix = 1 0 0 0 1 0 0 0 1\nDimSize = 0003 \t 0005 \t 0007\nObjectType = Image\nElementNumberOfChannels = 000000001\nCompressedData = False\nElementSpacing = 1 1 1\nCenterOfRotation = 0 0 0\nElementType = MET_UCHAR\nBinaryDataByteOrderMSB = False\nBinaryData = True\nNDims = 3\nAnatomicalOrientation = RAI\nElementDataFile = LOCAL\n", Ok (good 3 5 7 Uchar false 341))
    ∷ (codes "ObjectType = Image\nNDims = 3\nBinaryData = True\nBinaryDataByteOrderMSB =\nCompressedData = False\nTransformMatrix = 1 0 0 0 1 0 0 0 1\nOffset = 670739.894645708706 165485.419566809910980155 1.17187588025 -2.916586554950134684\nCenterOfRotation = 0 0 0\nAnatomicalOrientation = RAI\nElementSpacing = 842.853110673298 201.35915070922 1e\nDimSize = 0009\t4\t0007\nElementType = MET_USHORT\nElementDataFile = LOCAL\n", Ok (good 9 4 7 Ushort false 399))
    ∷ (codes "ObjectType = Image\nNDims = 3\nBinaryData = True\nElementByteOrderMSB = 0\nCompressedData = False\nOffset = 0 0 0\nCenterOfRotation = 0 0 0\nAnatomicalOrientation = RAI\nobjecttype = Image\nElementSpacing = 1 1 1\nDimSize = 8 \t 0008 \t 3\nobjecttype = Image\nElementType = MET_USHORT\nobjecttype = Image\nElementDataFile = LOCAL\n", Ok (good 8 8 3 Ushort false 314))
    ∷ (codes "ObjectType = Image\nNDims = 3\nBinaryData = True\nBinaryDataByteOrderMSB = False\nCompressedData = False\nTransformMatrix = 1 0 0 0 1 0 0 0 1\nOffset = 0 0 0\nCenterOfRotation = 0 0 0\nAnatomicalOrientation = RAI\nElementSpacing = 932.585208349174048096 3.1978590320 2.32823318596492493\nDimSize = 2 \t 6 \t 5\nElementType = MET_USHORT\nElementType = MET_FLOAT\nElementDataFile = LOCAL\n", Ok (good 2 6 5 Ushort false 371))
    ∷ (codes "ObjectType = Image\nNDims = 3\nBinaryData = True\nBinaryDataByteOrderMSB = False\nCompressedData = False\nTransformMatrix = 1 0 0 0 1 0 0 0 1\nOffset = 1.123456789012345678 0.380606913071 -3.1\nCenterOfRotation = 0 0 0\nAnatomicalOrientation = RAI\nElementSpacing = +995.60626204696139479 333.288 2.741\nDimSize = 2 5 0007\nElementType = MET_CHAR\nElementDataFile = LOCAL\n", Ok (good 2 5 7 Char false 360))
    ∷ (codes "ObjectType = Image\nNDims = 3\nBinaryData = True\nBinaryDataByteOrderMSB = False\nCompressedData = False\nTransformMatrix = 1 0 0 0 1 0 0 0 1\nOffset = 0 0 0\nCenterOfRotation = 0 0 0\nAnatomicalOrientation = RAI\nElementSpacing = 1 1 1\nDimSize = 5\t1\t7\nElementType = MET_UINT\nElementDataFile = LOCAL\n", Ok (good 5 1 7 Uint false 291))
    ∷ (codes "ObjectType = Image\nNDims = 3\nBinaryData = True\nBinaryDataByteOrderMSB = False\nCompressedData = False\nTransformMatrix = 1 0 0 0 1 0 0 0 1\nOffset = 0 0 0\nCenterOfRotation = 0 0 0\nAnatomicalOrientation = RAI\nElementSpacing = 127.40117273 0.10 +1.5106993289725\nDimSize = 0003 \t 9 \t 0002\nElementType = MET_UINT\nElementDataFile = LOCAL\n", Ok (good 3 9 2 Uint false 330))
    ∷ (codes " CompressedData\t=\tf \nElementByteOrderMSB  =  False \t\nDimSize = 27 32 8 \n NDims = 3  \n \tElementType = MET_UCHAR \nElementDataFile = LOCAL\n", Ok (good 27 32 8 Uchar false 136))
    ∷ (codes "ObjectType = Image\nNDims = 3\nBinaryData = True\nByteOrder = True\nCompressedData = False\nTransformMatrix = 1 0 0 0 1 0 0 0 1\nOffset = 0 0 0\nCenterOfRotation = 0 0 0\nAnatomicalOrientation = RAI\nElementSpacing = 1 1 1\nDimSize = 4 7 1\nElementType = MET_INT\nElementDataFile = LOCAL\n", Ok (good 4 7 1 Int false 276))
    ∷ (codes "ObjectType = Image\nNDims = 3\nBinaryData = True\nBinaryDataByteOrderMSB = False\nCompressedData = False\nTransformMatrix = 1 0 0 0 1 0 0 0 1\nOffset = 0 0 0\nCenterOfRotation = 0 0 0\nAnatomicalOrientation = RAI\nElementSpacing = 1 1 1\nDimSize = 0006 2 1\nElementType = MET_INT\nElementDataFile = LOCAL\n", Ok (good 6 2 1 Int false 293))
    ∷ (codes "ObjectType = Image\n \r\nNDims = 3\nBinaryData = True\nBinaryDataByteOrderMSB = False\nCompressedData = False\n \t \nTransformMatrix = 1 0 0 0 1 0 0 0 1\nOffset = 0 0 0\nCenterOfRotation = 0 0 0\nAnatomicalOrientation = RAI\nElementSpacing = 1 1 1\nDimSize = 0009\t8\t5\nElementType = MET_UCHAR\nElementDataFile = LOCAL\n", Ok (good 9 8 5 Uchar false 302))
    ∷ (codes "NDims = 3\nBinaryData = True\nElementByteOrderMSB = 0\nCompressedData = False\nTransformMatrix = 1 0 0 0 1 0 0 0 1\nOffset = 0 0 0\nCenterOfRotation = 0 0 0\nAnatomicalOrientation = RAI\nElementSpacing = 1 1 1\nDimSize = 6 8 6\nElementType = MET_INT\nElementDataFile = LOCAL\n", Ok (good 6 8 6 Int false 264))
    ∷ (codes "ObjectType = Image\nNDims = 3\nBinaryData = True\nBinaryDataByteOrderMSB = False\nCompressedData = False\nTransformMatrix = 1 0 0 0 1 0 0 0 1\nOffset = 0 0 0\nCenterOfRotation = 0 0 0\nAnatomicalOrientation = RAI\nElementSpacing = 1 1 1\nDimSize = 0001 8 4\nElementType = MET_CHAR\nElementDataFile = LOCAL\n", Ok (good 1 8 4 Char false 294))
    ∷ (codes "ObjectType = Image\nNDims = 3\nBinaryData = True\nByteOrder = True\nCompressedData = False\nTransformMatrix = 1 0 0 0 1 0 0 0 1\nOffset = 0 0 0\nCenterOfRotation = 0 0 0\nAnatomicalOrientation = RAI\nElementSpacing = 1 1 1\nDimSize = 9  4  4\nElementType = MET_SHORT\nElementDataFile = LOCAL\n", Ok (good 9 4 4 Short false 280))
    ∷ (codes "ObjectType = Image\nNDims = 3\nBinaryData = True\nBinaryDataByteOrderMSB = False\nCompressedData = False\nTransformMatrix = 1 0 0 0 1 0 0 0 1\nOffset = 0 0 0\nCenterOfRotation = 0 0 0\nAnatomicalOrientation = RAI\nElementSpacing = 1 1 1\nDimSize = 4  8  9\nElementType = MET_INT\nElementDataFile = LOCAL\n", Ok (good 4 8 9 Int false 292))
    ∷ (codes "ObjectType = Image\nNDims = 3\nBinaryData = True\nBinaryDataByteOrderMSB = False\nCompressedData = False\nTransformMatrix = 1 0 0 0 1 0 0 0 1\nOffset = 0 0 0\nCenterOfRotation = 0 0 0\nAnatomicalOrientation = RAI\nElementSpacing = 1 1 1\nDimSize = 0009 7 8\nElementType = MET_UCHAR\nElementDataFile = LOCAL\n", Ok (good 9 7 8 Uchar false 295))
    ∷ (codes "NDims =3\t\n\tElementType  =  MET_UCHAR \nObjectType\t=\tImage\nDimSize= 30 \t14 \t35 \t\nElementDataFile = LOCAL\n", Ok (good 30 14 35 Uchar false 103))
    ∷ (codes "ObjectType = Image\nNDims = 3\nBinaryData = True\nBinaryDataByteOrderMSB = False\nCompressedData = False\nTransformMatrix = 1 0 0 0 1 0 0 0 1\nOffset = -883325.8 -485874.47413667296 -42480.8186633\nCenterOfRotation = 0 0 0\nAnatomicalOrientation = RAI\nElementSpacing = 530 +3 1.978418404804\nDimSize = 6  3  9\nElementType = MET_CHAR\nElementDataFile = LOCAL\n", Ok (good 6 3 9 Char false 348))
    ∷ (codes "ObjectType = Image\nNDims = 3\nBinaryData = True\nBinaryDataByteOrderMSB = False\nCompressedData = False\nTransformMatrix = 1 0 0 0 1 0 0 0 1\nOffset = 0 0 0\nCenterOfRotation = 0 0 0\nAnatomicalOrientation = RAI\nElementSpacing = 1 1 1\nDimSize = 6 \t 4 \t 1\nElementType = MET_INT\nElementDataFile = LOCAL\n", Ok (good 6 4 1 Int false 294))
    ∷ (codes "ObjectType = Image\nNDims = 3\nBinaryData = True\nElementByteOrderMSB = 0\nCompressedData = False\nTransformMatrix = 1 0 0 0 1 0 0 0 1\nOffset = 0 0 0\nCenterOfRotation = 0 0 0\nAnatomicalOrientation = RAI\nElementSpacing = 1 1 1\nDimSize = 0005 \t 8 \t 9\nElementType = MET_USHORT\nElementDataFile = LOCAL\n", Ok (good 5 8 9 Ushort false 293))
    ∷ (codes "ObjectType = Image\nNDims = 3\nBinaryData = True\nBinaryDataByteOrderMSB =\nCompressedData = False\nTransformMatrix = 1 0 0 0 1 0 0 0 1\nOffset = 0 0 0\nCenterOfRotation = 0 0 0\nAnatomicalOrientation = RAI\nElementSpacing = 1 1 1\nDimSize = 3\t9\t5\nElementType = MET_SHORT\nElementDataFile = LOCAL\n", Ok (good 3 9 5 Short false 286))
    ∷ (codes "ObjectType = Image\nNDims = 3\nBinaryData = True\nBinaryDataByteOrderMSB = False\nCompressedData = False\nTransformMatrix = 1 0 0 0 1 0 0 0 1\nOffset = 0 0 0\nCenterOfRotation = 0 0 0\nAnatomicalOrientation = RAI\nElementSpacing = 1 1 1\nDimSize = 0008 9 0004\nElementType = MET_UCHAR\nElementDataFile = LOCAL\n", Ok (good 8 9 4 Uchar false 298))
    ∷ (codes "ObjectType = Image\nNDims = 3\nBinaryData = True\nBinaryDataByteOrderMSB = False\nCompressedData = False\nTransformMatrix = 1 0 0 0 1 0 0 0 1\nOffset = 0 0 0\nCenterOfRotation = 0 0 0\nAnatomicalOrientation = RAI\nElementSpacing = 1 1 1\nDimSize = 5  0006  4\nElementType = MET_INT\nElementDataFile = LOCAL\n", Ok (good 5 6 4 Int false 295))
    ∷ (codes "ObjectType = Image\nNDims = 3\nBinaryData = True\nBinaryDataByteOrderMSB = False\nCompressedData = False\nTransformMatrix = 1 0 0 0 1 0 0 0 1\nOffset = 1e 2.15041 1E-3\nCenterOfRotation = 0 0 0\nAnatomicalOrientation = RAI\nElementSpacing = 1.5771 88.921844295197 2.7130908140682899\nDimSize = 3 8 6\nElementType = MET_USHORT\nElementDataFile = LOCAL\n", Ok (good 3 8 6 Ushort false 339))
    ∷ (codes "ObjectType = Image\nNDims = 3\nBinaryData = True\nBinaryDataByteOrderMSB = False\nCompressedData = False\nTransformMatrix = 1 0 0 0 1 0 0 0 1\nOffset = 0 0 0\nCenterOfRotation = 0 0 0\nAnatomicalOrientation = RAI\nElementSpacing = 1 1 1\nDimSize = 8 \t 8 \t 8\nElementType = MET_SHORT\nElementDataFile = LOCAL\n", Ok (good 8 8 8 Short false 296))
    ∷ (codes "ObjectType= Image\nNDims = 3\nBinaryData = True\nBinaryDataByteOrderMSB = true\nCompressedData = False\nTransformMatrix = 1 0 0 0 1 0 0 0 1\nOffset = 0 0 0\nCenterOfRotation = 0 0 0\nAnatomicalOrientation = RAI\nComment = x = y\nElementSpacing = 1 1 1\nDimSize = 8 0001 3\nElementType = MET_INT\nCompressedData = False\nElementDataFile = LOCAL\n", Ok (good 8 1 3 Int true 330))
    ∷ (codes "ObjectType = Image\nNDims = 3\nBinaryData = True\nBinaryDataByteOrderMSB = False\nCompressedData = False\nTransformMatrix = 1 0 0 0 1 0 0 0 1\nOffset = 0.471211862 1.0369281703551 0\nCenterOfRotation = 0 0 0\nAnatomicalOrientation = RAI\nElementSpacing = 2.752940460889 3.451 +443.60985013634765\nDimSize = 5\t2\t1\nElementType = MET_UCHAR\nElementDataFile = LOCAL\n", Ok (good 5 2 1 Uchar false 351))
    ∷ [])
unfolding head_of pairs_of head_of_pairs form_fault refusal
heads_that_are_read = refl

-- the input ends before the data line does
pub heads_that_end_early :
    AreRead (
    ([], Err HeadEnds)
    ∷ (codes "\n", Err HeadEnds)
    ∷ (codes "\r\n", Err HeadEnds)
    ∷ (codes " \n", Err HeadEnds)
    ∷ (codes "ElementDataFile = LOCAL", Err HeadEnds)
    ∷ (replicate 65535 120, Err HeadEnds)
    ∷ (codes " ObjectType =image \n\tNDims = 3 \n CompressedData\t=\tt\t\n \tElementNumberOfChann", Err HeadEnds)
    ∷ (codes " \tCompressedData= True \n ElementType = MET_UCHAR\t\nDimSize = \n \tNDims = 0\n ElementByteOrderMSB = f \nElementDataFile = lOCALx", Err HeadEnds)
    ∷ (codes "  ObjectType  =  \t\r\nNDims =   \r\n BinaryData =true \r\n  BinaryDataByteOrderMSB  =    \r\n\tCompressedData= t \r\n  DimSize  =  39  22  12\t\r\n  ElementType= MET_FLOAT  \r\nelementdatafile = LOCAL\r\n\n", Err HeadEnds)
    ∷ (codes "ElementType=MET_FLOAT \n  ElementByteOrderMSB\t=\t0 \n  ElementNumberOfChannels  =  1\t  \n CompressedData=t  \nElementType = MET_INT\n \tDimSize =30 a 2\nElementDataFile = LOCAL\r\r", Err HeadEnds)
    ∷ (codes "NDims =\r\n  BinaryData=t\r\n\t \t\r\n CompressedData = no\t\r\n\tDimSize= 12 40 38\r\nElementType  =  MET_SHORT \t\r\nNDims2 = 1\r\nElementDataFile=Local\r", Err HeadEnds)
    ∷ (codes "  ObjectType\t=\tImage  \r\n CompressedData=no\r\n \tBinaryDataByteOrderMSB=1 \r\n \r\nA=b=c\r\n BinaryDataByteOrderMSB =f\r\n NDims = 4 \r\n DimSize  =  3 \t23 \t2 \r\nElementType  =  MET_CHAR \t\r\nElementDataFile = LOCAL x", Err HeadEnds)
    ∷ (codes " ElementType=MET_UINT\t\n\tBinaryData= T  \n \tDimSize= 10  2  17 \n NDims\t=\t0000000003 \t\n ElementNumberOfChannels= 0000000001  \n\tCompressedData\t=\tN\nelementdatafile = LOCAL\n", Err HeadEnds)
    ∷ (codes "ObjectType=Image \r\n  NDims=+3  \r\n\tBinaryData=  \r\n  ElementByteOrderMSB =T\t\r\n\tElementByteOrderMSB\t=\tFalse\t\r\n  DimSize=000\t27\t38 \t\r\n\tElementType\t=\t", Err HeadEnds)
    ∷ (codes "ndims = 2\n \tDimSize =12 \t16 \t32 \t\n\tByteOrder=False \nElementType= MET_UCHAR\nndims = 2\n NDims=000000003\nelementdatafile = LOCAL\n", Err HeadEnds)
    ∷ (codes "ElementNumberOfChannels =1 1\r\nndims = 2\r\n NDims= 3 \r\n\tDimSize =5 22 ", Err HeadEnds)
    ∷ (codes " \tObjectType = Image \t\n CompressedData = 1 \n ElementByteOrderMSB=1 \n ElementNumberOfChannels =01 \t\n NDims = 3\t\n ElementByteOrderMSB  =  1\t\n DimSize=12\t26\t23  \n Binar", Err HeadEnds)
    ∷ (codes " ObjectType  =  Image  \r\n\tNDims= 3\r\n BinaryData= yes\r\nByteOrder = 1\r\n  BinaryDataByteOrderMSB\t=\ttt  \r\n\tCompressedData=no\t\r\n  DimSize =31  11  23 \r\n ElementType  =  MET_LONG \r\nElementDataFile = LOCAL", Err HeadEnds)
    ∷ (codes "NDims =1 \n ElementByteOrderMSB\t=\t1 \nCompressedData = t  \n \tDimSize =26 \t0000000012 \t20\t\n  ElementType\t=\tMET_INT \t\nElementDataFile = LOCAL", Err HeadEnds)
    ∷ (codes " NDims=1 \t\r\n BinaryData= False  \r\n ByteOrder= T\t\r\n\tCompressedData= 1 \r\n \tElementNumberOfChannels  =  1  \r\n DimSize =12\t4\t21 \r\n\tElementType= \r\nElementDataFile = LOCAL\r", Err HeadEnds)
    ∷ (codes " NDims =1  \nN", Err HeadEnds)
    ∷ (codes " \tNDims= 2 \n  BinaryDataByteOrderMSB\t=\tFalse \t\n  CompressedData  =  no\n\tElementNumberOfChannels= 0000000001 \t\nDimSize = 4 16 000 \t\n \tElementType\t=\tMET_USHORT\nelementdatafile = LOCAL\n", Err HeadEnds)
    ∷ (codes "ObjectType = Image\nNDims = 3\nBinaryData = True\nElementByteOrderMSB = tx\nCompressedData = False\nTransformMatrix = 1 0 0 0 1 0 0 0 1\nOffset = 0 0 0\nCenterOfRotation = 0 0 0\nAnatomicalOrientation = RAI\nElementSpacing = 1 1 1\nDimSize = 0006 \t 5 \t 8\nElementType = MET_SHORT\n", Err HeadEnds)
    ∷ (codes " ObjectType= Image x\nNDims  =  3 \n DimSize  =  999999999  24  19\n ElementType\t=\tMET_SHORT  \nDimSize = 9 9\nelementdatafile = LOCALx", Err HeadEnds)
    ∷ (codes "\tObjectType  =  Image  \nDimSize  =  7\t4\t39\t\nndims = 2\nElementType\t=\tMET_UINT\t\n  NDims= 3\n\tCompressedData\t=\tTrue\n \tBinaryData  =  True\t\nelementdatafile = LOCAL\n", Err HeadEnds)
    ∷ (codes "\tObjectType = Scene  \n\tDimSize= 24 10 9 \n  ElementType  =  MET_LONG  \n NDims=-3\n\tElementNumberOfChannels=1\t\n  ByteOrder\t=\tTrue\nElementDataFile = LOCAL\r", Err HeadEnds)
    ∷ (codes "NDims=2 \r\nndims = 2\r\n \tBinaryData= False  \r\n\t \t\r\n E", Err HeadEnds)
    ∷ (codes " NDims = x  \n BinaryData=  1  \n \tElementType=MET_SHORT \t\n DimSize= 31 23 38 \nElementDataFile = a.raw\r", Err HeadEnds)
    ∷ [])
unfolding head_of pairs_of head_of_pairs form_fault refusal
heads_that_end_early = refl

-- no data line and no bad one ends within the first 65,536 bytes
pub heads_too_long :
    AreRead (
    (codes "C=" ++ (replicate 65462 120 ++ codes "\nNDims = 3\nDimSize = 1 2 3\nElementType = MET_INT\nElementDataFile = LOCAL\n"), Err HeaderTooLong)
    ∷ (replicate 65536 120 ++ codes "\n", Err HeaderTooLong)
    ∷ (codes "C=" ++ (replicate 65533 120 ++ codes "\nbad\n"), Err HeaderTooLong)
    ∷ (codes "\n" ++ (replicate 65534 32 ++ codes "\n"), Err HeaderTooLong)
    ∷ (codes "A=" ++ (replicate 65533 120 ++ codes "\nElementDataFile = LOCAL\n"), Err HeaderTooLong)
    ∷ (codes "A=" ++ (replicate 65530 120 ++ codes "\nbad\n"), Err HeaderTooLong)
    ∷ [])
unfolding head_of pairs_of head_of_pairs form_fault refusal
heads_too_long = refl

-- a line without =, or with nothing in front of it
pub bad_lines :
    AreRead (
    (codes "=\n", Err (BadLine 0))
    ∷ (replicate 65535 120 ++ codes "\n", Err (BadLine 0))
    ∷ (codes "  DimSize = 1 25 28\t\r\nndims = 2\r\n" ++ ((11 ∷ []) ++ codes "\r\n\tObjectType =Image \t\r\n NDims=3\t\r\n ElementType = MET_SHORT \t\r\n\r\r\nElementDataFile = LOCAL = \r\nNDims = 2\n"), Err (BadLine 33))
    ∷ (codes " \tObjectType=Image  \nElementType=MET_UCHAR \t\n BinaryDataByteOrderMSB =True \t\n DimSize = 13 \t26 \t37 \n=\n CompressedData  =  0 \n \tNDims  =  -3\t\n ElementDataFile =\tLOCAL \r\n", Err (BadLine 100))
    ∷ (codes "\r\r\n\tDimSize  =  1.0 9 7  \r\n NDims  =  x \r\n  ElementType\t=\tMET_SHORT\t\r\n  CompressedData\t=\tFalse\r\nElementDataFile = LOCAL\r\r\n\n", Err (BadLine 0))
    ∷ (codes "hello\n\tNDims = \n BinaryData = 1  \n  ElementByteOrderMSB=f  \n CompressedData=True \t\n ElementNumberOfChannels\t=\t0 \t\n DimSize=15\t1000000000\t33\nElementType =MET_SHORT \t\nElementDataFile = lOCAL\n", Err (BadLine 0))
    ∷ (codes " \tNDims= 4\r\n \tByteOrder  =  0  \r\n ElementByteOrderMSB  =  1 \r\nCompressedData =N \r\n \r\r\n \tDimSize = 29  31  16\r\n  ElementType\t=\tMET_UCHAR x\t\r\nelementdatafile = LOCAL\r\nNDims = 2\n", Err (BadLine 82))
    ∷ (codes " ObjectType= image  \n NDims =3\n\tElementNumberOfChannels = 000000001\t\n DimSize  =  35 32 36  \n \t=x\n\tElementType= MET_INT\t\nElementDataFile=local\n", Err (BadLine 93))
    ∷ (codes "  ObjectType\t=\tImage \t\n" ++ ((0 ∷ []) ++ codes "\nDimSize =21 19 1 \n NDims= 3 \n \tElementType = MET_CHAR \nElementDataFile = LOCAL\nNDims = 2\n"), Err (BadLine 23))
    ∷ (codes "  BinaryData=T\r\n  NDims =3  \r\nElementType =MET_USHORT \t\r\n ElementByteOrderMSB  =   \t\r\n DimSize=23\t8193\t8 \r\n ObjectType  =  Image\t\r\n" ++ ((160 ∷ []) ++ codes "\r\nElementDataFile = LOCAL\r\r\n"), Err (BadLine 131))
    ∷ (codes " \tObjectType=Image \t\n\r\r\n\tDimSize  =  10  34 \t\n\tElementType= MET_LONG \nElementDataFile = LOCAL\rx", Err (BadLine 21))
    ∷ (codes "\tNDims=  \r\nElementNumberOfChannels = 1\r\n \r\n \tByteOrder=0 \r\n  ElementByteOrderMSB= True\t\r\n \r\r\n\tCompressedData=False \r\n\tDimSize=4 \t34 \t14 \r\n \tElementType =MET_INT \r\nElementDataFile = LOCAL x\r\n", Err (BadLine 89))
    ∷ (codes "\t \t\r\n \tNDims=03  \r\n\t \t\r\n  ByteOrder  =  0 \t\r\n \t=x\r\n \tBinaryDataByteOrderMSB = True \t\r\n  DimSize= 0 26 38\t\r\n  ElementType=MET_INT \r\nElementDataFile = LOCAL\r \r\n", Err (BadLine 45))
    ∷ (codes "\r\r\n \tDimSize  =  26\t4\t29\nElementDataFileX = 1\n\tNDims = +3\n  BinaryData=10 \t\nElementType\t=\tMET_UCHAR\nElementDataFile = LOCAL\r\r\r", Err (BadLine 0))
    ∷ (codes " \tObjectType=Scene\n NDims=-3\t\n \tBinaryData=T \t\n \tCompressedData = no  \n DimSize= 000000012 \t10 \n ElementType\t=\tMET_INT \nelementdatafile = LOCAL\nhello\n", Err (BadLine 144))
    ∷ (codes " DimSize\t=\t14 \t18 \t21 \n\tElementType\t=\tMET_UCHAR  \nElementNumberOfChannels =000000001\t\n NDims = 3 \t\n ObjectType  =  Image  \n#\nHeaderSize = -1\nElementDataFile = LOCAL x\n", Err (BadLine 123))
    ∷ (codes " \tNDims =+3 \n  BinaryData  =  T \n\tCompressedData  =  False\n\tElementNumberOfChannels\t=\t1 1 \n \tDimSize  =  13 \t6 \t35 \n\r\r\n ElementType =MET_SHORT \n ElementDataFile =\tLOCAL \n", Err (BadLine 116))
    ∷ (codes "DimSize= 26 \t37 \t4  \na: b\nObjectType\t=\tImage x \n \tElementType =MET_SHORT  \n  BinaryDataByteOrderMSB\t=\tf \t\nA=b=c\nndims = 2\nElementDataFile = LOCAL\n", Err (BadLine 21))
    ∷ (codes " NDims= 3\nA=b=c\n#\nComment=\nDimSize=18 \t0 \t4  \n \tElementType = MET_SHORT \nElementDataFile = LOCAL\nNDims = 2\n", Err (BadLine 16))
    ∷ (codes "  NDims  =  3\r \t\nBinaryDataByteOrderMSB  =  True\n DimSize=18 \t23 \t11\t\n  ElementType=MET_SHORT\n" ++ ((11 ∷ []) ++ codes "\nElementDataFile=Local\n"), Err (BadLine 94))
    ∷ (codes " ElementType = MET_UCHAR\r\n NDims  =  4 \t\r\nElementDataFileX = 1\r\nCompressedData = 0\r\n\tBinaryDataByteOrderMSB =T\t\r\nDimSize = 39 16 20 \t\r\nelementdatafile = LOCAL\r\nhello\n", Err (BadLine 160))
    ∷ (codes "=x\n ObjectType =image\t\n  NDims =3\r  \n  ElementByteOrderMSB = False \n CompressedData  =  0 \n \tDimSize= 33  20  38 \n ElementType=MET_UCHAR  \nElementDataFile = LOCAL\n", Err (BadLine 0))
    ∷ (codes "  DimSize\t=\t10 \t29 \t01  \r\nElementByteOrderMSB =True \r\n\tElementType=MET_CHAR \r\nNDims  =  4 \t\r\nelementdatafile = LOCAL\r\nhello\n", Err (BadLine 118))
    ∷ ((11 ∷ []) ++ codes "\nElementByteOrderMSB=1\n  ElementType\t=\t \n\tNDims=x\t\nBinaryData= True \n DimSize\t=\t34 \t1.0 \t27\nElementDataFile = a.raw\nNDims = 2\n", Err (BadLine 0))
    ∷ [])
unfolding head_of pairs_of head_of_pairs form_fault refusal
bad_lines = refl

-- a key that must be there is not
pub missing_keys :
    AreRead (
    (codes "ElementDataFile = LOCAL\n", Err (Missing NDims))
    ∷ (codes "DimSize\t=\t8 19 32\t\n  ElementType  =  MET_CHAR \nByteOrder = 1\nElement DataFile = 1\nElementDataFile = lOCAL\n", Err (Missing NDims))
    ∷ (codes "ElementNumberOfChannels = 3 \r\n CompressedData =1\t\r\n \tDimSize =17\t18\t2\r\n BinaryDataByteOrderMSB=False  \r\n \tObjectType= Scene  \r\n\tElementType  =  MET_SHORT \r\nElementDataFile = LOCAL\r\n", Err (Missing NDims))
    ∷ (codes "DimSize  =  18  19  22\n\tBinaryData\t=\t 1\n\tNDims= 3 \t\n ElementNumberOfChannels =000000001\n ByteOrder\t=\t1\t\n ElementDataFile =\tLOCAL \nElementDataFile = b\n", Err (Missing ElementType))
    ∷ (codes " DimSize =7 31 23\n  ElementType =MET_USHORT \t\nElementDataFile = LOCAL\n", Err (Missing NDims))
    ∷ (codes "  ObjectType= Image \n\tNDims\t=\t03\nBinaryData = 0\n BinaryDataByteOrderMSB = 1 \t\n ElementNumberOfChannels\t=\t1 \t\n ElementType\t=\tMET_UCHAR  \nElementDataFile = a.raw\n", Err (Missing DimSize))
    ∷ (codes "Name: a = b\nObjectType = Image\nNDims = 3\nBinaryData = True \r\n\r\nBinaryDataByteOrderMSB = False\nCompressedData = False\nTransformMatrix = 1 0 0 0 1 0 0 0 1\nOffset = 0 0 0\nCenterOfRotation = 0 0 0\nAnatomicalOrientation = RAI\nElementSpacing = 3.019027643273 826.7994282028290 2.7\n   \nElementType = MET_UINT\n   \nElementDataFile = LOCAL\n", Err (Missing DimSize))
    ∷ [])
unfolding head_of pairs_of head_of_pairs form_fault refusal
missing_keys = refl

-- the value of a key is not well formed
pub bad_values :
    AreRead (
    (codes " NDims  =  -3\t\n \tElementByteOrderMSB\t=\tT\n  DimSize = 11 \t1 \t35\t\n  ElementType= MET_FLOAT\t\nElementDataFile = LOCAL = \nx", Err (BadValue NDims))
    ∷ (codes " NDims =+3 \nByteOrder = T \t\n \tElementNumberOfChannels=000000001\nNDims2 = 1\nDimSize = 18 8 12 \n ElementType  =  MET_UINT \nElementDataFile = LOCAL\nElementDataFile = b\n", Err (BadValue NDims))
    ∷ (codes " BinaryData=1 \t\r\n ElementType  =  MET_UINT \r\n  NDims =2\r\n DimSize=28\t01\t0\r\nElementDataFile=Local\r\n", Err (BadValue DimSize))
    ∷ (codes " ObjectType=Image \n\tNDims\t=\t-3 \n \tBinaryData =False \n" ++ ((255 ∷ []) ++ codes " = 1\n  ByteOrder =f \n BinaryDataByteOrderMSB\t=\tTrue \nNDims2 = 1\n DimSize = 35\t35\t3  \n ElementType\t=\tMET_SHORT  \nelementdatafile = LOCAL\nElementDataFile = b\n"), Err (BadValue NDims))
    ∷ (codes " \tElementType  =  MET_SHORT \n  DimSize  =  33 12 28\n BinaryDataByteOrderMSB\t=\tFalse \n \tNDims  =  0000000003 \nBinaryData\t=\t 1 \t\n\r\nElementDataFile = LOCAL\n\n", Err (BadValue NDims))
    ∷ (codes "\tObjectType =image \n NDims  =  3\r  \n \r\n\tBinaryData\t=\t  \n \tDimSize= 40 \t5 \t16 \t\n \tElementType = MET_UCHAR \t\n\t \t\nElementDataFile = LOCAL\n", Err (BadValue NDims))
    ∷ (codes "  DimSize  =  14\t22\t5 \nByteOrder = 1\n NDims =1  \nBinaryData  =  True  \n \tElementByteOrderMSB =False\nNDims = \n \tElementType=MET_SHORT \nElementDataFile =\n", Err (BadValue DimSize))
    ∷ (codes "DimSize = 11\t01\t37\t\n \tNDims =0\nElementType\t=\tMET_UCHAR x \t\n ObjectType =Image x\t\nElementDataFile = LOCAL = \n", Err (BadValue NDims))
    ∷ (codes " NDims =+3 \n  ElementByteOrderMSB\t=\tf  \n CompressedData  =  1 \t\nElementNumberOfChannels= 1 1  \n DimSize = 35\t36\t27\t34\t38  \nDimSize = 9 9\n \n  ElementType = MET_SHORT \nElementDataFile = LOCAL\n", Err (BadValue NDims))
    ∷ (codes " NDims =\t\n BinaryDataByteOrderMSB= tt \n  CompressedData= True \t\n DimSize = 32 \t26 \t6 \n ElementType = MET_UCHAR x\t\nElementDataFile = LOCAL\nx", Err (BadValue NDims))
    ∷ (codes "ElementByteOrderMSB= T  \n ElementType\t=\tMET_UINT\nDimSize  =  8\t10\t3\n \tElementNumberOfChannels\t=\t0000000001\t\n  BinaryData  =  0 \n \tNDims=+3 \n ElementDataFile =\tLOCAL \n", Err (BadValue NDims))
    ∷ (codes "  NDims\t=\t \t\n BinaryDataByteOrderMSB = \n DimSize  =  25  26  1000000000 \t\nElementType\t=\tMET_LONG\nElementDataFile = lOCAL\rElementDataFile = b\n", Err (BadValue NDims))
    ∷ (codes "NDims =\r\n DimSize=16 \t40 \t36\r\n \tElementType= MET_UCHAR x \r\nElementDataFile = LOCAL\r\r\r\nhello\n", Err (BadValue NDims))
    ∷ (codes " NDims = 2 \t\n BinaryData= 0 \n\tElementByteOrderMSB=   \n ElementByteOrderMSB= True \n  CompressedData\t=\tno  \n \tDimSize=36  13  2\n\tElementType  =  MET_UCHAR x \nElementDataFile = lOCAL\n", Err (BadValue DimSize))
    ∷ (codes "  NDims  =  03 \t\n\r\nA=b=c\nBinaryData= true \t\nDimSize=24 \n  ElementType=MET_UCHAR \t\nElementDataFile = LOCAL = \nx", Err (BadValue DimSize))
    ∷ (codes "  NDims  =   \t\nElementDataFileX = 1\nBinaryData = 10\t\n BinaryDataByteOrderMSB= True  \nCompressedData = True \nA=b=c\n  DimSize\t=\t33  10  5  \n  ElementType =\t\nElementDataFile = LOCAL\n\n", Err (BadValue NDims))
    ∷ (codes " \tElementType =MET_UINT\t\n \tObjectType= Image x \n\nBinaryDataByteOrderMSB= 1  \n \tDimSize\t=\t8 \t9 \t22  \n \tNDims  =  3\r \t\nBinaryData = \n CompressedData\t=\t1\nElementDataFile =NDims = 2\n", Err (BadValue NDims))
    ∷ (codes "\tBinaryData = T\t\n NDims=3 3\nNDims = 2\n  ElementByteOrderMSB\t=\t1\n \tDimSize =36 21 7 \nElementNumberOfChannels\t=\t000000001\n CompressedData = True  \n  ElementType=MET_UCHAR \nElementDataFile=Local\n", Err (BadValue NDims))
    ∷ (codes " NDims\t=\t0 \r\n\tBinaryDataByteOrderMSB\t=\t0\t\r\n  BinaryDataByteOrderMSB =1  \r\nElementType=MET_FLOAT\t\r\n DimSize=0000000012 \t16 \t1 \r\n \tCompressedData =  \r\nElementDataFile = LOCAL xNDims = 2\n", Err (BadValue NDims))
    ∷ (codes " ObjectType\t=\timage  \n ElementType  =  MET_UCHAR \t\n\tByteOrder = False\n NDims=0\n\tDimSize =40 15 21  \nElement DataFile = 1\nByteOrder = 1\n BinaryData=10 \t\nElementDataFile=local\n\n", Err (BadValue NDims))
    ∷ (codes " NDims = 3 \t\n CompressedData\t=\tno \n DimSize = 15 \t0 \t6 \nElementDataFile=Local\nElementDataFile = b\n", Err (BadValue DimSize))
    ∷ (codes " NDims=+3 \n  DimSize  =  26 5 999999999 \n \tBinaryData =False \n  ElementType = MET_UCHAR\t\nElementDataFile = LOCAL\nElementDataFile = b\n", Err (BadValue NDims))
    ∷ (codes " NDims =3 3 \n BinaryData  =  \n ElementByteOrderMSB =T \t\n  ElementNumberOfChannels= \nByteOrder = 1\n DimSize =21 12 6 \t\n\r\nElementDataFile = LOCAL\nhello\n", Err (BadValue NDims))
    ∷ (codes " NDims= 0 \t\nElement DataFile = 1\nDimSize = 9 9\n  BinaryData = True\t\n\tBinaryDataByteOrderMSB=1 \n  DimSize =29\t3\t25 \nElementType=MET_SHORT\t\nElementDataFile = LOCAL = \n", Err (BadValue NDims))
    ∷ (codes "  ElementNumberOfChannels\t=\t1\t\nndims = 2\n  NDims  =  0 \n\tDimSize = 35  19  40 \t\n \n\tElementType  =  \t\nElementDataFile = a.raw\n", Err (BadValue NDims))
    ∷ (codes "NDims= 3   \n BinaryData= 0 \n \tElementByteOrderMSB =True \t\n  ElementNumberOfChannels =  \nDimSize= 1.0\t1000000000\t21 \n\tElementType  =   \nElementDataFile = LOCAL\r \n", Err (BadValue Channels))
    ∷ (codes "ObjectType = Image\nNDims = 3\nBinaryData = True\nBinaryDataByteOrderMSB = T\nCompressedData = False\nTransformMatrix = 1 0 0 0 1 0 0 0 1\nCenterOfRotation = 0 0 0\nAnatomicalOrientation = RAI\nElementSpacing = 1 1 1\nDimSize = 9  1  2\nElementType = MET_CHAR\nNDims = 2\nElementDataFile = \n", Err (BadValue DataFile))
    ∷ (codes " \tNDims  =  1\r\n\tByteOrder= 0\t\r\n  BinaryDataByteOrderMSB=1 \t\r\n DimSize\t=\ta \t28\r\n \tElementType = MET_FLOAT \t\r\nElementDataFile = LOCAL\r\n\n", Err (BadValue DimSize))
    ∷ (codes "  BinaryDataByteOrderMSB  =  1 \n \tObjectType =Image x\t\n\n  DimSize=40 34 30 27 \t\nA=b=c\n ElementNumberOfChannels= 3\nNDims\t=\t3\t\n \tElementType  =  MET_USHORT \nElementDataFile = LOCAL x\nElementDataFile = b\n", Err (BadValue DimSize))
    ∷ (codes " ObjectType = \nNDims  =  0000000003 \n  ByteOrder\t=\tTrue \n\tCompressedData= False \nElementNumberOfChannels= 0 \t\n\tDimSize  =  38  17  1.0 \n  ElementType = MET_INT  \nElementDataFile = LOCAL\r\n\n", Err (BadValue ObjectType))
    ∷ (codes "\tBinaryData=  \nNDims = 2\n DimSize = 23  34  27\n  ElementType=MET_SHORT \t\n NDims =3\r \nElementDataFile = LOCAL\n", Err (BadValue DimSize))
    ∷ (codes " \tObjectType  =  Scene \t\nBinaryData  =  yes \nx\r=\r\nElementType = MET_INT\n NDims  =  \t\n \tDimSize= 9\t0000000012\t38 \n  ByteOrder = tt\nElementDataFile = a.raw\n\n", Err (BadValue NDims))
    ∷ (codes "  NDims\t=\t-3\n BinaryData= yes  \n  BinaryDataByteOrderMSB= tt \n\tElementNumberOfChannels\t=\t3  \n DimSize=000000012 23 13  \n \tElementType= \nElementDataFile =\n", Err (BadValue NDims))
    ∷ (codes " NDims= 3 \n \tDimSize =39 6 13\t\nNDims2 = 1\nElementType=  \nElementDataFile = LOCAL x\nhello\n", Err (BadValue ElementType))
    ∷ (codes "  ObjectType=  \r\n \tNDims=0 \r\n ByteOrder = T \t\r\nByteOrder = 1\r\n  DimSize  =  24\t27\t29\t\r\n \tElementType =MET_USHORT \r\nElementDataFile = a.raw\r\nElementDataFile = b\n", Err (BadValue ObjectType))
    ∷ (codes " ObjectType= Scene\n\tElementType = MET_FLOAT\n  NDims\t=\t4 \n \tDimSize\t=\t14  8  000\t\n ByteOrder\t=\ttt\n ElementByteOrderMSB =False \t\nElementDataFile=Local\nhello\n", Err (BadValue DimSize))
    ∷ (codes "NDims =3 \r\n BinaryData =0  \r\nDimSize = 9 9\r\nElementType\t=\tMET_LONG \r\nElementDataFile = LOCAL x\r\nElementDataFile = b\n", Err (BadValue DimSize))
    ∷ (codes "Comment=\n  ObjectType\t=\tScene \nDimSize  =  000 29 1\t\nNDims =1\t\nElementType = MET_CHAR\t\nElementDataFile = LOCAL\nNDims = 2\n", Err (BadValue DimSize))
    ∷ (codes " \tNDims\t=\t000000003 \nDimSize = 9 9\nBinaryDataByteOrderMSB= 1 \n  ElementNumberOfChannels  =  0000000001 \n\tDimSize = 6  12  19  \n ElementType  =  MET_UCHAR x \n ElementDataFile =\tLOCAL \n", Err (BadValue Channels))
    ∷ (codes "ObjectType =Scene \t\r\n \tBinaryDataByteOrderMSB =True \t\r\n NDims\t=\t4 \r\n DimSize = 27 \t19 \r\n \tElementType\t=\tMET_uCHAR \t\r\nNDims2 = 1\r\nElementDataFile = LOCAL\r \r\n\n", Err (BadValue DimSize))
    ∷ (codes " \tNDims =1\n \tElementNumberOfChannels =1\t \n BinaryDataByteOrderMSB= True  \n \tElementType=\n DimSize =8193\t999999999\t11 \nElementDataFile = LOCAL\nx", Err (BadValue DimSize))
    ∷ (codes "\tDimSize  =   \t\n ByteOrder  =  0 \n \tNDims\t=\t2 \n \tCompressedData=F\t\n ElementType= MET_SHORT \nElementDataFile = LOCAL x\nx", Err (BadValue DimSize))
    ∷ (codes "ObjectType=Image \r\n NDims = 2 \r\n \tBinaryData=0\t\r\n  ElementByteOrderMSB = 1  \r\n ElementByteOrderMSB  =  1\t\r\n \tCompressedData=no \t\r\n ElementNumberOfChannels  =  x  \r\n  DimSize =1000000000 \t18 \t33\t\r\n ElementType= MET_CHAR \r\nElementDataFile=Local\rElementDataFile = b\n", Err (BadValue Channels))
    ∷ (codes " ElementNumberOfChannels =\n ObjectType  =  Image\n  NDims= 3\t\n \tDimSize= 34  12  37 \nElementType\t=\tMET_CHAR\n ElementDataFile =\tLOCAL \n", Err (BadValue Channels))
    ∷ (codes "\nNDims = 3\t\n\tByteOrder=False\t\n  DimSize\t=\t1000000000 \t18 \t0 \t0000000012\t\n\nElementType\t=\tMET_UCHAR x \nElementDataFile=local\n", Err (BadValue DimSize))
    ∷ (codes " \tBinaryDataByteOrderMSB= True\t\nObjectType=Image\t\n\tElementNumberOfChannels = 1  \n NDims\t=\t4  \n CompressedData =f  \n DimSize = 11\t21\t37 \n ElementType=MET_UINT\t\nElementDataFile = LOCAL x\n", Err (BadValue DimSize))
    ∷ (codes "\tObjectType  =  image\t\nNDims\t=\t000000003 \t\n \tBinaryDataByteOrderMSB = False \n \tElementNumberOfChannels  =  01\t\n DimSize= a\t18\t11 \n  ElementType\t=\tMET_INT \n ElementDataFile =\tLOCAL \n\n", Err (BadValue DimSize))
    ∷ (codes " \tDimSize=7\t18\t000\t7\t0\n ElementNumberOfChannels=1 \t\n \tElementByteOrderMSB =\t\nNDims\t=\t3\t\n \tElementType =MET_INT \nndims = 2\nElementDataFile = LOCAL = \nx", Err (BadValue DimSize))
    ∷ (codes "ObjectType\t=\tScene \t\nElementType = MET_INT\n\tCompressedData=1\nHeaderSize = -1\n NDims  =  4 \t\n  DimSize  =  39 \t5 \t27 \n ElementType = MET_INT\n ElementByteOrderMSB=False \t\n ElementDataFile =\tLOCAL \n", Err (BadValue DimSize))
    ∷ (codes "ObjectType= image \n\tElementType  =  MET_uCHAR\nNDims= 4  \n \r\n\t \t\n BinaryData =0\t\nDimSize=23 \t1 \t0000000012\t\nElementDataFile=Local\n", Err (BadValue DimSize))
    ∷ (codes " CompressedData = 0 \t\r\nElement DataFile = 1\r\nNDims = 2\r\n\tNDims\t=\t000000003 \r\n\tObjectType = Image x \r\nBinaryDataByteOrderMSB  =  False \t\r\nElementType=MET_uCHAR \r\n\tDimSize=33  3  1.0\t\r\nElementDataFile = a.raw\r\nElementDataFile = b\n", Err (BadValue DimSize))
    ∷ (codes " \tBinaryDataByteOrderMSB =1\t\n \tCompressedData\t=\tF \n  ElementNumberOfChannels  =  1 1\t\nBinaryData = true\t\n \tDimSize =29\t18\t11 \n ElementType  =  MET_UCHAR\t\n  NDims  =  3\t\nElementDataFile = LOCAL = \nNDims = 2\n", Err (BadValue Channels))
    ∷ [])
unfolding head_of pairs_of head_of_pairs form_fault refusal
bad_values = refl

-- all values are well formed, and one is not supported
pub unsupported_values :
    AreRead (
    (codes "NDims = 3\nDimSize = 1 1 1\nElementType = MET_CHAR\nElementDataFile = LOCAL\r\r\n", Err (Unsupported DataFile))
    ∷ (codes "NDims=3\nCompressedData = t\nDimSize=1 2 3\nCompressedData = False\nElementType=MET_SHORT\nElementDataFile=LOCAL\n", Err (Unsupported CompressedData))
    ∷ (codes "NDims=3\nBinaryData =\nDimSize=1 2 3\nElementType=MET_SHORT\nElementDataFile=LOCAL\n", Err (Unsupported BinaryData))
    ∷ (codes "ObjectType = Image\r\r\nNDims = 3\nBinaryData = True\nBinaryDataByteOrderMSB = False\nCompressedData = False\nTransformMatrix = 1 0 0 0 1 0 0 0 1\nOffset = 0.82227546 +2.411365 -3.9\nCenterOfRotation = 0 0 0\n \r\nAnatomicalOrientation = RAI\nElementSpacing = 1 1 1\nDimSize = 1 7 6\nElementType = MET_SHORT\nElementDataFile = LOCAL\n", Err (Unsupported ObjectType))
    ∷ (codes "NDims = 3\r\nElementNumberOfChannels = 3\nObjectType = Image\r\nBinaryDataByteOrderMSB = 1\r\nCenterOfRotation = 0 0 0\r\nElementSpacing = 1 1 1\r\nElementType = MET_UCHAR\r\nBinaryData = True\r\nCompressedData = False\r\nOffset = 0 0 0\r\nTransformMatrix = 1 0 0 0 1 0 0 0 1\r\nAnatomicalOrientation = RAI\r\nDimSize = 9\t7\t8\r\nBinaryData = True\r\nElementDataFile = LOCAL\n", Err (Unsupported Channels))
    ∷ (codes "NDims= 3   \r\nBinaryData= True \r\nElementByteOrderMSB= True\r\n  DimSize =33  24  25\r\n ElementType\t=\tMET_SHORT\r\nElementDataFile = LOCAL\r\r\n", Err (Unsupported DataFile))
    ∷ (codes " \r\nObjectType= image\n \tNDims  =  03 \n\tCompressedData\t=\tFalse\n  DimSize=2\t37\t20\t\nElementType= MET_INT\nElementDataFile=local\n", Err (Unsupported ObjectType))
    ∷ (codes "ObjectType = Image\r\nNDims = 3\r\nBinaryData = True\r\nElementByteOrderMSB = 0\r\nCompressedData = False\r\nTransformMatrix = 1 0 0 0 1 0 0 0 1\r\nOffset = 1.208332148005430 +2.29 +889142.32\r\nElementNumberOfChannels = 3\r\nCenterOfRotation = 0 0 0\r\nAnatomicalOrientation = RAI\r\nElementSpacing= 275.5 +433.5973664112559 53.693137622391\r\nDimSize = 0007  6  4\r\nElementType = MET_USHORT\r\nElementDataFile = LOCAL\n", Err (Unsupported Channels))
    ∷ (codes " \tElementType = MET_SHORT\t\n\tNDims =3 \n\tDimSize =25 \t28 \t33 \n BinaryDataByteOrderMSB  =  True \t\n CompressedData  =   \nElementDataFile = LOCAL\r \n", Err (Unsupported DataFile))
    ∷ (codes "  ElementType=MET_FLOAT \n BinaryData = t\t\n DimSize= 999999999 \t27 \t01 \n\tNDims =3\nx\r=\r\n \tObjectType= Image  \nElementDataFile = LOCAL = \n", Err (Unsupported ElementType))
    ∷ (codes " \tNDims =3\t\n\tCompressedData\t=\tN \t\n\tDimSize\t=\t01  32  30 \n \tElementType=MET_UCHAR x \t\nElementDataFile = LOCALNDims = 2\n", Err (Unsupported ElementType))
    ∷ (codes " NDims  =  3\t\n BinaryDataByteOrderMSB =f\t\n  DimSize=15 25 000000012 \n" ++ ((255 ∷ []) ++ codes " = 1\n  ElementType =MET_CHAR  \nElementDataFile = LOCAL x\nNDims = 2\n"), Err (Unsupported DataFile))
    ∷ (codes " ObjectType  =  Image\r\n\tNDims = 3 \t\r\n ElementByteOrderMSB = False \r\n \tDimSize=20 \t12 \t37\r\n \tElementType= MET_UCHAR x  \r\nElementDataFile = LOCAL = \r\n", Err (Unsupported ElementType))
    ∷ (codes " ElementType=MET_uCHAR \r\nBinaryData\t=\t \r\n  ElementNumberOfChannels=01  \r\nndims = 2\r\n\tCompressedData=False \r\n \tNDims=3  \r\n \tDimSize\t=\t32  999999999  32  \r\nElementDataFile = LOCAL\r \r\nhello\n", Err (Unsupported BinaryData))
    ∷ (codes "ElementNumberOfChannels = 0\nObjectType = Image\nNDims = 3\nBinaryData = True\nBinaryDataByteOrderMSB = False\nCompressedData = False\nTransformMatrix = 1 0 0 0 1 0 0 0 1\nOffset = 0.5597718 0.43 183380.265814177\nCenterOfRotation = 0 0 0\nAnatomicalOrientation = RAI\nElementSpacing = +1.082321999013740 +462.1133302 182.3616551878\nDimSize = 1 \t 7 \t 5\nElementType = MET_INT\nElementDataFile = LOCAL\n", Err (Unsupported Channels))
    ∷ (codes "  ObjectType  =  Image x\t\n NDims =3\t\n  ElementType = MET_CHAR  \n DimSize = 6  4  38  \n ElementDataFile =\tLOCAL \n", Err (Unsupported ObjectType))
    ∷ (codes "ObjectType = Image\nNDims = 3\n  BinaryDataByteOrderMSB = False\nCompressedData = False\nTransformMatrix = 1 0 0 0 1 0 0 0 1\nOffset = 0 0 0\nCenterOfRotation = 0 0 0\nAnatomicalOrientation = RAI\nElementSpacing = 1 1 1\nDimSize = 9\t5\t5\r\nElementType = MET_UINT\nElementDataFile = a.raw\n", Err (Unsupported DataFile))
    ∷ (codes " ElementType  =  MET_FLOAT\r\nDimSize= 32\t5\t12 \r\n NDims  =  3 \r\n BinaryData=  \t\r\nElementDataFile = a.raw\r\n", Err (Unsupported BinaryData))
    ∷ [])
unfolding head_of pairs_of head_of_pairs form_fault refusal
unsupported_values = refl
