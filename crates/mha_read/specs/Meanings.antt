-- What a line says, as a list of bytes.
use Rattle.formats.specs.HeadLines.{Meaning, Nothing, Bad, Pair}
use Rattle.mha_read.specs.declared.meaning.Meaning.{Meaning as Read}
use Rattle.mha_read.specs.declared.meaning.Meaning.TheVariants as read

abbrev pub shown : Read → Meaning
shown read.Nothing = Nothing
shown read.Bad = Bad
shown (read.Pair name value) = Pair name.now value.now
