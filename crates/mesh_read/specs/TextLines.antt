-- Lines, as they are read.
use Rattle.formats.specs.Heads.{words_of}
use Rattle.mesh_read.specs.declared.lines.TextLine.{TextLine}
use Rattle.mesh_files.specs.Lines.{Line}

abbrev pub line_of : TextLine → Line
line_of l = record { place = l.place; fields = words_of l.content.now }
