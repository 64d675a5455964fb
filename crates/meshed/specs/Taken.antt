-- What is taken from a desk in memory.
use Rattle.std.specs.Prelude.{◌≡◌, [], map}
use Rattle.formats.specs.declared.Port.TheVariants.{Report, Trouble}
use Rattle.formats.specs.declared.Status.{Status}
use Rattle.formats.specs.declared.Status.TheVariants.{Done}
use Rattle.desk_mem.specs.declared.mem.MemDesk.{MemDesk}
use Rattle.desk_mem.specs.Meanings.{mem_state, port_part}
use Rattle.meshed.specs.declared.answer.Answer.{Answer}
use Rattle.meshed.specs.Files.{files_tried, named}

-- its files, its report and what is told of trouble
pub record HasDone (desk : MemDesk) (answer : Answer) : Type 0 where
  pub status : answer.status ≡ Done
  pub files : map named answer.files.items ≡ files_tried (mem_state desk).tried (λ p. (port_part desk p).text.items)
  pub report : answer.report.items ≡ (port_part desk Report).text.items
  pub trouble : answer.trouble.items ≡ (port_part desk Trouble).text.items

-- what is told of trouble alone
pub record HasRefused (status : Status) (desk : MemDesk) (answer : Answer) : Type 0 where
  pub status_is : answer.status ≡ status
  pub files : answer.files.items ≡ []
  pub report : answer.report.items ≡ []
  pub trouble : answer.trouble.items ≡ (port_part desk Trouble).text.items

-- either by the status
abbrev pub IsTaken : Status → MemDesk → Answer → Type 0
IsTaken Done desk answer = HasDone desk answer
IsTaken status desk answer = HasRefused status desk answer
