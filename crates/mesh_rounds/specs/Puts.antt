-- What a call has written to an open port, by what it answers.
use Rattle.std.specs.Prelude.{◌≡◌, ◌≢◌, ◌≤◌, List, ℕ, Result, Err, OnOk, OnErr, IsErrOf, true}
use Rattle.std.specs.Io.KnownBytes.{Appends}
use Rattle.formats.specs.declared.Port.{Port}
use Rattle.node_ele_write.specs.declared.PutFault.{PutFault}
use Rattle.node_ele_write.specs.declared.PutFault.TheVariants.{WriteFault}
use Rattle.st_base.specs.Causes.{Rose}
use Rattle.st_base.specs.Desk.{AppendsPart}
use Rattle.st_base.specs.Frames.{OnlyPort}
use Rattle.st_base.specs.declared.desk.Desk.{Ghosts}

-- all of a text, or some first bytes of it before a fault; a write fault comes only where the port's count of faults rose, and the port is still open
pub record PutsText {S T : Type 0} (desk : Ghosts S) (port : Port) (old new : S) (text : List ℕ) (result : Result T PutFault) : Type 0 where
  pub all : OnOk result (Appends (desk.ports old port).text (desk.ports new port).text text)
  pub part : OnErr result (AppendsPart (desk.ports old port).text (desk.ports new port).text text)
  pub fault : IsErrOf result WriteFault → Rose (desk.ports old port).faults (desk.ports new port).faults
  pub none : result ≢ Err WriteFault → (desk.ports new port).faults ≡ (desk.ports old port).faults
  pub later : (desk.ports old port).faults ≤ (desk.ports new port).faults
  pub is_open : (desk.ports new port).is_open ≡ true
  pub name : (desk.ports new port).name ≡ (desk.ports old port).name
  pub apart : OnlyPort desk port old new
