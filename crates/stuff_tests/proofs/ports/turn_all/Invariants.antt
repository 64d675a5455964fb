use Rattle.std.proofs.Common.{length}
use Rattle.st_base.specs.Desk.{IsStart}
use Rattle.desk_mem.specs.Meanings.{mem_input, mem_ports, mem_tried}
use Rattle.stuff_tests.proofs.ports.turn_all.Given as goal

abbrev pub invariant-loop-rest : goal.invariant-loop-rest
invariant-loop-rest l = IsStart (mem_input l.desk) (mem_ports l.desk) (mem_tried l.desk)

abbrev pub decreases-loop-rest : goal.decreases-loop-rest
decreases-loop-rest l = length l.rest
