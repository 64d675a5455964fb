use Rattle.std.specs.Io.KnownBytes.{Keeps}
use Rattle.desk_std.proofs.calls.read_some.Given as goal

abbrev pub invariant-loop : goal.invariant-loop
invariant-loop g l = Keeps (g.F.Read.remaining l.initial.file) (g.F.Read.remaining l.file)
