-- So many ones are put.
use Rattle.std.proofs.Common.{true, replicate}
use Rattle.exporting.specs.Putting.{Puts}
use Rattle.exporting.proofs.putting.put_index.Given as goal

abbrev pub invariant-loop : goal.invariant-loop
invariant-loop l = Puts (replicate l.counter true) l.fn.writer l.fn.out l.p l.out
