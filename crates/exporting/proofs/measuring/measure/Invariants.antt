-- The arrays have room, and of each code that the file stands for the walk has passed i nodes.
use Rattle.std.proofs.Common.{◌≤◌, length}
use Rattle.termfile.specs.Code.{Code}
use Rattle.exporting.specs.Tokens.{Coded}
use Rattle.exporting.proofs.Walks.{Walks}
use Rattle.exporting.proofs.measuring.measure.Given as goal

abbrev pub invariant-loop-i : goal.invariant-loop-i
invariant-loop-i g l = record {
  long-indices : l.n ≤ length l.scratch.indices;
  long-levels : l.n ≤ length l.scratch.levels;
  long-depths : l.n ≤ length l.scratch.depths;
  walks : (c : Code) → Coded l.file l.n l.f c → Walks l.file l.f c l.i l.scratch.indices l.scratch.levels l.scratch.depths l.walk;
}
