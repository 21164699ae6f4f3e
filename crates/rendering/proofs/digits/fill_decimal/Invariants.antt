-- The digits of `rest` are still to be stored, and those behind them stand in the array.
use Rattle.std.proofs.Common.{◌≡◌, ◌++◌, length, drop}
use Rattle.rendering.specs.Decimal.{decimal}
use Rattle.rendering.proofs.digits.fill_decimal.Given as goal

abbrev pub invariant-loop-i : goal.invariant-loop-i
invariant-loop-i l =
    record { to_store : length (decimal l.rest) ≡ l.i; number : decimal l.rest ++ drop l.i l.out ≡ decimal l.n }
