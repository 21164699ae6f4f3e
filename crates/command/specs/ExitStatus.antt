-- The exit status of the program.
use Rattle.std.specs.Prelude.{◌≤◌, ℤ, pos, negsuc}

-- 0 or 1: 0 where the answer is written out, 1 where the input cannot be read or the output not be written. Which of them it is hangs on the
-- system's calls, of which a contract cannot speak
abbrev pub ExitStatus : ℤ → Type 0
ExitStatus (pos k) = k ≤ 1
ExitStatus (negsuc k) = ⊥
