-- What the check's private functions are held to, beyond the paper's definitions.
use Rattle.std.specs.Prelude.{ℕ, List}
use Rattle.prelude.specs.Prelude.{cut, listed}
use Rattle.prelude.specs.declared.cutting.Definitions.{Definitions}

-- the definitions that are to come, as files
abbrev pub files_in : Definitions → List (List ℕ)
files_in ds = listed (cut ds.count ds.bytes.now)
