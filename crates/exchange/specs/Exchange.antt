-- What an import or export from another language returns: a status, and two numbers in the report array.
-- Letters: w is what is to be written, or the number of a refusal, q the status, l and l' what the output holds before and after, r and r' the
-- report array.
use Rattle.std.specs.Prelude.{ℕ, ◌≤◌, ◌<◌, ◌≡◌, List, [], ◌∷◌, length}
use Rattle.termfile.specs.Output.{overlay}
use Rattle.binary.specs.Answer.{Wanted, Answer, refused, written, answer, output}

-- 0 written, 3 refused
abbrev pub exchange_status : Answer → ℕ
exchange_status (written n) = 0
exchange_status (refused k) = 3

-- the refusal's number or 0, and the bytes written or 0
abbrev pub exchange_numbers : Answer → List ℕ
exchange_numbers (written n) = 0 ∷ n ∷ []
exchange_numbers (refused k) = k ∷ 0 ∷ []

pub record Exchanged (w : Wanted) (q : ℕ) (l l' r r' : List ℕ) : Type 0 where
  -- a report array of fewer than 2 elements is refused with the status 4, and nothing is touched
  pub short_status : length r < 2 → q ≡ 4
  pub short_report : length r < 2 → r' ≡ r
  pub short_output : length r < 2 → l' ≡ l
  -- else the status, the numbers and the output are those of the answer
  pub status : 2 ≤ length r → q ≡ exchange_status (answer w (length l))
  pub numbers : 2 ≤ length r → r' ≡ overlay (exchange_numbers (answer w (length l))) r
  pub output_is : 2 ≤ length r → l' ≡ output w l
