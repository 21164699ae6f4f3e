-- What is promised of `render`, for every answer and arrays of every length.
-- Letters: a is the answer, ts and ms are the tags and the arguments that the output arrays hold, l what the lent array holds before the
-- call and l' what it holds after it, q what the call returns.
use Rattle.std.specs.Prelude.{ℕ, ◌^◌, ◌≤◌, ◌<◌, ◌≡◌, List, [], length, take, Result, Ok, Err}
use Rattle.termfile.specs.Nodes.{Node}
use Rattle.termfile.specs.File.{pairs}
use Rattle.termfile.specs.Output.{overlay}
use Rattle.machine.specs.Answer.{nodes_written, Report, Answer, number_alone, report, output_limit}
use Rattle.rendering.specs.Lines.{shift_sum, lines}
use Rattle.rendering.specs.declared.Unrendered.{Unrendered}
use Rattle.rendering.specs.declared.Unrendered.TheVariants.{TooShort, NoAnswer}

-- the written nodes, which stand at the front of the output arrays
abbrev pub nodes_at : ℕ → List ℕ → List ℕ → List Node
nodes_at n ts ms = pairs (take n ts) (take n ms)

-- the nodes of an answer
abbrev pub nodes_in : Answer → List ℕ → List ℕ → List Node
nodes_in (number_alone k) ts ms = []
nodes_in (report r) ts ms = nodes_at (nodes_written r.outcome) ts ms

-- what every report of `evaluate_with` has, with the output arrays of its call (proofs/Given): the normal form fits into the output, and the sum
-- of the shifting steps is a number of 64 bits
pub record Possible (r : Report) (ts ms : List ℕ) : Type 0 where
  pub within_limit : nodes_written r.outcome ≤ output_limit
  pub within_tags : nodes_written r.outcome ≤ length ts
  pub within_arguments : nodes_written r.outcome ≤ length ms
  pub sum_fits : shift_sum r < 2 ^ 64

-- an answer that is told
abbrev pub Tellable : Answer → List ℕ → List ℕ → Type 0
Tellable (number_alone k) ts ms = Unit {0}
Tellable (report r) ts ms = Possible r ts ms

-- no text is longer: 16,384 nodes take at most 7 bytes each, which is 114,688, and all the rest at most 312
abbrev pub longest_text : ℕ
longest_text = 115000

pub record Renders (a : Answer) (ts ms : List ℕ) (q : Result ℕ Unrendered) (l l' : List ℕ) : Type 0 where
  -- an array that is long enough begins with the lines of the answer afterwards, and nothing past them changes
  pub written : Tellable a ts ms → length (lines a (nodes_in a ts ms)) ≤ length l → q ≡ Ok (length (lines a (nodes_in a ts ms)))
  pub text : Tellable a ts ms → length (lines a (nodes_in a ts ms)) ≤ length l → l' ≡ overlay (lines a (nodes_in a ts ms)) l
  -- one that is too short is said to be, and is as it was
  pub short : Tellable a ts ms → length l < length (lines a (nodes_in a ts ms)) → q ≡ Err TooShort
  pub short_kept : Tellable a ts ms → length l < length (lines a (nodes_in a ts ms)) → l' ≡ l
  -- so is one that is lent with an answer that is not so, which no call of `evaluate_with` gives
  pub no_answer : (Tellable a ts ms → ⊥) → q ≡ Err NoAnswer
  pub no_answer_kept : (Tellable a ts ms → ⊥) → l' ≡ l
  -- an array as long as the longest text is never too short
  pub enough : longest_text ≤ length l → q ≡ Err TooShort → ⊥
