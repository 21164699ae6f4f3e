-- The three ways in which rendering ends, each as what is promised. Letters as in specs/Promise, and t is the text.
-- Assumes nothing.
use Prim.Native.Nat.{ℕ, ◌≤◌, ◌<◌}
use mathlib.Core.Path.{◌≡◌, refl, ap, ◌∙◌}
use mathlib.Core.List.{List}
use native.Mathlib.Omega.{arith}
use lib.ListN.{length}
use Rattle.std.proofs.Common.{Ok, Err}
use Rattle.termfile.specs.Output.{overlay}
use Rattle.machine.specs.Answer.{nodes_written, Report, Answer, report}
use Rattle.rendering.specs.Lines.{lines}
use Rattle.rendering.specs.Promise.{nodes_at, nodes_in, Tellable, longest_text, Renders}
use Rattle.rendering.specs.declared.Unrendered.TheVariants.{TooShort, NoAnswer}

-- no call gives the answer
pub renders-none : {a : Answer} {ts ms l : List ℕ} → (Tellable a ts ms → ⊥) → Renders a ts ms (Err NoAnswer) l l
renders-none not =
    record {
      written = λ t h. absurd (not t);
      text = λ t h. absurd (not t);
      short = λ t h. absurd (not t);
      short_kept = λ t h. absurd (not t);
      no_answer = λ n. refl;
      no_answer_kept = λ n. refl;
      enough = λ h e. let z : ◌≡◌ {A = ℕ} 0 1 = cc in omega arith;
    }

-- the array is too short
pub renders-short : {a : Answer} {ts ms l : List ℕ} → Tellable a ts ms → length l < length (lines a (nodes_in a ts ms))
    → length (lines a (nodes_in a ts ms)) ≤ longest_text → Renders a ts ms (Err TooShort) l l
renders-short given short few =
    record {
      written = λ t h. absurd (omega arith);
      text = λ t h. absurd (omega arith);
      short = λ t h. refl;
      short_kept = λ t h. refl;
      no_answer = λ not. absurd (not given);
      no_answer_kept = λ not. absurd (not given);
      enough = λ h e. omega arith;
    }

-- the text is written
pub renders-written : {a : Answer} {ts ms l l' : List ℕ} {n : ℕ} → Tellable a ts ms → n ≡ length (lines a (nodes_in a ts ms)) → n ≤ length l
    → l' ≡ overlay (lines a (nodes_in a ts ms)) l → Renders a ts ms (Ok n) l l'
renders-written given count room is =
    record {
      written = λ t h. ap Ok count;
      text = λ t h. is;
      short = λ t h. absurd (omega arith);
      short_kept = λ t h. absurd (omega arith);
      no_answer = λ not. absurd (not given);
      no_answer_kept = λ not. absurd (not given);
      enough = λ h e. let z : ◌≡◌ {A = ℕ} 0 1 = cc in omega arith;
    }

-- the text of a report whose written nodes are n
pub bytes_of : (r : Report) (ts ms : List ℕ) {n k : ℕ} → n ≡ nodes_written r.outcome → k ≡ length (lines (report r) (nodes_at n ts ms))
    → k ≡ length (lines (report r) (nodes_in (report r) ts ms))
bytes_of r ts ms e k = k ∙ ap (λ m. length (lines (report r) (nodes_at m ts ms))) e
