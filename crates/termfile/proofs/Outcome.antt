-- What the pass of the tests 4 to 7 tells of a file that has passed the tests 1 to 3. Where it passes, the file is accepted and its counts
-- follow from the number of its abstractions.
-- Assumes nothing.
use Prim.Native.Nat.{ℕ, ◌+◌, ◌-◌, ◌*◌, ◌/◌, ◌≤◌, ◌<◌}
use mathlib.Core.Path.{◌≡◌, refl, sym, ap, ◌∙◌}
use mathlib.Core.Bool.{Bool, true, false, cond, ◌&&◌}
use mathlib.Core.List.{List, [], map}
use mathlib.Core.Option.{Option, none, some}
use native.Mathlib.Omega.{arith}
use lib.ListN.{length, take, drop, length-map}
use Rattle.std.specs.Prelude.{Some, None}
use Rattle.termfile.specs.Code.{Code, weigh, only, abstractions, numbered, scoped}
use Rattle.termfile.specs.Nodes.{Node, write, read}
use Rattle.termfile.specs.File.{max_free, free_names, words, pairs, known, unless, count}
use Rattle.termfile.specs.Answer.{answered, answer}
use Rattle.termfile.specs.Passes.{Framed, node_tests, tested, counts_from, counts_with}
use Rattle.termfile.proofs.Bytes.{length-tags}
use Rattle.termfile.proofs.Frame.{exact}
use Rattle.termfile.proofs.Reading.{read_is, length-write, count-write, known-write, size_counts, variables-applications}
use Rattle.termfile.proofs.Forward.{failed-passed}
use Rattle.termfile.proofs.Refusals.{framed-refusal}

-- the code of a file that passes
passed-code : (f k : ℕ) (o : Option Code) → Some k ≡ tested f o
    → (c : Code) × (o ≡ some c) × (numbered f c ≡ true) × (scoped f [] c ≡ true) × (k ≡ abstractions c)
passed-code f k none e = absurd (failed-passed (sym e))
passed-code f k (some c) e = go (numbered f c) (scoped f [] c) refl refl e
  where
    go : (a b : Bool) → numbered f c ≡ a → scoped f [] c ≡ b → Some k ≡ cond (a && b) (Some (abstractions c)) None
        → (d : Code) × (some c ≡ some d) × (numbered f d ≡ true) × (scoped f [] d ≡ true) × (k ≡ abstractions d)
    go true true p q r = (c, refl, p, q, cc)
    go true false p q r = absurd (failed-passed (sym r))
    go false b p q r = absurd (failed-passed (sym r))

-- nodes with the tags ts that pass
module _ (f : ℕ) (ts : List ℕ) (ns : List Node) (tags : map (λ n. n.tag) ns ≡ ts) (k : ℕ) (e : Some k ≡ tested f (read ns)) where
  code : (c : Code) × (read ns ≡ some c) × (numbered f c ≡ true) × (scoped f [] c ≡ true) × (k ≡ abstractions c)
  code = passed-code f k (read ns) e

  written : map (λ n. n.tag) (write code.0) ≡ ts
  written = ap (map (λ n. n.tag)) (sym (read_is ns code.0 code.1)) ∙ tags

  pub passed_none : unless (known ts) 4 (node_tests f (read ns)) ≡ none
  passed_none = rw (ap known (sym written) ∙ known-write code.0, code.1, code.2, code.3)

  counted : (t : ℕ) → count t ts ≡ weigh (only t) code.0
  counted t = sym (ap (count t) written) ∙ count-write t code.0

  -- how many nodes of each kind there are, as numbers
  variables-are : count 0 ts ≡ count 2 ts + 1
  variables-are = omega (arith, counted 0, counted 2, variables-applications code.0)

  nodes_are : length ts ≡ count 0 ts + k + count 2 ts
  nodes_are =
      omega (arith, ap length written, length-map (write code.0) (λ n. n.tag), length-write code.0, size_counts code.0, counted 0, counted 2, code.4)

  pub passed-few : k < length ts
  passed-few = omega (arith, variables-are, nodes_are)

  pub passed-counts : counts_from f (length ts) k ≡ counts_with f ts
  passed-counts = rw (abstractions-are, ← variables, applications)
    where
      abstractions-are : k ≡ count 1 ts
      abstractions-are = code.4 ∙ sym (counted 1)

      variables : count 0 ts ≡ (length ts - count 1 ts + 1) / 2
      variables = omega (arith, variables-are, nodes_are, abstractions-are)

      applications : count 0 ts - 1 ≡ count 2 ts
      applications = omega (arith, variables-are)

-- the answer for a file that has passed the tests 1 to 3, told from its parts
pub framed-answer : {s : List ℕ} {n f : ℕ} → Framed s n → f ≡ free_names s → f ≤ max_free → (t m : ℕ) → t ≡ n → m ≡ 2 * n
    → let ts = take t (drop 4 s) in
    let ms = words (take m (drop (4 + n) s)) in
    answered (unless (known ts) 4 (node_tests f (read (pairs ts ms)))) (counts_with f ts) ≡ answer s
framed-answer {s} framed names few t m p q =
    let small : free_names s ≤ max_free = omega arith in
    rw (p, q, framed.count, names, framed-refusal framed small, length-tags s (exact framed))
