-- The pass over the definitions that adds up their counts. The idea: the first refusal is that of the definitions to come, and each sum is
-- what has been added up and the sum over these. Letters: all are the definitions, left are those to come, m are the sums so far.
-- Assumes nothing.
use Prim.Native.Nat.{ℕ, ◌+◌, ◌*◌, ◌≤◌, ◌<◌}
use mathlib.Core.Path.{◌≡◌, refl, ap}
use mathlib.Core.List.{List, ◌∷◌}
use native.Mathlib.Omega.{arith}
use lib.ListN.{length}
use Rattle.termfile.specs.File.{node_count, tags, count}
use Rattle.termfile.specs.Answer as termfile
use Rattle.termfile.specs.declared.Counts.{Counts}
use Rattle.termfile.proofs.Told.{file-accepted}
use Rattle.termfile.proofs.Acceptance.{accepted, count-few}
use Rattle.prelude.specs.Prelude.{each_refusal, total}
use Rattle.prelude.specs.declared.Sums.{Sums}

-- the sum over all definitions but those to come has been added up, of so many definitions
pub record Added (w : List ℕ → ℕ) (all left : List (List ℕ)) (many sum : ℕ) : Type 0 where
  pub whole : total w all ≡ sum + total w left
  pub few : sum ≤ 16384 * many

none_added : (w : List ℕ → ℕ) (all : List (List ℕ)) → Added w all all 0 0
none_added w all = record { whole = omega arith; few = omega arith }

add : {w : List ℕ → ℕ} {all left later : List (List ℕ)} {s : List ℕ} {many sum : ℕ} → Added w all left many sum → left ≡ s ∷ later
    → (n : ℕ) → n ≡ w s → w s ≤ 16384 → Added w all later (many + 1) (sum + n)
add {w} added split n e h = record { whole = omega (arith, added.whole, ap (total w) split); few = omega (arith, added.few) }

-- no definition but those to come is refused, and their counts have been added up
pub record Adds (all left : List (List ℕ)) (m : Sums) : Type 0 where
  pub same : each_refusal all ≡ each_refusal left
  pub many : length all ≡ m.definitions + length left
  pub few : length all < 65536
  pub nodes : Added node_count all left m.definitions m.nodes
  pub abstractions : Added (λ s. count 1 (tags s)) all left m.definitions m.abstractions
  pub variables : Added (λ s. count 0 (tags s)) all left m.definitions m.variables
  pub applications : Added (λ s. count 2 (tags s)) all left m.definitions m.applications

pub adds_begin : (all : List (List ℕ)) → length all < 65536
    → Adds all all (record { definitions = 0; nodes = 0; abstractions = 0; variables = 0; applications = 0 })
adds_begin all h =
    record {
      same = refl;
      many = omega arith;
      few = h;
      nodes = none_added _ all;
      abstractions = none_added _ all;
      variables = none_added _ all;
      applications = none_added _ all;
    }

module _ {all left later : List (List ℕ)} {m : Sums} (adds : Adds all left m) {s : List ℕ} (split : left ≡ s ∷ later) where
  -- a definition that is accepted is added
  pub adds_more : (n : Counts) → termfile.accepted n ≡ termfile.answer s
      → Adds all later
      (record {
        definitions = m.definitions + 1;
        nodes = m.nodes + n.nodes;
        abstractions = m.abstractions + n.abstractions;
        variables = m.variables + n.variables;
        applications = m.applications + n.applications;
      })
  adds_more n e =
      let answer = file-accepted s n e in
      let file = accepted s answer.0 in
      let counted = answer.1 in
      record {
        same = rw (adds.same, split, answer.0);
        many = omega (arith, adds.many, ap length split);
        few = adds.few;
        nodes = add adds.nodes split n.nodes (ap (λ q. q.nodes) counted) file.nodes_limit;
        abstractions = add adds.abstractions split n.abstractions (ap (λ q. q.abstractions) counted) (count-few file 1);
        variables = add adds.variables split n.variables (ap (λ q. q.variables) counted) (count-few file 0);
        applications = add adds.applications split n.applications (ap (λ q. q.applications) counted) (count-few file 2);
      }
