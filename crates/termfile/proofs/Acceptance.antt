-- What it means that a file is accepted: the tests of `refusal` as facts by name, and what they say of the file's nodes.
-- Assumes nothing.
use Prim.Native.Nat.{ℕ, ◌+◌, ◌*◌, ◌≤◌}
use mathlib.Core.Path.{◌≡◌, refl, sym, ap, subst, ◌∙◌}
use mathlib.Core.Bool.{Bool, true, false, and-eq-true_iff, false≢true}
use mathlib.Core.List.{List, []}
use mathlib.Core.Option.{Option, none, some}
use native.Mathlib.Omega.{arith}
use lib.ListN.{length}
use borrow.Author.Tests.{leb-true, eqb-true}
use Rattle.termfile.specs.Code.{Code, weigh, only, size, numbered, scoped}
use Rattle.termfile.specs.Nodes.{write}
use Rattle.termfile.specs.File.{max_free, max_nodes, free_names, node_count, tags, nodes, code_of, code_from, file_code, known, holds, unless, long_enough, in_limits, exact_length, tags_known, one_term, binders_in_place, variables_in_scope, refusal, count}
use Rattle.termfile.specs.Passes.{Framed}
use Rattle.termfile.proofs.Reading.{read_is, length-write, count-write, weigh-only-le}
use Rattle.termfile.proofs.Bytes.{tags-nodes, length-nodes}
use Rattle.termfile.proofs.Refusals.{unless-none, framed-refusal}

-- what the tests say of a file that passes them all
pub record Accepted (s : List ℕ) : Type 0 where
  pub code : Code
  pub is_code : code_of s ≡ some code
  pub in_order : numbered (free_names s) code ≡ true
  pub in_scope : scoped (free_names s) [] code ≡ true
  pub long : 4 ≤ length s
  pub free_limit : free_names s ≤ max_free
  pub nodes_pos : 1 ≤ node_count s
  pub nodes_limit : node_count s ≤ max_nodes
  pub exact : length s ≡ 4 + 3 * node_count s
  pub known_tags : known (tags s) ≡ true

-- two tests of one code that hold
found : (p q : Code → Bool) (o : Option Code) → holds p o ≡ true → holds q o ≡ true → (c : Code) × (o ≡ some c) × (p c ≡ true) × (q c ≡ true)
found p q none d e = absurd (false≢true d)
found p q (some c) d e = (c, refl, d, e)

-- a file that is not refused passes them
pub accepted : (s : List ℕ) → refusal s ≡ none → Accepted s
unfolding refusal
accepted s e =
    let length-test = unless-none _ 1 _ e in
    let limits-test = unless-none _ 2 _ length-test.1 in
    let exact-test = unless-none _ 3 _ limits-test.1 in
    let tags-test = unless-none _ 4 _ exact-test.1 in
    let shape-test = unless-none (holds (λ c. true) (code_of s)) 5 _ tags-test.1 in
    let binder-test = unless-none _ 6 _ shape-test.1 in
    let variable-test = unless-none _ 7 none binder-test.1 in
    let limits = (and-eq-true_iff _ _).0 limits-test.0 in
    let range = (and-eq-true_iff _ _).0 limits.1 in
    let c = found (numbered (free_names s)) (scoped (free_names s) []) (code_of s) binder-test.0 variable-test.0 in
    record {
      code = c.0;
      is_code = c.1;
      in_order = c.2;
      in_scope = c.3;
      long = leb-true _ _ length-test.0;
      free_limit = leb-true _ _ limits.0;
      nodes_pos = leb-true _ _ range.0;
      nodes_limit = leb-true _ _ range.1;
      exact = eqb-true _ _ exact-test.0;
      known_tags = tags-test.0;
    }

module _ {s : List ℕ} (a : Accepted s) where
  -- a file that passes them is not refused
  pub accepted-back : refusal s ≡ none
  accepted-back =
      let framed : Framed s (node_count s) = record { count = refl; long = a.exact; least = a.nodes_pos; most = a.nodes_limit } in
      rw (
        framed-refusal framed a.free_limit,
        a.known_tags,
        a.is_code,
        a.in_order,
        a.in_scope,
      )

  -- the code that its nodes read as is the code of the file
  pub code_is : file_code s ≡ a.code
  code_is = ap code_from a.is_code

  -- an accepted file's nodes are the writing of its code; so they are as many, of each tag, as the code has
  pub nodes-code : nodes s ≡ write a.code
  nodes-code = read_is (nodes s) a.code a.is_code

  pub size-code : node_count s ≡ size a.code
  size-code = sym (length-nodes s a.exact) ∙ ap length nodes-code ∙ length-write a.code

  pub count_code : (k : ℕ) → count k (tags s) ≡ weigh (only k) a.code
  count_code k = rw (← tags-nodes s a.exact, nodes-code) (count-write k a.code)

  -- the counts are small
  pub count-few : (k : ℕ) → count k (tags s) ≤ 16384
  count-few k = omega (arith, count_code k, weigh-only-le k a.code, size-code, a.nodes_limit)

-- The numbers of the refusals

abbrev Within : Option ℕ → Type 0
Within none = Unit {0}
Within (some k) = (1 ≤ k) × (k ≤ 7)

unless-within : (q : Bool) (k : ℕ) (rest : Option ℕ) → (1 ≤ k) × (k ≤ 7) → Within rest → Within (unless q k rest)
unless-within true k rest h w = w
unless-within false k rest h w = h

-- a chain of seven tests
seven : (a b c d e f g : Bool) → Within (unless a 1 (unless b 2 (unless c 3 (unless d 4 (unless e 5 (unless f 6 (unless g 7 none)))))))
seven a b c d e f g =
    unless-within a 1 _ (omega arith) (unless-within b 2 _ (omega arith) (unless-within c 3 _ (omega arith)
    (unless-within d 4 _ (omega arith) (unless-within e 5 _ (omega arith) (unless-within f 6 _ (omega arith) (unless-within g 7 none (omega arith) tt))))))

pub refusal-number : (s : List ℕ) (k : ℕ) → refusal s ≡ some k → (1 ≤ k) × (k ≤ 7)
unfolding refusal
refusal-number s k e =
    subst Within e
    (seven (long_enough s) (in_limits s) (exact_length s) (tags_known s) (one_term s) (binders_in_place s) (variables_in_scope s))
