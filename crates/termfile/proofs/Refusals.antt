-- The seven tests of `refusal`, one after the other: a lemma for each of the first three answers, what the tests say as facts about
-- numbers, and what is left of the chain where the first three have passed. The idea: each test that is known takes one `unless` off it.
-- Assumes nothing.
use Prim.Native.Nat.{ℕ, ◌+◌, ◌*◌, ◌≤◌, ◌<◌}
use mathlib.Core.Path.{◌≡◌, refl}
use mathlib.Core.Bool.{Bool, true, false, ◌&&◌}
use mathlib.Core.List.{List}
use mathlib.Core.Option.{Option, none, some, some-ne-none}
use native.Mathlib.Omega.{arith}
use lib.Dec.{leb}
use lib.ListN.{length}
use borrow.Author.Tests.{leb-true, le-leb, lt-leb, eq-eqb, ne_eqb}
use Rattle.termfile.specs.File.{max_free, max_nodes, free_names, node_count, code_of, unless, long_enough, in_limits, exact_length, tags_known, refusal}
use Rattle.termfile.specs.Passes.{Framed, node_tests}

-- a test that does not refuse holds, and nor does a later one refuse
pub unless-none : (q : Bool) (k : ℕ) (rest : Option ℕ) → unless q k rest ≡ none → (q ≡ true) × (rest ≡ none)
unless-none true k rest e = (refl, e)
unless-none false k rest e = absurd (some-ne-none k e)

module _ (s : List ℕ) where
  pub refused-short : long_enough s ≡ false → refusal s ≡ some 1
  unfolding refusal
  refused-short h = rw h

  module _ (a : long_enough s ≡ true) where
    pub refused-limits : in_limits s ≡ false → refusal s ≡ some 2
    unfolding refusal
    refused-limits h = rw (a, h)

    module _ (b : in_limits s ≡ true) where
      pub refused-length : exact_length s ≡ false → refusal s ≡ some 3
      unfolding refusal
      refused-length h = rw (a, b, h)

  -- The tests as facts about numbers

  pub long-enough : 4 ≤ length s → long_enough s ≡ true
  long-enough h = le-leb 4 (length s) h

  pub not-long-enough : length s < 4 → long_enough s ≡ false
  not-long-enough h = lt-leb 4 (length s) h

  pub in-limits : free_names s ≤ max_free → 1 ≤ node_count s → node_count s ≤ max_nodes → in_limits s ≡ true
  in-limits few least most =
      rw (le-leb (free_names s) max_free few, le-leb 1 (node_count s) least, le-leb (node_count s) max_nodes most)

  pub not-in-limits : (free_names s ≤ max_free → 1 ≤ node_count s → node_count s ≤ max_nodes → ⊥) → in_limits s ≡ false
  not-in-limits h =
      go (leb (free_names s) max_free) (leb 1 (node_count s)) (leb (node_count s) max_nodes) (leb-true _ _) (leb-true _ _) (leb-true _ _)
    where
      go : (a b c : Bool) → (a ≡ true → free_names s ≤ max_free) → (b ≡ true → 1 ≤ node_count s) → (c ≡ true → node_count s ≤ max_nodes)
          → a && (b && c) ≡ false
      go true true true p q r = absurd (h (p refl) (q refl) (r refl))
      go true true false p q r = refl
      go true false c p q r = refl
      go false b c p q r = refl

  pub exact-length : length s ≡ 4 + 3 * node_count s → exact_length s ≡ true
  exact-length h = eq-eqb (length s) (4 + 3 * node_count s) h

  pub not-exact-length : (length s ≡ 4 + 3 * node_count s → ⊥) → exact_length s ≡ false
  not-exact-length h = ne_eqb (length s) (4 + 3 * node_count s) h

-- what is left of the tests for a file that has passed the tests 1 to 3
pub framed-refusal : {s : List ℕ} {n : ℕ} → Framed s n → free_names s ≤ max_free
    → refusal s ≡ unless (tags_known s) 4 (node_tests (free_names s) (code_of s))
unfolding refusal
framed-refusal {s} framed few =
    rw (
      long-enough s (omega (arith, framed.long)),
      in-limits s few (omega (arith, framed.count, framed.least)) (omega (arith, framed.count, framed.most)),
      exact-length s (omega (arith, framed.count, framed.long)),
    )
