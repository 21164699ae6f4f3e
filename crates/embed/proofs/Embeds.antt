-- What is promised of a call from another language, by what becomes of it: the number is no machine's, the report array is too short, or the
-- call is made on the number's machine.
-- Assumes nothing.
use Prim.Native.Nat.{ℕ, ◌≤◌, ◌<◌}
use mathlib.Core.Path.{◌≡◌, refl, sym, subst}
use mathlib.Core.List.{List}
use Rattle.std.specs.Prelude.{Result, Ok, Err}
use native.Mathlib.Omega.{arith}
use lib.ListN.{length}
use Rattle.termfile.specs.Output.{overlay}
use Rattle.machine.specs.declared.Machine.{Machine}
use Rattle.machine.specs.declared.UnknownMachine.{UnknownMachine}
use Rattle.machine.specs.Answer.{Given, file_given, given, answer}
use Rattle.machine.proofs.Demands.{no-definitions}
use Rattle.prelude.proofs.Empty.{empty}
use Rattle.evaluator.specs.Promise.{Memory, stores_in, Called}
use Rattle.evaluator.specs.declared.Answer.{Answer}
use Rattle.embed.specs.Embedding.{status_of, numbers_of, EmbeddedBy, on_machine, no_machine, Embedded}

pub embeds-unknown : {n : Result Machine UnknownMachine} {u : UnknownMachine} {g : Given} {budget : ℕ} {m : Memory} {r : List ℕ} → n ≡ Err u → EmbeddedBy g budget 5 m m r r n
embeds-unknown {u = u} e = subst (EmbeddedBy _ _ 5 _ _ _ _) (sym e) (no_machine u (record { status_five = refl; report_kept = refl; memory_kept = refl }))

pub embeds-short : {n : Result Machine UnknownMachine} {M : Machine} {g : Given} {budget : ℕ} {m : Memory} {r : List ℕ} → n ≡ Ok M → length r < 12
    → EmbeddedBy g budget 4 m m r r n
embeds-short {M = M} e short =
    subst (EmbeddedBy _ _ 4 _ _ _ _) (sym e)
    (on_machine M
    (record {
      short_status = λ l. refl;
      short_report = λ l. refl;
      short_memory = λ l. refl;
      called = λ l. absurd (omega (arith, l, short));
      status = λ l. absurd (omega (arith, l, short));
      numbers = λ l. absurd (omega (arith, l, short));
    }))

pub embeds-called : {n : Result Machine UnknownMachine} {M : Machine} {g : Given} {budget q : ℕ} {m m' : Memory} {r r' : List ℕ} → n ≡ Ok M → 12 ≤ length r → (a : Answer)
    → Called M g budget a m m' → q ≡ status_of (answer M g budget (stores_in m)) → r' ≡ overlay (numbers_of (answer M g budget (stores_in m))) r
    → EmbeddedBy g budget q m m' r r' n
embeds-called {M = M} e long a c status numbers =
    subst (EmbeddedBy _ _ _ _ _ _ _) (sym e)
    (on_machine M
    (record {
      short_status = λ l. absurd (omega (arith, l, long));
      short_report = λ l. absurd (omega (arith, l, long));
      short_memory = λ l. absurd (omega (arith, l, long));
      called = λ l. (a, c);
      status = λ l. status;
      numbers = λ l. numbers;
    }))

-- a call with the empty prelude is one without a prelude
pub embeds-alone : (k : ℕ) (s : List ℕ) (budget q : ℕ) (m m' : Memory) (r r' : List ℕ) → Embedded k (given empty s) budget q m m' r r'
    → Embedded k (file_given s) budget q m m' r r'
embeds-alone k s budget q m m' r r' = subst (λ g. Embedded k g budget q m m' r r') (no-definitions s)
