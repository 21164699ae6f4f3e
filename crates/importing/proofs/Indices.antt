-- What reading comes to behind the first one of an index.
-- Assumes nothing.
use Prim.Native.Nat.{ℕ, ◌+◌, ◌≤◌}
use mathlib.Core.Path.{◌≡◌, sym, ap, ◌∙◌}
use mathlib.Core.Bool.{Bool, true, false}
use mathlib.Core.List.{List, ◌∷◌, ◌++◌}
use native.Mathlib.Nat.{le_trans}
use native.Mathlib.Omega.{arith}
use lib.ListN.{length, replicate, length-append, length-replicate}
use Rattle.binary.specs.Reading.{Place, ones, reading}
use Rattle.binary.proofs.Ones.{ones-end, ones-read, index-over}
use Rattle.importing.specs.Ahead.{ahead, Run, far_index, NodeAt}
use Rattle.importing.specs.declared.cursor.Cursor.{Cursor}
use Rattle.std.specs.Prelude.{Some, None}
use Rattle.importing.specs.declared.node.Node.TheVariants.{Variable}

length-ones : {bs : List Bool} (cs : List Bool) (k : ℕ) → bs ≡ replicate k true ++ (false ∷ cs) → length cs + (k + 1) ≡ length bs
length-ones cs k e = omega (arith, ap length e, length-append (replicate k true) (false ∷ cs), length-replicate k true)

-- What follows on the first one of an index

pub index-cut : {s : List ℕ} {c : Cursor} → Run s c None → NodeAt (ones 0) 1 s c None
index-cut (k, e) =
    record { goes_on = λ f p n h. ap (reading f (ones 0) p n) e ∙ ones-end f p n k 0; shorter = tt }

module _ (s : List ℕ) (c d : Cursor) (w : Run s c (Some d)) where
  length-shorter : length (ahead s d) + 1 ≤ length (ahead s c)
  length-shorter = omega (arith, length-ones (ahead s d) w.0 w.1)

  read-index : (f : ℕ) (p : Place) (n : ℕ) → reading f (ones 0) p n (ahead s c) ≡ reading f (ones w.0) p n (false ∷ ahead s d)
  read-index f p n = ap (reading f (ones 0) p n) w.1 ∙ ones-read f p n w.0 (false ∷ ahead s d)

  pub index-near : (k : ℕ) → w.0 ≡ k → NodeAt (ones 0) 1 s c (Some (Variable k, d))
  index-near k e =
      record { goes_on = λ f p n h. read-index f p n ∙ ap (λ j. reading f (ones j) p n (false ∷ ahead s d)) e; shorter = length-shorter }

  pub index-far : (k : ℕ) → far_index ≤ w.0 → far_index ≤ k → NodeAt (ones 0) 1 s c (Some (Variable k, d))
  index-far k h j =
      record {
        goes_on =
            λ f p n l.
            read-index f p n ∙ index-over f p n w.0 (ahead s d) (le_trans l h)
            ∙ sym (index-over f p n k (ahead s d) (le_trans l j));
        shorter = length-shorter;
      }
