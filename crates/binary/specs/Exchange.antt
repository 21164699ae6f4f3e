-- What partners who exchange terms as bits may rely on. proofs/Exchange.antt proves it.
-- Letters: s and r are the bytes of bits or of a file, f is the count of free names, t a term.
use Rattle.std.specs.Prelude.{ℕ, ◌≤◌, ◌≡◌, List, ◌↔◌}
use Rattle.std.proofs.Math.Option.{none}
use Rattle.fireball.specs.Term.{Term, Whole, NamesBelow, size}
use Rattle.termfile.specs.File.{Bytes, max_free, max_nodes, free_names, file_term, refusal}
use Rattle.binary.specs.Bits.{bits, pack}
use Rattle.binary.specs.Answer.{bytes, imported, exported}

-- s is the packing of t's bits, and t is a term that a file with f free names can have
pub record Packs (f : ℕ) (t : Term) (s : List ℕ) : Type 0 where
  pub packed : s ≡ pack (bits 0 t)
  pub closed : Whole t
  pub names : NamesBelow f t
  pub nodes : size t ≤ max_nodes
  pub free : f ≤ max_free

-- bits that are imported with f
abbrev pub Imports : ℕ → List ℕ → Type 0
Imports f s = (r : List ℕ) × (imported f s ≡ bytes r)

pub record Exchange : Type 0 where
  -- 02, request 1: "Exporting an accepted term and importing it with the same f returns its file bytes"
  pub file_back : (s r : List ℕ) → Bytes s → exported s ≡ bytes r → imported (free_names s) r ≡ bytes s
  -- "and the reverse holds for accepted bits"
  pub bits_back : (f : ℕ) (s r : List ℕ) → Bytes s → imported f s ≡ bytes r → exported r ≡ bytes s
  -- the file that import writes has the f that the caller stated, so that the two may follow each other
  pub names_kept : (f : ℕ) (s r : List ℕ) → Bytes s → imported f s ≡ bytes r → free_names r ≡ f
  -- bits are accepted exactly when they are those of a term, packed
  pub accepts : (f : ℕ) (s : List ℕ) → Bytes s → Imports f s ↔ ((t : Term) × Packs f t s)
  -- and so two accepted files with one f have the same bits exactly when they stand for the same term
  pub same_bits : (s r : List ℕ) → Bytes s → Bytes r → refusal s ≡ none → refusal r ≡ none → free_names s ≡ free_names r
      → (exported s ≡ exported r) ↔ (file_term s ≡ file_term r)
