-- Bits and files exchanged. Packed bits of a term are read back as the term, and bits that are read are the packed bits of what is read; the
-- file of a term is what import writes, and an accepted file is the file of its term. So export and import undo each other.
-- Assumes nothing.
use Prim.Native.Nat.{ℕ, ◌≤◌}
use mathlib.Core.Path.{◌≡◌, refl, sym, ap, ◌∙◌}
use mathlib.Core.Bool.{Bool, true, false, cond}
use mathlib.Core.List.{List, []}
use mathlib.Core.Logic.{◌↔◌}
use mathlib.Core.Option.{Option, none, some}
use native.Mathlib.Omega.{arith}
use lib.Dec.{leb}
use borrow.Author.Tests.{le-leb, leb-true}
use Rattle.fireball.specs.Term.{Term, size}
use Rattle.termfile.specs.File.{Bytes, max_free, free_names, node_count, file_term, refusal}
use Rattle.termfile.specs.Canonical.{naming, canonical, file_of}
use Rattle.termfile.proofs.Reading.{length-write}
use Rattle.termfile.proofs.Naming.{naming-size}
use Rattle.termfile.proofs.Bytes.{free_names-file_of, node_count-file_of}
use Rattle.termfile.proofs.Acceptance.{accepted}
use Rattle.termfile.proofs.Theorems.{Stands, stands-whole, stands-names, stands-canonical, stands-unique, canonical-stands}
use Rattle.binary.specs.Bits.{bits_in, bits, pack}
use Rattle.binary.specs.Reading.{Reading, unread, read, reading, whole, nothing}
use Rattle.binary.specs.Answer.{Wanted, number, bytes, padding, file_from, imported, bits_unless, exported}
use Rattle.binary.specs.Exchange.{Packs, Exchange}
use Rattle.binary.proofs.Packing.{spare, pack-bits, spare-padding, pack-unique}
use Rattle.binary.proofs.ReadBack.{reading-whole}
use Rattle.binary.proofs.Written.{reading-is}

-- Results

number-bytes : {k : ℕ} {s : List ℕ} → number k ≡ bytes s → ⊥
number-bytes e = let z : ◌≡◌ {A = ℕ} 0 1 = cc in omega arith

bytes-injective : {s r : List ℕ} → bytes s ≡ bytes r → s ≡ r
bytes-injective e = cc

-- where bytes are given, a test is passed
test-passed : (q : Bool) (o : Wanted) (k : ℕ) (r : List ℕ) → cond q o (number k) ≡ bytes r → (q ≡ true) × (o ≡ bytes r)
test-passed true o k r e = (refl, e)
test-passed false o k r e = absurd (number-bytes e)

-- Import

packs-imported : {f : ℕ} {t : Term} {s : List ℕ} → Packs f t s → imported f s ≡ bytes (file_of f (canonical f t))
packs-imported {f} {t} p =
    rw (le-leb f max_free p.free, p.packed, pack-bits (bits 0 t), reading-whole f t (spare (bits 0 t)) p.closed p.names p.nodes)
    (rw (spare-padding (bits 0 t)))

-- a reading that gives the file r: a term was read, with padding behind it
record Gives (f : ℕ) (o : Reading) (r : List ℕ) : Type 0 where
  term : Term
  rest : List Bool
  is_read : o ≡ read term rest
  padded : padding rest ≡ true
  file : r ≡ file_of f (canonical f term)

file_from-gives : (f : ℕ) (o : Reading) (r : List ℕ) → file_from f o ≡ bytes r → Gives f o r
file_from-gives f (unread k) r e = absurd (number-bytes e)
file_from-gives f (read t bs) r e =
    let test = test-passed (padding bs) _ 15 r e in
    record { term = t; rest = bs; is_read = refl; padded = test.0; file = bytes-injective (sym test.1) }

gives-packs : {f : ℕ} {r : List ℕ} (s : List ℕ) → Bytes s → f ≤ max_free → (g : Gives f (reading f nothing whole 0 (bits_in s)) r) → Packs f g.term s
gives-packs {f} s b h g =
    let is = reading-is f g.term g.rest (bits_in s) g.is_read in
    record {
      packed = sym (pack-unique s (bits 0 g.term) g.rest b is.spelled g.padded);
      closed = is.closed;
      names = is.names;
      nodes = is.nodes;
      free = h;
    }

imported-packs : (f : ℕ) (s r : List ℕ) → Bytes s → imported f s ≡ bytes r → (t : Term) × Packs f t s × (r ≡ file_of f (canonical f t))
imported-packs f s r b e =
    let test = test-passed (leb f max_free) _ 2 r e in
    let g = file_from-gives f (reading f nothing whole 0 (bits_in s)) r test.1 in
    (g.term, gives-packs s b (leb-true f max_free test.0) g, g.file)

-- Export

stands-exported : {f : ℕ} {t : Term} {s : List ℕ} → Stands f t s → exported s ≡ bytes (pack (bits 0 t))
stands-exported p = rw (p.accepts, p.term)

exported-stands : (s r : List ℕ) → Bytes s → exported s ≡ bytes r → Stands (free_names s) (file_term s) s
exported-stands s r b e = go (refusal s) refl e
  where
    go : (o : Option ℕ) → refusal s ≡ o → bits_unless o s ≡ bytes r → Stands (free_names s) (file_term s) s
    go none h g = record { bytes = b; accepts = h; names = refl; term = refl }
    go (some k) h g = absurd (number-bytes g)

-- a file has a node for each of its term's
stands-size : {f : ℕ} {t : Term} {s : List ℕ} → Stands f t s → node_count s ≡ size t
stands-size {f} {t} p =
    ap node_count (sym (stands-canonical p)) ∙ node_count-file_of f (canonical f t) ∙ length-write (naming f [] t) ∙ naming-size t f []

stands-packs : {f : ℕ} {t : Term} {s : List ℕ} → Stands f t s → Packs f t (pack (bits 0 t))
stands-packs {s = s} p =
    let file = accepted s p.accepts in
    record {
      packed = refl;
      closed = stands-whole p;
      names = stands-names p;
      nodes = rw (stands-size p) at file.nodes_limit;
      free = rw p.names at file.free_limit;
    }

packs-stands : {f : ℕ} {t : Term} {s : List ℕ} → Packs f t s → Stands f t (file_of f (canonical f t))
packs-stands {f} {t} p = canonical-stands f t p.closed p.names p.free p.nodes

-- The one after the other

stands-back : {f : ℕ} {t : Term} {s : List ℕ} → Stands f t s → imported f (pack (bits 0 t)) ≡ bytes s
stands-back p = packs-imported (stands-packs p) ∙ ap bytes (stands-canonical p)

packs-back : {f : ℕ} {t : Term} {s : List ℕ} → Packs f t s → exported (file_of f (canonical f t)) ≡ bytes s
packs-back p = stands-exported (packs-stands p) ∙ ap bytes (sym p.packed)

stands-same-bits : {f : ℕ} {t u : Term} {s r : List ℕ} → Stands f t s → Stands f u r → (exported s ≡ exported r) ↔ (t ≡ u)
stands-same-bits {f} {t} {u} p q = (
  λ e.
      let packed : pack (bits 0 t) ≡ pack (bits 0 u) = bytes-injective (sym (stands-exported p) ∙ e ∙ stands-exported q) in
      (stands-unique p q).1 (bytes-injective (sym (stands-back p) ∙ ap (imported f) packed ∙ stands-back q)),
  λ e. stands-exported p ∙ ap (λ v. bytes (pack (bits 0 v))) e ∙ sym (stands-exported q),
)

pub exchange : Exchange
exchange =
    record {
      file_back = λ s r b e.
          let p = exported-stands s r b e in
          rw (bytes-injective (sym e ∙ stands-exported p)) (stands-back p);
      bits_back = λ f s r b e.
          let p = imported-packs f s r b e in
          rw p.2 (packs-back p.1);
      names_kept = λ f s r b e.
          let p = imported-packs f s r b e in
          ap free_names p.2 ∙ free_names-file_of f (canonical f p.0);
      accepts = λ f s b. (
        λ i. let p = imported-packs f s i.0 b i.1 in (p.0, p.1),
        λ p. (file_of f (canonical f p.0), packs-imported p.1),
      );
      same_bits = λ s r b c h g e. stands-same-bits
          (record { bytes = b; accepts = h; names = refl; term = refl })
          (record { bytes = c; accepts = g; names = sym e; term = refl });
    }
