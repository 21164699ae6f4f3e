-- What an accepted file stands for: a term, and each term with few enough names and nodes has exactly one file.
-- Assumes nothing.
use Prim.Native.Nat.{ℕ, ◌≤◌}
use mathlib.Core.Path.{◌≡◌, refl, sym, ap, subst, subst₂, ◌∙◌}
use mathlib.Core.List.{List, []}
use mathlib.Core.Logic.{◌↔◌}
use mathlib.Core.Option.{none}
use Rattle.fireball.specs.Term.{Term, Whole, NamesBelow}
use Rattle.fireball.specs.Term as term
use Rattle.termfile.specs.Code.{Code, size, variables, abstractions, applications}
use Rattle.termfile.specs.Meaning.{term_of}
use Rattle.termfile.specs.Nodes.{write}
use Rattle.termfile.specs.File.{Bytes, max_free, max_nodes, free_names, code_from, file_term, refusal, counts}
use Rattle.termfile.specs.Canonical.{naming, canonical, file_of}
use Rattle.termfile.proofs.Loose.{term-whole}
use Rattle.termfile.proofs.Naming.{naming-meaning, meaning-names, term-naming, naming-numbered, naming-scoped, naming-size}
use Rattle.termfile.proofs.Bytes.{free_names-file_of, file_back}
use Rattle.termfile.proofs.Acceptance.{Accepted, accepted, accepted-back, code_is, nodes-code, size-code, count_code}
use Rattle.termfile.proofs.Writing.{file-code, file-accepted, file-bytes}

-- s is an accepted file with f free names that stands for t
pub record Stands (f : ℕ) (t : Term) (s : List ℕ) : Type 0 where
  pub bytes : Bytes s
  pub accepts : refusal s ≡ none
  pub names : free_names s ≡ f
  pub term : file_term s ≡ t

-- each accepted file stands for the term of its code
pub accepted-stands : (s : List ℕ) → Bytes s → (a : Accepted s) → Stands (free_names s) (term_of a.code) s
accepted-stands s b a = record { bytes = b; accepts = accepted-back a; names = refl; term = ap term_of (code_is a) }

module _ {f : ℕ} {t : Term} {s : List ℕ} (stands : Stands f t s) where
  abbrev file : Accepted s
  file = accepted s stands.accepts

  is-term : term_of file.code ≡ t
  is-term = sym (ap term_of (code_is file)) ∙ stands.term

  -- the term has no loose index
  pub stands-whole : Whole t
  stands-whole = subst Whole is-term (term-whole file.code)

  -- its free names are below f
  pub stands-names : NamesBelow f t
  stands-names = subst₂ NamesBelow stands.names is-term (meaning-names file.code (free_names s) [] file.in_scope)

  -- the file is the canonical writing of its term
  pub stands-canonical : file_of f (canonical f t) ≡ s
  stands-canonical =
      rw (← is-term, ← stands.names, naming-meaning file.code (free_names s) [] file.in_order, ← nodes-code file)
      (file_back s file.exact stands.bytes)

-- of two accepted files with the same f, the terms are equal exactly where the bytes are
pub stands-unique : {f : ℕ} {t u : Term} {r s : List ℕ} → Stands f t r → Stands f u s → (t ≡ u) ↔ (r ≡ s)
stands-unique {f} {t} {u} p q = (
  λ e. sym (stands-canonical p) ∙ ap (λ x. file_of f (canonical f x)) e ∙ stands-canonical q,
  λ e. sym p.term ∙ ap file_term e ∙ q.term,
)

-- a term with few enough names and nodes has a file
pub canonical-stands : (f : ℕ) (t : Term) → Whole t → NamesBelow f t → f ≤ max_free → term.size t ≤ max_nodes → Stands f t (file_of f (canonical f t))
canonical-stands f t l n h g =
    let c : Code = naming f [] t in
    let order = naming-numbered t f [] in
    let scope = naming-scoped t f f [] l n in
    let small : size c ≤ max_nodes = rw (naming-size t f []) g in
    record {
      bytes = file-bytes f c order scope h small;
      accepts = accepted-back (file-accepted f c order scope h small);
      names = free_names-file_of f (write c);
      term = ap (λ o. term_of (code_from o)) (file-code f c) ∙ term-naming t f l n;
    }

-- the counts told of an accepted file are those of its code
pub counts-code : {s : List ℕ} (a : Accepted s) → counts s ≡ record {
  free = free_names s;
  nodes = size a.code;
  abstractions = abstractions a.code;
  variables = variables a.code;
  applications = applications a.code;
}
counts-code {s} a = rw (count_code a 0, count_code a 1, count_code a 2, size-code a)
