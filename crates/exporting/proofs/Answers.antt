-- What export answers: the refusal of the file, or the bits of its term.
-- Assumes nothing.
use Prim.Native.Nat.{ℕ, ◌+◌, ◌-◌}
use mathlib.Core.Path.{◌≡◌, ap, subst⁻¹, ◌∙◌}
use mathlib.Core.Bool.{true}
use mathlib.Core.List.{List, []}
use mathlib.Core.Option.{none}
use native.Mathlib.Omega.{arith}
use lib.ListN.{take, drop}
use Rattle.termfile.specs.Code.{Code, numbered, scoped}
use Rattle.termfile.specs.Meaning.{term_of}
use Rattle.termfile.specs.Nodes.{write, read}
use Rattle.termfile.specs.File.{free_names, node_count, tags, nodes, code_from, refusal, counts}
use Rattle.termfile.specs.Passes.{Framed}
use Rattle.termfile.proofs.Reading.{read-write}
use Rattle.termfile.specs.Answer.{accepted, answer}
use Rattle.termfile.proofs.Told.{file-accepted}
use Rattle.termfile.proofs.Acceptance as acceptance
use Rattle.binary.specs.Bits.{bits, pack}
use Rattle.binary.specs.Answer.{bytes, bits_unless, exported}
use Rattle.exporting.specs.Measuring.{Measurable}
use Rattle.termfile.specs.declared.Counts.{Counts}

-- an accepted file stands for a code
measurable : (s : List ℕ) (r : Counts) → refusal s ≡ none → r ≡ counts s → Measurable s r.nodes r.free
measurable s r e counted =
    let file = acceptance.accepted s e in
    let n : r.nodes ≡ node_count s = ap (λ k. k.nodes) counted in
    let f : r.free ≡ free_names s = ap (λ k. k.free) counted in
    record {
      code = file.code;
      coded =
          record {
            framed =
                record {
                  count = n;
                  long = omega (arith, file.exact);
                  least = omega (arith, file.nodes_pos);
                  most = omega (arith, file.nodes_limit);
                };
            few_free = omega (arith, file.free_limit);
            nodes_are = acceptance.nodes-code file;
            in_order = subst⁻¹ (λ k. numbered k file.code ≡ true) f file.in_order;
            in_scope = subst⁻¹ (λ k. scoped k [] file.code ≡ true) f file.in_scope;
          };
    }

-- the bits of the code that a file's nodes stand for
pub bits-exported : (s : List ℕ) (c : Code) → refusal s ≡ none → nodes s ≡ write c → exported s ≡ bytes (pack (bits 0 (term_of c)))
bits-exported s c e h =
    ap (λ o. bits_unless o s) e ∙ ap (λ o. bytes (pack (bits 0 (term_of (code_from o))))) (ap read h ∙ read-write c)

-- the tags stand behind the counts
pub tags-part : {s : List ℕ} {n : ℕ} → Framed s n → take (4 + n - 4) (drop 4 s) ≡ tags s
tags-part {s} {n} h =
    let e : 4 + n - 4 ≡ node_count s = omega (arith, h.count) in
    ap (λ k. take k (drop 4 s)) e

-- the same of a file that the check accepts
pub stands : (s : List ℕ) (r : Counts) → accepted r ≡ answer s → Measurable s r.nodes r.free
stands s r told = let w = file-accepted s r told in measurable s r w.0 w.1
