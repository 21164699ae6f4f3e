use Rattle.std.proofs.Common.{true, false, [], ◌∷◌, length, sym, ap, arith}
use Rattle.binary.proofs.Ones.{length-index}
use Rattle.exporting.specs.Tokens.{token}
use Rattle.exporting.proofs.Writers.{puts_then, puts-as}
use Rattle.exporting.proofs.Nodes.{token-other}
use Rattle.exporting.proofs.putting.put_node.Goals as goal

pub put_index-requires : goal.put_index-requires
put_index-requires c =
    let e = ap (λ t. token t c.args.k) c.in-0.is in
    let p = c.requires in
    record { few = p.few; fits = omega (arith, p.fits, ap length e, length-index c.args.k) }

pub returns-in-1 : goal.returns-in-1
returns-in-1 c =
    puts-as (sym (ap (λ t. token t c.args.k) c.in-1.is)) (puts_then (false ∷ []) (false ∷ []) c.put_bit-first.ensures c.put_bit.ensures)

pub returns-in_default : goal.returns-in_default
returns-in_default c =
    let other = token-other c.args.tag c.args.k (λ e. omega arith) (λ e. omega arith) in
    puts-as (sym other) (puts_then (false ∷ []) (true ∷ []) c.put_bit-first-in_default.ensures c.put_bit-in_default.ensures)
