use Rattle.std.proofs.Common.{◌≡◌, ◌+◌, true, false, [], ◌∷◌, ◌++◌, replicate, ap, ◌∙◌, arith}
use Rattle.std.proofs.lemmas.List.{length-replicate}
use Rattle.exporting.proofs.Writers.{puts_none, puts_then, puts-as, ones-snoc, index-ones}
use Rattle.exporting.proofs.putting.put_index.Goals as goal

pub loop-init : goal.loop-init
loop-init c = puts_none _ _ c.requires.few

pub put_bit-p-requires : goal.put_bit-p-requires
put_bit-p-requires c =
    let m = c.loop.invariant.moved in
    record { few = m.few; fits = omega (arith, c.loop.auto.out, m.far, length-replicate c.loop.counter true, c.requires.fits) }

pub loop-preserved : goal.loop-preserved
loop-preserved c =
    puts-as (ones-snoc c.loop.counter) (puts_then (replicate c.loop.counter true) (true ∷ []) c.loop.invariant c.put_bit-p.ensures)

pub put_bit-requires : goal.put_bit-requires
put_bit-requires c =
    let m = c.loop.invariant.moved in
    record { few = m.few; fits = omega (arith, c.loop.auto.out, m.far, length-replicate c.loop.counter true, c.requires.fits) }

pub returns : goal.returns
returns c =
    let all : c.loop.counter ≡ c.args.k + 1 = omega arith in
    puts-as (ap (λ j. replicate j true ++ (false ∷ [])) all ∙ index-ones c.args.k)
    (puts_then (replicate c.loop.counter true) (false ∷ []) c.loop.invariant c.put_bit.ensures)
