-- Each turn stores the last digit of `rest`; at the end one digit is left.
use Rattle.std.proofs.Common.{◌≡◌, ◌-◌, ◌++◌, ◌<◌, length, drop, arith, ap, sym, ◌∙◌, append-nil, drop_of_length-le}
use Rattle.rendering.specs.Decimal.{decimal, digit}
use Rattle.rendering.proofs.Decimal.{decimal-below, decimal-length-below, decimal-length-above, decimal-nonempty, decimal-many, decimal-one}
use Rattle.rendering.proofs.Putting.{digit-stored, set-first}
use Rattle.rendering.proofs.digits.fill_decimal.Goals as goal

pub loop-i-init : goal.loop-i-init
loop-i-init c =
    record {
      to_store = sym c.requires;
      number = ap (λ ds. decimal c.args.n ++ ds) (drop_of_length-le c.args.out.now (omega arith)) ∙ append-nil (decimal c.args.n);
    }

pub loop-i-preserved : goal.loop-i-preserved
loop-i-preserved c =
    let loop = c.loop-i in
    let many = decimal-many loop.rest (omega (arith, loop.invariant.to_store)) in
    record {
      to_store = omega (arith, decimal-length-above loop.rest many, loop.invariant.to_store);
      number =
          digit-stored loop.out loop.rest (loop.i - 1) many (omega arith)
          ∙ ap (λ k. decimal loop.rest ++ drop k loop.out) (omega arith) ∙ loop.invariant.number;
    }

pub overflow_cast-out-2 : goal.overflow_cast-out-2
overflow_cast-out-2 c = omega (arith, decimal-one c.loop-i.rest (omega (arith, c.loop-i.invariant.to_store)))

pub overflow_add-out-2 : goal.overflow_add-out-2
overflow_add-out-2 c = omega (arith, decimal-one c.loop-i.rest (omega (arith, c.loop-i.invariant.to_store)))

pub bounds-out-0 : goal.bounds-out-0
bounds-out-0 c = omega (arith, decimal-nonempty c.args.n, c.requires)

pub returns : goal.returns
returns c =
    let loop = c.loop-i in
    let one = decimal-one loop.rest (omega (arith, loop.invariant.to_store)) in
    let some : 0 < length loop.out = omega (arith, decimal-nonempty c.args.n, c.requires) in
    let last : 1 ≡ loop.i = omega (arith, loop.invariant.to_store, decimal-length-below loop.rest one) in
    set-first loop.out (digit loop.rest) some
    ∙ ap (λ ds. ds ++ drop 1 loop.out) (sym (decimal-below loop.rest one))
    ∙ ap (λ k. decimal loop.rest ++ drop k loop.out) last ∙ loop.invariant.number
