use Rattle.std.proofs.Common.{refl, sym, ap, subst, ◌∙◌, arith, rules}
use Rattle.std.proofs.lemmas.Result.{err_from_is_err_and}
use Rattle.std.specs.Prelude.{◌≡◌, Option, None, Result, Ok, Err}
use Rattle.std.specs.Option.{ok_or}
use Rattle.binary.specs.Answer.{number_of}
use Rattle.binary.specs.declared.Refusal.{Refusal}
use Rattle.binary.specs.declared.Refusal.TheVariants.{Ends}
use Rattle.binary.specs.Reading.{nothing, Reading, unread}
use Rattle.importing.specs.Ahead.{NodeAt}
use Rattle.importing.proofs.Turns.{turn-first, turn-cut, node-known, node-beyond, index-beyond, turn-ready, turn-abstraction, turn-application, variable-last, variable-part, part-closable, turn-part}
use Rattle.importing.proofs.scanning.scan.Goals as goal

refused : {T : Type 0} → Result T Refusal → Reading
refused (Ok x) = unread 0
refused (Err why) = unread (number_of why)

-- where there is no node, it is refused as `Ends`
cut-is : {T : Type 0} {o : Option T} {why : Refusal} {r : Reading} → o ≡ None → Err why ≡ ok_or o Ends → r ≡ unread 14 → r ≡ unread (number_of why)
unfolding refused
cut-is none e cut = cut ∙ sym (ap refused (e ∙ ap (λ o. ok_or o Ends) none))

pub loop-spot-init : goal.loop-spot-init
loop-spot-init g c = turn-first c.args.f c.args.bits.now c.start-c.result _ c.requires.few_free (c.start-c.ensures _)

pub returns-in_err-node : goal.returns-in_err-node
returns-in_err-node g c =
    let p = err_from_is_err_and c.from_residual.result c.from_residual.ensures.1 in
    let e = c.in_err-node.ensures in
    rw (p.1, p.2) (cut-is e.ok_part e.value (turn-cut c.loop-spot.invariant (subst (NodeAt nothing 2 _ _) e.ok_part c.read_node.ensures)))

pub put_abstraction-spot-requires : goal.put_abstraction-spot-requires
put_abstraction-spot-requires g c =
    let t = c.loop-spot.invariant in
    let w = node-known t c.read_node.ensures c.in_ok-node.ensures.ok_part refl in
    let z = turn-ready t c.in_ok-node.next (omega arith) w.shorter c.requires.roomy in (search rules, z)

pub put_application-spot-requires : goal.put_application-spot-requires
put_application-spot-requires g c =
    let t = c.loop-spot.invariant in
    let w = node-known t c.read_node.ensures c.in_ok-node.ensures.ok_part refl in
    let z = turn-ready t c.in_ok-node.next (omega arith) w.shorter c.requires.roomy in (search rules, z)

pub overflow_add-spot : goal.overflow_add-spot
overflow_add-spot g c =
    let t = c.loop-spot.invariant in
    let w = node-known t c.read_node.ensures c.in_ok-node.ensures.ok_part refl in
    let ready = turn-ready t c.in_ok-node.next (omega arith) w.shorter c.requires.roomy in
    omega (arith, ready.few_deep, ready.few_nodes, t.few_free)

pub returns-then-k-spot : goal.returns-then-k-spot
returns-then-k-spot g c =
    let t = c.loop-spot.invariant in
    let w = node-known t c.read_node.ensures c.in_ok-node.ensures.ok_part c.in-Variable.is in
    index-beyond t (omega arith) w

pub put_variable-spot-requires : goal.put_variable-spot-requires
put_variable-spot-requires g c =
    let t = c.loop-spot.invariant in
    let w = node-known t c.read_node.ensures c.in_ok-node.ensures.ok_part refl in
    let z = turn-ready t c.in_ok-node.next (omega arith) w.shorter c.requires.roomy in
    (search rules, (z, omega (arith, t.few_free, c.if-k-spot.false)))

pub returns-then-spot-eq0 : goal.returns-then-spot-eq0
returns-then-spot-eq0 g c =
    let t = c.loop-spot.invariant in
    let w = node-known t c.read_node.ensures c.in_ok-node.ensures.ok_part c.in-Variable.is in
    let put = c.put_variable-spot.ensures.put _ t.place t.holds in
    let ready = turn-ready t c.in_ok-node.next (omega arith) w.shorter c.requires.roomy in
    variable-last t c.loop-spot-test.true c.if-k-spot.false w put c.if-spot-eq0.true ready.fits

pub close_left-spot-requires : goal.close_left-spot-requires
close_left-spot-requires g c =
    let t = c.loop-spot.invariant in
    let w = node-known t c.read_node.ensures c.in_ok-node.ensures.ok_part c.in-Variable.is in
    let less = c.loop-spot-test.true in
    let put = c.put_variable-spot.ensures.put _ t.place t.holds in
    let ready = turn-ready t c.in_ok-node.next less w.shorter c.requires.roomy in
    let z = part-closable t less c.if-k-spot.false w put (variable-part t less c.if-k-spot.false w put c.if-spot-eq0.false) ready.fits in (search rules, z)

pub loop-spot-preserved-in-Abstraction : goal.loop-spot-preserved-in-Abstraction
loop-spot-preserved-in-Abstraction g c =
    let t = c.loop-spot.invariant in
    let w = node-known t c.read_node.ensures c.in_ok-node.ensures.ok_part c.in-Abstraction.is in
    turn-abstraction t c.loop-spot-test.true w (c.put_abstraction-spot.ensures.put _ t.place t.holds)

pub loop-spot-preserved-in-Application : goal.loop-spot-preserved-in-Application
loop-spot-preserved-in-Application g c =
    let t = c.loop-spot.invariant in
    let w = node-known t c.read_node.ensures c.in_ok-node.ensures.ok_part c.in-Application.is in
    turn-application t c.loop-spot-test.true w (c.put_application-spot.ensures.put _ t.place t.holds)

pub loop-spot-preserved : goal.loop-spot-preserved
loop-spot-preserved g c =
    let t = c.loop-spot.invariant in
    let w = node-known t c.read_node.ensures c.in_ok-node.ensures.ok_part c.in-Variable.is in
    let less = c.loop-spot-test.true in
    let near = c.if-k-spot.false in
    let put = c.put_variable-spot.ensures.put _ t.place t.holds in
    let o = variable-part t less near w put c.if-spot-eq0.false in
    turn-part t less near w put o (c.close_left-spot.ensures.closed _ t.place o.next _ o.ends put)

-- a node beyond the last
pub returns-in_err-ok_or : goal.returns-in_err-ok_or
returns-in_err-ok_or g c =
    let p = err_from_is_err_and c.from_residual-in_err-ok_or.result c.from_residual-in_err-ok_or.ensures.1 in
    let e = c.in_err-ok_or.ensures in
    rw (p.1, p.2) (cut-is e.ok_part e.value (turn-cut c.loop-spot.invariant (subst (NodeAt nothing 2 _ _) e.ok_part c.read_node-2.ensures)))

pub returns : goal.returns
returns g c =
    let r = c.in_ok-ok_or in
    node-beyond c.loop-spot.invariant r.field-0.0 r.field-0.1 (omega arith) (subst (NodeAt nothing 2 _ _) r.ensures.ok_part c.read_node-2.ensures)
