use Rattle.std.proofs.Common.{◌≡◌, length, length-set, refl, rules, arith}
use Rattle.exporting.proofs.Items.{index-few}
use Rattle.exporting.proofs.Walks.{walks-first, walks-as, measured}
use Rattle.exporting.proofs.Turns.{variable-here, abstraction-here, application-here}
use Rattle.exporting.proofs.measuring.measure.Goals as goal
use Rattle.exporting.proofs.measuring.measure.Goals.{in-0, in-1, in_default}

pub loop-i-init : goal.loop-i-init
loop-i-init g c =
    let indices : length c.args.scratch.now.indices ≡ g.row.N = search rules in
    let levels : length c.args.scratch.now.levels ≡ g.row.N = search rules in
    let depths : length c.args.scratch.now.depths ≡ g.row.N = search rules in
    record {
      long-indices = omega (arith, c.requires.room);
      long-levels = omega (arith, c.requires.room);
      long-depths = omega (arith, c.requires.room);
      walks = λ d h. walks-first _ _ _ d _ _ _ h;
    }

pub index_of-k-requires : goal.index_of-k-requires
index_of-k-requires g c =
    let pre = c.requires.measurable in
    let inv = c.loop-i.invariant in
    let v = variable-here pre.coded c.loop-i-test.true (inv.walks pre.code pre.coded) c.in-0.is c.argument_at-name.ensures inv.long-indices inv.long-levels in
    v.in_range

pub overflow_cast-scratch : goal.overflow_cast-scratch
overflow_cast-scratch g c =
    let pre = c.requires.measurable in
    let inv = c.loop-i.invariant in
    let v = variable-here pre.coded c.loop-i-test.true (inv.walks pre.code pre.coded) c.in-0.is c.argument_at-name.ensures inv.long-indices inv.long-levels in
    omega (arith, c.index_of-k.ensures, index-few _ _ _ _ v.in_range)

pub pass_variable-walk-requires : goal.pass_variable-walk-requires
pass_variable-walk-requires g c =
    let pre = c.requires.measurable in
    let inv = c.loop-i.invariant in
    let v = variable-here pre.coded c.loop-i-test.true (inv.walks pre.code pre.coded) c.in-0.is c.argument_at-name.ensures inv.long-indices inv.long-levels in
    record {
      pending_in_bounds = omega (arith, v.pending_few, inv.long-depths);
      few_bits = omega (arith, v.total_few, c.index_of-k.ensures, index-few _ _ _ _ v.in_range, pre.coded.framed.most);
    }

pub overflow_sub-name : goal.overflow_sub-name
overflow_sub-name g c =
    let pre = c.requires.measurable in
    let inv = c.loop-i.invariant in
    let v = abstraction-here pre.coded c.loop-i-test.true (inv.walks pre.code pre.coded) c.in-1.is c.argument_at-name-in-1.ensures inv.long-indices inv.long-levels in
    v.bound_from

pub pass_abstraction-walk-requires : goal.pass_abstraction-walk-requires
pass_abstraction-walk-requires g c =
    let pre = c.requires.measurable in
    let inv = c.loop-i.invariant in
    let v = abstraction-here pre.coded c.loop-i-test.true (inv.walks pre.code pre.coded) c.in-1.is c.argument_at-name-in-1.ensures inv.long-indices inv.long-levels in
    record { number_in_bounds = v.number_fits; small = v.small }

pub pass_application-walk-requires : goal.pass_application-walk-requires
pass_application-walk-requires g c =
    let pre = c.requires.measurable in
    let inv = c.loop-i.invariant in
    let v = application-here pre.coded c.loop-i-test.true (inv.walks pre.code pre.coded) (λ e. omega arith) (λ e. omega arith) inv.long-indices inv.long-depths in
    record { pending_in_bounds = v.stack_fits; small = v.small }

pub loop-i-preserved : goal.loop-i-preserved
loop-i-preserved g c =
    let inv = c.loop-i.invariant in
    let less = c.loop-i-test.true in
    elim c.match-tag.branch [
      | in-0 w ↦
          rw (w.scratch-is, w.walk-is)
          (record {
            long-indices = simp length-set inv.long-indices;
            long-levels = inv.long-levels;
            long-depths = inv.long-depths;
            walks =
                λ d h.
                walks-as refl refl w.pass_variable-walk.ensures
                ((variable-here h less (inv.walks d h) w.in-0.is w.argument_at-name.ensures inv.long-indices inv.long-levels).again _ w.index_of-k.ensures);
          })
      | in-1 w ↦
          let r = w.pass_abstraction-walk in
          rw (w.scratch-is, w.walk-is)
          (record {
            long-indices = inv.long-indices;
            long-levels = omega (arith, r.auto.levels, inv.long-levels);
            long-depths = inv.long-depths;
            walks =
                λ d h.
                walks-as r.ensures.kept refl r.ensures.onward
                (abstraction-here h less (inv.walks d h) w.in-1.is w.argument_at-name-in-1.ensures inv.long-indices inv.long-levels).again;
          })
      | in_default w ↦
          let r = w.pass_application-walk in
          rw (w.scratch-is, w.walk-is)
          (record {
            long-indices = inv.long-indices;
            long-levels = inv.long-levels;
            long-depths = omega (arith, r.auto.depths, inv.long-depths);
            walks =
                λ d h.
                walks-as refl r.ensures.kept r.ensures.onward
                (application-here h less (inv.walks d h) (λ e. omega arith) (λ e. omega arith) inv.long-indices inv.long-depths).again;
          })
    ]

pub returns : goal.returns
returns g c = λ d h. measured c.requires.measurable.coded.framed _ _ _ _ _ d c.loop-i.i (omega arith) (c.loop-i.invariant.walks d h)
