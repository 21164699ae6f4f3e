-- The first tag of a definition that is accepted tells whether it is an abstraction.
use Rattle.std.proofs.Common.{sym, ◌∙◌}
use Rattle.prelude.proofs.Fields.{later_accepted, head_long, abstraction_next, abstraction_missing}
use Rattle.prelude.proofs.heads.all_abstractions.Goals as goal

pub bounds-file-4 : goal.bounds-file-4
bounds-file-4 c = head_long c.in-Some.ensures.steps c.loop-file.invariant.accepts

pub returns-then-file-ne-ABSTRACTION : goal.returns-then-file-ne-ABSTRACTION
returns-then-file-ne-ABSTRACTION c =
    sym (c.loop-file.invariant.same ∙ abstraction_missing c.in-Some.ensures.steps c.loop-file.invariant.accepts c.if-file-ne-ABSTRACTION.true)

pub loop-file-preserved : goal.loop-file-preserved
loop-file-preserved c =
    let at = c.loop-file.invariant in
    record {
      can = tt;
      ends = tt;
      accepts = later_accepted c.in-Some.ensures.steps at.accepts;
      same = at.same ∙ abstraction_next c.in-Some.ensures.steps at.accepts c.if-file-ne-ABSTRACTION.false;
    }
