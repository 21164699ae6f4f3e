-- Each turn of the loop reads a node more.
use Rattle.std.proofs.Common.{◌≡◌, ◌∷◌, ◌+◌, ◌-◌, ℕ, List, get_or, take, drop, refl, sym, ap, ◌∙◌, arith}
use Rattle.std.proofs.Math.ListN.{length-set}
use Rattle.termfile.specs.Nodes.{Node}
use Rattle.termfile.specs.Passes.{nodes_in, sizes_of}
use Rattle.termfile.proofs.Pairs.{length-pairs, pairs-next}
use Rattle.termfile.proofs.Sizes.{Reads, reads-start, reads_more, size-within, reads_none, reads-broken, reads_all}
use Rattle.termfile.proofs.shape.is_term.Goals as goal
use Rattle.termfile.proofs.shape.is_term.Goals.{After-argument}

-- the node that is read
node : (c : After-argument)
    → let ps = c.args.parts in
    let i = c.loop-i.i in
    drop (i - 1) (nodes_in ps) ≡ record { tag = get_or ps.tags.now (i - 1) 0; argument = c.argument.result } ∷ drop i (nodes_in ps)
node c =
    let ps = c.args.parts in
    let i = c.loop-i.i in
    let index : i - 1 + 1 ≡ i = omega arith in
    pairs-next ps.tags.now ps.arguments.now ps.paired (i - 1) (omega arith) (get_or ps.tags.now (i - 1) 0) c.argument.result refl c.argument.ensures.value
    ∙ ap (λ (j : ℕ). record { tag = get_or ps.tags.now (i - 1) 0; argument = c.argument.result } ∷ drop j (nodes_in ps)) index

-- the sizes of the codes behind it, at a place that is i
sized : {ns : List Node} (zs : List ℕ) (n i j : ℕ) → j ≡ i → (r : Reads ns (take (n - i) (drop i zs))) → take (n - j) (drop j zs) ≡ sizes_of r.codes
sized zs n i j e r = ap (λ (k : ℕ). take (n - k) (drop k zs)) e ∙ r.sized

pub loop-i-init : goal.loop-i-init
loop-i-init c =
    let ps = c.args.parts in
    record {
      within = omega arith;
      long = refl;
      reads = rw c.len-n.ensures (reads-start (nodes_in ps) (length-pairs ps.tags.now ps.arguments.now ps.paired) c.args.sizes.now);
    }

pub returns-in_default : goal.returns-in_default
returns-in_default c =
    let at = c.loop-i.invariant in
    reads-broken (nodes_in c.args.parts)
    (reads_none (nodes_in c.args.parts) c.loop-i.sizes (omega arith) c.loop-i.i (omega arith) at.within at.reads _ c.argument.result
    (node (goal.at.returns-in_default c).After-argument)
    (sym c.in_default.is ∙ c.join.ensures at.reads.codes (sized c.loop-i.sizes c.len-n.result c.loop-i.i _ (omega arith) at.reads)))

pub overflow_cast-sizes : goal.overflow_cast-sizes
overflow_cast-sizes c =
    let at = c.loop-i.invariant in
    omega (
      arith,
      size-within (nodes_in c.args.parts) c.loop-i.sizes (omega arith) c.loop-i.i (omega arith) at.within at.reads _ c.argument.result
          (node (goal.at.overflow_cast-sizes c).After-argument) c.in-Some.size
          (sym c.in-Some.is ∙ c.join.ensures at.reads.codes (sized c.loop-i.sizes c.len-n.result c.loop-i.i _ (omega arith) at.reads)),
    )

pub loop-i-preserved : goal.loop-i-preserved
loop-i-preserved c =
    let at = c.loop-i.invariant in
    record {
      within = omega arith;
      long = simp length-set (omega arith);
      reads =
          reads_more (nodes_in c.args.parts) c.loop-i.sizes (omega arith) c.loop-i.i (omega arith) at.within at.reads _ c.argument.result
          (node (goal.at.loop-i-preserved c).After-argument) c.in-Some.size
          (sym c.in-Some.is ∙ c.join.ensures at.reads.codes (sized c.loop-i.sizes c.len-n.result c.loop-i.i _ (omega arith) at.reads));
    }

pub returns : goal.returns
returns c =
    reads_all (nodes_in c.args.parts) (omega arith) c.loop-i.sizes (omega arith) c.loop-i.i (omega arith) c.loop-i.invariant.reads
