-- Each turn puts the first of the nodes that are still to come.
use Rattle.std.proofs.Common.{length, ap, ap₂, arith}
use Rattle.std.proofs.lemmas.Slice.Zip.{Zip-more, either_empty_from_Zip}
use Rattle.rendering.specs.Putting.{nodes_text}
use Rattle.rendering.proofs.Putting.{put-nothing, put_then, room-first, room_next, room_as, put_as}
use Rattle.rendering.proofs.TermLine.{nodes-none}
use Rattle.rendering.proofs.nodes.put_nodes.Goals as goal

pub put_node-requires : goal.put_node-requires
put_node-requires c =
    let more = Zip-more c.loop-tag.tag-iterator c.next.new.self c.next.result (c.in-Some.tag, c.in-Some.argument) c.in-Some.is c.next.ensures.steps in
    room-first _ (room_as (ap₂ nodes_text more.0 more.1) c.loop-tag.invariant.room)

pub loop-tag-preserved : goal.loop-tag-preserved
loop-tag-preserved c =
    let more = Zip-more c.loop-tag.tag-iterator c.next.new.self c.next.result (c.in-Some.tag, c.in-Some.argument) c.in-Some.is c.next.ensures.steps in
    let next = ap₂ nodes_text more.0 more.1 in
    record {
      same_count = omega (arith, c.loop-tag.invariant.same_count, ap length more.0, ap length more.1);
      room = room_next (room_as next c.loop-tag.invariant.room) c.put_node.ensures;
      whole = λ w p. c.loop-tag.invariant.whole w (put_as next (put_then c.put_node.ensures p));
    }

pub returns : goal.returns
returns c =
    c.loop-tag.invariant.whole _
    (put_as (nodes-none _ _ c.loop-tag.invariant.same_count (either_empty_from_Zip c.loop-tag.tag-iterator c.next.new.self c.next.result c.in-None.is c.next.ensures.steps)) put-nothing)
