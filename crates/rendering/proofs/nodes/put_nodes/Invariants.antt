-- The nodes that are still to come have room, and once they are put, all are.
use Rattle.std.proofs.Common.{◌≡◌, length}
use Rattle.std.specs.Iterator.Adapters.{zip_first, zip_second}
use Rattle.std.specs.Slice.Iter.{iter_rest}
use Rattle.rendering.specs.Putting.{Room, Put, nodes_text}
use Rattle.rendering.specs.declared.words.Text.{Text}
use Rattle.rendering.proofs.nodes.put_nodes.Given as goal

abbrev pub invariant-loop-tag : goal.invariant-loop-tag
invariant-loop-tag l =
    let tags = iter_rest (zip_first l.tag-iterator) in
    let args = iter_rest (zip_second l.tag-iterator) in
    record {
      same_count : length tags ≡ length args;
      room : Room (nodes_text tags args) l.text;
      whole : (w : Text) → Put (nodes_text tags args) l.text w → Put (nodes_text l.tags l.args) l.initial.text w;
    }
