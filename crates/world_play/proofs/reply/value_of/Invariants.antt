-- The first object ahead with the tag is the first of the text.
use Rattle.std.proofs.Common.{◌≡◌}
use Rattle.std.specs.Prelude.{option_map}
use Rattle.std.specs.List.{find}
use Rattle.tlv_objects.specs.Tlv.{objects_ahead}
use Rattle.world_play.specs.Handing.{has_tag, value_of}
use Rattle.world_play.proofs.reply.value_of.Given as goal

abbrev pub invariant-loop-item : goal.invariant-loop-item
invariant-loop-item l =
    option_map (λ object. object.value) (find (has_tag l.tag) (objects_ahead l.item-iterator).objects) ≡ value_of l.tag l.bytes
