-- The commands ahead lead from the card to where all of them lead from the first card.
use Rattle.std.proofs.Common.{◌≡◌, map}
use Rattle.std.specs.List.{filter}
use Rattle.tlv_objects.specs.Tlv.{objects_ahead}
use Rattle.world_play.specs.Handing.{has_tag, values_of, after_commands}
use Rattle.world_play.proofs.reply.run_template.Given as goal

abbrev pub invariant-loop-item : goal.invariant-loop-item
invariant-loop-item l =
    after_commands l.card (map (λ object. object.value) (filter (has_tag 0x86) (objects_ahead l.item-iterator).objects))
    ≡ after_commands l.fn.card (values_of 0x86 l.template)
