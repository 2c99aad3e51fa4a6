-- The pass over the objects that begin as most do.
use Rattle.std.proofs.Common.{◌≡◌, ◌+◌, ◌≤◌, length}
use Rattle.tlv_objects.specs.Tlv.{objects_ahead}
use Rattle.chip_request.specs.Slots.{with_objects}
use Rattle.chip_request.specs.SlotViews.{founds_in}
use Rattle.chip_request.proofs.reading.note_short.Given as goal

-- the objects ahead lead from the slots to where those ahead at first lead from the first slots
abbrev pub invariant-loop-object : goal.invariant-loop-object
invariant-loop-object l = record {
  found : with_objects (founds_in l.slots) (objects_ahead l.objects).objects ≡ with_objects (founds_in l.fn.slots) (objects_ahead l.fn.objects).objects;
  torn : (objects_ahead l.objects).torn ≡ (objects_ahead l.fn.objects).torn;
  end : l.objects.at + length l.objects.bytes ≡ l.fn.objects.at + length l.fn.objects.bytes;
  shorter : length l.objects.bytes ≤ length l.fn.objects.bytes;
}

abbrev pub decreases-loop-object : goal.decreases-loop-object
decreases-loop-object l = length l.objects.bytes
