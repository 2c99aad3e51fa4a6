-- The pass over the objects of a text.
use Rattle.std.proofs.Common.{◌≡◌, ◌+◌, length}
use Rattle.tlv_objects.specs.Tlv.{objects_ahead}
use Rattle.chip_request.specs.Slots.{with_objects}
use Rattle.chip_request.specs.SlotViews.{founds_in}
use Rattle.chip_request.proofs.reading.note_all.Given as goal

-- the objects ahead lead from the slots to where all objects lead from the first slots
abbrev pub invariant-loop-item : goal.invariant-loop-item
invariant-loop-item l = record {
  found : with_objects (founds_in l.slots) (objects_ahead l.objects).objects ≡ with_objects (founds_in l.fn.slots)
      (objects_ahead l.fn.objects).objects;
  torn : (objects_ahead l.objects).torn ≡ (objects_ahead l.fn.objects).torn;
  end : l.objects.at + length l.objects.bytes ≡ l.fn.objects.at + length l.fn.objects.bytes;
}

abbrev pub decreases-loop-item : goal.decreases-loop-item
decreases-loop-item l = length l.objects.bytes
