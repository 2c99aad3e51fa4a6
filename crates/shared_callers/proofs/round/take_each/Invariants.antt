-- The parts so far have the texts of their lanes.
use Rattle.std.proofs.Common.{◌≡◌, map}
use Rattle.shared_callers.specs.Handing.{KeepPlaces}
use Rattle.shared_callers.specs.OneLane.{answer_texts}
use Rattle.shared_callers.specs.Parts.{lines_of, texts_of}
use Rattle.shared_callers.proofs.Lists.{AreMoved, AreLeft}
use Rattle.shared_callers.proofs.round.take_each.Given as goal

abbrev pub invariant-loop-index : goal.invariant-loop-index
invariant-loop-index l = record {
  places : KeepPlaces l.fn.parts l.fn.lanes l.parts l.lanes;
  lines : map lines_of l.parts ≡ map lines_of l.fn.parts;
  texts : AreMoved texts_of answer_texts l.index l.parts l.fn.lanes;
  left : AreLeft l.index l.lanes l.fn.lanes;
}
