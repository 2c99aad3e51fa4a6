-- The lanes so far have the lines of their parts, which have none.
use Rattle.std.proofs.Common.{◌≡◌, ◌<◌, ℕ, [], map, Some}
use Rattle.std.specs.List.{slice_get}
use Rattle.shared_callers.specs.Handing.{KeepPlaces}
use Rattle.shared_callers.specs.OneLane.{waiting_lines}
use Rattle.shared_callers.specs.Parts.{lines_of, texts_of}
use Rattle.shared_callers.specs.declared.part.Part.{Part}
use Rattle.shared_callers.proofs.Lists.{AreMoved, AreLeft}
use Rattle.shared_callers.proofs.round.give_each.Given as goal

abbrev pub invariant-loop-index : goal.invariant-loop-index
invariant-loop-index l = record {
  places : KeepPlaces l.fn.parts l.fn.lanes l.parts l.lanes;
  texts : map texts_of l.parts ≡ map texts_of l.fn.parts;
  lines : AreMoved waiting_lines lines_of l.index l.lanes l.fn.parts;
  left : AreLeft l.index l.parts l.fn.parts;
  none : (number : ℕ) (part : Part) → number < l.index → slice_get l.parts number ≡ Some part → lines_of part ≡ [];
}
