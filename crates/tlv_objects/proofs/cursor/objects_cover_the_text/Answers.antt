-- The objects of a text cover it.
use Rattle.tlv_objects.proofs.Texts.{objects_cover, covered_by_objects}
use Rattle.tlv_objects.proofs.cursor.objects_cover_the_text.Goals as goal

pub returns : goal.returns
returns c = record { covered = objects_cover; only = covered_by_objects }
