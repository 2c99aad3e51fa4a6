-- Objects put one behind another.
use Rattle.std.proofs.Common.{◌≡◌, ℕ, List, [], ◌∷◌, ◌++◌, fold, sym, ◌∙◌, append_assoc}
use Rattle.std.proofs.lemmas.List.{append-nil}
use Rattle.tlv_objects.specs.Writing.{object_text}
use Rattle.terminal_kernel.specs.Given.{DataObject}
use Rattle.terminal_kernel.specs.Requested.{objects_text}

-- objects put behind a front are the front and then their text
pub fold-objects_text : (front : List ℕ) (objects : List DataObject)
    → fold (λ out object. out ++ object_text object.tag object.value) front objects ≡ front ++ objects_text objects
fold-objects_text front [] = sym (append-nil front)
fold-objects_text front (object ∷ objects) =
    fold-objects_text (front ++ object_text object.tag object.value) objects
    ∙ append_assoc front (object_text object.tag object.value) (objects_text objects)
