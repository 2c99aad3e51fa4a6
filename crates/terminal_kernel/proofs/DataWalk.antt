-- The walk over the objects of a text.
use Rattle.std.proofs.Common.{◌≡◌, ℕ, true, false, List, [], ◌∷◌, ◌++◌, map, Ok, Err, sym, refl, ap, ◌∙◌, append_assoc, append-nil}
use Rattle.tlv_objects.specs.Tlv.{TlvObject, TlvText, objects_of, in_front, torn_at, no_more}
use Rattle.terminal_kernel.specs.Given.{DataObject, plain, may_follow, first_unfit, data_of}

-- the objects so far, and what is ahead in a text
pub record HasTaken (bytes : List ℕ) (given : List DataObject) (ahead : TlvText) : Type 0 where
  pub objects : map plain (objects_of bytes).objects ≡ given ++ map plain ahead.objects
  pub unfit : first_unfit [] (objects_of bytes).objects ≡ first_unfit given ahead.objects
  pub torn : (objects_of bytes).torn ≡ ahead.torn

pub has_taken-none : (bytes : List ℕ) → HasTaken bytes [] (objects_of bytes)
has_taken-none bytes = record { objects = refl; unfit = refl; torn = refl }

-- at the end of the text all its objects are taken
pub data_of-end : (bytes : List ℕ) (given : List DataObject) (ahead : TlvText) → HasTaken bytes given ahead → ahead ≡ no_more
    → data_of bytes ≡ Ok given
unfolding data_of first_unfit
data_of-end bytes given ahead taken end = rw (taken.unfit, taken.torn, taken.objects, end, append-nil given) refl

-- a text is refused where it is torn
pub data_of-torn : (bytes : List ℕ) (given : List DataObject) (ahead : TlvText) (at : ℕ) → HasTaken bytes given ahead → ahead ≡ torn_at at
    → data_of bytes ≡ Err (record { at = at })
unfolding data_of first_unfit
data_of-torn bytes given ahead at taken end = rw (taken.unfit, taken.torn, end) refl

-- and at an object that may not stand there
pub data_of-unfit : (bytes : List ℕ) (given : List DataObject) (ahead behind : TlvText) (object : TlvObject) → HasTaken bytes given ahead
    → ahead ≡ in_front object behind → may_follow given object ≡ false → data_of bytes ≡ Err (record { at = object.at })
unfolding data_of first_unfit
data_of-unfit bytes given ahead behind object taken front unfit = rw (taken.unfit, front, unfit) refl

-- one more object
pub has_taken-more : (bytes : List ℕ) (given : List DataObject) (ahead behind : TlvText) (object : TlvObject) → HasTaken bytes given ahead
    → ahead ≡ in_front object behind → may_follow given object ≡ true → HasTaken bytes (given ++ plain object ∷ []) behind
unfolding first_unfit
has_taken-more bytes given ahead behind object taken front fits = record {
  objects = taken.objects ∙ ap (λ (t : TlvText). given ++ map plain t.objects) front
      ∙ sym (append_assoc given (plain object ∷ []) (map plain behind.objects));
  unfit = taken.unfit ∙ ap (λ (t : TlvText). first_unfit given t.objects) front ∙ rw fits refl;
  torn = taken.torn ∙ ap (λ (t : TlvText). t.torn) front;
}
