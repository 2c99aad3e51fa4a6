-- What a cursor returns, in the terms of the definitions.
use Rattle.std.specs.Prelude.{◌≡◌, ℕ, ◌+◌, ◌<◌, [], length, Option, Some, None, Result, Ok, Err}
use Rattle.tlv_objects.specs.declared.cursor.Object.{Object}
use Rattle.tlv_objects.specs.declared.cursor.TlvFault.{TlvFault}
use Rattle.tlv_objects.specs.declared.cursor.TlvFault.TheVariants.{Torn}
use Rattle.tlv_objects.specs.Tlv.{TlvObject, Ahead, objects_ahead, in_front, torn_at, no_more}

-- a returned object
abbrev pub seen : Object → TlvObject
seen object = record { tag = object.tag; value = object.value.now; at = object.at }

-- the offset at which the text is malformed
abbrev pub place_of : TlvFault → ℕ
place_of (Torn at) = at

-- a cursor moves towards the end of the text, whose offset stays the same
pub record Moves (old new : Ahead) : Type 0 where
  pub shrinks : length new.bytes < length old.bytes
  pub end : new.at + length new.bytes ≡ old.at + length old.bytes

-- the first unread object is returned, and the others are unread
pub record GivesFirst (old : Ahead) (object : Object) (new : Ahead) : Type 0 where
  pub first : objects_ahead old ≡ in_front (seen object) (objects_ahead new)
  pub moves : Moves old new

-- the unread bytes are malformed at an offset within them, and nothing is unread any more
pub record GivesTorn (old : Ahead) (fault : TlvFault) (new : Ahead) : Type 0 where
  pub torn : objects_ahead old ≡ torn_at (place_of fault)
  pub nothing : new.bytes ≡ []
  pub moves : Moves old new
  pub within : place_of fault < old.at + length old.bytes

-- nothing was unread, and nothing is
pub record GivesNothing (old new : Ahead) : Type 0 where
  pub none : objects_ahead old ≡ no_more
  pub nothing : new.bytes ≡ []
  pub end : new.at + length new.bytes ≡ old.at + length old.bytes

-- what a cursor returns: the next object, the fault that ends the objects, or nothing more
abbrev pub GivesObject : Ahead → Option (Result Object TlvFault) → Ahead → Type 0
GivesObject old (Some (Ok object)) new = GivesFirst old object new
GivesObject old (Some (Err fault)) new = GivesTorn old fault new
GivesObject old None new = GivesNothing old new
