-- The items of an array are the elements of its list.
use Rattle.std.proofs.Common.{refl}
use Rattle.config_read.proofs.JsonLemmas.{elements_of-items_of}
use Rattle.config_read.proofs.json_value.list_member.Goals as goal

pub returns : goal.returns
returns c = rw (c.as_slice.ensures.value, ← c.in_ok-get.ensures, ← c.in_ok-as_array.ensures, elements_of-items_of) refl
