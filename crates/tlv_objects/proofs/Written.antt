-- The text of an object is an encoding of it, and parses as that object alone.
use Rattle.std.proofs.Common.{◌≡◌, ℕ, ◌+◌, ◌/◌, ◌%◌, ◌<◌, Bool, true, false, cond, List, [], ◌∷◌, ◌++◌, length, IsTrue, nat_lt, refl, sym, ap, ◌∙◌}
use Rattle.std.proofs.Common.{append-nil, arith, tests, rules}
use Rattle.std.proofs.lemmas.Bool.{and_parts}
use Rattle.tlv_objects.specs.Tlv.{objects_of, objects_from, in_front, no_more}
use Rattle.tlv_objects.specs.Grammar.{big_endian, SpellsLength, Spells}
use Rattle.tlv_objects.specs.Writing.{tag_bytes, is_tag_number, length_bytes, object_text}
use Rattle.tlv_objects.proofs.Texts.{nothing_in, objects_behind_object}

number_of_bytes : (one two three : Bool) (tag : ℕ)
    → big_endian (cond one (tag ∷ []) (cond two (tag / 0x100 ∷ tag % 0x100 ∷ []) (cond three (tag / 0x10000 ∷ tag / 0x100 % 0x100 ∷ tag % 0x100 ∷ [])
    (tag / 0x1000000 ∷ tag / 0x10000 % 0x100 ∷ tag / 0x100 % 0x100 ∷ tag % 0x100 ∷ [])))) ≡ tag
number_of_bytes true two three tag = omega arith
number_of_bytes false true three tag = omega arith
number_of_bytes false false true tag = omega arith
number_of_bytes false false false tag = omega arith

-- the bytes of a tag are its number
pub big_endian-tag_bytes : (tag : ℕ) → big_endian (tag_bytes tag) ≡ tag
big_endian-tag_bytes tag = number_of_bytes (nat_lt tag 0x100) (nat_lt tag 0x10000) (nat_lt tag 0x1000000) tag

spells_either : (one two : Bool) (n : ℕ) → (one ≡ true → n < 128)
    → SpellsLength (cond one (n ∷ []) (cond two (129 ∷ n ∷ []) (130 ∷ n / 256 ∷ n % 256 ∷ []))) n
spells_either true two n short = (short refl, refl)
spells_either false true n short = (refl, refl)
spells_either false false n short = (refl, omega arith)

-- the shortest spelling spells the length
pub spells-length_bytes : (n : ℕ) → SpellsLength (length_bytes n) n
spells-length_bytes n = spells_either (nat_lt n 128) (nat_lt n 256) n (λ h. search (tests, rules))

-- the text of an object spells it
pub spells-object_text : (tag : ℕ) (value : List ℕ) → IsTrue (is_tag_number tag) → Spells (object_text tag value) tag value
spells-object_text tag value h = record {
  tag_bytes = tag_bytes tag;
  length_bytes = length_bytes (length value);
  joined = refl;
  is_a_tag = (and_parts _ _ h).1;
  number = big_endian-tag_bytes tag;
  spells_length = spells-length_bytes (length value);
}

-- behind the text of an object stand the objects of the rest
pub objects_behind_text : (tag : ℕ) (value rest : List ℕ) (at : ℕ) → IsTrue (is_tag_number tag)
    → objects_from 0 at (object_text tag value ++ rest) ≡ in_front (record { tag = tag; value = value; at = at })
    (objects_from 0 (at + length (object_text tag value)) rest)
objects_behind_text tag value rest at h =
    objects_behind_object (object_text tag value) rest at tag value (spells-object_text tag value h)

-- the text of an object reads as that object alone
pub objects_of-object_text : (tag : ℕ) (value : List ℕ) → IsTrue (is_tag_number tag)
    → objects_of (object_text tag value) ≡ in_front (record { tag = tag; value = value; at = 0 }) no_more
objects_of-object_text tag value h =
    ap objects_of (sym (append-nil (object_text tag value))) ∙ objects_behind_text tag value [] 0 h
    ∙ ap (in_front (record { tag = tag; value = value; at = 0 })) (nothing_in (0 + length (object_text tag value)))
