-- What a terminal finds in a reply, and gives to the card.
use Rattle.std.specs.Prelude.{ℕ, ◌==◌, Bool, List, [], ◌∷◌, map, Option, option_map, if◌then◌else◌, bit_xor}
use Rattle.std.specs.List.{find, filter}
use Rattle.std.specs.Option.{option_map_or}
use Rattle.tlv_objects.specs.Tlv.{TlvObject}
use Rattle.chip_request.specs.Objects.{objects_of}
use Rattle.card_model.specs.Application.{CardState}
use Rattle.card_model.specs.CardSteps.{after_command, authenticated}

-- whether an object has this tag
abbrev pub has_tag : ℕ → TlvObject → Bool
has_tag tag object = object.tag == tag

-- the value of the first object with this tag, or none
abbrev pub value_of : ℕ → List ℕ → Option (List ℕ)
value_of tag bytes = option_map (λ object. object.value) (find (has_tag tag) (objects_of bytes).objects)

-- the values of all objects with this tag
abbrev pub values_of : ℕ → List ℕ → List (List ℕ)
values_of tag bytes = map (λ object. object.value) (filter (has_tag tag) (objects_of bytes).objects)

-- the issuer's answer in a reply, tag 91
abbrev pub answer_in : List ℕ → Option (List ℕ)
answer_in reply = value_of 0x91 reply

-- the script commands in a reply, tag 86 in its template, tag 72
abbrev pub commands_in : List ℕ → List (List ℕ)
commands_in reply = option_map_or (values_of 0x86) (value_of 0x72 reply) []

-- the first byte's last bit is changed
abbrev pub spoil_first : List ℕ → List ℕ
spoil_first [] = []
spoil_first (byte ∷ bytes) = bit_xor byte 0x01 ∷ bytes

-- the card after it was given these commands
abbrev pub after_commands : CardState → List (List ℕ) → CardState
after_commands card [] = card
after_commands card (command ∷ commands) = after_commands (after_command card command).1 commands

-- a card that found the issuer's answer right is given the commands
abbrev pub where_right : Bool × CardState → List (List ℕ) → CardState
where_right found commands = if found.0 then after_commands found.1 commands else found.1

-- the card after it was given the issuer's answer, with the response code, and the commands where it found that right
abbrev pub after_answer : CardState → List ℕ → List ℕ → List (List ℕ) → CardState
after_answer card answer arc commands = where_right (authenticated card answer arc) commands
