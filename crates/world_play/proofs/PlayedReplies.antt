-- What a terminal finds in a reply of the issuer, and what its card finds right.
use Rattle.std.proofs.Common.{◌≡◌, ◌≢◌, ℕ, ◌+◌, ◌≤◌, true, false, ◌&&◌, List, [], ◌∷◌, ◌++◌, length, take, drop, map, Option, Some, None}
use Rattle.std.proofs.Common.{refl, ap, sym, inl, inr, ◌∙◌, arith, length-append, append_assoc, append-nil}
use Rattle.std.specs.Prelude.{option_map, bit_xor, nat_le, slice_index}
use Rattle.std.specs.Str.{bytes_eq}
use Rattle.std.specs.List.{find, filter, flat_map}
use Rattle.std.specs.Option.{option_map_or}
use Rattle.std.specs.Int.{w32, to_be_bytes}
use Rattle.std.specs.Int.Bits.{xor_self, xor_assoc}
use Rattle.std.proofs.lemmas.Bool.{cases_Bool, and_parts, le-leb, and_from}
use Rattle.std.proofs.lemmas.List.{drop_at, take_all}
use Rattle.std.proofs.lemmas.Slice.Eq.{bytes_eq-Decides}
use Rattle.issuer_base.specs.declared.answer.Method.{Method}
use Rattle.issuer_base.specs.declared.answer.Method.TheVariants.{One, Two}
use Rattle.issuer_base.specs.declared.command.Command.{Command}
use Rattle.issuer_base.specs.declared.request.Parts.{Parts}
use Rattle.tlv_objects.specs.Tlv.{TlvObject, TlvText, objects_of, objects_from, in_front}
use Rattle.tlv_objects.specs.Writing.{object_text}
use Rattle.tlv_objects.proofs.Texts.{nothing_in}
use Rattle.tlv_objects.proofs.Written.{objects_behind_text}
use Rattle.key_derive.specs.SessionKey.{session_ac, session_sm}
use Rattle.issuer_base.specs.declared.request.Suite.{Suite}
use Rattle.secure_msg.specs.Batch.{sealed_commands, template_bytes}
use Rattle.arpc_methods.specs.Arpc.{value91, method1, method2}
use Rattle.arpc_methods.proofs.Lengths.{length-method1, length-method2}
use Rattle.row_core.specs.Replying.{script_bytes}
use Rattle.card_model.specs.Application.{CardState, is_answer}
use Rattle.world_play.specs.Handing.{has_tag, value_of, values_of, answer_in, commands_in, spoil_first}

-- ---- the objects of a reply

-- the issuer's answer, and the scripts behind it
abbrev pub reply_text : List ℕ → List ℕ → List ℕ → List ℕ
reply_text arc value scripts = (object_text 0x8A arc ++ object_text 0x91 value) ++ scripts

abbrev object_at : ℕ → List ℕ → ℕ → TlvObject
object_at tag value at = record { tag = tag; value = value; at = at }

-- the first two objects of a reply are the response code and the issuer's answer
two-objects : (arc value scripts : List ℕ)
    → (first second : ℕ) × (objects_of (reply_text arc value scripts)
    ≡ in_front (object_at 0x8A arc first) (in_front (object_at 0x91 value second)
    (objects_from 0 (second + length (object_text 0x91 value)) scripts)))
two-objects arc value scripts = (
  0,
  0 + length (object_text 0x8A arc),
  ap objects_of (append_assoc (object_text 0x8A arc) (object_text 0x91 value) scripts)
      ∙ objects_behind_text 0x8A arc (object_text 0x91 value ++ scripts) 0 refl
      ∙ ap (in_front (object_at 0x8A arc 0)) (objects_behind_text 0x91 value scripts (0 + length (object_text 0x8A arc)) refl),
)

abbrev first_value : ℕ → TlvText → Option (List ℕ)
first_value tag text = option_map (λ (object : TlvObject). object.value) (find (has_tag tag) text.objects)

abbrev all_values : ℕ → TlvText → List (List ℕ)
all_values tag text = map (λ (object : TlvObject). object.value) (filter (has_tag tag) text.objects)

-- so the issuer's answer is found
pub answer-found : (arc value scripts : List ℕ) → answer_in (reply_text arc value scripts) ≡ Some value
answer-found arc value scripts = ap (first_value 0x91) (two-objects arc value scripts).2

-- the commands one behind another are found, each in its object
many-values : (values : List (List ℕ)) (at : ℕ) → all_values 0x86 (objects_from 0 at (flat_map (object_text 0x86) values)) ≡ values
many-values [] at = ap (all_values 0x86) (nothing_in at)
many-values (value ∷ values) at =
    ap (all_values 0x86) (objects_behind_text 0x86 value (flat_map (object_text 0x86) values) at refl)
    ∙ ap (λ (more : List (List ℕ)). value ∷ more) (many-values values (at + length (object_text 0x86 value)))

-- so are those behind the number of the first one
template-values : (number : List ℕ) (values : List (List ℕ)) → values_of 0x86 (object_text 0x9F18 number ++ flat_map (object_text 0x86) values) ≡ values
template-values number values =
    ap (all_values 0x86) (objects_behind_text 0x9F18 number (flat_map (object_text 0x86) values) 0 refl)
    ∙ many-values values (0 + length (object_text 0x9F18 number))

-- a template behind the answer is found
template-found : (arc value inner : List ℕ) → value_of 0x72 (reply_text arc value (object_text 0x72 inner)) ≡ Some inner
template-found arc value inner =
    let text = two-objects arc value (object_text 0x72 inner) in
    ap (first_value 0x72) text.2
    ∙ ap (λ (scripts : List ℕ). first_value 0x72 (objects_from 0 (text.1 + length (object_text 0x91 value)) scripts))
    (sym (append-nil (object_text 0x72 inner)))
    ∙ ap (first_value 0x72) (objects_behind_text 0x72 inner [] (text.1 + length (object_text 0x91 value)) refl)

-- no scripts are found where there are none
none-found : (arc value : List ℕ) → value_of 0x72 (reply_text arc value []) ≡ None
none-found arc value =
    let text = two-objects arc value [] in
    ap (first_value 0x72) text.2 ∙ ap (first_value 0x72) (nothing_in (text.1 + length (object_text 0x91 value)))

-- the commands of a reply are the sealed ones of its batch
pub commands-found : (suite : Suite) (arc value master ac : List ℕ) (first : ℕ) (batch : List Command)
    → commands_in (reply_text arc value (script_bytes suite master ac first batch)) ≡ sealed_commands suite (session_sm suite master ac) ac batch
unfolding sealed_commands template_bytes
commands-found suite arc value master ac first [] =
    ap (λ (found : Option (List ℕ)). option_map_or (values_of 0x86) found []) (none-found arc value)
commands-found suite arc value master ac first (command ∷ commands) =
    let sealed = sealed_commands suite (session_sm suite master ac) ac (command ∷ commands) in
    let number = to_be_bytes w32 first in
    ap (λ (found : Option (List ℕ)). option_map_or (values_of 0x86) found [])
    (template-found arc value (object_text 0x9F18 number ++ flat_map (object_text 0x86) sealed))
    ∙ template-values number sealed

-- ---- the issuer's answer

-- the answer is made again of what it has behind its first four bytes
value-again : (suite : Suite) (method : Method) (sk ac arc csu : List ℕ) → length sk ≡ 16 → length csu ≡ 4
    → value91 suite method sk ac arc (take 4 (drop 4 (value91 suite method sk ac arc csu))) ≡ value91 suite method sk ac arc csu
unfolding value91
value-again suite One sk ac arc csu sixteen four = refl
value-again suite Two sk ac arc csu sixteen four =
    let arpc = method2 suite sk ac csu in
    let behind : take 4 (drop 4 (arpc ++ csu)) ≡ csu =
    ap (take 4) (drop_at arpc csu 4 (length-method2 suite sk ac csu sixteen)) ∙ take_all 4 csu (omega (arith, four)) in
    ap (λ (csu : List ℕ). method2 suite sk ac csu ++ csu) behind

-- it has eight bytes or more
value-long : (suite : Suite) (method : Method) (sk ac arc csu : List ℕ) → length sk ≡ 16 → length csu ≡ 4
    → 8 ≤ length (value91 suite method sk ac arc csu)
unfolding value91
value-long suite One sk ac arc csu sixteen four = omega (arith, length-append (method1 suite sk ac arc) arc, length-method1 suite sk ac arc sixteen)
value-long suite Two sk ac arc csu sixteen four =
    omega (arith, length-append (method2 suite sk ac csu) csu, length-method2 suite sk ac csu sixteen, four)

-- the issuer's answer to a card's request
abbrev pub answer_to : CardState → Parts → List ℕ → List ℕ → List ℕ
answer_to card request arc csu =
    value91 card.keys.suite card.method (session_ac card.keys.suite card.keys.ac.0 request.atc) request.ac arc csu

-- the card finds it right
pub answer-accepted : (card : CardState) (request : Parts) (arc csu : List ℕ)
    → length (session_ac card.keys.suite card.keys.ac.0 request.atc) ≡ 16 → length csu ≡ 4 → is_answer card request (answer_to card request arc csu) arc ≡ true
unfolding is_answer
answer-accepted card request arc csu sixteen four =
    let suite = card.keys.suite in
    let session = session_ac suite card.keys.ac.0 request.atc in
    let value = answer_to card request arc csu in
    and_from _ _ (le-leb 8 (length value) (value-long suite card.method session request.ac arc csu sixteen four))
    ((bytes_eq-Decides value (value91 suite card.method session request.ac arc (take 4 (drop 4 value)))).1
    (sym (value-again suite card.method session request.ac arc csu sixteen four)))

-- what a changed first byte leaves
spoiled-behind : (value : List ℕ) → drop 4 (spoil_first value) ≡ drop 4 value
spoiled-behind [] = refl
spoiled-behind (byte ∷ bytes) = refl

-- a changed bit is another byte
pub changed-bit : (byte : ℕ) → bit_xor byte 1 ≢ byte
changed-bit byte same =
    let one : bit_xor byte (bit_xor byte 1) ≡ 1 = sym (xor_assoc byte byte 1) ∙ ap (λ (b : ℕ). bit_xor b 1) (xor_self byte) in
    let none : bit_xor byte (bit_xor byte 1) ≡ 0 = ap (bit_xor byte) same ∙ xor_self byte in
    let e : 1 ≡ 0 = sym one ∙ none in
    absurd (omega (arith, e))

spoiled-other : (value : List ℕ) → 8 ≤ length value → spoil_first value ≡ value → ⊥
spoiled-other [] long same = absurd (omega (arith, long))
spoiled-other (byte ∷ bytes) long same =
    changed-bit byte (ap (λ (bytes : List ℕ). slice_index bytes 0) same)

-- and with a changed first byte it finds it wrong
pub spoiled-wrong : (card : CardState) (request : Parts) (arc csu : List ℕ)
    → length (session_ac card.keys.suite card.keys.ac.0 request.atc) ≡ 16 → length csu ≡ 4 → is_answer card request (spoil_first (answer_to card request arc csu)) arc ≡ false
unfolding is_answer
spoiled-wrong card request arc csu sixteen four =
    let suite = card.keys.suite in
    let session = session_ac suite card.keys.ac.0 request.atc in
    let value = answer_to card request arc csu in
    let spoiled = spoil_first value in
    elim (cases_Bool (nat_le 8 (length spoiled) && bytes_eq spoiled (value91 suite card.method session request.ac arc (take 4 (drop 4 spoiled))))) [
      | inl right ↦
          let same = (bytes_eq-Decides spoiled (value91 suite card.method session request.ac arc (take 4 (drop 4 spoiled)))).0 (and_parts _ _ right).1 in
          let again : spoiled ≡ value = same ∙ ap (λ (behind : List ℕ). value91 suite card.method session request.ac arc (take 4 behind)) (spoiled-behind value)
          ∙ value-again suite card.method session request.ac arc csu sixteen four in
          absurd (spoiled-other value (value-long suite card.method session request.ac arc csu sixteen four) again)
      | inr wrong ↦ wrong
    ]
