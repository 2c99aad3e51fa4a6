-- The ATC of a parsed request has two bytes.
use Rattle.std.proofs.Common.{◌≡◌, ℕ, ◌+◌, ◌*◌, ◌<◌, List, [], ◌∷◌, ◌++◌, replicate, Bool, cond, Option, None, Some, Result, Ok, Err}
use Rattle.std.proofs.Common.{slice_index, length, refl, sym, ap, subst, arith, eqb, inl, inr}
use Rattle.std.proofs.lemmas.Bool.{cases_Bool}
use Rattle.issuer_base.specs.declared.request.Request.{Request}
use Rattle.issuer_base.specs.declared.command.Command.{Command}
use Rattle.card_history.specs.declared.decision.Asked.TheVariants.{Decide}
use Rattle.issuer_base.specs.CardNames.{CardName, named}
use Rattle.chip_request.specs.declared.line.LineKind.{LineKind}
use Rattle.chip_request.specs.declared.line.LineKind.TheVariants.{Ask, Queue as IsQueue, Set as IsSet}
use Rattle.chip_request.specs.declared.reading.RequestFault.{RequestFault}
use Rattle.chip_request.specs.declared.reading.RequestFault.TheVariants.{BadTlv, Missing, BadField, Repeated}
use Rattle.chip_request.specs.Fields.{fields}
use Rattle.chip_request.specs.LineParts.{line_of}
use Rattle.chip_request.specs.Lines.{SpellsByte, Spells as SpellsBytes, ReadsAs}
use Rattle.chip_request.specs.Reading.{values_of, first_or, parts_of, request_of, refused, first_wrong, is_missing, is_misformed, is_repeated}
use Rattle.chip_request.proofs.LineLaws.{line_reads}
use Rattle.tlv_objects.specs.Tlv.{TlvObject, objects_of}
use Rattle.tlv_objects.specs.Grammar.{Covers}
use Rattle.tlv_objects.proofs.Texts.{objects_cover}
use Rattle.script_commands.specs.Commands.{command_of}
use Rattle.issuer_setup.specs.CardList.{number_of}
use Rattle.issuer_setup.specs.IssuerSetup.{Setup}
use Rattle.line_checks.specs.Reading.{checked_data, command_for, status_for, said_by, reading}
use Rattle.shard_book.proofs.Adopted.{checked-own}
use Rattle.claim_words.specs.declared.layout.TheConstants.{COUNTERS}

-- each number of the list is a byte
abbrev AreBytes : List ℕ → Type 0
AreBytes [] = Unit {0}
AreBytes (byte ∷ bytes) = (byte < 256) × AreBytes bytes

bytes-front : (front rest : List ℕ) → AreBytes (front ++ rest) → AreBytes front
bytes-front [] rest are = tt
bytes-front (byte ∷ front) rest are = (are.0, bytes-front front rest are.1)

bytes-behind : (front rest : List ℕ) → AreBytes (front ++ rest) → AreBytes rest
bytes-behind [] rest are = are
bytes-behind (byte ∷ front) rest are = bytes-behind front rest are.1

byte-small : (high low byte : ℕ) → SpellsByte high low byte → byte < 256
byte-small high low byte spells =
    let is_high = spells.is_high in
    let is_low = spells.is_low in
    let first : spells.high_value < 16 = grind (arith, is_high) in
    let second : spells.low_value < 16 = grind (arith, is_low) in
    let joined = spells.joined in
    omega (arith, first, second, joined)

-- what is spelled by hexadecimal digits are bytes
spelled-bytes : (text bytes : List ℕ) → SpellsBytes text bytes → AreBytes bytes
spelled-bytes [] [] spells = tt
spelled-bytes [] (byte ∷ bytes) spells = absurd spells
spelled-bytes (digit ∷ []) bytes spells = absurd spells
spelled-bytes (high ∷ low ∷ text) [] spells = absurd spells
spelled-bytes (high ∷ low ∷ text) (byte ∷ bytes) spells =
    (byte-small high low byte spells.0, spelled-bytes text bytes spells.1)

-- the values of objects that cover bytes are bytes
abbrev HaveBytes : List TlvObject → Type 0
HaveBytes [] = Unit {0}
HaveBytes (object ∷ objects) = AreBytes object.value × HaveBytes objects

covered-bytes : (at : ℕ) (text : List ℕ) (objects : List TlvObject) (torn : Option ℕ) → Covers at text objects torn → AreBytes text → HaveBytes objects
covered-bytes at text [] torn covers are = tt
covered-bytes at text (object ∷ objects) torn (zeros, spelling, rest, text_is, at_is, spelled, covers) are =
    let behind : AreBytes (spelling ++ rest) = bytes-behind (replicate zeros 0) (spelling ++ rest) (subst AreBytes text_is are) in
    let whole : AreBytes (spelled.tag_bytes ++ (spelled.length_bytes ++ object.value)) = subst AreBytes spelled.joined (bytes-front spelling rest behind) in (
      bytes-behind spelled.length_bytes object.value (bytes-behind spelled.tag_bytes (spelled.length_bytes ++ object.value) whole),
      covered-bytes (object.at + length spelling) rest objects torn covers (bytes-behind spelling rest behind),
    )

first-bytes : (tag : ℕ) (objects : List TlvObject) → HaveBytes objects → AreBytes (first_or [] (values_of tag objects))
unfolding values_of
first-bytes tag [] have = tt
first-bytes tag (object ∷ objects) have =
    elim (cases_Bool (eqb tag object.tag)) [
      | inl here ↦
          subst (λ (is : Bool). AreBytes (first_or [] (cond is (object.value ∷ values_of tag objects) (values_of tag objects)))) (sym here) have.0
      | inr other ↦
          subst (λ (is : Bool). AreBytes (first_or [] (cond is (object.value ∷ values_of tag objects) (values_of tag objects)))) (sym other)
          (first-bytes tag objects have.1)
    ]

two-bytes : (value : List ℕ) → AreBytes value → 256 * slice_index value 0 + slice_index value 1 < COUNTERS
two-bytes [] are = omega arith
two-bytes (high ∷ []) are = let first = are.0 in omega (arith, first)
two-bytes (high ∷ low ∷ more) are = let first = are.0 in let second = are.1.0 in omega (arith, first, second)

refused-ok : {A : Type 0} (named : Option ℕ) (fault : ℕ → RequestFault) (next : Result A RequestFault) (value : A)
    → refused named fault next ≡ Ok value → next ≡ Ok value
refused-ok (Some at) fault next value is = absurd (cc)
refused-ok None fault next value is = is

-- a request is the parts of its objects
request-parts : (bytes : List ℕ) (request : Request) → request_of bytes ≡ Ok request → request ≡ parts_of (objects_of bytes).objects
unfolding request_of
request-parts bytes request is =
    let text = objects_of bytes in
    let whole = refused-ok text.torn BadTlv _ request is in
    let all_there = refused-ok (first_wrong is_missing text.objects fields) Missing _ request whole in
    let formed = refused-ok (first_wrong is_misformed text.objects fields) BadField _ request all_there in
    let once : Ok (parts_of text.objects) ≡ Ok request =
    refused-ok (first_wrong is_repeated text.objects fields) Repeated (Ok (parts_of text.objects)) request formed in
    cc

request-counter : (bytes : List ℕ) (request : Request) → AreBytes bytes → request_of bytes ≡ Ok request → request.atc < COUNTERS
unfolding parts_of
request-counter bytes request are is =
    let objects : List TlvObject = (objects_of bytes).objects in
    let have = covered-bytes 0 bytes objects (objects_of bytes).torn (objects_cover bytes) are in
    let same = ap (λ (request : Request). request.atc) (request-parts bytes request is) in
    let small = two-bytes (first_or [] (values_of 0x9F36 objects)) (first-bytes 0x9F36 objects have) in
    omega (arith, same, small)

data-counter : (issuer : Setup) (bytes : List ℕ) (says : Result Request RequestFault) (request : Request) → AreBytes bytes → request_of bytes ≡ says
    → checked_data issuer says ≡ Ok (Decide request) → request.atc < COUNTERS
data-counter issuer bytes (Err fault) request are says_is passes = absurd (cc)
data-counter issuer bytes (Ok given) request are says_is passes =
    let same = ap (λ (request : Request). request.atc) (checked-own issuer given request passes) in
    let small = request-counter bytes given are says_is in
    omega (arith, same, small)

command-no_request : (name : CardName) (found : Option ℕ) (given : Option Command) (request : Request) → command_for name found given ≡ Ok (Decide request) → ⊥
command-no_request name None given request passes = cc
command-no_request name (Some card) None request passes = cc
command-no_request name (Some card) (Some command) request passes = cc

status-no_request : (name : CardName) (found : Option ℕ) (status : ℕ) (request : Request) → status_for name found status ≡ Ok (Decide request) → ⊥
status-no_request name None status request passes = cc
status-no_request name (Some card) status request passes = cc

said-counter : (issuer : Setup) (line : List ℕ) (says : Result LineKind ℕ) (request : Request) → ReadsAs line says
    → said_by issuer says ≡ Ok (Decide request) → request.atc < COUNTERS
said-counter issuer line (Err column) request reads passes = absurd (cc)
said-counter issuer line (Ok (Ask bytes)) request (text, line_is, spelled) passes =
    data-counter issuer bytes.items (request_of bytes.items) request (spelled-bytes text bytes.items spelled.spelled) refl passes
said-counter issuer line (Ok (IsQueue pan psn bytes)) request reads passes =
    absurd (command-no_request (named pan psn) (number_of (named pan psn) issuer.cards) (command_of bytes.items) request passes)
said-counter issuer line (Ok (IsSet pan psn status)) request reads passes =
    absurd (status-no_request (named pan psn) (number_of (named pan psn) issuer.cards) status request passes)

pub counter-within : (issuer : Setup) (line : List ℕ) (request : Request) → reading issuer line ≡ Ok (Decide request) → request.atc < COUNTERS
counter-within issuer line request read = said-counter issuer line (line_of line) request (line_reads line) read
