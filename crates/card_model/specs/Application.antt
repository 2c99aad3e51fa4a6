-- A card's state, its requests, and which answers of the issuer it accepts.
use Rattle.std.specs.Prelude.{ℕ, ◌+◌, ◌*◌, Bool, ◌&&◌, nat_le, if◌then◌else◌, List, [], ◌∷◌, ◌++◌, length, take, drop}
use Rattle.std.specs.Prelude.{replicate}
use Rattle.std.specs.Prelude.{Option}
use Rattle.std.specs.Str.{bytes_eq}
use Rattle.issuer_base.specs.declared.answer.Method.{Method}
use Rattle.issuer_base.specs.declared.command.Command.{Command}
use Rattle.issuer_base.specs.declared.request.Parts.{Parts}
use Rattle.issuer_base.specs.declared.request.Suite.{Suite}
use Rattle.issuer_base.specs.declared.request.Suite.TheVariants.{TripleDes, Aes}
use Rattle.key_derive.specs.declared.card.CardKeys.{CardKeys}
use Rattle.key_derive.specs.SessionKey.{counter_bytes, session_ac}
use Rattle.cryptogram_in.specs.Cryptogram.{application_cryptogram}
use Rattle.arpc_methods.specs.Arpc.{value91}
use Rattle.card_model.specs.declared.terminal.Terminal.{Terminal}

-- a card's state: what it was issued with, and what it stores from one transaction to the next
pub record CardState : Type 0 where
  -- its account number, sequence number, derivation key index, ARPC method, and master keys
  pub pan : List ℕ
  pub psn : ℕ
  pub dki : ℕ
  pub method : Method
  pub keys : CardKeys
  -- the ATC
  pub atc : ℕ
  -- the last online ATC register: the ATC of the last transaction in which it verified an ARPC
  pub register : ℕ
  -- how many issuer script commands it ran since then, and whether it refused one
  pub count : ℕ
  pub failed : Bool
  -- the request of the open transaction, if one is open
  pub open_request : Option Parts
  -- the chain at which the next command has to be sealed, if the open transaction was authenticated
  pub chain : Option (List ℕ)
  -- all commands that it ever ran, the first at 0
  pub ran : List Command

-- byte 4 of the card verification results: the count of commands in bits 8-5, and in bit 4 whether one was refused
unfoldable pub script_results : CardState → ℕ
script_results card = 16 * card.count + (if card.failed then 8 else 0)

-- the common core identifier of a card of a suite
unfoldable pub core_identifier : Suite → ℕ
core_identifier TripleDes = 0xA5
core_identifier Aes = 0xA6

-- the issuer application data of a card that requests to go online, this project's profile: 0F, the common core
-- identifier of its suite, the derivation key index, the card verification results with an ARQC, eight counters, 0F,
-- the register, and zeros
unfoldable pub application_data : CardState → List ℕ
application_data card =
    0x0F ∷ core_identifier card.keys.suite ∷ card.dki ∷ 0xA0 ∷ 0 ∷ 0 ∷ script_results card ∷ 0 ∷ []
    ++ replicate 8 0 ++ 0x0F ∷ counter_bytes card.register ++ replicate 13 0

-- the fields of the card's next request at a terminal, without the cryptogram
unfoldable pub next_fields : CardState → Terminal → Parts
next_fields card terminal = record {
  pan = card.pan;
  psn = card.psn;
  aip = 0x39 ∷ 0x00 ∷ [];
  atc = card.atc + 1;
  tvr = terminal.tvr;
  date = terminal.date;
  kind = terminal.kind;
  amount = terminal.amount;
  other = terminal.other;
  country = terminal.country;
  currency = terminal.currency;
  un = terminal.un;
  cid = 0x80;
  iad = application_data card;
  ac = replicate 8 0;
}

-- the card's next request at a terminal: those fields, and the application cryptogram over them
unfoldable pub next_request : CardState → Terminal → Parts
next_request card terminal =
    let fields = next_fields card terminal in record fields { ac = application_cryptogram card.keys fields }

-- the value of tag 91 is the issuer's answer to the card's request, by the card's suite and method: with this response
-- code or, by method 2, with the card status update that the value has after its first four bytes
unfoldable pub is_answer : CardState → Parts → List ℕ → List ℕ → Bool
is_answer card request value arc =
    nat_le 8 (length value)
    && bytes_eq value (value91 card.keys.suite card.method
    (session_ac card.keys.suite card.keys.ac.0 request.atc) request.ac arc
    (take 4 (drop 4 value)))
