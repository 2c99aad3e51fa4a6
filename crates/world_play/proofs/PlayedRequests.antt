-- The request that a card of a played run makes: the issuer decides it, and refuses it with a changed cryptogram.
use Rattle.std.proofs.Common.{◌≡◌, ◌≢◌, ℕ, zero, suc, ◌+◌, ◌*◌, ◌/◌, ◌%◌, ◌^◌, ◌<◌, ◌≤◌, ◌==◌, Bool, true, false, List, [], ◌∷◌, ◌++◌, length, map}
use Rattle.std.proofs.Common.{replicate, Some, Ok, Err, IsTrue, refl, ap, ap₂, sym, subst, ◌∙◌, inl, inr, lit<, arith, Option, Result}
use Rattle.std.specs.Prelude.{slice_get, slice_set, slice_index, bit_xor, if◌then◌else◌}
use Rattle.std.specs.Int.{w32, to_be_bytes}
use Rattle.std.specs.List.{list_all, concat}
use Rattle.std.proofs.lemmas.Bool.{cases_Bool}
use Rattle.std.proofs.lemmas.List.{get_or-set_same, length-set}
use Rattle.std.proofs.lemmas.Nat.{xor_lt}
use Rattle.std.proofs.lemmas.Slice.Eq.{bytes_eq-Decides}
use Rattle.hex.specs.Hex.{IsBytes}
use Rattle.issuer_base.specs.ChipData.{is_bcd, is_arqc, cvr, dki}
use Rattle.issuer_base.specs.CardNumber.{is_pan, pan_from}
use Rattle.issuer_base.proofs.CardNumberLemmas.{pan_from-some}
use Rattle.issuer_base.specs.declared.answer.Refusal.{Refusal}
use Rattle.issuer_base.specs.declared.answer.Refusal.TheVariants.{BadCryptogram, NotArqc}
use Rattle.issuer_base.specs.declared.request.Parts.{Parts}
use Rattle.card_history.specs.Records.{card_of}
use Rattle.card_history.specs.declared.decision.Asked.{Asked}
use Rattle.card_history.specs.declared.decision.Asked.TheVariants.{Decide}
use Rattle.cryptogram_in.specs.Cryptogram.{input, cryptogram_under, application_cryptogram}
use Rattle.key_derive.specs.CardKey.{des_keys}
use Rattle.key_derive.specs.declared.card.CardKeys.{CardKeys}
use Rattle.key_derive.specs.SessionKey.{session_ac}
use Rattle.retail_mac.specs.Mac.{retail_mac}
use Rattle.key_derive.specs.SuiteMac.{mac_of}
use Rattle.issuer_base.specs.declared.request.Suite.{Suite}
use Rattle.issuer_base.specs.declared.request.Suite.TheVariants.{TripleDes, Aes}
use Rattle.issuer_base.specs.ChipData.{suite_of}
use Rattle.retail_mac.proofs.Blocks.{length-retail_mac}
use Rattle.des_block.proofs.Laws.{des_encipher_small}
use Rattle.issuer_setup.specs.CardList.{name_of, number_of}
use Rattle.issuer_setup.specs.IssuerSetup.{Setup, keys_from, keys_of}
use Rattle.issuer_setup.specs.KeyList.{key_of}
use Rattle.issuer_setup.specs.declared.card.CardInfo.{CardInfo}
use Rattle.journal_rec.specs.Record.{IsRequest, request_sizes}
use Rattle.journal_rec.specs.RecordText.{pan_bytes, request_fields}
use Rattle.journal_rec.proofs.PanText.{IsBytes-pan_bytes, length-pan_bytes}
use Rattle.journal_rec.proofs.Words.{IsBytes-two}
use Rattle.line_checks.specs.Reading.{checked, checked_data, said_by, of_card, under_keys, is_right, reading}
use Rattle.terminal_kernel.specs.ChipText.{request_line}
use Rattle.terminal_kernel.proofs.LineRequestRead.{request_of-chip_data}
use Rattle.terminal_kernel.proofs.LineRead.{line_of-request_line}
use Rattle.card_model.specs.Application.{CardState, script_results, core_identifier, application_data, next_fields, next_request}
use Rattle.card_model.specs.CardSteps.{with_open, with_answer, with_command, with_failure, new_card}
use Rattle.card_model.proofs.Requests.{is_request-fields}
use Rattle.issuer_base.specs.declared.command.Command.{Command}
use Rattle.world_net.specs.WorldRuns.{IsIssuer}
use Rattle.world_play.specs.declared.setting.Step.{Step}
use Rattle.world_play.specs.Play.{spoiled}
use Rattle.world_play.specs.Cards.{IsIssued, IsRight}
use Rattle.world_play.specs.Setting.{key_set, card_info, issuer, terminal_of}
use Rattle.world_play.proofs.Numbers.{number_pan}
use Rattle.world_play.proofs.PlayedCards.{card-at, number-known}
use Rattle.world_play.proofs.PlayedReplies.{changed-bit}

-- ---- a card of a run

-- it is issued at first, and stays so
pub issued-new : (number : ℕ)
    → IsIssued number (new_card (card_info number).pan 0 1 (card_info number).method (des_keys key_set (card_info number).pan 0))
unfolding new_card
issued-new number = record { pan_is = refl; psn_is = refl; dki_is = refl; method_is = refl; keys_are = refl; few = omega arith }

module _ (number : ℕ) (card : CardState) (it : IsIssued number card) where
  pub issued-open : (request : Parts) → IsIssued number (with_open card request)
  unfolding with_open
  issued-open request =
      record { pan_is = it.pan_is; psn_is = it.psn_is; dki_is = it.dki_is; method_is = it.method_is; keys_are = it.keys_are; few = it.few }

  pub issued-answer : (request : Parts) → IsIssued number (with_answer card request)
  unfolding with_answer
  issued-answer request =
      record { pan_is = it.pan_is; psn_is = it.psn_is; dki_is = it.dki_is; method_is = it.method_is; keys_are = it.keys_are; few = omega arith }

  pub issued-command : (command : Command) (next : List ℕ) → card.count < 15 → IsIssued number (with_command card command next)
  unfolding with_command
  issued-command command next more =
      record { pan_is = it.pan_is; psn_is = it.psn_is; dki_is = it.dki_is; method_is = it.method_is; keys_are = it.keys_are; few = omega arith }

  pub issued-failure : IsIssued number (with_failure card)
  unfolding with_failure
  issued-failure =
      record { pan_is = it.pan_is; psn_is = it.psn_is; dki_is = it.dki_is; method_is = it.method_is; keys_are = it.keys_are; few = it.few }

-- ---- bytes

-- all are bytes
pub record AreBytes (bytes : List ℕ) : Type 0 where
  pub each : IsBytes bytes

pub more-bytes : (byte : ℕ) (bytes : List ℕ) → byte < 256 → AreBytes bytes → AreBytes (byte ∷ bytes)
more-bytes byte bytes below more = record { each = each }
  where
    each : IsBytes (byte ∷ bytes)
    each zero = below
    each (suc i) = more.each i

no-bytes : AreBytes []
no-bytes = record { each = λ i. lit< tt }

zeros-bytes : (count : ℕ) → AreBytes (replicate count 0)
zeros-bytes zero = no-bytes
zeros-bytes (suc count) = more-bytes 0 (replicate count 0) (lit< tt) (zeros-bytes count)

bytes-append : (bytes more : List ℕ) → AreBytes bytes → AreBytes more → AreBytes (bytes ++ more)
bytes-append [] more first second = second
bytes-append (byte ∷ bytes) more first second =
    more-bytes byte (bytes ++ more) (first.each 0) (bytes-append bytes more (record { each = λ i. first.each (suc i) }) second)

abbrev AreFields : List (List ℕ) → Type 0
AreFields [] = Unit {0}
AreFields (field ∷ fields) = AreBytes field × AreFields fields

bytes-concat : (fields : List (List ℕ)) → AreFields fields → AreBytes (concat fields)
bytes-concat [] all = no-bytes
bytes-concat (field ∷ fields) all = bytes-append field (concat fields) all.0 (bytes-concat fields all.1)

pub bytes-four : (n : ℕ) → AreBytes (to_be_bytes w32 n)
bytes-four n = record { each = each }
  where
    each : IsBytes (to_be_bytes w32 n)
    each zero = omega arith
    each (suc zero) = omega arith
    each (suc (suc zero)) = omega arith
    each (suc (suc (suc zero))) = omega arith
    each (suc (suc (suc (suc i)))) = lit< tt

bytes-mac : (key text : List ℕ) → AreBytes (mac_of TripleDes key text)
unfolding mac_of retail_mac
bytes-mac key text = record { each = λ i. des_encipher_small _ _ i }

-- so are those of a cryptogram under triple DES keys, eight of them
des-bytes : (keys : CardKeys) (fields : Parts) → keys.suite ≡ TripleDes
    → AreBytes (application_cryptogram keys fields) × (length (application_cryptogram keys fields) ≡ 8)
unfolding application_cryptogram cryptogram_under mac_of
des-bytes keys fields is =
    subst (λ (suite : Suite). AreBytes (mac_of suite (session_ac suite keys.ac.0 fields.atc) (input fields))
    × (length (mac_of suite (session_ac suite keys.ac.0 fields.atc) (input fields)) ≡ 8)) (sym is)
    (bytes-mac _ _, length-retail_mac _ _)

-- ---- the terminal

record IsAmount (amount : List ℕ) : Type 0 where
  decimal : IsTrue (list_all is_bcd amount)
  size : length amount ≡ 6
  bytes : AreBytes amount

low-amount : IsAmount (0x00 ∷ 0x00 ∷ 0x00 ∷ 0x00 ∷ 0x10 ∷ 0x00 ∷ [])
unfolding is_bcd
low-amount = record {
  decimal = refl;
  size = refl;
  bytes = more-bytes 0 _ (lit< tt) (more-bytes 0 _ (lit< tt) (more-bytes 0 _ (lit< tt) (more-bytes 0 _ (lit< tt) (more-bytes 0x10 _ (lit< tt)
      (more-bytes 0 _ (lit< tt) no-bytes)))));
}

high-amount : IsAmount (0x00 ∷ 0x00 ∷ 0x00 ∷ 0x90 ∷ 0x00 ∷ 0x00 ∷ [])
unfolding is_bcd
high-amount = record {
  decimal = refl;
  size = refl;
  bytes = more-bytes 0 _ (lit< tt) (more-bytes 0 _ (lit< tt) (more-bytes 0 _ (lit< tt) (more-bytes 0x90 _ (lit< tt) (more-bytes 0 _ (lit< tt)
      (more-bytes 0 _ (lit< tt) no-bytes)))));
}

amount-either : (even : Bool) → IsAmount (if even then 0x00 ∷ 0x00 ∷ 0x00 ∷ 0x00 ∷ 0x10 ∷ 0x00 ∷ [] else 0x00 ∷ 0x00 ∷ 0x00 ∷ 0x90 ∷ 0x00 ∷ 0x00 ∷ [])
amount-either true = low-amount
amount-either false = high-amount

amount-of : (step : Step) → IsAmount (terminal_of step).amount
amount-of step = amount-either (step.round % 2 == 0)

-- its amount is decimal
pub amount-decimal : (step : Step) → IsTrue (list_all is_bcd (terminal_of step).amount)
amount-decimal step = (amount-of step).decimal

-- ---- the request

pub zero-bcd : IsTrue (is_bcd 0)
unfolding is_bcd
zero-bcd = refl

pub card-pan : (number : ℕ) → IsTrue (is_pan (card_info number).pan)
unfolding pan_from
card-pan number = (pan_from-some _ _ (number_pan number)).0

identifier-byte : (suite : Suite) → core_identifier suite < 256
unfolding core_identifier
identifier-byte TripleDes = lit< tt
identifier-byte Aes = lit< tt

suite-named : (suite : Suite) → (if core_identifier suite == 0xA6 then Aes else TripleDes) ≡ suite
unfolding core_identifier
suite-named TripleDes = refl
suite-named Aes = refl

results-byte : (count : ℕ) (failed : Bool) → count ≤ 15 → 16 * count + (if failed then 8 else 0) < 256
results-byte count true few = omega arith
results-byte count false few = omega arith

module _ (number : ℕ) (card : CardState) (issued : IsIssued number card) (register : card.register ≤ 65535) where
  data-bytes : AreBytes (application_data card)
  unfolding application_data script_results
  data-bytes =
      let dki_is = issued.dki_is in
      let high : card.register / 256 < 256 = omega arith in
      let low : card.register % 256 < 256 = omega arith in
      let behind = more-bytes 0x0F _ (lit< tt) (more-bytes (card.register / 256) _ high (more-bytes (card.register % 256) _ low (zeros-bytes 13))) in
      more-bytes 0x0F _ (lit< tt) (more-bytes (core_identifier card.keys.suite) _ (identifier-byte card.keys.suite) (more-bytes card.dki _ (omega (arith, dki_is)) (more-bytes 0xA0 _ (lit< tt)
      (more-bytes 0 _ (lit< tt) (more-bytes 0 _ (lit< tt) (more-bytes _ _ (results-byte card.count card.failed issued.few) (more-bytes 0 _ (lit< tt)
      (bytes-append (replicate 8 0) _ (zeros-bytes 8) behind))))))))

  -- the fields of a request at a terminal of the run, with a cryptogram
  with-ac : Step → List ℕ → Parts
  with-ac step ac = record (next_fields card (terminal_of step)) { ac = ac }

  fields-bytes : (step : Step) (ac : List ℕ) → AreBytes ac → card.atc < 65535 → AreFields (request_fields (with-ac step ac))
  unfolding with-ac next_fields
  fields-bytes step ac bytes more = (
    subst (λ (pan : List ℕ). AreBytes (pan_bytes pan)) (sym issued.pan_is) (record { each = IsBytes-pan_bytes (card_info number).pan (card-pan number) }),
    (
      subst (λ (psn : ℕ). AreBytes (psn ∷ [])) (sym issued.psn_is) (more-bytes 0 _ (lit< tt) no-bytes),
      (
        more-bytes 0x39 _ (lit< tt) (more-bytes 0x00 _ (lit< tt) no-bytes),
        (
          record { each = IsBytes-two ((card.atc + 1) / 256 % 256) ((card.atc + 1) % 256) (omega arith) (omega arith) },
          (
            more-bytes 0 _ (lit< tt) (more-bytes 0 _ (lit< tt) (more-bytes 0 _ (lit< tt) (more-bytes 0x80 _ (lit< tt) (more-bytes 0 _ (lit< tt) no-bytes)))),
            (
              more-bytes 0x26 _ (lit< tt) (more-bytes 0x01 _ (lit< tt) (more-bytes 0x15 _ (lit< tt) no-bytes)),
              (
                more-bytes 0 _ (lit< tt) no-bytes,
                (
                  (amount-of step).bytes,
                  (
                    zeros-bytes 6,
                    (
                      more-bytes 0x02 _ (lit< tt) (more-bytes 0x76 _ (lit< tt) no-bytes),
                      (
                        more-bytes 0x09 _ (lit< tt) (more-bytes 0x78 _ (lit< tt) no-bytes),
                        (
                          bytes-four ((step.seed + step.index) % 2 ^ 32),
                          (more-bytes 0x80 _ (lit< tt) no-bytes, (data-bytes, (bytes, tt))),
                        ),
                      ),
                    ),
                  ),
                ),
              ),
            ),
          ),
        ),
      ),
    ),
  )

  fields-sizes : (step : Step) (ac : List ℕ) → length ac ≡ 8 → map length (request_fields (with-ac step ac)) ≡ request_sizes
  unfolding with-ac next_fields application_data
  fields-sizes step ac eight =
      let pan : length (pan_bytes card.pan) ≡ 10 =
      ap (λ (pan : List ℕ). length (pan_bytes pan)) issued.pan_is ∙ length-pan_bytes (card_info number).pan (card-pan number) in
      let amount = (amount-of step).size in
      (λ i. pan i ∷ 1 ∷ 2 ∷ 2 ∷ 5 ∷ 3 ∷ 1 ∷ amount i ∷ 6 ∷ 2 ∷ 2 ∷ 4 ∷ 1 ∷ 32 ∷ eight i ∷ [])

  -- a request of the card is one that the program holds, whatever its cryptogram is
  request-held : (step : Step) (ac : List ℕ) → AreBytes ac → length ac ≡ 8 → card.atc < 65535 → IsRequest (with-ac step ac)
  unfolding with-ac next_fields
  request-held step ac bytes eight more = record {
    has_form = is_request-fields card (terminal_of step) ac (subst (λ (psn : ℕ). IsTrue (is_bcd psn)) (sym issued.psn_is) zero-bcd) (amount-decimal step);
    pan = subst (λ (pan : List ℕ). IsTrue (is_pan pan)) (sym issued.pan_is) (card-pan number);
    atc = omega arith;
    sizes = fields-sizes step ac eight;
    bytes = (bytes-concat (request_fields (with-ac step ac)) (fields-bytes step ac bytes more)).each;
  }

  ac-arqc : (step : Step) (ac : List ℕ) → is_arqc (with-ac step ac) ≡ true
  unfolding with-ac next_fields application_data is_arqc cvr
  ac-arqc step ac = refl

  ac-dki : (step : Step) (ac : List ℕ) → dki (with-ac step ac) ≡ card.dki
  unfolding with-ac next_fields application_data dki
  ac-dki step ac = refl

  ac-suite : (step : Step) (ac : List ℕ) → suite_of (with-ac step ac) ≡ TripleDes
  unfolding with-ac next_fields application_data suite_of
  ac-suite step ac = suite-named card.keys.suite ∙ ap (λ (keys : CardKeys). keys.suite) issued.keys_are

  ac-named : (step : Step) (ac : List ℕ) → card_of (with-ac step ac) ≡ name_of (card_info number)
  unfolding with-ac next_fields
  ac-named step ac = λ i. record { pan = issued.pan_is i; psn = issued.psn_is i }

  -- its keys are the card's
  keys-known : (cards : ℕ) → number < cards → (step : Step) (ac : List ℕ) → keys_of (issuer cards) number (with-ac step ac) ≡ Some card.keys
  keys-known cards below step ac =
      ap₂ (λ (suite : Suite) (index : ℕ). keys_from suite (key_of index (issuer cards).keys) (slice_get (issuer cards).cards number))
      (ac-suite step ac) (ac-dki step ac ∙ issued.dki_is)
      ∙ ap (λ (found : Option CardInfo). keys_from TripleDes (Some key_set) found) (card-at cards number below)
      ∙ ap Some (sym issued.keys_are)

  -- so its cryptogram alone decides
  ac-checked : (cards : ℕ) → IsIssuer (issuer cards) → number < cards → (step : Step) (ac : List ℕ)
      → checked (issuer cards) (with-ac step ac) ≡ under_keys (Some card.keys) (with-ac step ac)
  ac-checked cards valid below step ac =
      let refused : Result Asked Refusal = Err NotArqc in
      ap (λ (found : Option ℕ). of_card (issuer cards) found (with-ac step ac))
      (ap (λ name. number_of name (issuer cards).cards) (ac-named step ac) ∙ number-known cards number valid below)
      ∙ ap (λ (arqc : Bool). if arqc then under_keys (keys_of (issuer cards) number (with-ac step ac)) (with-ac step ac) else refused) (ac-arqc step ac)
      ∙ ap (λ (keys : Option CardKeys). under_keys keys (with-ac step ac)) (keys-known cards below step ac)

  -- the cryptogram doesn't count itself
  ac-alone : (step : Step) (ac other : List ℕ) → application_cryptogram card.keys (with-ac step ac)
      ≡ application_cryptogram card.keys (with-ac step other)
  unfolding with-ac application_cryptogram cryptogram_under input
  ac-alone step ac other = refl

  own-ac : Step → List ℕ
  own-ac step = application_cryptogram card.keys (next_fields card (terminal_of step))

  own-request : (step : Step) → next_request card (terminal_of step) ≡ with-ac step (own-ac step)
  unfolding with-ac own-ac next_request
  own-request step = refl

  own-right : (step : Step) (ac : List ℕ) → application_cryptogram card.keys (with-ac step ac) ≡ own-ac step
  unfolding with-ac own-ac application_cryptogram cryptogram_under input
  own-right step ac = refl

  own-bytes : (step : Step) → AreBytes (own-ac step) × (length (own-ac step) ≡ 8)
  unfolding own-ac
  own-bytes step = des-bytes card.keys (next_fields card (terminal_of step)) (ap (λ (keys : CardKeys). keys.suite) issued.keys_are)

-- a line with a request that the program holds says what is checked of it
pub line-read : (setup : Setup) (request : Parts) → IsRequest request → reading setup (request_line request) ≡ checked setup request
line-read setup request held =
    ap (said_by setup) (line_of-request_line request held) ∙ ap (checked_data setup) (request_of-chip_data request held)

-- ---- what is sure of a request that was made

-- the first bytes of eight, with the last bit of the last one changed
abbrev changed : List ℕ → List ℕ
changed ac = slice_set ac 7 (bit_xor (slice_index ac 7) 0x01)

bytes-set : (bytes : List ℕ) (place byte : ℕ) → IsBytes bytes → byte < 256 → IsBytes (slice_set bytes place byte)
bytes-set [] place byte all below i = all i
bytes-set (first ∷ bytes) zero byte all below zero = below
bytes-set (first ∷ bytes) zero byte all below (suc i) = all (suc i)
bytes-set (first ∷ bytes) (suc place) byte all below zero = all 0
bytes-set (first ∷ bytes) (suc place) byte all below (suc i) = bytes-set bytes place byte (λ k. all (suc k)) below i

changed-apart : (ac : List ℕ) → length ac ≡ 8 → changed ac ≢ ac
changed-apart ac eight same =
    changed-bit (slice_index ac 7)
    (sym (get_or-set_same ac 7 (bit_xor (slice_index ac 7) 0x01) 0 (omega (arith, eight))) ∙ ap (λ (bytes : List ℕ). slice_index bytes 7) same)

either-refused : (right : Bool) (request : Parts) → right ≡ false
    → let passed : Result Asked Refusal = Ok (Decide request) in (if right then passed else Err BadCryptogram) ≡ Err BadCryptogram
either-refused right request wrong = ap (λ (right : Bool). let passed : Result Asked Refusal = Ok
    (Decide request) in if right then passed else Err BadCryptogram) wrong

either-passed : (right : Bool) (request : Parts) → right ≡ true
    → let refused : Result Asked Refusal = Err BadCryptogram in (if right then Ok (Decide request) else refused) ≡ Ok (Decide request)
either-passed right request is = ap (λ (right : Bool). let refused : Result Asked Refusal = Err BadCryptogram in if right then Ok
    (Decide request) else refused) is

module _ (cards number : ℕ) (card : CardState) (step : Step) (valid : IsIssuer (issuer cards)) (below : number < cards) (issued : IsIssued number card)
    (register : card.register ≤ 65535) (more : card.atc < 65535) where
  abbrev ac : List ℕ
  ac = own-ac number card issued register step

  abbrev made-with : List ℕ → Parts
  made-with ac = with-ac number card issued register step ac

  wrong-cryptogram : (other : List ℕ) → other ≢ ac → is_right card.keys (made-with other) ≡ false
  unfolding with-ac
  wrong-cryptogram other apart =
      elim (cases_Bool (is_right card.keys (made-with other))) [
        | inl right ↦ absurd (apart ((bytes_eq-Decides _ _).0 right ∙ own-right number card issued register step other))
        | inr wrong ↦ wrong
      ]

  right-cryptogram : is_right card.keys (made-with ac) ≡ true
  unfolding with-ac
  right-cryptogram = (bytes_eq-Decides _ _).1 (sym (own-right number card issued register step ac))

  spoiled-is : spoiled (made-with ac) ≡ made-with (changed ac)
  unfolding with-ac
  spoiled-is = refl

  with-right : IsRight cards number (made-with ac)
  with-right =
      let bytes = own-bytes number card issued register step in
      let held = request-held number card issued register step ac bytes.0 bytes.1 more in
      let bad = changed ac in
      let small : bit_xor (slice_index ac 7) 0x01 < 256 = xor_lt 8 (slice_index ac 7) 1 (bytes.0.each 7) (lit< tt) in
      let bad_held = request-held number card issued register step bad (record { each = bytes-set ac 7 _ bytes.0.each small })
      (length-set ac 7 _ ∙ bytes.1) more in
      let checks : checked (issuer cards) (made-with ac) ≡ Ok (Decide (made-with ac)) =
      ac-checked number card issued register cards valid below step ac ∙ either-passed _ (made-with ac) right-cryptogram in
      let fails : checked (issuer cards) (made-with bad) ≡ Err BadCryptogram =
      ac-checked number card issued register cards valid below step bad
      ∙ either-refused _ (made-with bad) (wrong-cryptogram bad (changed-apart ac bytes.1)) in
      record {
        below = below;
        its = ac-named number card issued register step ac;
        held = held;
        checks = checks;
        keys_are = keys-known number card issued register cards below step ac ∙ ap Some issued.keys_are;
        read = line-read (issuer cards) (made-with ac) held ∙ checks;
        spoils = ap (λ (request : Parts). reading (issuer cards) (request_line request)) spoiled-is
            ∙ line-read (issuer cards) (made-with bad) bad_held ∙ fails;
      }

  -- so it is of the request that the card makes next
  pub right-next : IsRight cards number (next_request card (terminal_of step))
  right-next = subst (IsRight cards number) (sym (own-request number card issued register step)) with-right
