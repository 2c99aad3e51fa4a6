-- The issuer's own decision is a reply that it makes for its response code: what a run records, a later run replays.
use Rattle.std.proofs.Common.{◌≡◌, ◌≤◌, ℕ, true, List, [], ◌∷◌, ◌++◌, length, get_or, ◌==◌, refl, sym, ap, subst, ◌∙◌, arith}
use Rattle.std.proofs.Common.{Option, None, Some}
use Rattle.std.proofs.lemmas.Bool.{and_parts, leb-true}
use Rattle.std.specs.Option.{option_map_or}
use Rattle.issuer_base.specs.declared.answer.Method.{Method}
use Rattle.issuer_base.specs.declared.answer.Method.TheVariants.{One, Two}
use Rattle.issuer_base.specs.declared.answer.Reply.{Reply}
use Rattle.issuer_base.specs.declared.entry.Entry.{Entry}
use Rattle.issuer_base.specs.declared.entry.Entry.TheVariants.{Decided, Queued, Status}
use Rattle.issuer_base.specs.declared.request.Request.{Request}
use Rattle.tlv_objects.specs.Writing.{object_text}
use Rattle.key_derive.specs.SessionKey.{session_of}
use Rattle.key_derive.specs.SuiteKey.{SuiteKey}
use Rattle.key_derive.specs.declared.card.CardKeys.{CardKeys}
use Rattle.line_checks.specs.Cryptogram.{input, cryptogram_under, application_cryptogram}
use Rattle.row_core.specs.Arpc.{method2, value91}
use Rattle.row_core.proofs.Lengths.{length-method2-by}
use Rattle.decision_table.specs.declared.row.TableRow.{TableRow}
use Rattle.decision_table.specs.Fitting.{decision}
use Rattle.decision_table.specs.Tables.{tells_approval}
use Rattle.decision_table.proofs.DecisionLemmas.{decision-tells, tells-update}
use Rattle.card_history.specs.LegalRecords.{IsLegal}
use Rattle.card_history.specs.Records.{card_of, status_of}
use Rattle.card_history.specs.Scripts.{Scripts, scripts_of, batch_of, first_of}
use Rattle.issuer_setup.specs.declared.card.CardInfo.{CardInfo}
use Rattle.issuer_setup.specs.IssuerSetup.{Setup, keys_of}
use Rattle.issuer_setup.proofs.CardListLemmas.{number_of-found}
use Rattle.row_core.specs.Accepting.{IsMade, told_update, says_approval}
use Rattle.row_core.specs.Replying.{script_bytes, reply_bytes, reply_by, reply_by_row, reply_of_card, no_reply}
use Rattle.journal_rec.specs.Record.{IsRecord, IsRequest}
use Rattle.shard_book.specs.Grounds.{IsMadeBy, grounds_now, grounds_of}

-- ---- the bytes of a reply

record IsTwo (xs : List ℕ) : Type 0 where
  a : ℕ
  b : ℕ
  is : xs ≡ a ∷ b ∷ []

record IsFour (xs : List ℕ) : Type 0 where
  a : ℕ
  b : ℕ
  c : ℕ
  d : ℕ
  is : xs ≡ a ∷ b ∷ c ∷ d ∷ []

two-of : (xs : List ℕ) → length xs ≡ 2 → IsTwo xs
two-of [] long = absurd (omega (arith, long))
two-of (a ∷ []) long = absurd (omega (arith, long))
two-of (a ∷ b ∷ []) long = record { a = a; b = b; is = refl }
two-of (a ∷ b ∷ c ∷ xs) long = absurd (omega (arith, long))

four-of : (xs : List ℕ) → length xs ≡ 4 → IsFour xs
four-of [] long = absurd (omega (arith, long))
four-of (a ∷ []) long = absurd (omega (arith, long))
four-of (a ∷ b ∷ []) long = absurd (omega (arith, long))
four-of (a ∷ b ∷ c ∷ []) long = absurd (omega (arith, long))
four-of (a ∷ b ∷ c ∷ d ∷ []) long = record { a = a; b = b; c = c; d = d; is = refl }
four-of (a ∷ b ∷ c ∷ d ∷ e ∷ xs) long = absurd (omega (arith, long))

told-of : (arc mac csu scripts : List ℕ) → List ℕ
told-of arc mac csu scripts = told_update ((object_text 0x8A arc ++ object_text 0x91 (mac ++ csu)) ++ scripts)

told-fours : (a b m0 m1 m2 m3 c0 c1 c2 c3 : ℕ) (scripts : List ℕ)
    → told-of (a ∷ b ∷ []) (m0 ∷ m1 ∷ m2 ∷ m3 ∷ []) (c0 ∷ c1 ∷ c2 ∷ c3 ∷ []) scripts ≡ c0 ∷ c1 ∷ c2 ∷ c3 ∷ []
unfolding told-of
told-fours a b m0 m1 m2 m3 c0 c1 c2 c3 scripts = refl

-- by method 2 the reply has the card status update
told-update : (arc mac csu scripts : List ℕ) → length arc ≡ 2 → length mac ≡ 4 → length csu ≡ 4 → told-of arc mac csu scripts ≡ csu
told-update arc mac csu scripts arc_long mac_long csu_long =
    let two = two-of arc arc_long in
    let first = four-of mac mac_long in
    let last = four-of csu csu_long in
    ap (λ arc. told-of arc mac csu scripts) two.is
    ∙ ap (λ mac. told-of (two.a ∷ two.b ∷ []) mac csu scripts) first.is
    ∙ ap (λ csu. told-of (two.a ∷ two.b ∷ []) (first.a ∷ first.b ∷ first.c ∷ first.d ∷ []) csu scripts) last.is
    ∙ told-fours two.a two.b first.a first.b first.c first.d last.a last.b last.c last.d scripts
    ∙ sym last.is

-- under keys by which the request has a cryptogram of eight bytes
module _ (keys : CardKeys) (scripts : Scripts) (request : Request) (row : TableRow) (arc_long : length row.arc ≡ 2)
    (ac_long : length (application_cryptogram keys request) ≡ 8) (told : tells_approval row ≡ true) where
  bytes-by : Method → List ℕ
  bytes-by method = reply_bytes method keys scripts request row.arc row.csu

  update-told : told_update (bytes-by Two) ≡ row.csu
  unfolding bytes-by value91 told-of application_cryptogram cryptogram_under
  update-told =
      let session : SuiteKey = session_of keys request.atc in
      told-update row.arc (method2 session.suite session.key request.ac row.csu) row.csu
      (script_bytes keys.suite keys.smi.0 request.ac (first_of request scripts) (batch_of request scripts)) arc_long
      (length-method2-by session.suite session.key (input request) request.ac row.csu ac_long) (tells-update row told)

  approval-told : says_approval row.csu ≡ row.approve
  unfolding tells_approval
  approval-told = let said = (and_parts (length row.csu == 4) _ told).1 in grind (arith, said)

  -- the reply by a row is made for its response code
  pub row-made : (method : Method) → IsMade method keys scripts request (reply_by_row method keys scripts request row)
  unfolding bytes-by value91
  row-made One = record { bytes_are = refl; agrees = λ two. let no : One ≡ Two = two in absurd (cc) }
  row-made Two = record {
    bytes_are = ap (λ csu. reply_bytes Two keys scripts request row.arc csu) (sym update-told);
    agrees = λ two. ap says_approval update-told ∙ approval-told;
  }

-- ---- the issuer's decision

-- the reply of the row that decides is made for its response code
pub decided-made : (issuer : Setup) (card : CardInfo) (keys : CardKeys) (before : List Entry) (request : Request) (reply : Reply) (found : Option TableRow)
    → length (application_cryptogram keys request) ≡ 8
    → decision issuer.table (status_of (card_of request) before) request ≡ found → 1 ≤ length reply.bytes.items → length reply.arc ≡ 2
    → reply ≡ option_map_or (reply_by_row card.method keys (scripts_of (card_of request) before) request) found no_reply
    → IsMade card.method keys (scripts_of (card_of request) before) request reply
decided-made issuer card keys before request reply None ac_long is some code made =
    let empty : length reply.bytes.items ≡ 0 = ap (λ (reply : Reply). length reply.bytes.items) made in
    absurd (omega (arith, empty, some))
decided-made issuer card keys before request reply (Some row) ac_long is some code made =
    let tells = decision-tells issuer.table (status_of (card_of request) before) request row is in
    let arc : length row.arc ≡ 2 = ap (λ (reply : Reply). length reply.arc) (sym made) ∙ code in
    subst (IsMade card.method keys (scripts_of (card_of request) before) request) (sym made)
    (row-made keys (scripts_of (card_of request) before) request row arc ac_long tells card.method)

-- a request's cryptogram has eight bytes
cryptogram-long : (request : Request) → IsRequest request → length request.ac ≡ 8
cryptogram-long request valid = ap (λ sizes. get_or sizes 14 0) valid.sizes

own-made : (issuer : Setup) (shard : ℕ) (before : List Entry) (request : Request) (reply : Reply) → IsRecord (Decided request reply)
    → IsLegal (grounds_now issuer) shard before (Decided request reply) → IsMadeBy issuer before request reply
own-made issuer shard before request reply valid legal =
    let signed = legal.has_valid_ac in
    let keyed = signed.its in
    let whole : length (application_cryptogram keyed.keys request) ≡ 8 = ap length (sym signed.ac_is) ∙ cryptogram-long request valid.held.0 in
    let number_is = keyed.number_is in
    let known = number_of-found (card_of request) issuer.cards keyed.number number_is in
    let made = legal.is_the_issuers_reply
    ∙ ap (λ (number : Option ℕ). reply_of_card issuer number before request) number_is
    ∙ ap (λ (card : Option CardInfo). reply_by card (keys_of issuer keyed.number request) issuer.table before request) known.1
    ∙ ap (λ (keys : Option CardKeys). reply_by (Some known.0) keys issuer.table before request) keyed.keys_are in
    record {
      number = keyed.number;
      card = known.0;
      keys = keyed.keys;
      number_is = number_is;
      card_is = known.1;
      keys_are = keyed.keys_are;
      made =
          decided-made issuer known.0 keyed.keys before request reply (decision issuer.table (status_of (card_of request) before) request) whole refl
          (leb-true 1 (length reply.bytes.items) valid.may_stand) valid.held.1.arc_size made;
    }

-- a valid successor in this run is one when it is loaded again
pub legal-then : (issuer : Setup) (shard : ℕ) (before : List Entry) (entry : Entry) → IsRecord entry
    → IsLegal (grounds_now issuer) shard before entry → IsLegal (grounds_of issuer) shard before entry
legal-then issuer shard before (Decided request reply) valid legal = record {
  of_a_card = legal.of_a_card;
  is_for_a_cryptogram_request = legal.is_for_a_cryptogram_request;
  has_its_keys = legal.has_its_keys;
  has_valid_ac = legal.has_valid_ac;
  unrecorded = legal.unrecorded;
  in_window = legal.in_window;
  is_the_issuers_reply = own-made issuer shard before request reply valid legal;
}
legal-then issuer shard before (Queued pan psn command) valid legal =
    record { of_a_card = legal.of_a_card; form = legal.form; room = legal.room }
legal-then issuer shard before (Status pan psn status) valid legal = record { of_a_card = legal.of_a_card; within = legal.within }
