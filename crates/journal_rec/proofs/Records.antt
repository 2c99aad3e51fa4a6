-- A record is read exactly where the line is its own.
use Rattle.std.proofs.Common.{◌≡◌, ℕ, ◌+◌, ◌-◌, ◌<◌, ◌≤◌, ◌==◌, Bool, true, false, if◌then◌else◌, leb, le-leb, eq-eqb, List, [], ◌∷◌, ◌++◌}
use Rattle.std.proofs.Common.{length, Some, None, codes, IsTrue, option_map, option_and_then, refl, sym, ap, ap₂, subst, ◌∙◌, append_assoc}
use Rattle.std.proofs.Common.{Option, arith}
use Rattle.std.proofs.lemmas.Bool.{and_from, and_parts, cond-true, eqb-true, leb-true}
use Rattle.std.proofs.lemmas.Fmt.{decimal_digit}
use Rattle.std.proofs.lemmas.Option.{cond_some, same_Some}
use Rattle.std.specs.Char.{is_ascii_digit}
use Rattle.std.specs.Fmt.{decimal}
use Rattle.std.specs.List.{join_with_byte}
use Rattle.hex.specs.Hex.{IsBytes, encode_lower}
use Rattle.issuer_base.specs.CardNumber.{is_pan}
use Rattle.issuer_base.specs.ChipData.{is_bcd}
use Rattle.issuer_base.specs.ScriptCommand.{command_bytes, is_command}
use Rattle.issuer_base.specs.declared.limits.TheConstants.{MAX_BODY_BYTES, MAX_REPLY_BYTES}
use Rattle.issuer_base.specs.declared.request.Parts.{Parts}
use Rattle.issuer_base.specs.declared.command.Command.{Command}
use Rattle.issuer_base.specs.declared.answer.Reply.{Reply}
use Rattle.issuer_base.specs.declared.entry.Entry.{Entry}
use Rattle.issuer_base.specs.declared.entry.Entry.TheVariants.{Decided, Queued, Status}
use Rattle.script_commands.specs.Commands.{command_of, AreBytesOf}
use Rattle.script_commands.proofs.Forms.{command_of-Some, command_of-AreBytesOf}
use Rattle.journal_rec.specs.declared.limits.TheConstants.{COMMAND_BYTES}
use Rattle.journal_rec.specs.RecordText.{pan_bytes, request_bytes, space, words_of}
use Rattle.journal_rec.specs.Record.{IsCommand, IsRecord, IsReply, IsRequest}
use Rattle.journal_rec.specs.Reading.{Reader, ◌>>=◌, ◌>>◌, approval_at, bytes_at, card_at, decided_at, end_at, entry_at, given}
use Rattle.journal_rec.specs.Reading.{mark_at, next_at, pan_at, psn_at, queued_at, reply_at, request_at, rest_at, status_at}
use Rattle.journal_rec.proofs.Exact.{Exact, anything, nothing, exact_behind, exact_map, exact_same, exact_then, then_some, map_some}
use Rattle.journal_rec.proofs.Parts.{exact_request}
use Rattle.journal_rec.proofs.Words.{IsField, exact_bytes, exact_end, exact_mark, exact_next, exact_pan, exact_psn, exact_rest}

-- ---- a reply

abbrev pub approval_text : Bool → List ℕ
approval_text approve = if approve then codes "1" else codes "0"

abbrev approval_digit : Bool → ℕ
approval_digit approve = if approve then 49 else 48

abbrev approval_of : ℕ → Option Bool
approval_of digit = if digit == 49 then Some true else if digit == 48 then Some false else None

approval_again : (approve : Bool) → Unit {0} → Unit {0} × (approval_of (approval_digit approve) ≡ Some approve)
approval_again true valid = (tt, refl)
approval_again false valid = (tt, refl)

approval_takes : (digit : ℕ) (approve one zero : Bool) → (digit == 49) ≡ one → (digit == 48) ≡ zero
    → (if one then Some true else if zero then Some false else None) ≡ Some approve → approval_digit approve ≡ digit
approval_takes digit approve true zero is_one is_zero made = ap approval_digit (sym (same_Some _ _ made)) ∙ sym (eqb-true digit 49 is_one)
approval_takes digit approve false true is_one is_zero made = ap approval_digit (sym (same_Some _ _ made)) ∙ sym (eqb-true digit 48 is_zero)
approval_takes digit approve false false is_one is_zero made = absurd cc

approval_text-digit : (approve : Bool) → approval_digit approve ∷ [] ≡ approval_text approve
approval_text-digit true = refl
approval_text-digit false = refl

exact_approval : Exact approval_at (λ approve. Unit {0}) approval_text anything
unfolding approval_at
exact_approval =
    let by_digit : Exact approval_at (λ approve. Unit {0}) (λ approve. approval_digit approve ∷ []) anything =
    exact_map next_at approval_of _ _ anything (λ approve. Unit {0}) approval_digit exact_next approval_again
    (λ digit approve valid made. (tt, approval_takes digit approve (digit == 49) (digit == 48) refl refl made)) in
    exact_same _ _ _ _ approval_text anything by_digit (λ approve valid. tt) (λ approve valid. tt)
    (λ approve valid. approval_text-digit approve)

abbrev pub reply_text : Reply → List ℕ
reply_text reply = encode_lower reply.arc ++ (space ∷ (approval_text reply.approve ++ (space ∷ encode_lower reply.bytes.items)))

-- the parts of a reply as they are read
abbrev IsReadReply : Reply → Type 0
IsReadReply reply =
    Unit {0}
    × (IsField 2 reply.arc
    × (Unit {0}
    × ((1 ≤ length reply.bytes.items)
    × ((length reply.bytes.items ≤ MAX_REPLY_BYTES) × IsBytes reply.bytes.items))))

same_reply : (reply : Reply) (arc : List ℕ) (approve : Bool) → reply.arc ≡ arc → reply.approve ≡ approve
    → record { arc = arc; approve = approve; bytes = record { items = reply.bytes.items } } ≡ reply
same_reply reply arc approve is_arc is_approve = rw (← is_arc, ← is_approve) refl

exact_reply : Exact reply_at IsReadReply reply_text nothing
unfolding reply_at
exact_reply =
    exact_then (bytes_at 2) _ _ _ (λ reply. Unit {0}) _ _ nothing (λ reply. reply.arc) (exact_bytes 2) (λ arc.
    exact_behind _ _ _ _ _ _ (exact_mark space) (
    exact_then approval_at _ _ _ _ _ _ nothing (λ reply. reply.approve) exact_approval (λ approve.
    exact_behind _ _ _ _ _ _ (exact_mark space) (
    exact_map (rest_at MAX_REPLY_BYTES) _ _ _ nothing _ (λ reply. reply.bytes.items) (exact_rest MAX_REPLY_BYTES)
    (λ reply holds. (holds.1.1, cond-true _ _ _ (le-leb _ _ holds.1.0) ∙ ap Some (same_reply reply arc approve holds.0.0.1 holds.0.1)))
    (λ bytes reply valid made.
    let tested = cond_some _ _ _ made in
    let back = sym tested.1 in
    let is_bytes : reply.bytes.items ≡ bytes = ap (λ (r : Reply). r.bytes.items) back in (
      (
        ((tt, ap (λ (r : Reply). r.arc) back), ap (λ (r : Reply). r.approve) back),
        subst (λ (bs : List ℕ). (1 ≤ length bs) × ((length bs ≤ MAX_REPLY_BYTES) × IsBytes bs)) (sym is_bytes) (leb-true _ _ tested.0, valid),
      ),
      is_bytes,
    ))))))

-- ---- a card

abbrev pub card_text : List ℕ × ℕ → List ℕ
card_text card = space ∷ (encode_lower (pan_bytes card.0) ++ (space ∷ (encode_lower (card.1 ∷ []) ++ (space ∷ []))))

abbrev IsReadCard : List ℕ × ℕ → Type 0
IsReadCard card = Unit {0} × (IsTrue (is_pan card.0) × (((card.1 < 256) × IsTrue (is_bcd card.1)) × Unit {0}))

exact_card : Exact card_at IsReadCard card_text anything
unfolding card_at
exact_card =
    exact_behind _ _ _ _ _ _ (exact_mark space) (
    exact_then pan_at _ _ _ (λ card. Unit {0}) _ _ anything (λ card. card.0) exact_pan (λ pan.
    exact_behind _ _ _ _ _ _ (exact_mark space) (
    exact_then psn_at _ _ _ _ _ _ anything (λ card. card.1) exact_psn (λ psn.
    exact_map (mark_at space) _ _ _ anything _ (λ card. tt) (exact_mark space)
    (λ card holds. (tt, ap₂ (λ (p : List ℕ) (n : ℕ). Some (p, n)) (sym holds.0.0.1) (sym holds.0.1)))
    (λ unit card valid made.
    let back = sym (same_Some _ _ made) in
    ((((tt, ap (λ (c : List ℕ × ℕ). c.0) back), ap (λ (c : List ℕ × ℕ). c.1) back), tt), refl))))))

-- ---- the parts of an entry, and something where it has none

no_parts : Parts
no_parts = record {
  pan = [];
  psn = 0;
  aip = [];
  atc = 0;
  tvr = [];
  date = [];
  kind = 0;
  amount = [];
  other = [];
  country = [];
  currency = [];
  un = [];
  cid = 0;
  iad = [];
  ac = [];
}

abbrev request_part : Entry → Parts
request_part (Decided request reply) = request
request_part _ = no_parts

abbrev reply_part : Entry → Reply
reply_part (Decided request reply) = reply
reply_part _ = record { arc = []; approve = false; bytes = record { items = [] } }

abbrev card_part : Entry → List ℕ × ℕ
card_part (Queued pan psn command) = (pan, psn)
card_part (Status pan psn status) = (pan, psn)
card_part _ = ([], 0)

abbrev command_part : Entry → Command
command_part (Queued pan psn command) = command
command_part _ = record { cla = 0; ins = 0; p1 = 0; p2 = 0; body = record { items = [] } }

abbrev status_part : Entry → ℕ
status_part (Status pan psn status) = status
status_part _ = 0

abbrev letter_of : Entry → ℕ
letter_of (Decided request reply) = 100
letter_of (Queued pan psn command) = 113
letter_of (Status pan psn status) = 115

-- ---- a decided request

abbrev decided_text : Entry → List ℕ
decided_text entry = space ∷ (encode_lower (request_bytes (request_part entry)) ++ (space ∷ reply_text (reply_part entry)))

abbrev IsReadDecided : Entry → Type 0
IsReadDecided entry = Unit {0} × (IsRequest (request_part entry) × ((letter_of entry ≡ 100) × IsReadReply (reply_part entry)))

decided_again : (entry : Entry) (request : Parts) → request_part entry ≡ request → letter_of entry ≡ 100 → Decided request (reply_part entry) ≡ entry
decided_again (Decided request reply) other same letter = ap (λ (r : Parts). Decided r reply) (sym same)
decided_again (Queued pan psn command) other same letter = absurd (omega arith)
decided_again (Status pan psn status) other same letter = absurd (omega arith)

exact_decided : Exact decided_at IsReadDecided decided_text nothing
unfolding decided_at
exact_decided =
    exact_behind _ _ _ _ _ _ (exact_mark space) (
    exact_then request_at _ _ _ (λ entry. Unit {0}) _ _ nothing request_part exact_request (λ request.
    exact_behind _ _ _ _ _ _ (exact_mark space) (
    exact_map reply_at (λ reply. Some (Decided request reply)) _ _ nothing _ reply_part exact_reply
    (λ entry holds. (holds.1.1, ap Some (decided_again entry request holds.0.1 holds.1.0)))
    (λ reply entry valid made.
    let back = sym (same_Some _ _ made) in
    let is_reply : reply_part entry ≡ reply = ap reply_part back in
    (((tt, ap request_part back), (ap letter_of back, subst IsReadReply (sym is_reply) valid)), is_reply)))))

-- ---- a queued command

abbrev queued_text : Entry → List ℕ
queued_text entry = card_text (card_part entry) ++ encode_lower (command_bytes (command_part entry))

abbrev IsReadCommand : Command → Type 0
IsReadCommand command = IsTrue (is_command command) × IsCommand command

abbrev IsReadQueued : Entry → Type 0
IsReadQueued entry = Unit {0} × (IsReadCard (card_part entry) × ((letter_of entry ≡ 113) × IsReadCommand (command_part entry)))

queued_again : (entry : Entry) (card : List ℕ × ℕ) → card_part entry ≡ card → letter_of entry ≡ 113 → Queued card.0 card.1 (command_part entry) ≡ entry
queued_again (Decided request reply) card same letter = absurd (omega arith)
queued_again (Queued pan psn command) card same letter = ap (λ (c : List ℕ × ℕ). Queued c.0 c.1 command) (sym same)
queued_again (Status pan psn status) card same letter = absurd (omega arith)

exact_queued : Exact queued_at IsReadQueued queued_text nothing
unfolding queued_at
exact_queued =
    exact_then card_at _ _ _ (λ entry. Unit {0}) _ _ nothing card_part exact_card (λ card.
    exact_map (rest_at COMMAND_BYTES) _ _ _ nothing _ (λ entry. command_bytes (command_part entry)) (exact_rest COMMAND_BYTES)
    (λ entry holds.
    let command : Command = command_part entry in
    let few : length command.body.items ≤ MAX_BODY_BYTES = holds.1.1.1.size in
    let is : AreBytesOf (command_bytes command) command = record { form = holds.1.1.0; room = few; spelled = refl } in (
      (omega arith, holds.1.1.1.bytes),
      ap (option_map (λ (c : Command). Queued card.0 card.1 c)) (command_of-AreBytesOf (command_bytes command) command is)
          ∙ ap Some (queued_again entry card holds.0.1 holds.1.0),
    ))
    (λ bytes entry valid made.
    let read = map_some (command_of bytes) (λ (c : Command). Queued card.0 card.1 c) entry made in
    let back = sym read.2 in
    let is_command_part : command_part entry ≡ read.0 = ap command_part back in
    let taken : AreBytesOf bytes read.0 = command_of-Some bytes read.0 read.1 in
    let held : IsCommand read.0 = record { size = taken.room; bytes = subst IsBytes taken.spelled valid.1 } in (
      ((tt, ap card_part back), (ap letter_of back, subst IsReadCommand (sym is_command_part) (taken.form, held))),
      ap command_bytes is_command_part ∙ sym taken.spelled,
    )))

-- ---- a status

abbrev status_text : Entry → List ℕ
status_text entry = card_text (card_part entry) ++ ((48 + status_part entry) ∷ [])

abbrev IsReadStatus : Entry → Type 0
IsReadStatus entry = Unit {0} × (IsReadCard (card_part entry) × ((letter_of entry ≡ 115) × (status_part entry ≤ 9)))

status_again : (entry : Entry) (card : List ℕ × ℕ) (status : ℕ) → card_part entry ≡ card → status_part entry ≡ status
    → letter_of entry ≡ 115 → Status card.0 card.1 status ≡ entry
status_again (Decided request reply) card status same is_status letter = absurd (omega arith)
status_again (Queued pan psn command) card status same is_status letter = absurd (omega arith)
status_again (Status pan psn status) card other same is_status letter = ap₂ (λ (c : List ℕ × ℕ) (s : ℕ). Status c.0 c.1 s) (sym same) (sym is_status)

is_status_digit : (status : ℕ) → status ≤ 9 → is_ascii_digit (48 + status) ≡ true
is_status_digit status small = and_from _ _ (le-leb 48 (48 + status) (omega arith)) (le-leb (48 + status) 57 (omega arith))

exact_status : Exact status_at IsReadStatus status_text anything
unfolding status_at
exact_status =
    exact_then card_at _ _ _ (λ entry. Unit {0}) _ _ anything card_part exact_card (λ card.
    exact_map next_at _ _ _ anything _ (λ entry. 48 + status_part entry) exact_next
    (λ entry holds.
    let small : status_part entry ≤ 9 = holds.1.1 in
    let back = status_again entry card (48 + status_part entry - 48) holds.0.1 (omega arith) holds.1.0 in
    (tt, cond-true _ _ _ (is_status_digit (status_part entry) small) ∙ ap Some back))
    (λ digit entry valid made.
    let tested = cond_some _ _ _ made in
    let range = and_parts _ _ tested.0 in
    let low : 48 ≤ digit = leb-true 48 digit range.0 in
    let high : digit ≤ 57 = leb-true digit 57 range.1 in
    let back = sym tested.1 in
    let is_status : status_part entry ≡ digit - 48 = ap status_part back in
    (((tt, ap card_part back), (ap letter_of back, omega (arith, is_status))), omega (arith, is_status))))

-- ---- a record

-- nothing follows what was read
exact_last : {X : Type 0} (read : Reader X) (valid : X → Type 0) (text : X → List ℕ) (follows : List ℕ → Type 0)
    → Exact read valid text follows → follows [] → Exact (read >>= λ x. end_at >> given (Some x)) valid text nothing
exact_last {X} read valid text follows exact may_end = record {
  again = λ x rest holds behind.
      let front = exact.again x [] holds may_end in
      let last : (end_at >> given (Some x)) [] ≡ Some (x, []) =
      ap (option_and_then (λ (found : Unit {0} × List ℕ). given (Some x) found.1)) (exact_end.again tt [] tt refl) in
      let whole : (read >>= λ x. end_at >> given (Some x)) (text x ++ []) ≡ Some (x, []) =
      ap (option_and_then (λ (found : X × List ℕ). (end_at >> given (Some found.0)) found.1)) front ∙ last in
      rw behind whole;
  takes = λ left x rest found.
      let step = then_some (read left) (λ (found : X × List ℕ). (end_at >> given (Some found.0)) found.1) (x, rest) found in
      let last = then_some (end_at step.0.1) (λ (found : Unit {0} × List ℕ). given (Some step.0.0) found.1) (x, rest) step.2 in
      let front = exact.takes left step.0.0 step.0.1 step.1 in
      let back = exact_end.takes step.0.1 tt last.0.1 last.1 in
      let both = same_Some _ _ last.2 in
      let same : step.0.0 ≡ x = ap (λ (p : X × List ℕ). p.0) both in
      let behind : last.0.1 ≡ rest = ap (λ (p : X × List ℕ). p.1) both in (
        subst valid same front.0,
        front.1 ∙ ap₂ (λ (a : X) (r : List ℕ). text a ++ r) same (back.1 ∙ behind),
        sym behind ∙ back.2,
      );
}

-- what follows the letter of a record
abbrev behind_text : Entry → List ℕ
behind_text (Decided request reply) = decided_text (Decided request reply)
behind_text (Queued pan psn command) = queued_text (Queued pan psn command)
behind_text (Status pan psn status) = status_text (Status pan psn status)

abbrev finished : Reader Entry → Reader Entry
finished read = read >>= λ entry. end_at >> given (Some entry)

-- a record with this letter
abbrev IsLettered : ℕ → Entry → Type 0
IsLettered letter entry = (Unit {0} × (letter_of entry ≡ letter)) × IsRecord entry

module _ (letter : ℕ) where
  decided_to : letter ≡ 100 → (entry : Entry) → IsLettered letter entry → IsReadDecided entry
  decided_to is (Decided request reply) (known, is_one) =
      let held = is_one.held.1 in
      let arc : IsField 2 reply.arc = record { size = held.arc_size; bytes = held.arc } in
      (tt, (is_one.held.0, (refl, (tt, (arc, (tt, (leb-true _ _ is_one.may_stand, (held.size, held.bytes))))))))
  decided_to is (Queued pan psn command) (known, is_one) = absurd (omega (arith, known.1))
  decided_to is (Status pan psn status) (known, is_one) = absurd (omega (arith, known.1))

  decided_from : letter ≡ 100 → (entry : Entry) → IsReadDecided entry → IsLettered letter entry
  decided_from is (Decided request reply) (start, (request_is, (is_d, (begin, (arc, (approve, (some, (few, bytes)))))))) =
      let held : IsReply reply = record { arc_size = arc.size; arc = arc.bytes; size = few; bytes = bytes } in
      ((tt, sym is), record { held = (request_is, held); may_stand = le-leb _ _ some })
  decided_from is (Queued pan psn command) (start, (request_is, (is_d, reply_is))) = absurd (omega (arith, is_d))
  decided_from is (Status pan psn status) (start, (request_is, (is_d, reply_is))) = absurd (omega (arith, is_d))

  decided_same : letter ≡ 100 → (entry : Entry) → IsLettered letter entry → decided_text entry ≡ behind_text entry
  decided_same is (Decided request reply) (known, is_one) = refl
  decided_same is (Queued pan psn command) (known, is_one) = absurd (omega (arith, known.1))
  decided_same is (Status pan psn status) (known, is_one) = absurd (omega (arith, known.1))

  queued_to : letter ≡ 113 → (entry : Entry) → IsLettered letter entry → IsReadQueued entry
  queued_to is (Decided request reply) (known, is_one) = absurd (omega (arith, known.1))
  queued_to is (Queued pan psn command) (known, is_one) =
      let form = and_parts _ _ is_one.may_stand in
      (tt, ((tt, (is_one.held.0, ((is_one.held.1, form.0), tt))), (refl, (form.1, is_one.held.2))))
  queued_to is (Status pan psn status) (known, is_one) = absurd (omega (arith, known.1))

  queued_from : letter ≡ 113 → (entry : Entry) → IsReadQueued entry → IsLettered letter entry
  queued_from is (Decided request reply) (start, (card, (is_q, command_is))) = absurd (omega (arith, is_q))
  queued_from is (Queued pan psn command) (start, ((begin, (pan_is, ((below, decimal_psn), end))), (is_q, (form, held)))) =
      ((tt, sym is), record { held = (pan_is, below, held); may_stand = and_from _ _ decimal_psn form })
  queued_from is (Status pan psn status) (start, (card, (is_q, command_is))) = absurd (omega (arith, is_q))

  queued_same : letter ≡ 113 → (entry : Entry) → IsLettered letter entry → queued_text entry ≡ behind_text entry
  queued_same is (Decided request reply) (known, is_one) = absurd (omega (arith, known.1))
  queued_same is (Queued pan psn command) (known, is_one) = refl
  queued_same is (Status pan psn status) (known, is_one) = absurd (omega (arith, known.1))

  status_to : letter ≡ 115 → (entry : Entry) → IsLettered letter entry → IsReadStatus entry
  status_to is (Decided request reply) (known, is_one) = absurd (omega (arith, known.1))
  status_to is (Queued pan psn command) (known, is_one) = absurd (omega (arith, known.1))
  status_to is (Status pan psn status) (known, is_one) =
      let form = and_parts _ _ is_one.may_stand in
      (tt, ((tt, (is_one.held.0, ((is_one.held.1, form.0), tt))), (refl, leb-true _ _ form.1)))

  status_from : letter ≡ 115 → (entry : Entry) → IsReadStatus entry → IsLettered letter entry
  status_from is (Decided request reply) (start, (card, (is_s, small))) = absurd (omega (arith, is_s))
  status_from is (Queued pan psn command) (start, (card, (is_s, small))) = absurd (omega (arith, is_s))
  status_from is (Status pan psn status) (start, ((begin, (pan_is, ((below, decimal_psn), end))), (is_s, small))) =
      ((tt, sym is), record { held = (pan_is, below); may_stand = and_from _ _ decimal_psn (le-leb _ _ small) })

  status_same : letter ≡ 115 → (entry : Entry) → IsLettered letter entry → status_text entry ≡ behind_text entry
  status_same is (Decided request reply) (known, is_one) = absurd (omega (arith, known.1))
  status_same is (Queued pan psn command) (known, is_one) = absurd (omega (arith, known.1))
  status_same is (Status pan psn status) (known, is_one) = refl

  other_letter : (entry : Entry) → (letter == 100) ≡ false → (letter == 113) ≡ false → (letter == 115) ≡ false
      → letter_of entry ≡ letter → ⊥
  other_letter (Decided request reply) no_d no_q no_s is = absurd cc (no_d, eq-eqb letter 100 (sym is))
  other_letter (Queued pan psn command) no_d no_q no_s is = absurd cc (no_q, eq-eqb letter 113 (sym is))
  other_letter (Status pan psn status) no_d no_q no_s is = absurd cc (no_s, eq-eqb letter 115 (sym is))

  -- what follows a letter, by what the letter is
  by_tests : (is_d is_q is_s : Bool) → (letter == 100) ≡ is_d → (letter == 113) ≡ is_q → (letter == 115) ≡ is_s
      → Exact (finished (if is_d then decided_at else if is_q then queued_at else if is_s then status_at else given None))
      (IsLettered letter) behind_text nothing
  by_tests true is_q is_s d q s =
      let is : letter ≡ 100 = eqb-true letter 100 d in
      let last = exact_last decided_at IsReadDecided decided_text nothing exact_decided refl in
      exact_same _ _ _ _ _ nothing last (decided_to is) (decided_from is) (decided_same is)
  by_tests false true is_s d q s =
      let is : letter ≡ 113 = eqb-true letter 113 q in
      let last = exact_last queued_at IsReadQueued queued_text nothing exact_queued refl in
      exact_same _ _ _ _ _ nothing last (queued_to is) (queued_from is) (queued_same is)
  by_tests false false true d q s =
      let is : letter ≡ 115 = eqb-true letter 115 s in
      let last = exact_last status_at IsReadStatus status_text anything exact_status tt in
      exact_same _ _ _ _ _ nothing last (status_to is) (status_from is) (status_same is)
  by_tests false false false d q s = record {
    again = λ entry rest holds behind. absurd (other_letter entry d q s holds.0.1);
    takes = λ left entry rest found. absurd cc;
  }

-- the line of a record
abbrev pub line_of : Entry → List ℕ
line_of entry = join_with_byte space (words_of entry)

regroup : (pan psn last : List ℕ)
    → (space ∷ (pan ++ (space ∷ (psn ++ (space ∷ []))))) ++ last ≡ space ∷ (pan ++ (space ∷ (psn ++ (space ∷ last))))
regroup pan psn last = simp append_assoc

-- a letter and what follows it
card_line : (letter : ℕ) (pan : List ℕ) (psn : ℕ) (last : List ℕ)
    → letter ∷ (card_text (pan, psn) ++ last)
    ≡ letter ∷ space ∷ (encode_lower (pan_bytes pan) ++ (space ∷ (encode_lower (psn ∷ []) ++ (space ∷ last))))
card_line letter pan psn last = ap (λ (text : List ℕ). letter ∷ text) (regroup (encode_lower (pan_bytes pan)) (encode_lower (psn ∷ [])) last)

line_same : (entry : Entry) → IsRecord entry → letter_of entry ∷ behind_text entry ≡ line_of entry
line_same (Decided request reply) is_one = refl
line_same (Queued pan psn command) is_one = card_line 113 pan psn (encode_lower (command_bytes command))
line_same (Status pan psn status) is_one =
    let form = and_parts (is_bcd psn) (leb status 9) is_one.may_stand in
    let small : status ≤ 9 = leb-true status 9 form.1 in
    let digit : (48 + status) ∷ [] ≡ decimal status = sym (decimal_digit status (omega arith)) in
    card_line 115 pan psn ((48 + status) ∷ [])
    ∙ ap (λ (last : List ℕ). 115 ∷ space ∷ (encode_lower (pan_bytes pan) ++ (space ∷ (encode_lower (psn ∷ []) ++ (space ∷ last))))) digit

-- a record is read just where its line stands
pub exact_entry : Exact entry_at IsRecord line_of nothing
unfolding entry_at
exact_entry =
    let lettered : Exact entry_at (λ entry. Unit {0} × (Unit {0} × IsRecord entry)) (λ entry. letter_of entry ∷ behind_text entry) nothing =
    exact_then next_at _ _ _ (λ entry. Unit {0}) IsRecord behind_text nothing letter_of exact_next
    (λ letter. by_tests letter (letter == 100) (letter == 113) (letter == 115) refl refl refl) in
    exact_same entry_at _ IsRecord _ line_of nothing lettered
    (λ entry is_one. (tt, (tt, is_one))) (λ entry holds. holds.1.1) line_same
