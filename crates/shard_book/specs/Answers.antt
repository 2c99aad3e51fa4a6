-- What the issuer authentication data of records are made of.
use Rattle.std.specs.Prelude.{Option, None, Some, Result, Ok, slice_get}
use Rattle.std.specs.Option.{option_and_then}
use Rattle.issuer_base.specs.declared.entry.Entry.{Entry}
use Rattle.issuer_base.specs.declared.entry.Entry.TheVariants.{Decided}
use Rattle.issuer_base.specs.declared.answer.Method.{Method}
use Rattle.issuer_base.specs.declared.answer.Refusal.{Refusal}
use Rattle.issuer_base.specs.declared.answer.Reply.{Reply}
use Rattle.issuer_base.specs.declared.request.Request.{Request as AskedRequest}
use Rattle.arpc_methods.specs.declared.ahead.AnswerParts.{AnswerParts}
use Rattle.issuer_setup.specs.declared.card.CardInfo.{CardInfo}
use Rattle.issuer_setup.specs.IssuerSetup.{Setup}
use Rattle.line_checks.specs.declared.looked_up.CryptogramVerdict.{CryptogramVerdict}
use Rattle.line_checks.specs.declared.looked_up.CryptogramVerdict.TheVariants.{Right}
use Rattle.line_checks.specs.declared.looked_up.LookedUp.{LookedUp}
use Rattle.line_checks.specs.declared.looked_up.LookedUp.TheVariants.{Request}
use Rattle.row_core.specs.Accepting.{told_update}

-- those of a decision for a card of this method, if its cryptogram is known to be right, under this session key of
-- triple DES
abbrev pub answer_under : Method → CryptogramVerdict → AskedRequest → Reply → Option AnswerParts
answer_under method (Right key) request reply = Some (record {
  method = method;
  key = key;
  ac = request.ac;
  arc = reply.arc;
  csu = told_update reply.bytes.items;
})
answer_under method _ request reply = None

-- those of a record, for which this was looked up
abbrev pub answer_of : Setup → Entry → Result LookedUp Refusal → Option AnswerParts
answer_of issuer (Decided request reply) (Ok (Request sought)) =
    option_and_then (λ (card : CardInfo). answer_under card.method sought.verdict sought.request reply)
    (slice_get issuer.cards sought.card)
answer_of issuer entry found = None
