-- What an issuer replies to a request that it decides.
use Rattle.std.specs.Prelude.{ℕ, false, List, [], ◌∷◌, ◌++◌, Option, None, Some, slice_get}
use Rattle.std.specs.Option.{option_map_or}
use Rattle.issuer_base.specs.declared.request.Request.{Request}
use Rattle.issuer_base.specs.declared.request.Suite.{Suite}
use Rattle.issuer_base.specs.declared.command.Command.{Command}
use Rattle.issuer_base.specs.declared.answer.Reply.{Reply}
use Rattle.issuer_base.specs.declared.answer.Method.{Method}
use Rattle.issuer_base.specs.declared.entry.Entry.{Entry}
use Rattle.card_history.specs.Records.{card_of, status_of}
use Rattle.card_history.specs.Scripts.{Scripts, scripts_of, batch_of, first_of}
use Rattle.tlv_objects.specs.Writing.{object_text}
use Rattle.key_derive.specs.declared.card.CardKeys.{CardKeys}
use Rattle.key_derive.specs.SessionKey.{session_of, session_sm}
use Rattle.key_derive.specs.SuiteKey.{SuiteKey}
use Rattle.secure_msg.specs.Batch.{template_bytes}
use Rattle.arpc_methods.specs.Arpc.{value91}
use Rattle.decision_table.specs.declared.row.TableRow.{TableRow}
use Rattle.decision_table.specs.Fitting.{decision}
use Rattle.issuer_setup.specs.declared.card.CardInfo.{CardInfo}
use Rattle.issuer_setup.specs.CardList.{number_of}
use Rattle.issuer_setup.specs.IssuerSetup.{Setup, keys_of}

-- the script template of a batch for the card that computed this application cryptogram, sealed in the card's suite
-- under the session key for secure messaging; its first command has this number. There is none if the batch is empty:
-- EMV 4.3 Book 3, section 10.10
abbrev pub script_bytes : Suite → List ℕ → List ℕ → ℕ → List Command → List ℕ
script_bytes suite master_key ac first [] = []
script_bytes suite master_key ac first (command ∷ commands) =
    template_bytes suite (session_sm suite master_key ac) ac first (command ∷ commands)

-- the issuer's answer to the card, under this session key for cryptograms: tag 8A has the response code, tag 91 the
-- ARPC of the response code or of the card status update, in the key's suite: EMV 4.3 Book 2, section 8.2
abbrev pub answer_bytes : Method → SuiteKey → Request → List ℕ → List ℕ → List ℕ
answer_bytes method session request arc csu =
    object_text 0x8A arc ++ object_text 0x91 (value91 session.suite method session.key request.ac arc csu)

-- what goes to the card: the issuer's answer, followed by the batch of the card's issuer script commands
abbrev pub reply_bytes : Method → CardKeys → Scripts → Request → List ℕ → List ℕ → List ℕ
reply_bytes method keys scripts request arc csu =
    answer_bytes method (session_of keys request.atc) request arc csu
    ++ script_bytes keys.suite keys.smi.0 request.ac (first_of request scripts) (batch_of request scripts)

-- the reply by a row of the table: its response code and approval
abbrev pub reply_by_row : Method → CardKeys → Scripts → Request → TableRow → Reply
reply_by_row method keys scripts request row = record {
  arc = row.arc;
  approve = row.approve;
  bytes = record { items = reply_bytes method keys scripts request row.arc row.csu };
}

-- no reply: nothing for the card, and no approval
abbrev pub no_reply : Reply
no_reply = record { arc = 0 ∷ 0 ∷ []; approve = false; bytes = record { items = [] } }

-- the reply to a request of a card of this method and these master keys, with these scripts and this status: that by
-- the first row of the table that matches
abbrev pub decided_reply : Method → CardKeys → List TableRow → Scripts → ℕ → Request → Reply
decided_reply method keys table scripts status request =
    option_map_or (reply_by_row method keys scripts request) (decision table status request) no_reply

-- the reply after a history of the card's shard
abbrev pub reply_after : Method → CardKeys → List TableRow → List Entry → Request → Reply
reply_after method keys table history request =
    decided_reply method keys table (scripts_of (card_of request) history) (status_of (card_of request) history) request

-- the reply after a history, if there are the card and its keys
abbrev pub reply_by : Option CardInfo → Option CardKeys → List TableRow → List Entry → Request → Reply
reply_by (Some card) (Some keys) table history request = reply_after card.method keys table history request
reply_by _ _ table history request = no_reply

-- the reply to a request of the card with this number
abbrev pub reply_of_card : Setup → Option ℕ → List Entry → Request → Reply
reply_of_card issuer None history request = no_reply
reply_of_card issuer (Some card) history request =
    reply_by (slice_get issuer.cards card) (keys_of issuer card request) issuer.table history request

-- the issuer's reply to a request that it decides after the history of its card's shard; a request whose card or key
-- set it lacks is never decided, and has none
abbrev pub reply_to : Setup → List Entry → Request → Reply
reply_to issuer history request = reply_of_card issuer (number_of (card_of request) issuer.cards) history request
