-- The verdict on a clearing line, by the decided records; and the records after it.
use Rattle.std.specs.Prelude.{ℕ, Bool, true, false, not, ◌&&◌, List, [], option_map, Option, None, Some, Result, Ok, Err, if◌then◌else◌}
use Rattle.std.specs.List.{find}
use Rattle.std.specs.Option.{option_to_list}
use Rattle.std.specs.Str.{bytes_eq}
use Rattle.issuer_base.specs.declared.entry.Entry.{Entry}
use Rattle.issuer_base.specs.declared.entry.Entry.TheVariants.{Decided, Queued, Status}
use Rattle.issuer_base.specs.declared.request.Request.{Request}
use Rattle.issuer_base.specs.declared.answer.Reply.{Reply}
use Rattle.card_history.specs.Records.{card_of}
use Rattle.issuer_setup.specs.CardList.{number_of}
use Rattle.issuer_setup.specs.IssuerSetup.{Setup}
use Rattle.clearing_check.specs.declared.filed.Filed.{Filed}
use Rattle.clearing_check.specs.Records.{has_atc, certify}
use Rattle.clearing_check.specs.declared.verdict.Verdict.{Verdict}
use Rattle.clearing_check.specs.declared.verdict.Verdict.TheVariants.{Lone, Differs, Declined, Against, Certified}
use Rattle.clearing_check.specs.ClearingLine.{Presented, presented, is_aac}

-- what is filed of a decided request of the card with this number
abbrev pub filed_under : ℕ → ℕ → Request → Reply → ℕ → Filed
filed_under shard place request reply card = record {
  card = card;
  atc = request.atc;
  amount = request.amount;
  currency = request.currency;
  date = request.date;
  un = request.un;
  approved = reply.approve;
  shard = shard;
  place = place;
  certified = false;
}

-- what is filed of the record at this index of this shard's journal: nothing, unless it is decided, of a card that the
-- issuer has
abbrev pub filed_of : Setup → ℕ → ℕ → Entry → List Filed
filed_of issuer shard place (Decided request reply) =
    option_to_list (option_map (filed_under shard place request reply) (number_of (card_of request) issuer.cards))
filed_of issuer shard place (Queued pan psn command) = []
filed_of issuer shard place (Status pan psn status) = []

-- the request and the record agree in amount, currency, date and unpredictable number
unfoldable pub agrees : Filed → Request → Bool
agrees filed request =
    bytes_eq filed.amount request.amount && bytes_eq filed.currency request.currency
    && bytes_eq filed.date request.date && bytes_eq filed.un request.un

-- the verdict on a request by the decided record on its ATC, if there is one
abbrev pub verdict_by : Option Filed → Request → Verdict
verdict_by None request = Lone
verdict_by (Some filed) request =
    if not (agrees filed request) then Differs filed.shard filed.place
    else if is_aac request then Declined filed.shard filed.place
    else if not filed.approved then Against filed.shard filed.place
    else Certified filed.shard filed.place

-- the verdict on what a line presents, or that of its checks
abbrev pub verdict_on : List Filed → Result Presented Verdict → Verdict
verdict_on records (Err verdict) = verdict
verdict_on records (Ok found) = verdict_by (find (has_atc found.card found.request.atc) records) found.request

-- the verdict on a line
abbrev pub verdict : Setup → List Filed → List ℕ → Verdict
verdict issuer records line = verdict_on records (presented issuer line)

-- whether the verdict certifies its record
abbrev pub certifies : Verdict → Bool
certifies (Certified shard place) = true
certifies _ = false

-- the records after what a line presents: the one that the verdict certifies is certified
abbrev pub records_after : List Filed → Result Presented Verdict → List Filed
records_after records (Err verdict) = records
records_after records (Ok found) =
    if certifies (verdict_on records (Ok found)) then certify found.card found.request.atc records else records

-- the records after a line
abbrev pub after_line : Setup → List Filed → List ℕ → List Filed
after_line issuer records line = records_after records (presented issuer line)
