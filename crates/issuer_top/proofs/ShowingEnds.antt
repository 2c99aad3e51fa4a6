-- The ways that showing ends, from what its parts did.
use Rattle.std.proofs.Common.{◌≡◌, ℕ, List, Option, Ok, Err, inr, refl}
use Rattle.std.specs.Prelude.{Result, is_err}
use Rattle.issuer_base.specs.OutsideFaults.{CountsFaults}
use Rattle.issuer_base.specs.Sink.{WritesAll}
use Rattle.issuer_base.specs.declared.faults.WriteFault.{WriteFault as SinkFails}
use Rattle.issuer_setup.specs.IssuerSetup.{Setup}
use Rattle.host_loading.specs.Books.{ShardBook}
use Rattle.desk_host.specs.Kept.{KeepJournals}
use Rattle.desk_host.specs.Lawful.{IsLawful}
use Rattle.desk_host.specs.Shown.{shown_text}
use Rattle.issuer_top.specs.Opened.{OpenedConfigOnly}
use Rattle.issuer_top.specs.Opening.{SaysIssuer}
use Rattle.issuer_top.specs.Seen.{Seen}
use Rattle.issuer_top.specs.Showing.{IsShown, ways_to_show}
use Rattle.issuer_top.specs.Stopping.{written_ending}
use Rattle.issuer_top.specs.Ways.{EndsBy}

module _ (config journal : List ℕ) (seen : Seen) (issuer : Setup) (books : List ShardBook)
    (opened : OpenedConfigOnly seen) (said : SaysIssuer seen config issuer)
    (kept : KeepJournals issuer journal seen.desk.logs seen.journals books books)
    (lawful : IsLawful issuer books books) where
  shown : IsShown config journal seen (shown_text issuer books issuer.cards)
  shown = record {
    issuer = issuer;
    books = books;
    opened = opened;
    said = said;
    kept = kept;
    lawful = lawful;
    shown = refl;
  }

  pub ends_showing : (result : Result (Unit {0}) SinkFails)
      → WritesAll seen.sink.held_before seen.sink.held_after result (shown_text issuer books issuer.cards)
      → CountsFaults seen.sink.faults_before seen.sink.faults_after (is_err result)
      → EndsBy (ways_to_show config journal seen) seen (written_ending result)
  unfolding shown
  ends_showing (Ok done) written counts = (shown_text issuer books issuer.cards, shown, written)
  ends_showing (Err fault) written counts = record {
    rose = counts.counted;
    text = shown_text issuer books issuer.cards;
    due = inr shown;
    front = written;
  }
