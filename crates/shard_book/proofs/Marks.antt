-- The recorded ATCs of the cards, after one more record.
use Rattle.std.proofs.Common.{◌≡◌, ◌≢◌, ℕ, Bool, true, false, ◌&&◌, ◌||◌, eqb, List, [], ◌∷◌, ◌++◌, length, refl, ap, sym, ◌∙◌, subst}
use Rattle.std.proofs.lemmas.Bool.{and_left, and_right, eq-eqb, ne_eqb}
use Rattle.std.proofs.lemmas.List.Folds.{list_any-append}
use Rattle.std.specs.List.{list_any}
use Rattle.counter_bits.specs.CounterSets.{CounterSets, has}
use Rattle.issuer_base.specs.declared.entry.Entry.{Entry}
use Rattle.issuer_base.specs.declared.entry.Entry.TheVariants.{Decided, Queued, Status}
use Rattle.card_history.specs.declared.decision.Decision.{Decision}
use Rattle.issuer_base.specs.CardNames.{CardName}
use Rattle.card_history.specs.Records.{is_of, card_in, decided}
use Rattle.card_history.proofs.CardNames.{is_of-card_of, is_of-other}
use Rattle.card_history.proofs.OneMoreRecord.{decided-more, decided-other}
use Rattle.card_history.proofs.OtherRecords.{decided-queued, decided-status}
use Rattle.shard_book.specs.ShardRows.{is_decided}

-- whether the record is a decision on this ATC
abbrev pub is_on : Entry → ℕ → Bool
is_on (Decided request reply) counter = eqb counter request.atc
is_on (Queued pan psn command) counter = false
is_on (Status pan psn status) counter = false

-- the sets have what they had, and the record's ATC in the set with this index
abbrev pub Marks : CounterSets → CounterSets → ℕ → Entry → Type 0
Marks old new place entry = (other counter : ℕ) → has new other counter ≡ (has old other counter || (eqb other place && is_on entry counter))

or-none : (one none : Bool) → none ≡ false → (one || none) ≡ one
or-none true none is = refl
or-none false none is = is

or-last : (one last : Bool) → (one || (last || false)) ≡ (one || last)
or-last true last = refl
or-last false true = refl
or-last false false = refl

-- a record that is no decision leaves the sets
pub unmarked : (sets : CounterSets) (place : ℕ) (entry : Entry) → ((counter : ℕ) → is_on entry counter ≡ false) → Marks sets sets place entry
unmarked sets place entry none other counter =
    sym (or-none (has sets other counter) _ (and_right (eqb other place) (is_on entry counter) (none counter)))

-- at the index of the record's card
pub marked-there : (old new : CounterSets) (place : ℕ) (entry : Entry) → Marks old new place entry
    → (counter : ℕ) → has new place counter ≡ (has old place counter || is_on entry counter)
marked-there old new place entry marks counter =
    marks place counter ∙ ap (λ (here : Bool). has old place counter || (here && is_on entry counter)) (eq-eqb place place refl)

-- and at other indexes
pub marked-elsewhere : (old new : CounterSets) (place other : ℕ) (entry : Entry) → Marks old new place entry → other ≢ place
    → (counter : ℕ) → has new other counter ≡ has old other counter
marked-elsewhere old new place other entry marks apart counter =
    marks other counter ∙ or-none (has old other counter) _ (and_left (eqb other place) (is_on entry counter) (ne_eqb other place apart))

-- what a card's decisions are on after a record of the card
pub decided-its : (card : CardName) (history : List Entry) (entry : Entry) → card_in entry ≡ card → (counter : ℕ)
    → is_decided counter (decided card (history ++ entry ∷ [])) ≡ (is_decided counter (decided card history) || is_on entry counter)
unfolding is_decided
decided-its card history (Decided request reply) its counter =
    let test : Decision → Bool = λ decision. eqb counter decision.request.atc in
    let last : Decision = record { request = request; reply = reply; place = length history } in
    ap (list_any test) (decided-more card history request reply (subst (λ (card : CardName). is_of card request ≡ true) its (is_of-card_of request)))
    ∙ list_any-append test (decided card history) (last ∷ [])
    ∙ or-last (list_any test (decided card history)) (eqb counter request.atc)
decided-its card history (Queued pan psn command) its counter =
    ap (is_decided counter) (decided-queued card history pan psn command) ∙ sym (or-none (is_decided counter (decided card history)) false refl)
decided-its card history (Status pan psn status) its counter =
    ap (is_decided counter) (decided-status card history pan psn status) ∙ sym (or-none (is_decided counter (decided card history)) false refl)

-- and after a record of another card
pub decided-elsewhere : (card : CardName) (history : List Entry) (entry : Entry) → card ≢ card_in entry
    → decided card (history ++ entry ∷ []) ≡ decided card history
decided-elsewhere card history (Decided request reply) other = decided-other card history request reply (is_of-other card request other)
decided-elsewhere card history (Queued pan psn command) other = decided-queued card history pan psn command
decided-elsewhere card history (Status pan psn status) other = decided-status card history pan psn status
