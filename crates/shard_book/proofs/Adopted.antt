-- Which parsed records are valid successors: their lookups and checks decide it.
use Rattle.std.proofs.Common.{◌≡◌, ◌≢◌, ℕ, ◌%◌, Bool, true, false, if◌then◌else◌, List, sym, ap, subst, ◌∙◌}
use Rattle.std.proofs.Common.{Option, None, Some, Result, Ok, Err, arith}
use Rattle.std.proofs.lemmas.Option.{same_Some}
use Rattle.std.specs.List.{slice_get}
use Rattle.issuer_base.specs.declared.request.Request.{Request}
use Rattle.issuer_base.specs.declared.answer.Reply.{Reply}
use Rattle.issuer_base.specs.declared.answer.Refusal.{Refusal}
use Rattle.issuer_base.specs.declared.answer.Refusal.TheVariants.{BadCryptogram, NotArqc}
use Rattle.issuer_base.specs.declared.entry.Entry.{Entry}
use Rattle.issuer_base.specs.ChipData.{is_arqc}
use Rattle.card_history.specs.declared.decision.Asked.{Asked}
use Rattle.card_history.specs.declared.decision.Asked.TheVariants.{Decide}
use Rattle.card_history.specs.LegalRecords.{IsLegalDecision}
use Rattle.issuer_base.specs.CardNames.{CardName}
use Rattle.card_history.specs.Records.{card_of}
use Rattle.card_history.specs.Scripts.{scripts_of}
use Rattle.key_derive.specs.declared.card.CardKeys.{CardKeys}
use Rattle.issuer_setup.specs.declared.card.CardInfo.{CardInfo}
use Rattle.issuer_setup.specs.CardList.{number_of}
use Rattle.issuer_setup.specs.IssuerSetup.{Setup, keys_of}
use Rattle.row_core.specs.Accepting.{IsMade, IsValidSuccessor}
use Rattle.line_checks.specs.Reading.{checked, of_card, under_keys, is_right}
use Rattle.line_checks.proofs.Numbers.{number-within}
use Rattle.shard_book.specs.ShardRows.{ShardRows, AreRowsOf, IsHome}
use Rattle.shard_book.specs.Grounds.{IsCardOfShard, IsMadeBy}
use Rattle.shard_book.specs.Versions.{grounds_in, window_in}
use Rattle.shard_book.specs.declared.replay.Version.{Version}
use Rattle.shard_book.proofs.LegalDecisions.{legal-by}

-- ---- a request that passes its check is the one that was checked

right-own : (right : Bool) (request other : Request)
    → (let checked : Result Asked Refusal = if right then Ok (Decide request) else Err BadCryptogram in checked) ≡ Ok (Decide other) → other ≡ request
right-own true request other passes = cc
right-own false request other passes = absurd cc

keys-own : (keys : Option CardKeys) (request other : Request) → under_keys keys request ≡ Ok (Decide other) → other ≡ request
keys-own None request other passes = absurd cc
keys-own (Some keys) request other passes = right-own (is_right keys request) request other passes

arqc-own : (arqc : Bool) (keys : Option CardKeys) (request other : Request)
    → (if arqc then under_keys keys request else Err NotArqc) ≡ Ok (Decide other) → other ≡ request
arqc-own true keys request other passes = keys-own keys request other passes
arqc-own false keys request other passes = absurd cc

card-own : (issuer : Setup) (number : Option ℕ) (request other : Request) → of_card issuer number request ≡ Ok (Decide other) → other ≡ request
card-own issuer None request other passes = absurd cc
card-own issuer (Some number) request other passes = arqc-own (is_arqc request) (keys_of issuer number request) request other passes

pub checked-own : (issuer : Setup) (request other : Request) → checked issuer request ≡ Ok (Decide other) → other ≡ request
checked-own issuer request other passes = card-own issuer (number_of (card_of request) issuer.cards) request other passes

-- ---- the card

module _ (issuer : Setup) (rows : ShardRows) (of_issuer : AreRowsOf issuer rows) (name : CardName) (number : ℕ)
    (number_is : number_of name issuer.cards ≡ Some number) where
  pub home-found : number % issuer.shards ≡ rows.shard → IsHome rows number
  home-found its = record {
    within = let within = number-within issuer.cards name number number_is in let cards = of_issuer.cards_are in omega arith;
    home = ap (λ shards. number % shards) of_issuer.shards_are ∙ its;
  }

  pub card-at_home : number % issuer.shards ≡ rows.shard → IsCardOfShard issuer rows.shard name
  card-at_home its = record { number = number; number_is = number_is; home = its }

  -- a card of the shard has this number
  pub away : number % issuer.shards ≢ rows.shard → IsCardOfShard issuer rows.shard name → ⊥
  away not_it at_home =
      let same : number ≡ at_home.number = same_Some number at_home.number (sym number_is ∙ at_home.number_is) in
      not_it (ap (λ number. number % issuer.shards) same ∙ at_home.home)

-- a name of nobody is no card's
pub nobody : (issuer : Setup) (shard : ℕ) (name : CardName) → number_of name issuer.cards ≡ None → IsCardOfShard issuer shard name → ⊥
nobody issuer shard name none at_home = let both : None ≡ Some at_home.number = sym none ∙ at_home.number_is in absurd cc

-- ---- the reply

module _ (version : Version) (issuer : Setup) (shard : ℕ) (history : List Entry) (request : Request) (reply : Reply) (number : ℕ) (card : CardInfo) (keys : CardKeys)
    (number_is : number_of (card_of request) issuer.cards ≡ Some number) (card_is : slice_get issuer.cards number ≡ Some card)
    (keys_are : keys_of issuer number request ≡ Some keys) where
  pub decision-follows : IsLegalDecision (grounds_in version issuer) shard history request reply → IsValidSuccessor (window_in version) card.method keys history request reply
  decision-follows legal =
      let made = legal.is_the_issuers_reply in
      let same : made.number ≡ number = same_Some made.number number (sym made.number_is ∙ number_is) in
      let same_card : made.card ≡ card = same_Some made.card card (sym made.card_is ∙ ap (slice_get issuer.cards) same ∙ card_is) in
      let same_keys : made.keys ≡ keys = same_Some made.keys keys (sym made.keys_are ∙ ap (λ number. keys_of issuer number request) same ∙ keys_are) in
      record {
        in_window = legal.in_window;
        unrecorded = legal.unrecorded;
        made =
            subst (λ (card : CardInfo). IsMade card.method keys (scripts_of (card_of request) history) request reply) same_card
            (subst (λ (keys : CardKeys). IsMade made.card.method keys (scripts_of (card_of request) history) request reply) same_keys made.made);
      }

  pub decision-legal : IsCardOfShard issuer shard (card_of request) → checked issuer request ≡ Ok (Decide request)
      → IsValidSuccessor (window_in version) card.method keys history request reply → IsLegalDecision (grounds_in version issuer) shard history request reply
  decision-legal home passes follows =
      legal-by issuer (window_in version) (IsMadeBy issuer) shard history request reply home passes follows.in_window follows.unrecorded (record {
        number = number;
        card = card;
        keys = keys;
        number_is = number_is;
        card_is = card_is;
        keys_are = keys_are;
        made = follows.made;
      })
