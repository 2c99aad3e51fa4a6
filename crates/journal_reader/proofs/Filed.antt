-- The records that are filed, one more at a time, and which may be filed.
use Rattle.std.proofs.Common.{◌≡◌, ◌≢◌, ℕ, ◌+◌, ◌<◌, ◌%◌, Bool, true, false, not, ◌&&◌, ◌||◌, ◌==◌, List, [], ◌∷◌, ◌++◌, length}
use Rattle.std.proofs.Common.{Option, None, Some, refl, sym, ap, ap₂, subst, ◌∙◌, arith, append-nil, append_assoc, All, inl, inr, eq-eqb, get_or}
use Rattle.std.specs.List.{enumerate_from, flat_map, list_any}
use Rattle.std.proofs.lemmas.Bool.{and_parts, and_from, cases_Bool, eqb-true, ne_eqb, false≢true}
use Rattle.std.proofs.lemmas.Grind.{flat_map-append}
use Rattle.std.proofs.lemmas.List.{length_push}
use Rattle.std.proofs.lemmas.List.Elements.{All-append, All-nil, All-push, All-head, All-tail}
use Rattle.std.proofs.lemmas.List.Folds.{list_any-append, list_any_none}
use Rattle.std.specs.List.{slice_get}
use Rattle.std.specs.Option.{option_map, option_to_list}
use Rattle.std.proofs.lemmas.Option.{same_Some}
use Rattle.issuer_base.specs.declared.answer.Reply.{Reply}
use Rattle.issuer_base.specs.declared.entry.Entry.{Entry}
use Rattle.issuer_base.specs.declared.request.Request.{Request}
use Rattle.issuer_base.specs.declared.entry.Entry.TheVariants.{Decided, Queued, Status}
use Rattle.card_history.specs.LegalRecords.{IsLegal}
use Rattle.issuer_base.specs.CardNames.{CardName}
use Rattle.card_history.specs.Records.{card_in, card_of, is_of}
use Rattle.card_history.specs.declared.decision.Decision.{Decision}
use Rattle.card_history.proofs.CardNames.{is_of-card_of}
use Rattle.card_history.proofs.OneMoreRecord.{decided_from, decided_from-its, decided_from-other}
use Rattle.issuer_setup.specs.CardList.{name_of, number_of}
use Rattle.issuer_setup.proofs.CardListLemmas.{number_of-found}
use Rattle.shard_book.specs.Grounds.{IsCardOfShard, grounds_of}
use Rattle.clearing_check.specs.Records.{has_atc}
use Rattle.issuer_setup.specs.IssuerSetup.{Setup}
use Rattle.journal_reader.specs.declared.reader.RecordReader.{RecordReader}
use Rattle.journal_reader.specs.Reading.{HasRead}
use Rattle.clearing_check.specs.declared.filed.Filed.{Filed}
use Rattle.clearing_check.specs.Verdicts.{filed_of, filed_under}
use Rattle.journal_reader.specs.Filing.{AreBefore, filed_in, filed_records, fits, is_at_home, repeats}

-- ---- one more

numbers-push : {X : Type 0} (n : ℕ) (xs : List X) (x : X)
    → enumerate_from n (xs ++ x ∷ []) ≡ enumerate_from n xs ++ (n + length xs, x) ∷ []
numbers-push n [] x = ap (λ k. (k, x) ∷ []) (let same : n ≡ n + 0 = omega arith in same)
numbers-push n (first ∷ xs) x =
    let same : n + 1 + length xs ≡ n + length (first ∷ xs) = omega arith in
    ap (λ l. (n, first) ∷ l)
    (numbers-push (n + 1) xs x ∙ ap (λ k. enumerate_from (n + 1) xs ++ (k, x) ∷ []) same)

-- what is made of each element and its number: one element more
pub map-push : {X Y : Type 0} (f : ℕ × X → List Y) (xs : List X) (x : X)
    → flat_map f (enumerate_from 0 (xs ++ x ∷ [])) ≡ flat_map f (enumerate_from 0 xs) ++ f (length xs, x)
map-push f xs x =
    ap (flat_map f) (numbers-push 0 xs x)
    ∙ flat_map-append f (enumerate_from 0 xs) ((0 + length xs, x) ∷ [])
    ∙ ap (λ l. flat_map f (enumerate_from 0 xs) ++ l) (append-nil (f (0 + length xs, x)))
    ∙ ap (λ k. flat_map f (enumerate_from 0 xs) ++ f (k, x)) (let same : 0 + length xs ≡ length xs = omega arith in same)

-- a record more
pub filed-more : (issuer : Setup) (shard : ℕ) (history : List Entry) (entry : Entry)
    → filed_in issuer shard (history ++ entry ∷ []) ≡ filed_in issuer shard history ++ filed_of issuer shard (length history) entry
filed-more issuer shard history entry =
    map-push (λ (numbered : ℕ × Entry). filed_of issuer shard numbered.0 numbered.1) history entry

-- a history more
pub all-more : (issuer : Setup) (histories : List (List Entry)) (history : List Entry)
    → filed_records issuer (histories ++ history ∷ [])
    ≡ filed_records issuer histories ++ filed_in issuer (length histories) history
all-more issuer histories history =
    map-push (λ (numbered : ℕ × List Entry). filed_in issuer numbered.0 numbered.1) histories history

-- ---- which shard's

home-option : (issuer : Setup) (shard place : ℕ) (request : Request) (reply : Reply) (card : Option ℕ)
    → is_at_home issuer shard card ≡ true
    → All (λ filed. filed.card % issuer.shards ≡ shard)
    (option_to_list (option_map (filed_under shard place request reply) card))
home-option issuer shard place request reply None home = All-nil _
home-option issuer shard place request reply (Some card) home =
    All-push (λ (filed : Filed). filed.card % issuer.shards ≡ shard) [] (filed_under shard place request reply card)
    (All-nil _) (eqb-true _ shard home)

-- what is filed of a record that may be filed is of a card of the shard
home-filed : (issuer : Setup) (shard place : ℕ) (entry : Entry)
    → is_at_home issuer shard (number_of (card_in entry) issuer.cards) ≡ true
    → All (λ filed. filed.card % issuer.shards ≡ shard) (filed_of issuer shard place entry)
home-filed issuer shard place (Queued pan psn command) home = All-nil _
home-filed issuer shard place (Status pan psn status) home = All-nil _
home-filed issuer shard place (Decided request reply) home =
    home-option issuer shard place request reply (number_of (card_of request) issuer.cards) home

module _ (issuer : Setup) (shard : ℕ) where
  -- and one of this shard
  pub before-more : (records : List Filed) (place : ℕ) (entry : Entry) (others : List Filed)
      → fits issuer shard others entry ≡ true → AreBefore issuer (shard + 1) records
      → AreBefore issuer (shard + 1) (records ++ filed_of issuer shard place entry)
  before-more records place entry others fit before =
      let home = home-filed issuer shard place entry (and_parts _ _ fit).0 in
      All-append (λ (filed : Filed). filed.card % issuer.shards < shard + 1) records (filed_of issuer shard place entry)
      before (λ k default within. let same = home k default within in omega (arith, same))

-- ---- which records may be filed

and_none : (a b : Bool) → b ≡ false → (a && b) ≡ false
and_none true b none = none
and_none false b none = refl

-- a record of another card, or on another ATC
other-card : (card atc : ℕ) (filed : Filed) → filed.card ≢ card → has_atc card atc filed ≡ false
other-card card atc filed other = ap (λ b. b && filed.atc == atc) (ne_eqb filed.card card other)

other-atc : (card atc : ℕ) (filed : Filed) → filed.atc ≢ atc → has_atc card atc filed ≡ false
other-atc card atc filed other =
    and_none (filed.card == card) (filed.atc == atc) (ne_eqb filed.atc atc other)

module _ (issuer : Setup) (shard number atc : ℕ) (name : CardName) (number_is : number_of name issuer.cards ≡ Some number) where
  -- what is filed of a decision on another ATC, or of another card
  none-option : (place : ℕ) (request : Request) (reply : Reply) (card : Option ℕ)
      → number_of (card_of request) issuer.cards ≡ card
      → (is_of name request ≡ true → request.atc ≢ atc)
      → list_any (has_atc number atc) (option_to_list (option_map (filed_under shard place request reply) card)) ≡ false
  none-option place request reply None is other = refl
  none-option place request reply (Some card) is other =
      let filed = filed_under shard place request reply card in
      let not_it : has_atc number atc filed ≡ false =
      elim (cases_Bool (is_of name request)) [
        | inl of_it ↦ other-atc number atc filed (other of_it)
        | inr of_other ↦
            other-card number atc filed (λ same.
            let its = number_of-found name issuer.cards number number_is in
            let the_other = number_of-found (card_of request) issuer.cards card is in
            let one : Some its.0 ≡ Some the_other.0 =
            sym its.1 ∙ ap (slice_get issuer.cards) (sym same) ∙ the_other.1 in
            let named : name ≡ card_of request =
            sym its.2 ∙ ap name_of (same_Some its.0 the_other.0 one) ∙ the_other.2 in
            false≢true (sym of_other ∙ ap (λ n. is_of n request) named ∙ is_of-card_of request))
      ] in
      list_any_none (has_atc number atc) (filed ∷ [])
      (All-push (λ (f : Filed). has_atc number atc f ≡ false) [] filed (All-nil _) not_it)

  none-filed : (history : List Entry) (n p : ℕ) → All (λ decision. decision.request.atc ≢ atc) (decided_from p name history)
      → list_any (has_atc number atc)
      (flat_map (λ (numbered : ℕ × Entry). filed_of issuer shard numbered.0 numbered.1) (enumerate_from n history)) ≡ false
  none-filed [] n p others = refl
  none-filed (Queued pan psn command ∷ history) n p others = none-filed history (n + 1) (p + 1) others
  none-filed (Status pan psn status ∷ history) n p others = none-filed history (n + 1) (p + 1) others
  none-filed (Decided request reply ∷ history) n p others =
      let more = flat_map (λ (numbered : ℕ × Entry). filed_of issuer shard numbered.0 numbered.1) (enumerate_from (n + 1) history) in
      let behind : All (λ decision. decision.request.atc ≢ atc) (decided_from (p + 1) name history) =
      elim (cases_Bool (is_of name request)) [
        | inl of_it ↦
            All-tail (λ (decision : Decision). decision.request.atc ≢ atc) _ _
            (subst (All (λ (decision : Decision). decision.request.atc ≢ atc)) (decided_from-its p name request reply history of_it) others)
        | inr of_other ↦
            subst (All (λ (decision : Decision). decision.request.atc ≢ atc)) (decided_from-other p name request reply history of_other) others
      ] in
      let here : is_of name request ≡ true → request.atc ≢ atc = λ of_it.
      All-head (λ (decision : Decision). decision.request.atc ≢ atc) _ _
      (subst (All (λ (decision : Decision). decision.request.atc ≢ atc)) (decided_from-its p name request reply history of_it) others) in
      list_any-append (has_atc number atc) (filed_of issuer shard n (Decided request reply)) more
      ∙ ap₂ (λ (a b : Bool). a || b)
      (none-option n request reply (number_of (card_of request) issuer.cards) refl here)
      (none-filed history (n + 1) (p + 1) behind)

-- a card of the shard, and a record that repeats none
fits-at : (issuer : Setup) (shard card : ℕ) (records : List Filed) (entry : Entry) → card % issuer.shards ≡ shard
    → repeats records (Some card) entry ≡ false
    → (is_at_home issuer shard (Some card) && not (repeats records (Some card) entry)) ≡ true
fits-at issuer shard card records entry home none =
    and_from _ _ (eq-eqb _ _ home) (ap not none)

module _ (issuer : Setup) (shard : ℕ) (records : List Filed) (entry : Entry) (of_it : IsCardOfShard issuer shard (card_in entry)) where
  fits-of : repeats records (Some of_it.number) entry ≡ false → fits issuer shard records entry ≡ true
  fits-of none =
      subst (λ (card : Option ℕ). (is_at_home issuer shard card && not (repeats records card entry)) ≡ true)
      (sym of_it.number_is) (fits-at issuer shard of_it.number records entry of_it.home none)

-- a valid successor may be filed
pub fits-legal : (issuer : Setup) (shard : ℕ) (old : List Filed) (history : List Entry) (entry : Entry)
    → AreBefore issuer shard old → IsLegal (grounds_of issuer) shard history entry
    → fits issuer shard (old ++ filed_in issuer shard history) entry ≡ true
fits-legal issuer shard old history (Queued pan psn command) before legal =
    fits-of issuer shard _ (Queued pan psn command) legal.of_a_card refl
fits-legal issuer shard old history (Status pan psn status) before legal =
    fits-of issuer shard _ (Status pan psn status) legal.of_a_card refl
fits-legal issuer shard old history (Decided request reply) before legal =
    let its = legal.of_a_card in
    let home = its.home in
    fits-of issuer shard _ (Decided request reply) its
    (list_any-append (has_atc its.number request.atc) old (filed_in issuer shard history)
    ∙ ap₂ (λ (a b : Bool). a || b)
    (list_any_none (has_atc its.number request.atc) old (λ k default within.
    other-card its.number request.atc (get_or old k default) (λ same.
    let less = before k default within in
    let its_home = ap (λ n. n % issuer.shards) same in
    omega (arith, less, its_home, home))))
    (none-filed issuer shard its.number request.atc (card_of request) its.number_is history 0 0 legal.unrecorded))

-- ---- a journal

-- the records that were read of a journal are filed, after these
pub record HasFiled (issuer : Setup) (shard : ℕ) (bytes : Option (List ℕ)) (old now : List Filed) (reader : RecordReader)
    (place : ℕ) : Type 0 where
  pub history : List Entry
  pub read : HasRead reader bytes history
  pub place_is : place ≡ length history
  pub filed_are : now ≡ old ++ filed_in issuer shard history

module _ (issuer : Setup) (shard : ℕ) (bytes : Option (List ℕ)) (old now : List Filed) (reader : RecordReader) (place : ℕ) where
  -- one more
  pub filed-next : (so_far : HasFiled issuer shard bytes old now reader place) (entry : Entry) (next : RecordReader) (then : List Filed)
      → HasRead next bytes (so_far.history ++ entry ∷ []) → then ≡ now ++ filed_of issuer shard place entry
      → HasFiled issuer shard bytes old then next (place + 1)
  filed-next so_far entry next then read filed = record {
    history = so_far.history ++ entry ∷ [];
    read = read;
    place_is = ap (λ n. n + 1) so_far.place_is ∙ sym (length_push so_far.history entry);
    filed_are =
        filed
        ∙ ap₂ (λ (l : List Filed) (n : ℕ). l ++ filed_of issuer shard n entry) so_far.filed_are so_far.place_is
        ∙ append_assoc old (filed_in issuer shard so_far.history) (filed_of issuer shard (length so_far.history) entry)
        ∙ ap (λ l. old ++ l) (sym (filed-more issuer shard so_far.history entry));
  }
