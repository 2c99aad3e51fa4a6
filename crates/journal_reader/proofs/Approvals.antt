-- What is filed of the histories, and where their approvals are.
use Rattle.std.proofs.Common.{◌≡◌, ℕ, zero, suc, ◌+◌, ◌<◌, ◌⊎◌, Bool, false, ◌==◌, List, [], ◌∷◌, ◌++◌, map, refl, sym, ap, ap₂, subst, ◌∙◌, arith, inl, inr, Option, Some, None}
use Rattle.std.specs.List.{enumerate_from, flat_map, filter, slice_get}
use Rattle.std.specs.Option.{option_map, option_to_list}
use Rattle.std.proofs.lemmas.Bool.{cases_Bool, and_parts, eqb-true, false_from_ne_true}
use Rattle.std.proofs.lemmas.List.{map-append}
use Rattle.std.proofs.lemmas.List.Elements.{filter-append}
use Rattle.std.proofs.lemmas.Option.{none-some, same_Some}
use Rattle.issuer_base.specs.declared.answer.Reply.{Reply}
use Rattle.issuer_base.specs.declared.entry.Entry.{Entry}
use Rattle.issuer_base.specs.declared.entry.Entry.TheVariants.{Decided, Queued, Status}
use Rattle.issuer_base.specs.declared.request.Request.{Request}
use Rattle.card_history.specs.OneReply.{record_at, IsOncePerCounter}
use Rattle.card_history.specs.Records.{card_in, card_of}
use Rattle.issuer_setup.specs.CardList.{name_of, number_of}
use Rattle.issuer_setup.specs.IssuerSetup.{Setup}
use Rattle.issuer_setup.proofs.CardListLemmas.{number_of-found}
use Rattle.clearing_check.specs.declared.filed.Filed.{Filed}
use Rattle.clearing_check.specs.Records.{has_atc, place_of}
use Rattle.clearing_check.specs.Verdicts.{filed_of, filed_under}
use Rattle.journal_reader.specs.Filing.{filed_in, filed_records}
use Rattle.journal_reader.specs.Accounts.{approvals, approvals_in, approves, HaveKnownCards}
use Rattle.journal_reader.proofs.Members.{Has, Every, Every-append, Every-at, Every-from, Has-append, Has-left, Has-right}
use Rattle.journal_reader.proofs.Marks.{AreApart}

-- ---- from a first index, and from a first shard

abbrev filed_from : Setup → ℕ → ℕ → List Entry → List Filed
filed_from issuer shard start history =
    flat_map (λ (numbered : ℕ × Entry). filed_of issuer shard numbered.0 numbered.1) (enumerate_from start history)

abbrev all_from : Setup → ℕ → List (List Entry) → List Filed
all_from issuer start histories =
    flat_map (λ (numbered : ℕ × List Entry). filed_in issuer numbered.0 numbered.1) (enumerate_from start histories)

-- ---- each filed record is that of a decision

-- what is filed of the decision that has this index
pub record FiledFrom (issuer : Setup) (histories : List (List Entry)) (filed : Filed) : Type 0 where
  pub request : Request
  pub reply : Reply
  pub record_is : record_at histories filed.shard filed.place ≡ Some (Decided request reply)
  pub number_is : number_of (card_of request) issuer.cards ≡ Some filed.card
  pub filed_is : filed ≡ filed_under filed.shard filed.place request reply filed.card

-- the same in one shard, by an index from the first one
record IsOf (issuer : Setup) (shard start : ℕ) (history : List Entry) (filed : Filed) : Type 0 where
  index : ℕ
  request : Request
  reply : Reply
  record_is : slice_get history index ≡ Some (Decided request reply)
  shard_is : filed.shard ≡ shard
  place_is : filed.place ≡ start + index
  number_is : number_of (card_of request) issuer.cards ≡ Some filed.card
  filed_is : filed ≡ filed_under filed.shard filed.place request reply filed.card

module _ (issuer : Setup) (shard : ℕ) where
  one-filed : (start : ℕ) (history : List Entry) (request : Request) (reply : Reply) (filed : Filed) (card : Option ℕ)
      → number_of (card_of request) issuer.cards ≡ card
      → Has (option_to_list (option_map (filed_under shard start request reply) card)) filed
      → IsOf issuer shard start (Decided request reply ∷ history) filed
  one-filed start history request reply filed None is there = absurd there
  one-filed start history request reply filed (Some card) is (inr there) = absurd there
  one-filed start history request reply filed (Some card) is (inl same) = record {
    index = 0;
    request = request;
    reply = reply;
    record_is = refl;
    shard_is = ap (λ f. f.shard) same;
    place_is = ap (λ f. f.place) same ∙ (let none : start ≡ start + 0 = omega arith in none);
    number_is = is ∙ ap (λ f. Some f.card) (sym same);
    filed_is = subst (λ (f : Filed). f ≡ filed_under f.shard f.place request reply f.card) (sym same) refl;
  }

  later : (start : ℕ) (entry : Entry) (history : List Entry) (filed : Filed) → IsOf issuer shard (start + 1) history filed
      → IsOf issuer shard start (entry ∷ history) filed
  later start entry history filed of_it = record {
    index = suc of_it.index;
    request = of_it.request;
    reply = of_it.reply;
    record_is = of_it.record_is;
    shard_is = of_it.shard_is;
    place_is = of_it.place_is ∙ (let same : start + 1 + of_it.index ≡ start + suc of_it.index = omega arith in same);
    number_is = of_it.number_is;
    filed_is = of_it.filed_is;
  }

  filed-of : (start : ℕ) (history : List Entry) (filed : Filed) → Has (filed_from issuer shard start history) filed
      → IsOf issuer shard start history filed
  filed-of start [] filed there = absurd there
  filed-of start (Queued pan psn command ∷ history) filed there =
      later start (Queued pan psn command) history filed (filed-of (start + 1) history filed there)
  filed-of start (Status pan psn status ∷ history) filed there =
      later start (Status pan psn status) history filed (filed-of (start + 1) history filed there)
  filed-of start (Decided request reply ∷ history) filed there =
      elim (Has-append (filed_of issuer shard start (Decided request reply)) (filed_from issuer shard (start + 1) history) filed there) [
        | inl here ↦ one-filed start history request reply filed (number_of (card_of request) issuer.cards) refl here
        | inr behind ↦ later start (Decided request reply) history filed (filed-of (start + 1) history filed behind)
      ]

-- the same among all, by a shard from the first one
record IsAmong (issuer : Setup) (start : ℕ) (histories : List (List Entry)) (filed : Filed) : Type 0 where
  index : ℕ
  history : List Entry
  history_is : slice_get histories index ≡ Some history
  of_it : IsOf issuer (start + index) 0 history filed

all-of : (issuer : Setup) (start : ℕ) (histories : List (List Entry)) (filed : Filed) → Has (all_from issuer start histories) filed
    → IsAmong issuer start histories filed
all-of issuer start [] filed there = absurd there
all-of issuer start (history ∷ histories) filed there =
    elim (Has-append (filed_in issuer start history) (all_from issuer (start + 1) histories) filed there) [
      | inl here ↦ record {
        index = 0;
        history = history;
        history_is = refl;
        of_it = subst (λ n. IsOf issuer n 0 history filed) (let none : start ≡ start + 0 = omega arith in none)
            (filed-of issuer start 0 history filed here);
      }
      | inr behind ↦
          let rest = all-of issuer (start + 1) histories filed behind in record {
            index = suc rest.index;
            history = rest.history;
            history_is = rest.history_is;
            of_it = subst (λ n. IsOf issuer n 0 rest.history filed)
                (let same : start + 1 + rest.index ≡ start + suc rest.index = omega arith in same) rest.of_it;
          }
    ]

at-history : (histories : List (List Entry)) (shard place : ℕ) (history : List Entry) → slice_get histories shard ≡ Some history
    → record_at histories shard place ≡ slice_get history place
at-history [] shard place history is = absurd (none-some history is)
at-history (first ∷ others) zero place history is = ap (λ (h : List Entry). slice_get h place) (same_Some first history is)
at-history (first ∷ others) (suc shard) place history is = at-history others shard place history is

pub filed-from : (issuer : Setup) (histories : List (List Entry)) (filed : Filed) → Has (filed_records issuer histories) filed
    → FiledFrom issuer histories filed
filed-from issuer histories filed there =
    let among = all-of issuer 0 histories filed there in
    let its = among.of_it in
    let shard : filed.shard ≡ among.index =
    its.shard_is ∙ (let same : 0 + among.index ≡ among.index = omega arith in same) in
    let place : filed.place ≡ its.index =
    its.place_is ∙ (let same : 0 + its.index ≡ its.index = omega arith in same) in
    record {
      request = its.request;
      reply = its.reply;
      record_is =
          ap₂ (λ (s p : ℕ). record_at histories s p) shard place
          ∙ at-history histories among.index its.index among.history among.history_is ∙ its.record_is;
      number_is = its.number_is;
      filed_is = its.filed_is;
    }

-- ---- each decision is filed

module _ (issuer : Setup) (request : Request) (reply : Reply) (number : ℕ) (number_is : number_of (card_of request) issuer.cards ≡ Some number) where
  own-filed : (shard start : ℕ) → Has (filed_of issuer shard start (Decided request reply)) (filed_under shard start request reply number)
  own-filed shard start =
      subst (λ (card : Option ℕ). Has (option_to_list (option_map (filed_under shard start request reply) card)) (filed_under shard start request reply number))
      (sym number_is) (inl refl)

  has-filed : (shard start index : ℕ) (history : List Entry) → slice_get history index ≡ Some (Decided request reply)
      → Has (filed_from issuer shard start history) (filed_under shard (start + index) request reply number)
  has-filed shard start index [] is = absurd (none-some (Decided request reply) is)
  has-filed shard start zero (entry ∷ history) is =
      let same : entry ≡ Decided request reply = same_Some entry (Decided request reply) is in
      let at : start ≡ start + 0 = omega arith in
      subst (λ n. Has (filed_from issuer shard start (entry ∷ history)) (filed_under shard n request reply number)) at
      (Has-left (filed_of issuer shard start entry) (filed_from issuer shard (start + 1) history) (filed_under shard start request reply number)
      (subst (λ e. Has (filed_of issuer shard start e) (filed_under shard start request reply number)) (sym same) (own-filed shard start)))
  has-filed shard start (suc index) (entry ∷ history) is =
      let at : start + 1 + index ≡ start + suc index = omega arith in
      subst (λ n. Has (filed_from issuer shard start (entry ∷ history)) (filed_under shard n request reply number)) at
      (Has-right (filed_of issuer shard start entry) (filed_from issuer shard (start + 1) history) _
      (has-filed shard (start + 1) index history is))

  has-all : (start shard place : ℕ) (histories : List (List Entry)) → record_at histories shard place ≡ Some (Decided request reply)
      → Has (all_from issuer start histories) (filed_under (start + shard) place request reply number)
  has-all start shard place [] is = absurd (none-some (Decided request reply) is)
  has-all start zero place (history ∷ histories) is =
      let at : start ≡ start + 0 = omega arith in
      let same : 0 + place ≡ place = omega arith in
      subst (λ n. Has (all_from issuer start (history ∷ histories)) (filed_under n place request reply number)) at
      (Has-left (filed_in issuer start history) (all_from issuer (start + 1) histories) (filed_under start place request reply number)
      (subst (λ n. Has (filed_in issuer start history) (filed_under start n request reply number)) same (has-filed start 0 place history is)))
  has-all start (suc shard) place (history ∷ histories) is =
      let at : start + 1 + shard ≡ start + suc shard = omega arith in
      subst (λ n. Has (all_from issuer start (history ∷ histories)) (filed_under n place request reply number)) at
      (Has-right (filed_in issuer start history) (all_from issuer (start + 1) histories) _
      (has-all (start + 1) shard place histories is))

  -- a decision of a card of the issuer is filed
  pub filed-has : (histories : List (List Entry)) (shard place : ℕ) → record_at histories shard place ≡ Some (Decided request reply)
      → Has (filed_records issuer histories) (filed_under shard place request reply number)
  filed-has histories shard place is =
      subst (λ n. Has (filed_records issuer histories) (filed_under n place request reply number))
      (let same : 0 + shard ≡ shard = omega arith in same) (has-all 0 shard place histories is)

-- ---- no two filed records are alike

module _ (issuer : Setup) (histories : List (List Entry)) where
  -- two on one place are the same
  pub same-place : (first second : Filed) → FiledFrom issuer histories first → FiledFrom issuer histories second
      → first.shard ≡ second.shard → first.place ≡ second.place → first ≡ second
  same-place first second one other shard place =
      let entries : Some (Decided one.request one.reply) ≡ Some (Decided other.request other.reply) =
      sym one.record_is ∙ ap₂ (λ (s p : ℕ). record_at histories s p) shard place ∙ other.record_is in
      let request : one.request ≡ other.request = cc in
      let reply : one.reply ≡ other.reply = cc in
      let card : first.card ≡ second.card =
      same_Some first.card second.card
      (sym one.number_is ∙ ap (λ r. number_of (card_of r) issuer.cards) request ∙ other.number_is) in
      one.filed_is
      ∙ ap₂ (λ (s p : ℕ). filed_under s p one.request one.reply first.card) shard place
      ∙ ap₂ (λ (q : Request) (r : Reply). filed_under second.shard second.place q r first.card) request reply
      ∙ ap (filed_under second.shard second.place other.request other.reply) card
      ∙ sym other.filed_is

  -- and so are two on one ATC of a card
  pub same-atc : IsOncePerCounter histories → (first second : Filed) → FiledFrom issuer histories first
      → FiledFrom issuer histories second → first.card ≡ second.card → first.atc ≡ second.atc → first ≡ second
  same-atc once first second one other card atc =
      let its = number_of-found (card_of one.request) issuer.cards first.card one.number_is in
      let the_other = number_of-found (card_of other.request) issuer.cards second.card other.number_is in
      let info : its.0 ≡ the_other.0 =
      same_Some its.0 the_other.0 (sym its.1 ∙ ap (slice_get issuer.cards) card ∙ the_other.1) in
      let name : card_of one.request ≡ card_of other.request = sym its.2 ∙ ap name_of info ∙ the_other.2 in
      let counter : one.request.atc ≡ other.request.atc =
      sym (ap (λ f. f.atc) one.filed_is) ∙ atc ∙ ap (λ f. f.atc) other.filed_is in
      let at = once first.shard second.shard first.place second.place one.request other.request one.reply other.reply
      one.record_is other.record_is name counter in
      same-place first second one other at.0 at.1

-- ---- their order

-- by shard, and then by index
abbrev IsBefore : Filed → Filed → Type 0
IsBefore first second = (first.shard < second.shard) ⊎ ((first.shard ≡ second.shard) × (first.place < second.place))

abbrev AreInOrder : List Filed → Type 0
AreInOrder [] = Unit {0}
AreInOrder (filed ∷ others) = Every (IsBefore filed) others × AreInOrder others

order-append : (first second : List Filed) → AreInOrder first → AreInOrder second
    → ((x y : Filed) → Has first x → Has second y → IsBefore x y) → AreInOrder (first ++ second)
order-append [] second one other across = other
order-append (filed ∷ first) second one other across = (
  Every-append (IsBefore filed) first second one.0 (Every-from (IsBefore filed) second (λ y there. across filed y (inl refl) there)),
  order-append first second one.1 other (λ x y there. across x y (inr there)),
)

module _ (issuer : Setup) (shard : ℕ) where
  one-in-order : (start : ℕ) (history : List Entry) (request : Request) (reply : Reply) (card : Option ℕ)
      → AreInOrder (filed_from issuer shard (start + 1) history)
      → AreInOrder (option_to_list (option_map (filed_under shard start request reply) card) ++ filed_from issuer shard (start + 1) history)
  one-in-order start history request reply None rest = rest
  one-in-order start history request reply (Some card) rest = (
    Every-from (IsBefore (filed_under shard start request reply card)) (filed_from issuer shard (start + 1) history) (λ y there.
        let its = filed-of issuer shard (start + 1) history y there in
        let place = its.place_is in
        inr (sym its.shard_is, omega (arith, place))),
    rest,
  )

  filed-in-order : (start : ℕ) (history : List Entry) → AreInOrder (filed_from issuer shard start history)
  filed-in-order start [] = tt
  filed-in-order start (Queued pan psn command ∷ history) = filed-in-order (start + 1) history
  filed-in-order start (Status pan psn status ∷ history) = filed-in-order (start + 1) history
  filed-in-order start (Decided request reply ∷ history) =
      one-in-order start history request reply (number_of (card_of request) issuer.cards) (filed-in-order (start + 1) history)

all-in-order : (issuer : Setup) (start : ℕ) (histories : List (List Entry)) → AreInOrder (all_from issuer start histories)
all-in-order issuer start [] = tt
all-in-order issuer start (history ∷ histories) =
    order-append (filed_in issuer start history) (all_from issuer (start + 1) histories)
    (filed-in-order issuer start 0 history) (all-in-order issuer (start + 1) histories) (λ x y here behind.
    let one = filed-of issuer start 0 history x here in
    let other = all-of issuer (start + 1) histories y behind in
    let first = one.shard_is in
    let second = other.of_it.shard_is in
    inl (omega (arith, first, second)))

apart-from : (records : List Filed) → AreInOrder records
    → ((first second : Filed) → Has records first → Has records second → first.card ≡ second.card → first.atc ≡ second.atc → first ≡ second)
    → AreApart records
apart-from [] order once = tt
apart-from (filed ∷ others) order once = (
  Every-from (λ other. has_atc filed.card filed.atc other ≡ false) others (λ other there.
      false_from_ne_true _ (λ holds.
      let parts = and_parts (other.card == filed.card) (other.atc == filed.atc) holds in
      let same = once filed other (inl refl) (inr there) (sym (eqb-true other.card filed.card parts.0)) (sym (eqb-true other.atc filed.atc parts.1)) in
      let shard = ap (λ f. f.shard) same in
      let place = ap (λ f. f.place) same in
      elim (Every-at (IsBefore filed) others other order.0 there) [
        | inl below ↦ omega (arith, below, shard)
        | inr behind ↦ omega (arith, behind.1, place)
      ])),
  apart-from others order.1 (λ first second here behind. once first second (inr here) (inr behind)),
)

-- the filed records of lawful histories are each on an ATC of its own
pub filed-apart : (issuer : Setup) (histories : List (List Entry)) → IsOncePerCounter histories → AreApart (filed_records issuer histories)
filed-apart issuer histories once =
    apart-from (filed_records issuer histories) (all-in-order issuer 0 histories) (λ first second here there.
    same-atc issuer histories once first second (filed-from issuer histories first here) (filed-from issuer histories second there))

-- ---- the approvals

-- each record is of a card that the issuer has
abbrev HasKnownCards : Setup → List Entry → Type 0
HasKnownCards issuer history =
    (place : ℕ) (entry : Entry) → slice_get history place ≡ Some entry
    → (number : ℕ) × (number_of (card_in entry) issuer.cards ≡ Some number)

abbrev pub is_approved : Filed → Bool
is_approved filed = filed.approved

module _ (issuer : Setup) (shard : ℕ) where
  abbrev approved_from : ℕ → List Entry → List (ℕ × ℕ)
  approved_from start history =
      map (λ (numbered : ℕ × Entry). (shard, numbered.0)) (filter (λ (numbered : ℕ × Entry). approves numbered.1) (enumerate_from start history))

  one-approved : (start : ℕ) (history : List Entry) (request : Request) (reply : Reply) (number : ℕ)
      → map place_of (filter is_approved (filed_from issuer shard (start + 1) history)) ≡ approved_from (start + 1) history
      → map place_of (filter is_approved (filed_under shard start request reply number ∷ filed_from issuer shard (start + 1) history))
      ≡ approved_from start (Decided request reply ∷ history)
  one-approved start history request reply number rest =
      elim (cases_Bool reply.approve) [
        | inl holds ↦ rw holds (ap (λ (xs : List (ℕ × ℕ)). (shard, start) ∷ xs) rest)
        | inr fails ↦ rw fails rest
      ]

  filed-approved : (start : ℕ) (history : List Entry) → HasKnownCards issuer history
      → map place_of (filter is_approved (filed_from issuer shard start history)) ≡ approved_from start history
  filed-approved start [] known = refl
  filed-approved start (Queued pan psn command ∷ history) known =
      filed-approved (start + 1) history (λ place. known (suc place))
  filed-approved start (Status pan psn status ∷ history) known =
      filed-approved (start + 1) history (λ place. known (suc place))
  filed-approved start (Decided request reply ∷ history) known =
      let number = known 0 (Decided request reply) refl in
      let others = filed_from issuer shard (start + 1) history in
      ap (λ (card : Option ℕ). map place_of (filter is_approved (option_to_list (option_map (filed_under shard start request reply) card) ++ others)))
      number.1
      ∙ one-approved start history request reply number.0 (filed-approved (start + 1) history (λ place. known (suc place)))

all-approved : (issuer : Setup) (start : ℕ) (histories : List (List Entry))
    → ((shard : ℕ) (history : List Entry) → slice_get histories shard ≡ Some history → HasKnownCards issuer history)
    → map place_of (filter is_approved (all_from issuer start histories))
    ≡ flat_map (λ (numbered : ℕ × List Entry). approvals_in numbered.0 numbered.1) (enumerate_from start histories)
all-approved issuer start [] known = refl
all-approved issuer start (history ∷ histories) known =
    ap (map place_of) (filter-append is_approved (filed_in issuer start history) (all_from issuer (start + 1) histories))
    ∙ map-append place_of (filter is_approved (filed_in issuer start history)) (filter is_approved (all_from issuer (start + 1) histories))
    ∙ ap₂ (λ (xs ys : List (ℕ × ℕ)). xs ++ ys) (filed-approved issuer start 0 history (known 0 history refl))
    (all-approved issuer (start + 1) histories (λ shard. known (suc shard)))

pub approved-are : (issuer : Setup) (histories : List (List Entry)) → HaveKnownCards issuer histories
    → map place_of (filter is_approved (filed_records issuer histories)) ≡ approvals histories
approved-are issuer histories known =
    all-approved issuer 0 histories (λ shard history there place entry is.
    known shard place entry (at-history histories shard place history there ∙ is))
