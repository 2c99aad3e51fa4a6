-- A line that was looked up is answered in the shard of its card, and one that is refused calls none.
use Rattle.std.proofs.Common.{◌≡◌, ℕ, ◌+◌, ◌≤◌, List, Result, Ok, Err, IfOk, true, length-set, slice_set, vec_capacity, refl, ap, subst, sym, ◌∙◌}
use Rattle.std.specs.Result.{result_map_both}
use Rattle.std.proofs.lemmas.Option.{slice_get_read}
use Rattle.issuer_base.specs.declared.request.Request.{Request}
use Rattle.issuer_base.specs.declared.answer.Answer.TheVariants.{Refused}
use Rattle.issuer_base.specs.declared.answer.Refusal.{Refusal}
use Rattle.card_history.specs.Records.{card_of}
use Rattle.card_history.specs.declared.decision.Asked.{Asked}
use Rattle.card_history.specs.declared.decision.Asked.TheVariants.{Decide}
use Rattle.issuer_setup.specs.IssuerSetup.{Setup}
use Rattle.journal_rec.specs.declared.limits.TheConstants.{MOST_RECORD_BYTES}
use Rattle.line_checks.specs.AtHand.{IsRequestAtHand}
use Rattle.line_checks.specs.LookedUp.{IsLookUp}
use Rattle.line_checks.specs.Reading.{checked, reading}
use Rattle.line_checks.specs.declared.checked.CheckedRequest.{CheckedRequest}
use Rattle.line_checks.specs.declared.looked_up.LookedUp.{LookedUp}
use Rattle.line_checks.specs.declared.looked_up.LookedUp.TheVariants.{Request as IsRequest}
use Rattle.line_checks.specs.declared.looked_up.LookedUpRequest.{LookedUpRequest}
use Rattle.line_checks.proofs.LookUps.{carried}
use Rattle.line_checks.proofs.Numbers.{number-within}
use Rattle.shard_book.specs.Replying.{reply_to}
use Rattle.shard_book.specs.Answering.{AnswersClaimed, is_store_fault}
use Rattle.shard_book.proofs.Adopted.{checked-own}
use Rattle.host_loading.specs.Books.{ShardBook}
use Rattle.host_loading.specs.Hosts.{Stand}
use Rattle.host_loading.specs.StoreRoom.{HaveRoom}
use Rattle.one_caller.specs.Room.{added_at, added_by}
use Rattle.one_caller.specs.Runs.{LeavesAnswering}
use Rattle.one_caller.specs.Turns.{Turn}
use Rattle.one_caller.proofs.OneShard.{IsCalled, card-at_home, shards-after, turn-after, crash-after, tails-after, leaves-uncalled_by}
use Rattle.one_caller.proofs.Rooms.{checked-no_fault, read-no_fault, room-after, room-uncalled}
use Rattle.one_caller.proofs.solo.Solo.answer.Given.{Over}
use Rattle.one_caller.proofs.solo.Solo.answer.Goals.{After-answer}
use Rattle.one_caller.proofs.solo.Solo.answer.Goals as goal

-- what a check gave
says : (issuer : Setup) (request : Request) (result found : Result CheckedRequest Refusal) → result ≡ found
    → result_map_both (λ (found : CheckedRequest). Decide found.request) (λ (refusal : Refusal). refusal) result ≡ checked issuer request
    → result_map_both (λ (found : CheckedRequest). Decide found.request) (λ (refusal : Refusal). refusal) found ≡ checked issuer request
says issuer request result found is its =
    sym (ap (result_map_both (λ (found : CheckedRequest). Decide found.request) (λ (refusal : Refusal). refusal)) is) ∙ its

-- a request that passed its check passes it again
passes : (issuer : Setup) (request : Request) (found : CheckedRequest) → Ok (Decide found.request) ≡ checked issuer request
    → checked issuer found.request ≡ Ok (Decide found.request)
passes issuer request found its =
    subst (λ (request : Request). checked issuer request ≡ Ok (Decide found.request)) (sym (checked-own issuer request found.request (sym its))) (sym its)

-- what a line asks whose look-up gave this request
asks : (issuer : Setup) (line : List ℕ) (found : Result LookedUp Refusal) (field : LookedUp) (sought : LookedUpRequest) → found ≡ Ok field → field ≡ IsRequest sought
    → IsLookUp issuer line found → reading issuer line ≡ checked issuer sought.request
asks issuer line found field sought is field_is looked_up =
    carried issuer line sought.request (subst (IsLookUp issuer line) (is ∙ ap (λ (field : LookedUp). Ok field) field_is) looked_up).0

-- a request that passed its check is at hand
at-hand : (issuer : Setup) (result : Result CheckedRequest Refusal) (found : CheckedRequest) → result ≡ Ok found → IfOk result (IsRequestAtHand issuer)
    → IsRequestAtHand issuer found
at-hand issuer result found is its = subst (λ (result : Result CheckedRequest Refusal). IfOk result (IsRequestAtHand issuer)) is its

-- the shard with its index is called with the request
call : (g : Over) (c : After-answer g) → IsCalled c.args.self.now.issuer c.args.self.now.shards.items (card_of c.in-Ok.found.request)
    c.home-shard.result c.index_mut.result.now c.answer.new.self c.answer.result
    (λ shard old new. AnswersClaimed shard (reply_to c.args.self.now.issuer) true old c.in-Ok.found.request c.answer.result new)
call g c =
    let its = c.answer.ensures in
    record {
      home_is = c.home-shard.ensures.shard _ (at-hand _ _ _ c.in-Ok.is c.check-checked.ensures.at_hand).card_is.number_is;
      old_is = slice_get_read _ _ c.home-shard.result _ refl c.home-shard.ensures.within c.index_mut.ensures.value;
      answers = its.answer;
      leaves = its.crash;
      keeps = its.kept.keeps;
    }

-- what its line asks
asked : (g : Over) (c : After-answer g) (line : List ℕ) → IsLookUp c.args.self.now.issuer line c.args.found.now
    → Ok (Decide c.in-Ok.found.request) ≡ reading c.args.self.now.issuer line
asked g c line looked_up =
    says c.args.self.now.issuer c.in-Ok-Request.sought.request c.check-checked.result (Ok c.in-Ok.found) c.in-Ok.is c.check-checked.ensures.request
    ∙ sym (asks c.args.self.now.issuer line c.args.found.now c.in-Ok-Request.field-0 c.in-Ok-Request.sought c.in-Ok-Request.is
    (rw c.in-Ok-Request.is at c.in-Ok-Request.field-0-is) looked_up)

pub returns-in-Ok-Order-clause-turn : goal.returns-in-Ok-Order-clause-turn
returns-in-Ok-Order-clause-turn g c line looked_up =
    let host = c.args.self.now in
    let new = c.order.new.self in
    let field_is = rw c.in-Ok-Order.is at c.in-Ok-Order.field-0-is in
    let its = subst (IsLookUp host.issuer line) (c.in-Ok-Order.is ∙ ap (λ (sought : LookedUp). Ok sought) field_is) looked_up in
    subst (λ (says : Result Asked Refusal). (books : List ShardBook) → Stand host.issuer host.shards.items books
    → (after : List ShardBook) × Stand new.issuer new.shards.items after × Turn host.issuer books says c.order.result after)
    (sym its.0) c.order.ensures.turn

pub returns-in-Ok-Order-clause-leaves : goal.returns-in-Ok-Order-clause-leaves
returns-in-Ok-Order-clause-leaves g c line looked_up =
    let host = c.args.self.now in
    let new = c.order.new.self in
    let field_is = rw c.in-Ok-Order.is at c.in-Ok-Order.field-0-is in
    let its = subst (IsLookUp host.issuer line) (c.in-Ok-Order.is ∙ ap (λ (sought : LookedUp). Ok sought) field_is) looked_up in
    subst (λ (says : Result Asked Refusal). (books : List ShardBook) → Stand host.issuer host.shards.items books
    → LeavesAnswering host.issuer says c.order.result books host.shards.items new.shards.items)
    (sym its.0) c.order.ensures.leaves

pub returns-in-Err-clause-leaves : goal.returns-in-Err-clause-leaves
returns-in-Err-clause-leaves g c line looked_up books stand =
    let host = c.args.self.now in
    let its = subst (IsLookUp host.issuer line) c.in-Err.is looked_up in
    leaves-uncalled_by host.issuer host.shards.items host.are_shards (reading host.issuer line) c.in-Err.refusal its.0 (Refused c.in-Err.refusal) books stand

pub returns-in-Err-clause-room : goal.returns-in-Err-clause-room
returns-in-Err-clause-room g c line looked_up spare have =
    let host = c.args.self.now in
    let its = subst (IsLookUp host.issuer line) c.in-Err.is looked_up in
    let read = sym its.0 in
    let none = subst (λ (asked : Result Asked Refusal). HaveRoom (λ number. added_by host.issuer asked number + spare number) host.shards.items)
    (sym read) have in
    (read-no_fault host.issuer line c.in-Err.refusal read, room-uncalled host.shards.items spare none)

pub returns-in-Err-checked-clause-leaves : goal.returns-in-Err-checked-clause-leaves
returns-in-Err-checked-clause-leaves g c line looked_up books stand =
    let host = c.args.self.now in
    let refused = says host.issuer c.in-Ok-Request.sought.request c.check-checked.result (Err c.in-Err-checked.refusal) c.in-Err-checked.is
    c.check-checked.ensures.request in
    let field_is = rw c.in-Ok-Request.is at c.in-Ok-Request.field-0-is in
    let asks = asks host.issuer line c.args.found.now c.in-Ok-Request.field-0 c.in-Ok-Request.sought c.in-Ok-Request.is field_is looked_up in
    leaves-uncalled_by host.issuer host.shards.items host.are_shards (reading host.issuer line) c.in-Err-checked.refusal (asks ∙ sym refused)
    (Refused c.in-Err-checked.refusal) books stand

pub returns-in-Err-checked-clause-room : goal.returns-in-Err-checked-clause-room
returns-in-Err-checked-clause-room g c line looked_up spare have =
    let host = c.args.self.now in
    let refused = says host.issuer c.in-Ok-Request.sought.request c.check-checked.result (Err c.in-Err-checked.refusal) c.in-Err-checked.is
    c.check-checked.ensures.request in
    let field_is = rw c.in-Ok-Request.is at c.in-Ok-Request.field-0-is in
    let asks = asks host.issuer line c.args.found.now c.in-Ok-Request.field-0 c.in-Ok-Request.sought c.in-Ok-Request.is field_is looked_up in
    let none = subst (λ (asked : Result Asked Refusal). HaveRoom (λ number. added_by host.issuer asked number + spare number) host.shards.items)
    (asks ∙ sym refused) have in
    (checked-no_fault host.issuer c.in-Ok-Request.sought.request c.in-Err-checked.refusal refused, room-uncalled host.shards.items spare none)

pub answer-requires : goal.answer-requires
answer-requires g c =
    let host = c.args.self.now in
    let found = at-hand _ _ _ c.in-Ok.is c.check-checked.ensures.at_hand in
    let old_is = slice_get_read _ _ c.home-shard.result _ refl c.home-shard.ensures.within c.index_mut.ensures.value in
    record {
      under = host.are_shards.under _ _ old_is;
      home = card-at_home _ _ host.are_shards _ _ _ (number-within _ _ _ found.card_is.number_is) old_is c.home-shard.ensures.number;
      at_hand = found;
      checked_is =
          passes host.issuer c.in-Ok-Request.sought.request c.in-Ok.found
          (says host.issuer c.in-Ok-Request.sought.request c.check-checked.result (Ok c.in-Ok.found) c.in-Ok.is c.check-checked.ensures.request);
    }

pub invariant_of-self-2-clause-are_shards : goal.invariant_of-self-2-clause-are_shards
invariant_of-self-2-clause-are_shards g c =
    shards-after c.args.self.now.are_shards (call g (goal.at.invariant_of-self-2-clause-are_shards g c).After-answer)

pub invariant_of-self-2-clause-room : goal.invariant_of-self-2-clause-room
invariant_of-self-2-clause-room g c =
    let host = c.args.self.now in
    subst (λ count. count ≤ vec_capacity host.back) (sym (length-set host.shards.items c.home-shard.result c.answer.new.self)) host.room

pub returns-clause-turn : goal.returns-clause-turn
returns-clause-turn g c line looked_up =
    let after = (goal.at.returns-clause-turn g c).After-answer in
    let host = c.args.self.now in
    let new = slice_set host.shards.items c.home-shard.result c.answer.new.self in
    subst (λ (says : Result Asked Refusal). (books : List ShardBook) → Stand host.issuer host.shards.items books
    → (after : List ShardBook) × Stand host.issuer new after × Turn host.issuer books says c.answer.result after)
    (asked g after line looked_up) (turn-after host.are_shards (call g after))

pub returns-clause-leaves : goal.returns-clause-leaves
returns-clause-leaves g c line looked_up books stand =
    let after = (goal.at.returns-clause-leaves g c).After-answer in
    let host = c.args.self.now in
    let new = slice_set host.shards.items c.home-shard.result c.answer.new.self in
    let called = call g after in
    subst (λ (says : Result Asked Refusal). LeavesAnswering host.issuer says c.answer.result books host.shards.items new) (asked g after line looked_up)
    (record {
      crash = crash-after host.are_shards called books stand;
      tails = tails-after host.are_shards called books stand (Decide c.in-Ok.found.request) refl c.answer.ensures.tail;
    })

pub returns-clause-room : goal.returns-clause-room
returns-clause-room g c line looked_up spare have =
    let after = (goal.at.returns-clause-room g c).After-answer in
    let called = call g after in
    let host = c.args.self.now in
    let decide = subst (λ (asked : Result Asked Refusal). HaveRoom (λ number. added_by host.issuer asked number + spare number) host.shards.items)
    (sym (asked g after line looked_up)) have in
    room-after host.shards.items c.home-shard.result MOST_RECORD_BYTES (is_store_fault c.answer.result) c.index_mut.result.now c.answer.new.self called.old_is
    c.answer.ensures.room spare
    (subst (λ (home : ℕ). HaveRoom (λ number. added_at home MOST_RECORD_BYTES number + spare number) host.shards.items) (sym called.home_is) decide)
