-- An order is answered in the shard of its card.
use Rattle.std.proofs.Common.{◌≡◌, ℕ, ◌+◌, ◌%◌, ◌≤◌, length-set, vec_capacity, Some, refl, ap, sym, subst, ◌∙◌}
use Rattle.issuer_base.specs.declared.entry.Entry.{Entry}
use Rattle.issuer_setup.specs.CardList.{number_of}
use Rattle.std.proofs.lemmas.Option.{slice_get_read}
use Rattle.line_checks.proofs.Numbers.{number-within}
use Rattle.line_checks.proofs.Orders.{order-card}
use Rattle.line_checks.specs.AtHand.{order_asked}
use Rattle.shard_book.specs.Answering.{is_store_fault, LeavesTail}
use Rattle.shard_book.specs.Room.{UsesRoom}
use Rattle.host_loading.specs.StoreRoom.{HaveRoom}
use Rattle.one_caller.specs.Room.{added_at, most_asked}
use Rattle.one_caller.specs.Turns.{card_asked, AnswersAsked}
use Rattle.one_caller.proofs.OneShard.{IsCalled, card-at_home, shards-after, turn-after, crash-after, tails-after}
use Rattle.one_caller.proofs.Orders.{order-asked_card, order-answers, order-most, order-record}
use Rattle.host_loading.proofs.Places.{write-same}
use Rattle.one_caller.proofs.Rooms.{room-after}
use Rattle.one_caller.proofs.solo.Solo.order.Given.{Over}
use Rattle.one_caller.proofs.solo.Solo.order.Goals.{After-order}
use Rattle.one_caller.proofs.solo.Solo.order.Goals as goal

-- the shard with its index is called with the order
call : (g : Over) (c : After-order g) → IsCalled c.args.self.now.issuer c.args.self.now.shards.items (card_asked (order_asked c.args.found.now))
    c.home-shard.result c.index_mut.result.now c.order.new.self c.order.result
    (AnswersAsked c.args.self.now.issuer (order_asked c.args.found.now) c.order.result)
call g c =
    let its = c.order.ensures in
    let order = c.args.found.now in
    let issuer = c.args.self.now.issuer in
    record {
      home_is = c.home-shard.ensures.shard _
          (subst (λ (number : ℕ). number_of (card_asked (order_asked order)) issuer.cards ≡ Some number) (sym c.card.ensures)
          (order-asked_card issuer order c.requires).number_is);
      old_is = slice_get_read _ _ c.home-shard.result _ refl c.home-shard.ensures.within c.index_mut.ensures.value;
      answers = λ history stands.
          let answered = its.answer history stands in
          (answered.0, answered.1, order-answers issuer order c.order.result _ history answered.0 answered.2);
      leaves = its.crash;
      keeps = its.kept.keeps;
    }

pub order-requires : goal.order-requires
order-requires g c =
    let host = c.args.self.now in
    let old_is = slice_get_read _ _ c.home-shard.result _ refl c.home-shard.ensures.within c.index_mut.ensures.value in
    record {
      under = host.are_shards.under _ _ old_is;
      home =
          card-at_home _ _ host.are_shards _ _ _ (number-within _ _ _ (order-card host.issuer c.args.found.now c.requires).number_is) old_is
          (c.home-shard.ensures.number ∙ ap (λ (number : ℕ). number % host.issuer.shards) c.card.ensures);
      at_hand = c.requires;
    }

pub invariant_of-self-clause-are_shards : goal.invariant_of-self-clause-are_shards
invariant_of-self-clause-are_shards g c = shards-after c.args.self.now.are_shards (call g (goal.at.invariant_of-self-clause-are_shards g c).After-order)

pub invariant_of-self-clause-room : goal.invariant_of-self-clause-room
invariant_of-self-clause-room g c =
    let host = c.args.self.now in
    subst (λ count. count ≤ vec_capacity host.back) (sym (length-set host.shards.items c.home-shard.result c.order.new.self)) host.room

pub returns-clause-turn : goal.returns-clause-turn
returns-clause-turn g c = turn-after c.args.self.now.are_shards (call g (goal.at.returns-clause-turn g c).After-order)

pub returns-clause-leaves : goal.returns-clause-leaves
returns-clause-leaves g c books stand =
    let issuer = c.args.self.now.issuer in
    let order = c.args.found.now in
    let called = call g (goal.at.returns-clause-leaves g c).After-order in
    record {
      crash = crash-after c.args.self.now.are_shards called books stand;
      tails = tails-after c.args.self.now.are_shards called books stand (order_asked order) refl (λ history tail stands has.
          subst (λ (entry : Entry). LeavesTail entry history tail c.order.result c.order.new.self) (order-record issuer history order)
          (c.order.ensures.tail history tail has));
    }

pub returns-clause-unchanged : goal.returns-clause-unchanged
returns-clause-unchanged g c idle =
    write-same _ _ _ _ (call g (goal.at.returns-clause-unchanged g c).After-order).old_is (c.order.ensures.kept.unchanged idle)

pub returns-clause-room : goal.returns-clause-room
returns-clause-room g c =
    let called = call g (goal.at.returns-clause-room g c).After-order in
    let host = c.args.self.now in
    let most = most_asked (order_asked c.args.found.now) in
    λ spare have.
    room-after host.shards.items c.home-shard.result most (is_store_fault c.order.result) c.index_mut.result.now c.order.new.self called.old_is
    (subst (λ (most : ℕ). UsesRoom most (is_store_fault c.order.result) c.index_mut.result.now c.order.new.self)
    (order-most c.args.found.now) c.order.ensures.room) spare
    (subst (λ (home : ℕ). HaveRoom (λ number. added_at home most number + spare number) host.shards.items) (sym called.home_is) have)
