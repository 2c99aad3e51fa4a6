-- The list of recorded ATCs grows by those of one shard after another.
use Rattle.std.proofs.Common.{◌≡◌, ℕ, ◌+◌, ◌%◌, ◌<◌, List, [], Some}
use Rattle.std.proofs.Common.{sym, ap, ◌∙◌, subst, inl, inr, arith}
use Rattle.std.proofs.lemmas.Bool.{cases_eq, cases_lt}
use Rattle.std.proofs.lemmas.Option.{same_Some}
use Rattle.std.specs.List.{slice_get}
use Rattle.counter_bits.specs.CounterSets.{times}
use Rattle.counter_bits.proofs.Listing.{times-append}
use Rattle.issuer_base.specs.declared.entry.Entry.{Entry}
use Rattle.issuer_base.specs.declared.outside.store.Store.{Ghosts}
use Rattle.issuer_setup.specs.IssuerSetup.{Setup}
use Rattle.shard_book.specs.declared.shard.Shard.{Shard}
use Rattle.shard_book.specs.Recorded.{IsRecorded, AddsRecorded}
use Rattle.shard_book.specs.Shards.{number_in, StandsFor}
use Rattle.host_calls.specs.RecordedCounters.{AreStanding, AreRecordedOf}

module _ {S : Type 0} {G : Ghosts S} (issuer : Setup) (shards : List (Shard S G)) (standing : AreStanding issuer shards) where
  pub recorded-none : AreRecordedOf issuer shards 0 []
  unfolding times
  recorded-none = record {
    once = λ card counter. omega arith;
    home = λ card counter some. absurd (omega (arith, some));
    exact = λ card counter shard history below. absurd (omega (arith, below));
  }

  module _ (count : ℕ) (list longer : List (ℕ × ℕ)) (its : Shard S G) (its_is : slice_get shards count ≡ Some its)
      (adds : (history : List Entry) → StandsFor issuer its history → AddsRecorded issuer (number_in its) history list longer)
      (before : AreRecordedOf issuer shards count list) where
    number_is : number_in its ≡ count
    number_is = standing.numbers_are count its its_is

    some : AddsRecorded issuer count (standing.stand count its its_is).0 list longer
    unfolding number_is
    some = subst (λ number. AddsRecorded issuer number (standing.stand count its its_is).0 list longer) number_is
        (adds (standing.stand count its its_is).0 (standing.stand count its its_is).1)

    -- what the list has of a card
    of_both : (adding : AddsRecorded issuer count (standing.stand count its its_is).0 list longer) (card counter : ℕ)
        → times card counter longer ≡ times card counter list + times card counter adding.added
    of_both adding card counter = ap (λ pairs. times card counter pairs) adding.behind ∙ times-append card counter list adding.added

    pub recorded-more : AreRecordedOf issuer shards (count + 1) longer
    recorded-more =
        let adding = some in
        let both = of_both adding in
        let at_home : (card counter : ℕ) → 0 < times card counter adding.added → card % issuer.shards ≡ count =
        λ card counter there. ((adding.exact card counter).0 there).home in
        record {
          once = λ card counter.
              elim (cases_lt 0 (times card counter adding.added)) [
                | inl there ↦
                    let home = at_home card counter there in
                    elim (cases_lt 0 (times card counter list)) [
                      | inl listed ↦ absurd (omega (arith, home, before.home card counter listed))
                      | inr unlisted ↦ omega (arith, both card counter, adding.once card counter, unlisted)
                    ]
                | inr nowhere ↦ omega (arith, both card counter, before.once card counter, nowhere)
              ];
          home = λ card counter there.
              elim (cases_lt 0 (times card counter adding.added)) [
                | inl here ↦ omega (arith, at_home card counter here)
                | inr nowhere ↦
                    let listed : 0 < times card counter list = omega (arith, both card counter, there, nowhere) in
                    omega (arith, before.home card counter listed)
              ];
          exact = λ card counter shard history below is stands.
              elim (cases_eq (card % issuer.shards) count) [
                | inl here ↦
                    let same : its ≡ shard = same_Some its shard (sym its_is ∙ subst (λ number. slice_get shards number ≡ Some shard) here is) in
                    let stands_its : StandsFor issuer its history = subst (λ (shard : Shard S G). StandsFor issuer shard history) (sym same) stands in
                    let fresh : AddsRecorded issuer count history list longer =
                    subst (λ number. AddsRecorded issuer number history list longer) number_is (adds history stands_its) in
                    let count_of : times card counter longer ≡ times card counter list + times card counter fresh.added =
                    ap (λ pairs. times card counter pairs) fresh.behind ∙ times-append card counter list fresh.added in (
                      λ there.
                          elim (cases_lt 0 (times card counter list)) [
                            | inl listed ↦ absurd (omega (arith, here, before.home card counter listed))
                            | inr unlisted ↦
                                subst (λ home. IsRecorded issuer home history card counter) (sym here)
                                ((fresh.exact card counter).0 (omega (arith, count_of, there, unlisted)))
                          ],
                      λ recorded.
                          let added = (fresh.exact card counter).1 (subst (λ home. IsRecorded issuer home history card counter) here recorded) in
                          omega (arith, count_of, added),
                    )
                | inr apart ↦
                    let early : card % issuer.shards < count = omega (arith, below, apart) in
                    let old = before.exact card counter shard history early is stands in (
                      λ there.
                          elim (cases_lt 0 (times card counter adding.added)) [
                            | inl here ↦ absurd (apart (at_home card counter here))
                            | inr nowhere ↦ old.0 (omega (arith, both card counter, there, nowhere))
                          ],
                      λ recorded. let listed = old.1 recorded in omega (arith, both card counter, listed),
                    )
              ];
        }
