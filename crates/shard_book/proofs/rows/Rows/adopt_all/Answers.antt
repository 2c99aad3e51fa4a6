-- One more record is replayed, or is no valid successor.
use Rattle.std.proofs.Common.{◌≡◌, ◌+◌, ℕ, List, Result, Some, ◌++◌, get_or, length, take, ap, subst, sym, ◌∙◌, arith, length-append}
use Rattle.std.proofs.lemmas.Bool.{false≢true}
use Rattle.std.proofs.lemmas.List.{length-take-le}
use Rattle.std.proofs.lemmas.Option.{get_or_from_slice_get, slice_get-get_or}
use Rattle.std.proofs.lemmas.Slice.Zip.{AllZip-long}
use Rattle.issuer_base.specs.declared.answer.Refusal.{Refusal}
use Rattle.issuer_base.specs.declared.entry.Entry.{Entry}
use Rattle.card_history.specs.LegalRecords.{IsLegal}
use Rattle.line_checks.specs.declared.looked_up.LookedUp.{LookedUp}
use Rattle.line_checks.proofs.Again.{zip-at}
use Rattle.shard_book.specs.ReadAhead.{IsLookedUp}
use Rattle.shard_book.specs.Versions.{bad_record, grounds_in}
use Rattle.shard_book.proofs.ReadAhead.{takes-next}
use Rattle.shard_book.proofs.rows.Rows.adopt_all.Goals as goal

pub found-requires : goal.found-requires
found-requires c =
    let ahead = c.args.ahead.now in
    omega (
      arith,
      AllZip-long (IsLookedUp c.args.issuer.now) ahead.entries ahead.found c.requires.found,
      ap length c.entries-entry-items.ensures,
    )

pub adopt-requires-clause-found : goal.adopt-requires-clause-found
adopt-requires-clause-found c =
    let issuer = c.args.issuer.now in
    let ahead = c.args.ahead.now in
    let i : ℕ = c.loop-i.i in
    let entry : Entry = c.entry-item.result in
    let found : Result LookedUp Refusal = c.found.result.now in
    let entry_is : entry ≡ get_or ahead.entries i entry = c.entry-item.is ∙ ap (λ (es : List Entry). get_or es i entry) c.entries-entry-items.ensures in
    let found_is : get_or ahead.found i found ≡ found = get_or_from_slice_get ahead.found i found found c.found.ensures in
    subst (IsLookedUp issuer entry) found_is
    (subst (λ (entry : Entry). IsLookedUp issuer entry (get_or ahead.found i found)) (sym entry_is)
    (zip-at (IsLookedUp issuer) ahead.entries ahead.found i entry found c.requires.found (omega (arith, ap length c.entries-entry-items.ensures))))

pub returns-then-not-adopt-clause-taken : goal.returns-then-not-adopt-clause-taken
returns-then-not-adopt-clause-taken c history stands at_end legal =
    let entries : List Entry = c.args.ahead.now.entries in
    let i : ℕ = c.loop-i.i in
    let entry : Entry = c.entry-item.result in
    let before = c.loop-i.invariant.taken history stands at_end legal in
    let entry_is : entry ≡ get_or entries i entry = c.entry-item.is ∙ ap (λ (es : List Entry). get_or es i entry) c.entries-entry-items.ensures in
    let place_is : c.args.place + i ≡ length (history ++ take i entries) =
    omega (arith, length-append history (take i entries), length-take-le i entries (omega (arith, ap length c.entries-entry-items.ensures)), at_end) in
    record {
      place = i;
      entry = entry;
      entry_is =
          slice_get-get_or entries i entry (omega (arith, ap length c.entries-entry-items.ensures)) ∙ ap (λ (e : Entry). Some e) (sym entry_is);
      legal = before.legal;
      fault_is = c.bad_record.ensures ∙ ap (bad_record c.args.version) place_is;
      illegal = λ is_legal.
          false≢true (sym c.if-not-adopt.true ∙ (c.adopt.ensures.exact (history ++ take i entries) before.stands).1
          (subst (λ (shard : ℕ). IsLegal (grounds_in c.args.version c.args.issuer.now) shard (history ++ take i entries) entry)
          (sym c.loop-i.invariant.same.shard_is) is_legal));
    }

pub loop-i-preserved : goal.loop-i-preserved
loop-i-preserved c =
    let invariant = c.loop-i.invariant in
    let same = c.adopt.ensures.same in
    record {
      rows = record {
        shards_are = same.shards_are ∙ invariant.rows.shards_are;
        cards_are = same.cards_are ∙ invariant.rows.cards_are;
      };
      same = record {
        shard_is = same.shard_is ∙ invariant.same.shard_is;
        shards_are = same.shards_are ∙ invariant.same.shards_are;
        cards_are = same.cards_are ∙ invariant.same.cards_are;
      };
      taken = λ history stands at_end legal.
          let entries : List Entry = c.args.ahead.now.entries in
          let i : ℕ = c.loop-i.i in
          let entry : Entry = c.entry-item.result in
          let before = c.loop-i.invariant.taken history stands at_end legal in
          let entry_is : entry ≡ get_or entries i entry = c.entry-item.is ∙ ap (λ (es : List Entry). get_or es i entry) c.entries-entry-items.ensures in
          let place_is : c.args.place + i ≡ length (history ++ take i entries) =
          omega (arith, length-append history (take i entries), length-take-le i entries (omega (arith, ap length c.entries-entry-items.ensures)), at_end) in
          takes-next c.args.version c.args.issuer.now c.args.self.now.shard history entries i entry c.loop-i.self c.adopt.new.self
          (omega (arith, ap length c.entries-entry-items.ensures)) entry_is before
          (subst (λ (shard : ℕ). IsLegal (grounds_in c.args.version c.args.issuer.now) shard (history ++ take i entries) entry)
          c.loop-i.invariant.same.shard_is ((c.adopt.ensures.exact (history ++ take i entries) before.stands).0 c.if-not-adopt.false))
          (c.adopt.ensures.adopted c.if-not-adopt.false (history ++ take i entries) before.stands place_is);
    }
