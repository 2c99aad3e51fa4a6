-- The next lines are replayed, or one of them is bad.
use Rattle.std.proofs.Common.{◌≡◌, ◌+◌, ℕ, List, ◌++◌, length, take, drop, refl, ap, sym, subst, ◌∙◌, inl, arith, length-append}
use Rattle.issuer_base.specs.declared.entry.Entry.{Entry}
use Rattle.card_history.specs.LegalRecords.{IsLegalHistory}
use Rattle.shard_book.specs.ReadAhead.{StopsWithin, TakesAll}
use Rattle.shard_book.specs.Versions.{bad_line, grounds_in}
use Rattle.shard_book.proofs.Lines.{stops-at}
use Rattle.shard_book.proofs.ReadAhead.{no-entries, stops-within, takes-all}
use Rattle.shard_book.proofs.rows.Rows.adopt_lines.Goals as goal

pub returns-then-records-eq0-clause-taken : goal.returns-then-records-eq0-clause-taken
returns-then-records-eq0-clause-taken c history stands at_end legal =
    let text = c.args.text.now in
    let taken = c.lines.taken in
    let count : ℕ = c.in-Some.field-0 in
    let before = c.lines.invariant.taken history stands at_end legal in
    let place_is : c.args.place + taken.records ≡ length (history ++ before.entries) =
    let whole = length-append history before.entries in omega (arith, whole, at_end, before.count_is) in
    let none = no-entries c.read-end.new.self.entries (omega (arith, c.if-records-eq0.true, c.len-records.ensures)) in
    stops-at c.args.version c.args.issuer.now c.args.self.now.shard history text taken c.lines.self before count c.in-Some.ensures
    (take count (drop taken.bytes text)) refl c.bad_line.result
    (inl (c.bad_line.ensures ∙ ap (bad_line c.args.version) place_is, c.read-end.ensures.none none count c.in-Some.ensures))

pub returns-in-Err-clause-taken : goal.returns-in-Err-clause-taken
returns-in-Err-clause-taken c history stands at_end legal =
    let version = c.args.version in
    let issuer = c.args.issuer.now in
    let shard = c.args.self.now.shard in
    let entries : List Entry = c.read-end.new.self.entries in
    let taken = c.lines.taken in
    let invariant = c.lines.invariant in
    let before = invariant.taken history stands at_end legal in
    let place_is : c.args.place + taken.records ≡ length (history ++ before.entries) =
    let whole = length-append history before.entries in omega (arith, whole, at_end, before.count_is) in
    stops-within version issuer shard history c.args.text.now taken c.lines.self before entries c.read-end.result c.read-end.ensures.next c.in-Err.fault
    (subst (λ (shard : ℕ). StopsWithin version issuer shard (history ++ before.entries) entries c.in-Err.fault) invariant.same.shard_is
    (c.in-Err.ensures.taken (history ++ before.entries) before.stands place_is
    (subst (λ (shard : ℕ). IsLegalHistory (grounds_in version issuer) shard (history ++ before.entries)) (sym invariant.same.shard_is) before.legal)))

pub lines-preserved : goal.lines-preserved
lines-preserved c =
    let invariant = c.lines.invariant in
    let same = c.adopt_all.ensures.same in
    let next = c.read-end.ensures.next in
    record {
      rows = record {
        shards_are = same.shards_are ∙ invariant.rows.shards_are;
        cards_are = same.cards_are ∙ invariant.rows.cards_are;
      };
      same = record {
        shard_is = same.shard_is ∙ invariant.same.shard_is;
        shards_are = same.shards_are ∙ invariant.same.shards_are;
        cards_are = same.cards_are ∙ invariant.same.cards_are;
      };
      within = next.within;
      few = omega (arith, invariant.few, next.few, c.len-records.ensures);
      taken = λ history stands at_end legal.
          let version = c.args.version in
          let issuer = c.args.issuer.now in
          let shard = c.args.self.now.shard in
          let entries : List Entry = c.read-end.new.self.entries in
          let taken = c.lines.taken in
          let invariant = c.lines.invariant in
          let before = invariant.taken history stands at_end legal in
          let place_is : c.args.place + taken.records ≡ length (history ++ before.entries) =
          let whole = length-append history before.entries in omega (arith, whole, at_end, before.count_is) in
          takes-all version issuer shard history c.args.text.now taken c.lines.self before entries c.read-end.result c.read-end.ensures.next c.adopt_all.new.self
          (record { records = taken.records + c.len-records.result; bytes = c.read-end.result }) (ap (λ n. taken.records + n) c.len-records.ensures) refl
          (subst (λ (shard : ℕ). TakesAll version issuer shard (history ++ before.entries) entries c.adopt_all.new.self) invariant.same.shard_is
          (c.in-Ok.ensures.taken (history ++ before.entries) before.stands place_is
          (subst (λ (shard : ℕ). IsLegalHistory (grounds_in version issuer) shard (history ++ before.entries)) (sym invariant.same.shard_is) before.legal)));
    }
