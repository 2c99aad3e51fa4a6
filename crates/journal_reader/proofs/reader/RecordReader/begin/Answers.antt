-- The store begins with `v2`.
use Rattle.std.proofs.Common.{◌≡◌, ◌++◌, [], IfSome, take, ◌+◌, ◌≤◌, length-append, List, ℕ, sym, subst, arith, length, drop, ap}
use Rattle.std.proofs.lemmas.Bool.Decides.{Decides-eqb}
use Rattle.std.proofs.lemmas.List.Elements.{All-nil}
use Rattle.std.proofs.lemmas.Slice.Eq.{starts_is}
use Rattle.journal_rec.specs.RecordText.{journal_text, version_line}
use Rattle.journal_reader.specs.Reading.{ahead_of}
use Rattle.journal_reader.proofs.Reading.{ahead-length, sliced-later, told-later, version-front}
use Rattle.journal_reader.proofs.reader.RecordReader.begin.Goals as goal

pub returns-clause-read : goal.returns-clause-read
returns-clause-read g c =
    let ahead = ahead_of c.fill.new.self in
    let starts : ahead ≡ version_line ++ drop 3 ahead =
    subst (λ (l : List ℕ). l ≡ version_line ++ drop 3 l) c.ahead.ensures
    ((starts_is Decides-eqb c.ahead.result.now version_line _ c.starts_with.ensures.value).0 c.if-not-starts_with.false) in
    let wide : 3 ≤ length ahead = omega (arith, ap length starts, length-append version_line (drop 3 ahead)) in
    let same = c.fill.ensures.same in
    let first = subst (λ n. IfSome (g.S.Store.bytes c.args.store.now)
    (λ text. ahead ≡ take (length ahead) (drop n text))) same.0 c.in-Ok.ensures.buffered in
    record {
      records = All-nil _;
      count_is = same.1;
      front = subst (λ n. IfSome (g.S.Store.bytes c.args.store.now) (λ text. take (n + 3) text ≡ journal_text []))
          (sym same.0) (version-front _ ahead (drop 3 ahead) starts first);
      buffered = told-later _ ahead _ c.fill.new.self.taken 3 wide
          (sliced-later c.fill.new.self.buffer.items c.fill.new.self.start 3 c.fill.new.self.end
          (omega (arith, wide, ahead-length c.fill.new.self))) c.in-Ok.ensures.buffered;
    }
