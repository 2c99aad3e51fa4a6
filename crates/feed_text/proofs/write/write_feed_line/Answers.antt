-- The line has room for its record, and isn't too long.
use Rattle.std.proofs.Common.{◌≡◌, ◌≤◌, ◌++◌, ◌∷◌, [], length, rules, sym, subst}
use Rattle.std.specs.Fmt.{decimal}
use Rattle.journal_rec.specs.RecordText.{text_of}
use Rattle.journal_rec.proofs.TextLaws.{length-text_of}
use Rattle.feed_text.specs.FeedText.{feed_line}
use Rattle.feed_text.specs.declared.limits.TheConstants.{MOST_FEED_BYTES}
use Rattle.feed_text.proofs.Heads.{length-feed_line, three-parts}
use Rattle.feed_text.proofs.write.write_feed_line.Goals as goal

pub put-requires : goal.put-requires
put-requires c =
    let most = (length-text_of c.args.entry.now c.write_entry.ensures.record).1 in
    search (rules, most)

pub returns-clause-most : goal.returns-clause-most
returns-clause-most c = λ some within.
    let first : c.put_number.new.out.items ≡ decimal c.args.shard ++ 32 ∷ [] = search rules in
    let second : c.put_number-2.new.out.items ≡ c.put_number.new.out.items ++ decimal c.args.place ++ 32 ∷ [] =
    search rules in
    let record_is : c.as_slice.result.now ≡ text_of c.args.entry.now = search rules in
    let third : c.put.new.out.items ≡ c.put_number-2.new.out.items ++ c.as_slice.result.now = search rules in
    let is : c.put.new.out.items ≡ feed_line c.args.shard c.args.place c.args.entry.now =
    three-parts (decimal c.args.shard) (decimal c.args.place) _ _ _ _ _ first second record_is third in
    subst (λ text. length text ≤ MOST_FEED_BYTES) (sym is)
    (length-feed_line c.args.shard c.args.place c.args.entry.now c.write_entry.ensures.record some within)
