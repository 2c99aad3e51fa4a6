-- An event is read of a turn exactly if the turn tells it.
use Rattle.std.proofs.Common.{◌≡◌, ℕ, zero, suc, ◌+◌, ◌==◌, true, false, nat_lt, cond, List, [], ◌∷◌, ◌++◌, length, take, drop, Option, Some}
use Rattle.std.proofs.Common.{None, refl, sym, ap, subst, ◌∙◌, arith, append_assoc, codes, ⊎_elim, eq-eqb}
use Rattle.std.proofs.Math.Seq.{take-append_seam}
use Rattle.std.proofs.lemmas.Bool.{eqb-true, ltb-false}
use Rattle.std.proofs.lemmas.List.{append-nil, length-append, length-drop, nil_from_length}
use Rattle.std.proofs.lemmas.Option.{same_Some}
use Rattle.std.specs.Fmt.{decimal}
use Rattle.std.specs.Str.{bytes_eq}
use Rattle.bridge_rule.specs.declared.held.Place.{Place}
use Rattle.bridge_lines.specs.Parts.{◌>>=◌, cut, is_other, lacks, name_in, number_in, place, record_in, shard_in}
use Rattle.bridge_lines.specs.Texts.{Said, ended, feed_line}
use Rattle.bridge_lines.specs.Reading.{message_in}
use Rattle.bridge_lines.specs.News.{News, HasRecord, AllTold, IsConnected, IsLost, IsCalled, ReadsMessage, HostLoaded, HostEnded, HostAnswered}
use Rattle.bridge_lines.specs.News.{NothingCame, HasLines, Means, GivesText, GivesAnswered, Tells}
use Rattle.bridge_lines.specs.TurnReading.{lines_end, plain_in, place_of, answered_by, worded_in, text_news, news_by, news_in, or_zero, followed_by, turn_end}
use Rattle.bridge_lines.proofs.Texting.{and-true, bind-some, cut-again, cut-joined, decimal-lacks, drop-behind, feed_line-lacks, guard-some}
use Rattle.bridge_lines.proofs.Texting.{lacks-append, name-again, name-is, name-lacks, not-false, number-again, number-is, place-again}
use Rattle.bridge_lines.proofs.Texting.{place-found, record-again, record-is, shard-again, shard-is}
use Rattle.bridge_lines.proofs.RoundTrips.{chosen, message-is, message-read, none-is, same-word}

-- ---- what a text means

means-read : (text : List ℕ) (message : Option Said) → message_in text ≡ message → Means text message
means-read text None is = λ said says. none-is said (sym is ∙ message-read text said says)
means-read text (Some said) is = message-is text said is

means-again : (text : List ℕ) (message : Option Said) → Means text message → message_in text ≡ message
means-again text None none =
    (elim (message_in text) as (λ found. message_in text ≡ found → found ≡ None) [
      | None ↦ λ is. refl
      | Some said ↦ λ is. absurd (none said (message-is text said is))
    ]) refl
means-again text (Some said) says = message-read text said says

-- ---- lines

-- before the first newline there is none
place-lacks : (byte : ℕ) (bytes : List ℕ) (at : ℕ) → place byte bytes ≡ Some at → lacks byte (take at bytes) ≡ true
unfolding place
place-lacks byte [] at is = absurd cc
place-lacks byte (x ∷ bytes) at is =
    (elim (x == byte) as (λ b. (x == byte) ≡ b → cond b (Some 0) (place byte bytes >>= λ at. Some (suc at)) ≡ Some at
    → lacks byte (take at (x ∷ bytes)) ≡ true) [
      | true ↦ λ same here. subst (λ at. lacks byte (take at (x ∷ bytes)) ≡ true) (same_Some 0 at here) refl
      | false ↦ λ other there.
          let found = bind-some (place byte bytes) (λ at. Some (suc at)) at there in
          subst (λ at. lacks byte (take at (x ∷ bytes)) ≡ true) (same_Some _ _ found.2)
          (rw (other, place-lacks byte bytes found.0 found.1) refl)
    ]) refl is

drop-one : (at : ℕ) (text : List ℕ) → drop (at + 1) text ≡ drop (suc at) text
drop-one at text = let one : at + 1 ≡ suc at = omega arith in ap (λ n. drop n text) one

lines-are : (count : ℕ) (text : List ℕ) (end : ℕ) → lines_end count text ≡ Some end → end ≡ length text → HasLines count text
unfolding lines_end
lines-are zero text end is all = nil_from_length text (sym all ∙ sym (same_Some 0 end is))
lines-are (suc count) text end is all =
    let a = bind-some (place 10 text) (λ at. lines_end count (drop (at + 1) text) >>= λ end. Some ((at + 1) + end)) end is in
    let b = bind-some (lines_end count (drop (a.0 + 1) text)) (λ end. Some ((a.0 + 1) + end)) end a.2 in
    let sum : (a.0 + 1) + b.0 ≡ end = same_Some _ _ b.2 in
    let found = place-found 10 text a.0 a.1 in
    let size = ap length found in
    let parts = length-append (take a.0 text) (10 ∷ drop (suc a.0) text) in
    let left = length-drop (a.0 + 1) text in
    let more = lines-are count (drop (a.0 + 1) text) b.0 b.1 (omega (arith, sum, all, left)) in (
      take a.0 text,
      drop (suc a.0) text,
      place-lacks 10 text a.0 a.1,
      found,
      subst (HasLines count) (drop-one a.0 text) more,
    )

lines-again : (count : ℕ) (text more : List ℕ) → HasLines count text → lines_end count (text ++ more) ≡ Some (length text)
unfolding lines_end
lines-again zero text more none = ap (λ text. Some (length text)) (sym none)
lines-again (suc count) text more (line, rest, one_line, text_is, has) =
    let joined : text ++ more ≡ line ++ 10 ∷ (rest ++ more) = ap (λ text. text ++ more) text_is ∙ append_assoc line (10 ∷ rest) more in
    let first = place-again 10 line (rest ++ more) one_line in
    let behind : drop (length line + 1) (line ++ 10 ∷ (rest ++ more)) ≡ rest ++ more =
    drop-one (length line) (line ++ 10 ∷ (rest ++ more)) ∙ drop-behind 10 line (rest ++ more) in
    let others = lines-again count rest more has in
    let size = ap length text_is ∙ length-append line (10 ∷ rest) in
    ap (lines_end (suc count)) joined ∙ rw (first, behind, others) (ap (λ (n : ℕ). Some n) (omega (arith, size)))

-- ---- words alone

plain-is : (line : List ℕ) (news : News) → plain_in line ≡ Some news → Tells (ended line) news
unfolding plain_in
plain-is line news is =
    let lost = cond (bytes_eq line (codes "lost")) (Some IsLost) None in
    let gone = cond (bytes_eq line (codes "ended")) (Some HostEnded) lost in
    let loaded = cond (bytes_eq line (codes "loaded")) (Some HostLoaded) gone in
    let again = cond (bytes_eq line (codes "again")) (Some NothingCame) loaded in
    ⊎_elim
    (λ (here : (bytes_eq line (codes "told") ≡ true) × (Some AllTold ≡ Some news)).
    subst (Tells (ended line)) (same_Some _ _ here.1) (ap ended (same-word line (codes "told") here.0)))
    (λ (there : (bytes_eq line (codes "told") ≡ false) × (again ≡ Some news)).
    ⊎_elim
    (λ (here : (bytes_eq line (codes "again") ≡ true) × (Some NothingCame ≡ Some news)).
    subst (Tells (ended line)) (same_Some _ _ here.1) (ap ended (same-word line (codes "again") here.0)))
    (λ (there : (bytes_eq line (codes "again") ≡ false) × (loaded ≡ Some news)).
    ⊎_elim
    (λ (here : (bytes_eq line (codes "loaded") ≡ true) × (Some HostLoaded ≡ Some news)).
    subst (Tells (ended line)) (same_Some _ _ here.1) (ap ended (same-word line (codes "loaded") here.0)))
    (λ (there : (bytes_eq line (codes "loaded") ≡ false) × (gone ≡ Some news)).
    ⊎_elim
    (λ (here : (bytes_eq line (codes "ended") ≡ true) × (Some HostEnded ≡ Some news)).
    subst (Tells (ended line)) (same_Some _ _ here.1) (ap ended (same-word line (codes "ended") here.0)))
    (λ (there : (bytes_eq line (codes "ended") ≡ false) × (lost ≡ Some news)).
    ⊎_elim
    (λ (here : (bytes_eq line (codes "lost") ≡ true) × (Some IsLost ≡ Some news)).
    subst (Tells (ended line)) (same_Some _ _ here.1) (ap ended (same-word line (codes "lost") here.0)))
    (λ (none : (bytes_eq line (codes "lost") ≡ false) × (None ≡ Some news)). absurd (none-is news none.1))
    (chosen (bytes_eq line (codes "lost")) (Some IsLost) None (Some news) there.1))
    (chosen (bytes_eq line (codes "ended")) (Some HostEnded) lost (Some news) there.1))
    (chosen (bytes_eq line (codes "loaded")) (Some HostLoaded) gone (Some news) there.1))
    (chosen (bytes_eq line (codes "again")) (Some NothingCame) loaded (Some news) there.1))
    (chosen (bytes_eq line (codes "told")) (Some AllTold) again (Some news) is)

-- ---- words and more

abbrev line-of : List ℕ → List ℕ → List ℕ
line-of word more = ended (word ++ 32 ∷ more)

alone-is : (words : List ℕ) (news : News) → answered_by words None ≡ Some news → Tells (line-of (codes "answered") words) news
unfolding answered_by
alone-is words news is =
    let found = bind-some (number_in words) (λ number. Some (HostAnswered number None)) news is in
    let number = number-is words found.0 found.1 in
    subst (Tells (line-of (codes "answered") words)) (same_Some _ _ found.2)
    (record { is_number = number.0; turn_is = ap (line-of (codes "answered")) number.1 })

placed-is : (words first rest : List ℕ) (news : News) → words ≡ first ++ 32 ∷ rest → answered_by words (Some (first, rest)) ≡ Some news
    → Tells (line-of (codes "answered") words) news
unfolding answered_by
placed-is words first rest news joined is =
    let a = bind-some (number_in first) (λ number. cut 32 rest >>= λ rest. shard_in rest.0 >>= λ shard. number_in rest.1 >>= λ index. Some
    (HostAnswered number (Some (place_of shard index)))) news is in
    let b = bind-some (cut 32 rest) (λ rest. shard_in rest.0 >>= λ shard. number_in rest.1 >>= λ index. Some (HostAnswered a.0 (Some
    (place_of shard index)))) news a.2 in
    let d = bind-some (shard_in b.0.0) (λ shard. number_in b.0.1 >>= λ index. Some (HostAnswered a.0 (Some (place_of shard index)))) news b.2 in
    let e = bind-some (number_in b.0.1) (λ index. Some (HostAnswered a.0 (Some (place_of d.0 index)))) news d.2 in
    let number = number-is first a.0 a.1 in
    let shard = shard-is b.0.0 d.0 d.1 in
    let index = number-is b.0.1 e.0 e.1 in
    let place_is : rest ≡ decimal d.0 ++ 32 ∷ decimal e.0 = cut-joined 32 rest b.0.0 b.0.1 b.1 ∙ ap (λ word. word ++ 32 ∷ b.0.1) shard.1 ∙ ap
    (λ word. decimal d.0 ++ 32 ∷ word) index.1 in
    let words_are : words ≡ decimal a.0 ++ 32 ∷ (decimal d.0 ++ 32 ∷ decimal e.0) =
    joined ∙ ap (λ word. word ++ 32 ∷ rest) number.1 ∙ ap (λ rest. decimal a.0 ++ 32 ∷ rest) place_is in
    subst (Tells (line-of (codes "answered") words)) (same_Some _ _ e.2)
    (record { is_number = number.0; is_shard = shard.0; is_index = index.0; turn_is = ap (line-of (codes "answered")) words_are })

answered-is : (words : List ℕ) (news : News) → answered_by words (cut 32 words) ≡ Some news → Tells (line-of (codes "answered") words) news
answered-is words news is =
    (elim (cut 32 words) as (λ found. cut 32 words ≡ found → answered_by words found ≡ Some news → Tells (line-of (codes "answered") words) news) [
      | None ↦ λ none is. alone-is words news is
      | Some parts ↦ λ found is. placed-is words parts.0 parts.1 news (cut-joined 32 words parts.0 parts.1 found) is
    ]) refl is

abbrev named-news : List ℕ → (List ℕ → News) → Option News
named-news more made = name_in more >>= λ name. Some (made name)

worded-is : (word more : List ℕ) (news : News) → worded_in word more ≡ Some news → Tells (line-of word more) news
unfolding worded_in
worded-is word more news is =
    let called = cond (bytes_eq word (codes "called")) (named-news more IsCalled) None in
    let connected = cond (bytes_eq word (codes "connected")) (named-news more IsConnected) called in
    let answered = cond (bytes_eq word (codes "answered")) (answered_by more (cut 32 more)) connected in
    ⊎_elim
    (λ (here : (bytes_eq word (codes "has") ≡ true) × ((record_in more >>= λ one. Some (HasRecord one)) ≡ Some news)).
    let found = bind-some (record_in more) (λ one. Some (HasRecord one)) news here.1 in
    let one = record-is more found.0 found.1 in
    subst (Tells (line-of word more)) (same_Some _ _ found.2)
    (one.0, ap (λ word. line-of word more) (same-word word (codes "has") here.0) ∙ ap (line-of (codes "has")) one.1))
    (λ (there : (bytes_eq word (codes "has") ≡ false) × (answered ≡ Some news)).
    ⊎_elim
    (λ (here : (bytes_eq word (codes "answered") ≡ true) × (answered_by more (cut 32 more) ≡ Some news)).
    subst (λ word. Tells (line-of word more) news) (sym (same-word word (codes "answered") here.0)) (answered-is more news here.1))
    (λ (there : (bytes_eq word (codes "answered") ≡ false) × (connected ≡ Some news)).
    ⊎_elim
    (λ (here : (bytes_eq word (codes "connected") ≡ true) × (named-news more IsConnected ≡ Some news)).
    let found = bind-some (name_in more) (λ name. Some (IsConnected name)) news here.1 in
    let name = name-is more found.0 found.1 in
    subst (Tells (line-of word more)) (same_Some _ _ found.2)
    (record {
      named = name.0;
      turn_is = ap (λ word. line-of word more) (same-word word (codes "connected") here.0) ∙ ap (line-of (codes "connected")) name.1;
    }))
    (λ (there : (bytes_eq word (codes "connected") ≡ false) × (called ≡ Some news)).
    ⊎_elim
    (λ (here : (bytes_eq word (codes "called") ≡ true) × (named-news more IsCalled ≡ Some news)).
    let found = bind-some (name_in more) (λ name. Some (IsCalled name)) news here.1 in
    let name = name-is more found.0 found.1 in
    subst (Tells (line-of word more)) (same_Some _ _ found.2)
    (record {
      named = name.0;
      turn_is = ap (λ word. line-of word more) (same-word word (codes "called") here.0) ∙ ap (line-of (codes "called")) name.1;
    }))
    (λ (none : (bytes_eq word (codes "called") ≡ false) × (None ≡ Some news)). absurd (none-is news none.1))
    (chosen (bytes_eq word (codes "called")) (named-news more IsCalled) None (Some news) there.1))
    (chosen (bytes_eq word (codes "connected")) (named-news more IsConnected) called (Some news) there.1))
    (chosen (bytes_eq word (codes "answered")) (answered_by more (cut 32 more)) connected (Some news) there.1))
    (chosen (bytes_eq word (codes "has")) (record_in more >>= λ one. Some (HasRecord one)) answered (Some news) is)

-- ---- messages

text-news-is : (count text : List ℕ) (news : News) → text_news count text ≡ Some news → Tells ((codes "message" ++ 32 ∷ count) ++ 10 ∷ text) news
unfolding text_news
text-news-is count text news is =
    let a = bind-some (number_in count) (λ count. lines_end count text >>= λ end. cond (end == length text) (Some (ReadsMessage
    (message_in text))) None) news is in
    let b = bind-some (lines_end a.0 text) (λ end. cond (end == length text) (Some (ReadsMessage (message_in text))) None) news a.2 in
    let passed = guard-some (b.0 == length text) (ReadsMessage (message_in text)) news b.2 in
    let number = number-is count a.0 a.1 in
    subst (Tells ((codes "message" ++ 32 ∷ count) ++ 10 ∷ text)) passed.1
    (record {
      text = text;
      count = a.0;
      is_number = number.0;
      has_lines = lines-are a.0 text b.0 b.1 (eqb-true b.0 (length text) passed.0);
      turn_is = ap (λ count. (codes "message" ++ 32 ∷ count) ++ 10 ∷ text) number.1;
      means = means-read text (message_in text) refl;
    })

no-place : (byte : ℕ) (bytes : List ℕ) → lacks byte bytes ≡ true → place byte bytes ≡ None
unfolding place
no-place byte [] none = refl
no-place byte (x ∷ bytes) none =
    let parts = and-true (is_other byte x) (lacks byte bytes) none in
    rw (not-false (x == byte) parts.0, no-place byte bytes parts.1) refl

-- what lacks a byte isn't cut at it
no-cut : (byte : ℕ) (bytes : List ℕ) → lacks byte bytes ≡ true → cut byte bytes ≡ None
no-cut byte bytes none = ap (λ found. found >>= λ at. Some (take at bytes, drop (suc at) bytes)) (no-place byte bytes none)

-- ---- turns

nothing-follows : (rest : List ℕ) (found : Option News) (news : News) → cond (nat_lt 0 (length rest)) None found ≡ Some news
    → (rest ≡ []) × (found ≡ Some news)
nothing-follows rest found news is =
    ⊎_elim
    (λ (more : (nat_lt 0 (length rest) ≡ true) × (None ≡ Some news)). absurd (none-is news more.1))
    (λ (none : (nat_lt 0 (length rest) ≡ false) × (found ≡ Some news)).
    let empty = ltb-false 0 (length rest) none.0 in
    (nil_from_length rest (omega (arith, empty)), none.1))
    (chosen (nat_lt 0 (length rest)) None found (Some news) is)

news-by-is : (line rest : List ℕ) (found : Option (List ℕ × List ℕ)) (news : News) → cut 32 line ≡ found → news_by line rest found ≡ Some news
    → Tells (line ++ 10 ∷ rest) news
unfolding news_by
news-by-is line rest None news found is =
    let alone = nothing-follows rest (plain_in line) news is in
    subst (λ rest. Tells (line ++ 10 ∷ rest) news) (sym alone.0) (plain-is line news alone.1)
news-by-is line rest (Some parts) news found is =
    let line_is = cut-joined 32 line parts.0 parts.1 found in
    subst (λ line. Tells (line ++ 10 ∷ rest) news) (sym line_is)
    (⊎_elim
    (λ (here : (bytes_eq parts.0 (codes "message") ≡ true) × (text_news parts.1 rest ≡ Some news)).
    subst (λ word. Tells ((word ++ 32 ∷ parts.1) ++ 10 ∷ rest) news) (sym (same-word parts.0 (codes "message") here.0))
    (text-news-is parts.1 rest news here.1))
    (λ (there : (bytes_eq parts.0 (codes "message") ≡ false) × (cond (nat_lt 0 (length rest)) None (worded_in parts.0 parts.1) ≡ Some news)).
    let alone = nothing-follows rest (worded_in parts.0 parts.1) news there.1 in
    subst (λ rest. Tells ((parts.0 ++ 32 ∷ parts.1) ++ 10 ∷ rest) news) (sym alone.0) (worded-is parts.0 parts.1 news alone.1))
    (chosen (bytes_eq parts.0 (codes "message")) (text_news parts.1 rest) (cond (nat_lt 0 (length rest)) None (worded_in parts.0 parts.1)) (Some news) is))

-- what is read of a turn is what it tells
pub news-is : (turn : List ℕ) (news : News) → news_in turn ≡ Some news → Tells turn news
unfolding news_in
news-is turn news is =
    let a = bind-some (cut 10 turn) (λ lines. news_by lines.0 lines.1 (cut 32 lines.0)) news is in
    subst (λ turn. Tells turn news) (sym (cut-joined 10 turn a.0.0 a.0.1 a.1)) (news-by-is a.0.0 a.0.1 (cut 32 a.0.0) news refl a.2)

-- a line of a word and more is read as its parts are
worded-again : (word more rest : List ℕ) → lacks 32 word ≡ true → lacks 10 word ≡ true → lacks 10 more ≡ true
    → news_in ((word ++ 32 ∷ more) ++ 10 ∷ rest) ≡ news_by (word ++ 32 ∷ more) rest (Some (word, more))
unfolding news_in
worded-again word more rest no_space no_newline one_line =
    let first = cut-again 10 (word ++ 32 ∷ more) rest (lacks-append 10 word (32 ∷ more) no_newline one_line) in
    let second = cut-again 32 word more no_space in
    rw (first, second) refl

answered-again : (number : ℕ) (place : Option Place) (turn : List ℕ) → GivesAnswered turn number place → news_in turn ≡ Some (HostAnswered number place)
unfolding news_by worded_in answered_by
answered-again number None turn gives =
    let lacks = decimal-lacks number gives.is_number in
    ap news_in gives.turn_is ∙ worded-again (codes "answered") (decimal number) [] refl refl lacks.1
    ∙ rw (no-cut 32 (decimal number) lacks.0, number-again number gives.is_number) refl
answered-again number (Some place) turn gives =
    let shard = shard-again place.shard gives.is_shard in
    let low = gives.is_shard in
    let shard_lacks = decimal-lacks place.shard (omega (arith, low)) in
    let index_lacks = decimal-lacks place.index gives.is_index in
    let number_lacks = decimal-lacks number gives.is_number in
    let place_lacks = lacks-append 10 (decimal place.shard) (32 ∷ decimal place.index) shard_lacks.1 index_lacks.1 in
    let words_lack = lacks-append 10 (decimal number) (32 ∷ (decimal place.shard ++ 32 ∷ decimal place.index)) number_lacks.1 place_lacks in
    let first = cut-again 32 (decimal number) (decimal place.shard ++ 32 ∷ decimal place.index) number_lacks.0 in
    let second = cut-again 32 (decimal place.shard) (decimal place.index) shard_lacks.0 in
    ap news_in gives.turn_is
    ∙ worded-again (codes "answered") (decimal number ++ 32 ∷ (decimal place.shard ++ 32 ∷ decimal place.index)) [] refl refl words_lack
    ∙ rw (first, number-again number gives.is_number, second, shard, number-again place.index gives.is_index) refl

text-again : (turn : List ℕ) (message : Option Said) → GivesText turn message → news_in turn ≡ Some (ReadsMessage message)
unfolding news_by text_news
text-again turn message gives =
    let count_lacks = decimal-lacks gives.count gives.is_number in
    let lines : lines_end gives.count gives.text ≡ Some (length gives.text) =
    ap (lines_end gives.count) (sym (append-nil gives.text)) ∙ lines-again gives.count gives.text [] gives.has_lines in
    let same : (length gives.text == length gives.text) ≡ true = eq-eqb _ _ refl in
    ap news_in gives.turn_is ∙ worded-again (codes "message") (decimal gives.count) gives.text refl refl count_lacks.1
    ∙ rw (number-again gives.count gives.is_number, lines, same) (ap (λ said. Some (ReadsMessage said)) (means-again gives.text message gives.means))

-- what a turn tells is read of it
pub news-again : (turn : List ℕ) (news : News) → Tells turn news → news_in turn ≡ Some news
unfolding news_in news_by worded_in plain_in place
news-again turn (HasRecord one) (said, is) =
    ap news_in is ∙ worded-again (codes "has") (feed_line one) [] refl refl (feed_line-lacks one said)
    ∙ rw (record-again one said) refl
news-again turn AllTold is = ap news_in is
news-again turn (IsConnected word) gives =
    ap news_in gives.turn_is ∙ worded-again (codes "connected") word [] refl refl (name-lacks word gives.named).1
    ∙ rw (name-again word gives.named) refl
news-again turn IsLost is = ap news_in is
news-again turn (IsCalled name) gives =
    ap news_in gives.turn_is ∙ worded-again (codes "called") name [] refl refl (name-lacks name gives.named).1
    ∙ rw (name-again name gives.named) refl
news-again turn (ReadsMessage message) gives = text-again turn message gives
news-again turn HostLoaded is = ap news_in is
news-again turn HostEnded is = ap news_in is
news-again turn (HostAnswered number place) gives = answered-again number place turn gives
news-again turn NothingCame is = ap news_in is

-- ---- where a turn ends

-- a line that no other one follows
end-alone : (line more : List ℕ) → lacks 10 line ≡ true → followed_by (cut 32 line) ≡ 0 → turn_end (ended line ++ more) ≡ Some (length (ended line))
unfolding turn_end lines_end
end-alone line more one_line alone =
    let joined : ended line ++ more ≡ line ++ 10 ∷ more = append_assoc line (10 ∷ []) more in
    let first = place-again 10 line more one_line in
    let before = take-append_seam line (10 ∷ more) in
    let size = length-append line (10 ∷ []) in
    ap turn_end joined ∙ rw (first, before, alone) (ap (λ (n : ℕ). Some n) (omega (arith, size)))

-- a line of a word and more
end-worded : (word words more : List ℕ) → lacks 32 word ≡ true → lacks 10 word ≡ true → lacks 10 words ≡ true
    → bytes_eq word (codes "message") ≡ false → turn_end (ended (word ++ 32 ∷ words) ++ more) ≡ Some (length (ended (word ++ 32 ∷ words)))
unfolding followed_by
end-worded word words more no_space no_newline one_line other =
    let line = lacks-append 10 word (32 ∷ words) no_newline one_line in
    let first = cut-again 32 word words no_space in
    end-alone (word ++ 32 ∷ words) more line (rw (first, other) refl)

-- a line that others follow
end-followed : (head text more : List ℕ) (count : ℕ) → lacks 10 head ≡ true → followed_by (cut 32 head) ≡ count → HasLines count text
    → turn_end ((head ++ 10 ∷ text) ++ more) ≡ Some (length (head ++ 10 ∷ text))
unfolding turn_end
end-followed head text more count one_line follows has =
    let joined : (head ++ 10 ∷ text) ++ more ≡ head ++ 10 ∷ (text ++ more) = append_assoc head (10 ∷ text) more in
    let first = place-again 10 head (text ++ more) one_line in
    let before = take-append_seam head (10 ∷ (text ++ more)) in
    let behind : drop (length head + 1) (head ++ 10 ∷ (text ++ more)) ≡ text ++ more =
    drop-one (length head) (head ++ 10 ∷ (text ++ more)) ∙ drop-behind 10 head (text ++ more) in
    let lines = lines-again count text more has in
    let size = length-append head (10 ∷ text) in
    ap turn_end joined ∙ rw (first, before, follows, behind, lines) (ap (λ (n : ℕ). Some n) (omega (arith, size)))

abbrev message_head : ℕ → List ℕ
message_head count = codes "message" ++ 32 ∷ decimal count

end-text : (turn more : List ℕ) (message : Option Said) → GivesText turn message → turn_end (turn ++ more) ≡ Some (length turn)
unfolding followed_by
end-text turn more message gives =
    let count_lacks = decimal-lacks gives.count gives.is_number in
    let one_line : lacks 10 (message_head gives.count) ≡ true = lacks-append 10 (codes "message") (32 ∷ decimal gives.count) refl count_lacks.1 in
    let second : cut 32 (message_head gives.count) ≡ Some (codes "message", decimal gives.count) = cut-again 32 (codes "message")
    (decimal gives.count) refl in
    let follows : followed_by (cut 32 (message_head gives.count)) ≡ gives.count =
    ap followed_by second ∙ ap or_zero (number-again gives.count gives.is_number) in
    subst (λ turn. turn_end (turn ++ more) ≡ Some (length turn)) (sym gives.turn_is)
    (end-followed (message_head gives.count) gives.text more gives.count one_line follows gives.has_lines)

abbrev Ends : List ℕ → List ℕ → Type 0
Ends more turn = turn_end (turn ++ more) ≡ Some (length turn)

end-answered : (number : ℕ) (place : Option Place) (turn more : List ℕ) → GivesAnswered turn number place → Ends more turn
end-answered number None turn more gives =
    subst (Ends more) (sym gives.turn_is) (end-worded (codes "answered") (decimal number) more refl refl (decimal-lacks number gives.is_number).1 refl)
end-answered number (Some place) turn more gives =
    let low = gives.is_shard in
    let shard_lacks = decimal-lacks place.shard (omega (arith, low)) in
    let index_lacks = decimal-lacks place.index gives.is_index in
    let place_lacks = lacks-append 10 (decimal place.shard) (32 ∷ decimal place.index) shard_lacks.1 index_lacks.1 in
    let words_lack = lacks-append 10 (decimal number) (32 ∷ (decimal place.shard ++ 32 ∷ decimal place.index))
    (decimal-lacks number gives.is_number).1 place_lacks in
    subst (Ends more) (sym gives.turn_is)
    (end-worded (codes "answered") (decimal number ++ 32 ∷ (decimal place.shard ++ 32 ∷ decimal place.index)) more refl refl words_lack refl)

-- a turn that tells something ends where it does, whatever follows it
pub turn-ends : (turn more : List ℕ) (news : News) → Tells turn news → Ends more turn
unfolding followed_by place
turn-ends turn more (HasRecord one) (said, is) =
    subst (Ends more) (sym is) (end-worded (codes "has") (feed_line one) more refl refl (feed_line-lacks one said) refl)
turn-ends turn more AllTold is = subst (Ends more) (sym is) (end-alone (codes "told") more refl refl)
turn-ends turn more (IsConnected word) gives =
    subst (Ends more) (sym gives.turn_is) (end-worded (codes "connected") word more refl refl (name-lacks word gives.named).1 refl)
turn-ends turn more IsLost is = subst (Ends more) (sym is) (end-alone (codes "lost") more refl refl)
turn-ends turn more (IsCalled name) gives =
    subst (Ends more) (sym gives.turn_is) (end-worded (codes "called") name more refl refl (name-lacks name gives.named).1 refl)
turn-ends turn more (ReadsMessage message) gives = end-text turn more message gives
turn-ends turn more HostLoaded is = subst (Ends more) (sym is) (end-alone (codes "loaded") more refl refl)
turn-ends turn more HostEnded is = subst (Ends more) (sym is) (end-alone (codes "ended") more refl refl)
turn-ends turn more (HostAnswered number place) gives = end-answered number place turn more gives
turn-ends turn more NothingCame is = subst (Ends more) (sym is) (end-alone (codes "again") more refl refl)
