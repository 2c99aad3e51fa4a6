-- A record that the rows accept is legal: its text is appended, and then it is applied to the rows.
use Rattle.std.proofs.Common.{◌≡◌, ℕ, ◌+◌, List, [], ◌∷◌, ◌++◌, length, ap, refl, sym, subst, arith}
use Rattle.std.proofs.lemmas.Bool.{false≢true}
use Rattle.issuer_base.specs.declared.entry.Entry.{Entry}
use Rattle.card_history.specs.LegalRecords.{IsLegal}
use Rattle.journal_rec.proofs.TextLaws.{length-text_of}
use Rattle.shard_book.specs.Accepted.{IsAccepted, IsReady}
use Rattle.shard_book.specs.Grounds.{grounds_now, grounds_of}
use Rattle.shard_book.specs.Room.{most_of}
use Rattle.shard_book.specs.ShardRows.{ShardRows, RowsStandFor}
use Rattle.shard_book.specs.Taking.{IsReplicaOf}
use Rattle.shard_book.proofs.Rooms.{length-most, room-less}
use Rattle.shard_book.proofs.ShardSteps.{crash-no_call, holds-still, put-crash, put-done, stands-with}
use Rattle.shard_book.proofs.shard.Shard.take_looked_up.Given.{Over}
use Rattle.shard_book.proofs.shard.Shard.take_looked_up.Goals.{After-put_text}
use Rattle.shard_book.proofs.shard.Shard.take_looked_up.Goals as goal

pub accept-requires-clause-form : goal.accept-requires-clause-form
accept-requires-clause-form g c = c.requires.read.form.may_stand

pub put_text-requires : goal.put_text-requires
put_text-requires g c =
    let read = c.requires.read in
    let least = (length-text_of c.args.entry.now read.form).0 in
    omega (arith, ap length read.text_is, least)

pub returns-in_default-clause-taken : goal.returns-in_default-clause-taken
returns-in_default-clause-taken g c history replica legal =
    false≢true ((c.in_default.ensures.exact history replica.rows_stand).1 legal)

pub returns-in_default-clause-crash : goal.returns-in_default-clause-crash
returns-in_default-clause-crash g c history replica =
    crash-no_call (grounds_of c.args.issuer.now) _ c.args.self.now.journal history replica.journal_holds

-- an accepted record is legal
legal : (g : Over) (c : After-put_text g) (history : List Entry) → IsReplicaOf c.args.issuer.now c.args.self.now history
    → IsLegal (grounds_of c.args.issuer.now) c.args.self.now.rows.shard history c.args.entry.now
legal g c history replica = (c.in-Some.ensures.exact history replica.rows_stand).0 refl

pub returns-in_default-put_text-clause-taken : goal.returns-in_default-put_text-clause-taken
returns-in_default-put_text-clause-taken g c history replica =
    let issuer = c.args.issuer.now in
    let read = c.requires.read in
    let h = replica.journal_holds in
    let next = legal g (goal.at.returns-in_default-put_text-clause-taken g c).After-put_text history replica in (
      next,
      record {
        rows_stand = subst (λ (rows : ShardRows). RowsStandFor issuer rows history) (sym c.put_text.ensures.rows) replica.rows_stand;
        journal_holds =
            holds-still (grounds_of issuer) c.args.self.now c.put_text.new.self history c.args.entry.now c.put_text.ensures.rows h read.form next
            (c.in_default-put_text.ensures.put history h.tail c.args.entry.now read.text_is h.holds);
      },
    )

pub returns-in_default-put_text-clause-tail : goal.returns-in_default-put_text-clause-tail
returns-in_default-put_text-clause-tail g c history tail holds =
    c.in_default-put_text.ensures.put history tail c.args.entry.now c.requires.read.text_is holds

pub returns-clause-tail : goal.returns-clause-tail
returns-clause-tail g c history tail holds =
    (c.in-Ok.ensures.put history tail c.args.entry.now c.requires.read.text_is holds).1

pub returns-in_default-put_text-clause-crash : goal.returns-in_default-put_text-clause-crash
returns-in_default-put_text-clause-crash g c history replica =
    let h = replica.journal_holds in
    put-crash (grounds_of c.args.issuer.now) c.args.self.now.rows.shard history c.args.entry.now c.args.self.now.journal c.put_text.new.self.journal h
    c.requires.read.form (legal g (goal.at.returns-in_default-put_text-clause-crash g c).After-put_text history replica) _ _
    (c.put_text.ensures.crash history h.tail c.args.entry.now c.requires.read.text_is h.holds)

pub returns-in_default-put_text-clause-room : goal.returns-in_default-put_text-clause-room
returns-in_default-put_text-clause-room g c spare has =
    let read = c.requires.read in
    let most = length-most c.args.entry.now read.form in
    c.in_default-put_text.ensures.room spare
    (room-less (most_of c.args.entry.now + spare) (length c.args.text.now + spare) _ _ (omega (arith, ap length read.text_is, most)) has)

pub returns-clause-room : goal.returns-clause-room
returns-clause-room g c spare has =
    let read = c.requires.read in
    let most = length-most c.args.entry.now read.form in
    c.in-Ok.ensures.room spare
    (room-less (most_of c.args.entry.now + spare) (length c.args.text.now + spare) _ _ (omega (arith, ap length read.text_is, most)) has)

pub apply_record-requires : goal.apply_record-requires
apply_record-requires g c =
    subst (λ (rows : ShardRows). IsReady rows c.in-Some.accepted) (sym c.put_text.ensures.rows) c.in-Some.ensures.accepted.ready

pub returns-clause-taken : goal.returns-clause-taken
returns-clause-taken g c history replica =
    let issuer = c.args.issuer.now in
    let entry = c.args.entry.now in
    let number : ℕ = c.args.self.now.rows.shard in
    let read = c.requires.read in
    let h = replica.journal_holds in
    let next = legal g (goal.at.returns-clause-taken g c).After-put_text history replica in
    let put = c.in-Ok.ensures.put history h.tail entry read.text_is h.holds in
    let number_is : c.put_text.new.self.rows.shard ≡ number = ap (λ (rows : ShardRows). rows.shard) c.put_text.ensures.rows in
    let before = subst (λ (rows : ShardRows). RowsStandFor issuer rows history) (sym c.put_text.ensures.rows) replica.rows_stand in
    let still : IsLegal (grounds_of issuer) c.put_text.new.self.rows.shard history entry =
    subst (λ (number : ℕ). IsLegal (grounds_of issuer) number history entry) (sym number_is) next in
    let accepted = subst (λ (rows : ShardRows). IsAccepted issuer rows entry c.in-Some.accepted) (sym c.put_text.ensures.rows) c.in-Some.ensures.accepted in
    let rows = c.apply_record.ensures.applied issuer entry history accepted before still put.0 in
    let added = put-done (grounds_now issuer) number history entry c.put_text.new.self.journal h.records read.form put.1 in (
      next,
      put.0,
      record {
        stands =
            stands-with issuer number c.put_text.new.self.journal c.put_text.new.self.rows c.apply_record.new.self c.put_text.new.self.reported (history ++ entry ∷ [])
            number_is c.apply_record.ensures.same rows added;
        settled = put.1;
      },
    )

pub returns-clause-crash : goal.returns-clause-crash
returns-clause-crash g c history replica =
    let h = replica.journal_holds in
    put-crash (grounds_of c.args.issuer.now) c.args.self.now.rows.shard history c.args.entry.now c.args.self.now.journal c.put_text.new.self.journal h
    c.requires.read.form (legal g (goal.at.returns-clause-crash g c).After-put_text history replica) _ _
    (c.put_text.ensures.crash history h.tail c.args.entry.now c.requires.read.text_is h.holds)
