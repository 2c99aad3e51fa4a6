-- The row of the card in its shard stands for the shard's history.
use Rattle.std.proofs.Common.{refl}
use Rattle.std.proofs.lemmas.Option.{slice_get_read}
use Rattle.one_caller.proofs.Shown.{row-of}
use Rattle.one_caller.proofs.solo.Solo.show.Goals as goal

pub returns : goal.returns
returns g c books info book stand info_is book_is =
    let host = c.args.self.now in
    let read = slice_get_read host.shards.items _ c.home.result c.index.result.now refl c.home.ensures.within c.index.ensures in
    c.view.ensures info book.history
    (row-of host.issuer host.shards.items host.are_shards c.cards-cards.ensures.valid c.args.card c.home.result
    c.home.ensures.number c.index.result.now read c.row.result.now c.row.ensures books info book stand info_is book_is)
