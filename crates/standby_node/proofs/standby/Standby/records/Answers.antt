-- A replica has as many records as its history.
use Rattle.std.proofs.Common.{◌≡◌, ◌<◌, length, Some, refl, ap, ◌∙◌, arith}
use Rattle.std.proofs.lemmas.Option.{slice_get_read}
use Rattle.std.specs.List.{slice_get}
use Rattle.standby_node.proofs.Shards.{replica-by}
use Rattle.standby_node.proofs.standby.Standby.records.Goals as goal

pub returns : goal.returns
returns g c issuer in_doubt histories history hold history_is =
    let within : c.from.result < length c.args.self.now.shards.items = omega (arith, c.from.ensures, c.requires) in
    let at = slice_get_read c.args.self.now.shards.items _ c.from.result _ refl within c.index.ensures in
    let there : slice_get histories c.from.result ≡ Some history = ap (slice_get histories) c.from.ensures ∙ history_is in
    c.places.ensures.places
    ∙ (replica-by issuer _ history (in_doubt c.from.result) (hold.each c.from.result _ history at there)).journal_holds.holds.count_is
