-- A record is found where there is one.
use Rattle.std.proofs.Common.{ap, ◌∙◌}
use Rattle.std.specs.Prelude.{is_some}
use Rattle.std.specs.List.{list_any}
use Rattle.clearing_check.specs.Records.{has_atc}
use Rattle.clearing_check.proofs.Finding.{is_some-find}
use Rattle.clearing_check.proofs.book.Book.has.Goals as goal

pub returns : goal.returns
returns c =
    c.is_some.ensures ∙ ap is_some c.find.ensures ∙ is_some-find (has_atc c.args.card c.args.atc) c.self.inside.records
    ∙ ap (list_any (has_atc c.args.card c.args.atc)) c.self.view_is
