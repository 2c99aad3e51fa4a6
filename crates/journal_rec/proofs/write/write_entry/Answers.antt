-- The status of a record is one digit.
use Rattle.std.proofs.Common.{IsTrue, subst}
use Rattle.std.proofs.lemmas.Bool.{and_parts, leb-true}
use Rattle.issuer_base.specs.declared.entry.Entry.TheVariants.{Status}
use Rattle.journal_rec.specs.Record.{is_record}
use Rattle.journal_rec.proofs.write.write_entry.Goals as goal

pub status_line-requires : goal.status_line-requires
status_line-requires c =
    let valid : IsTrue (is_record (Status c.in-Status.pan c.in-Status.psn c.in-Status.status)) =
    subst (λ entry. IsTrue (is_record entry)) c.in-Status.is c.requires in
    leb-true _ _ (and_parts _ _ valid).1
