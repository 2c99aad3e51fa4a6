-- The fields of a request are concatenated.
use Rattle.std.proofs.Common.{[]}
use Rattle.journal_rec.specs.RecordText.{request_fields}
use Rattle.journal_rec.proofs.Joined.{fold-concat}
use Rattle.journal_rec.proofs.write.request_bytes.Goals as goal

pub returns-clause-bytes : goal.returns-clause-bytes
returns-clause-bytes c =
    rw (
      c.put-15.ensures.text,
      c.put-14.ensures.text,
      c.put-13.ensures.text,
      c.put-12.ensures.text,
      c.put-11.ensures.text,
      c.put-10.ensures.text,
      c.put-9.ensures.text,
      c.put-8.ensures.text,
      c.put-7.ensures.text,
      c.put-6.ensures.text,
      c.put-5.ensures.text,
      c.put-4.ensures.text,
      c.put-3.ensures.text,
      c.put-2.ensures.text,
      c.put.ensures.text,
      c.new-bytes.ensures,
      c.pan_bytes.ensures.bytes,
      c.to_be_bytes.ensures,
    ) (fold-concat [] (request_fields c.args.parts.now))
