-- The objects of a request stand one behind another.
use Rattle.std.proofs.Common.{[], subst, arith}
use Rattle.terminal_kernel.specs.Held.{IsHeld}
use Rattle.terminal_kernel.specs.Requested.{chip_data, request_objects}
use Rattle.terminal_kernel.proofs.ObjectsText.{fold-objects_text}
use Rattle.terminal_kernel.proofs.requested.chip_data.Goals as goal

pub returns-clause-bytes : goal.returns-clause-bytes
unfolding chip_data
returns-clause-bytes c =
    rw (
      c.put_field-15.ensures.text,
      c.put_field-14.ensures.text,
      c.put_field-13.ensures.text,
      c.put_field-12.ensures.text,
      c.put_field-11.ensures.text,
      c.put_field-10.ensures.text,
      c.put_field-9.ensures.text,
      c.put_field-8.ensures.text,
      c.put_field-7.ensures.text,
      c.put_field-6.ensures.text,
      c.put_field-5.ensures.text,
      c.put_field-4.ensures.text,
      c.put_field-3.ensures.text,
      c.put_field-2.ensures.text,
      c.put_field.ensures.text,
      c.new-out.ensures,
      c.as_slice.ensures.value,
      c.number_bytes.ensures.bytes,
      c.to_be_bytes.ensures,
      c.parts-parts.ensures.same,
    ) (fold-objects_text [] (request_objects c.args.request.now))

pub returns-clause-held : goal.returns-clause-held
returns-clause-held c =
    let held : IsHeld c.parts-parts.result.now =
    record {
      has_form = rw c.parts-parts.ensures.same c.parts-parts.ensures.valid;
      pan = c.number_bytes.ensures.valid;
      psn = omega (arith, c.put_field-2.ensures.bytes 0);
      aip = record { size = omega arith; bytes = c.put_field-3.ensures.bytes };
      atc = omega arith;
      tvr = record { size = omega arith; bytes = c.put_field-4.ensures.bytes };
      date = record { size = omega arith; bytes = c.put_field-5.ensures.bytes };
      kind = omega (arith, c.put_field-6.ensures.bytes 0);
      amount = record { size = omega arith; bytes = c.put_field-7.ensures.bytes };
      other = record { size = omega arith; bytes = c.put_field-8.ensures.bytes };
      country = record { size = omega arith; bytes = c.put_field-10.ensures.bytes };
      currency = record { size = omega arith; bytes = c.put_field-11.ensures.bytes };
      un = record { size = omega arith; bytes = c.put_field-15.ensures.bytes };
      cid = omega (arith, c.put_field-13.ensures.bytes 0);
      iad = record { size = omega arith; bytes = c.put_field-9.ensures.bytes };
      ac = record { size = omega arith; bytes = c.put_field-12.ensures.bytes };
    } in
    subst IsHeld c.parts-parts.ensures.same held
