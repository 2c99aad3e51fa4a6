-- The pages have the number of the first record of each ATC.
use Rattle.std.proofs.Common.{◌≡◌, ◌+◌, ◌<◌, List, ◌++◌, ◌∷◌, [], length, ap, sym, ◌∙◌, subst, arith}
use Rattle.std.proofs.lemmas.List.{length_push}
use Rattle.clearing_check.specs.declared.filed.Filed.{Filed}
use Rattle.clearing_check.specs.Inside.{AreFiled}
use Rattle.clearing_check.proofs.Numbers.{numbers-push}
use Rattle.clearing_check.proofs.filed_records.FiledRecords.push.Goals as goal

pub invariant_of-self-2 : goal.invariant_of-self-2
invariant_of-self-2 c =
    let records = c.self.inside.records.items in
    let old = c.self.invariant in
    let added =
    c.push_reserved.ensures.items ∙ ap (λ (items : List Filed). items ++ c.args.filed ∷ []) c.reserve.ensures.items in
    let next : c.in_ok-slot.slot ≡ length records + 1 =
    (let slot = c.in_ok-slot.ensures.slot in let len = c.len.ensures in omega (arith, slot, len)) in
    let few : length (records ++ c.args.filed ∷ []) < 4_294_967_296 =
    (let few = c.in_ok-slot.ensures.few in let len = c.len.ensures in
    omega (arith, few, len, length_push records c.args.filed)) in
    subst (λ (records : List Filed). AreFiled (record { records = records; pages = c.set_first.new.self })) (sym added)
    (record {
      few = few;
      numbers = numbers-push c.self.inside.pages c.set_first.new.self records c.args.filed
          c.in_ok-slot.slot old.numbers next
          c.in_ok-set_first.ensures.set;
    })
