-- The fault is at the first repeated index, or else at the first malformed element; else all key sets are parsed.
use Rattle.std.proofs.Common.{◌≡◌, ◌≤◌, length, Ok, Err, ap, sym, ◌∙◌, arith}
use Rattle.std.proofs.lemmas.Result.{err_from_is_err_and}
use Rattle.serde_json.specs.View.{view}
use Rattle.issuer_base.specs.declared.limits.TheConstants.{MAX_KEY_SETS}
use Rattle.issuer_setup.proofs.KeyListLemmas.{bad_key-below}
use Rattle.config_read.specs.Elements.{key_set_in}
use Rattle.config_read.proofs.PartsLemmas.{front-few, keys_in-refused, keys_in-silent, keys_in-whole}
use Rattle.config_read.proofs.parts.read_keys.Goals as goal

pub of_element-requires : goal.of_element-requires
of_element-requires c =
    let few = front-few key_set_in c.in_ok-elements.elements.now c.front_keys.result.items MAX_KEY_SETS c.front_keys.ensures c.in_ok-elements.ensures.few in
    let below = bad_key-below c.front_keys.result.items c.in-Err.place few c.in-Err.ensures.refused in
    omega (arith, below)

pub returns-in-Err : goal.returns-in-Err
returns-in-Err c =
    ap Err c.of_element.ensures
    ∙ sym (keys_in-refused (view c.args.value.now) c.in_ok-elements.elements.now c.front_keys.result.items
    c.in_ok-elements.ensures.elements c.front_keys.ensures c.in-Err.place c.in_ok-elements.ensures.some c.in-Err.ensures.refused)

pub returns-in_err-all_said : goal.returns-in_err-all_said
returns-in_err-all_said c =
    let p = err_from_is_err_and c.from_residual-in_err-all_said.result c.from_residual-in_err-all_said.ensures.1 in
    let kept : c.as_slice.result.now ≡ c.front_keys.result.items = c.as_slice.ensures.same ∙ c.in-Ok.ensures.same.1 in
    let silent = rw (kept, ← p.2) at c.in_err-all_said.ensures in
    rw p.1 (rw silent.1 (sym (keys_in-silent (view c.args.value.now) c.in_ok-elements.elements.now c.front_keys.result.items
    c.in_ok-elements.ensures.elements c.front_keys.ensures c.in-Ok.ensures.same.0 silent.0)))

pub returns : goal.returns
returns c =
    let kept : c.as_slice.result.now ≡ c.front_keys.result.items = c.as_slice.ensures.same ∙ c.in-Ok.ensures.same.1 in
    let all : length c.in_ok-elements.elements.now ≤ length c.front_keys.result.items = rw kept at c.in_ok-all_said.ensures in
    ap Ok c.in-Ok.ensures.same.1
    ∙ sym (keys_in-whole (view c.args.value.now) c.in_ok-elements.elements.now c.front_keys.result.items
    c.in_ok-elements.ensures.elements c.front_keys.ensures c.in-Ok.ensures.same.0 all)
