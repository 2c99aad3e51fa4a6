-- What is read of a configuration says what the whole of it says.
use Rattle.std.proofs.Common.{◌≡◌, ℕ, ◌<◌, ◌≤◌, List, ◌++◌, length, Option, Ok, Err, refl, sym, ◌∙◌, arith, ⊎_elim}
use Rattle.std.proofs.lemmas.Bool.{cases_lt}
use Rattle.std.proofs.lemmas.List.{length-append}
use Rattle.issuer_setup.specs.IssuerSetup.{Setup}
use Rattle.config_read.specs.declared.fault.ConfigFault.{ConfigFault}
use Rattle.config_read.specs.declared.fault.ConfigFault.TheVariants.{NotJson, At, NoMemory}
use Rattle.config_read.specs.declared.fault.ConfigPart.TheVariants.{Whole}
use Rattle.config_read.specs.Configuration.{configured}
use Rattle.config_read.specs.declared.config.TheConstants.{MAX_CONFIG_BYTES}
use Rattle.desk_host.specs.Configuration.{IsRead, Says, IsBroken, GivesNoIssuer, config_stop}
use Rattle.issuer_base.proofs.ManyCalls.{Tells-whole}
use Rattle.line_blocks.proofs.InputFronts.{front-read}

-- a text past the limit is broken as a whole
configured-long : (text : List ℕ) → MAX_CONFIG_BYTES < length text → configured text ≡ Err (At Whole 0)
unfolding configured
configured-long text long = grind arith

-- a text that says an issuer is within the limit
within_limit : (text : List ℕ) (issuer : Setup) → configured text ≡ Ok issuer → length text ≤ MAX_CONFIG_BYTES
within_limit text issuer says =
    ⊎_elim
    (λ long. absurd (let both : Err (At Whole 0) ≡ Ok issuer = sym (configured-long text long) ∙ says in cc))
    (λ within. within)
    (cases_lt MAX_CONFIG_BYTES (length text))

-- what was read says an issuer, and so does the configuration
pub Says-from_read : (was now : Option (List ℕ)) (text : List ℕ) (issuer : Setup) → IsRead was now text
    → configured text ≡ Ok issuer → Says was issuer
Says-from_read was now text issuer read says = record {
  content = text;
  held = Tells-whole was now text read.consumed (read.to_the_end (within_limit text issuer says));
  says = says;
}

-- what was read is broken, and so is the configuration, at the same place
IsBroken-from_read : (was now : Option (List ℕ)) (text : List ℕ) (fault : ConfigFault) → IsRead was now text
    → configured text ≡ Err fault
    → IsBroken was (config_stop fault)
IsBroken-from_read was now text fault read broken =
    ⊎_elim
    (λ long.
    let parts = front-read was now text read.consumed in
    let longer : MAX_CONFIG_BYTES < length (text ++ parts.rest) = omega (arith, long, length-append text parts.rest) in
    record {
      content = text ++ parts.rest;
      fault = fault;
      held = parts.content;
      broken = configured-long (text ++ parts.rest) longer ∙ sym (configured-long text long) ∙ broken;
      stop_is = refl;
    })
    (λ within. record {
      content = text;
      fault = fault;
      held = Tells-whole was now text read.consumed (read.to_the_end within);
      broken = broken;
      stop_is = refl;
    })
    (cases_lt MAX_CONFIG_BYTES (length text))

-- why a text that was read gives no issuer
abbrev pub GivesNone : List ℕ → ConfigFault → Type 0
GivesNone text fault = (fault ≡ NoMemory → ⊥) → configured text ≡ Err fault

pub GivesNoIssuer-from_read : (was now : Option (List ℕ)) (text : List ℕ) (fault : ConfigFault) → IsRead was now text
    → GivesNone text fault
    → GivesNoIssuer was (config_stop fault)
GivesNoIssuer-from_read was now text NotJson read none =
    IsBroken-from_read was now text NotJson read (none (λ same. cc))
GivesNoIssuer-from_read was now text (At part index) read none =
    IsBroken-from_read was now text (At part index) read (none (λ same. cc))
GivesNoIssuer-from_read was now text NoMemory read none = tt
