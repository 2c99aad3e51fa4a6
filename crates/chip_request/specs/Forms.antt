-- The forms of values as the code names them.
use Rattle.std.specs.Prelude.{ℕ, Bool, List, Option, Some, None, if◌then◌else◌}
use Rattle.chip_request.specs.declared.form.Form.{Form}
use Rattle.chip_request.specs.declared.form.Form.TheVariants.{Bytes, Decimal, AccountNumber, ApplicationData}
use Rattle.chip_request.specs.Fields.{has_bytes, has_decimal_bytes, has_account_number, has_application_data, leading_digits}

-- whether a value has the form
abbrev pub fits : Form → List ℕ → Bool
fits (Bytes count) = has_bytes count
fits (Decimal count) = has_decimal_bytes count
fits AccountNumber = has_account_number
fits ApplicationData = has_application_data

-- the account number in a value, if it has that form
abbrev pub account_number_in : List ℕ → Option (List ℕ)
account_number_in value = if has_account_number value then Some (leading_digits value) else None
