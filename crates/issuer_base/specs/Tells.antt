-- What is observable of a device outside the host.
use Rattle.std.specs.Prelude.{◌≡◌, Option, None, Some, ⊤}

-- what is observable, if anything is, is this
abbrev pub Tells : {T : Type 0} → Option T → T → Type 0
Tells None what = ⊤
Tells (Some told) what = told ≡ what
