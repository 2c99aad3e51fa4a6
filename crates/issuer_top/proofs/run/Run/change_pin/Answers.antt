-- How a run ends that changes a PIN, stage by stage.
use Rattle.std.proofs.Common.{inl, refl}
use Rattle.desk_host.proofs.JournalSteps.{journals-none}
use Rattle.issuer_top.proofs.EndingSteps.{ends-as, ends_at_config, says-issuer}
use Rattle.issuer_top.proofs.PinSteps.{ends_changing}
use Rattle.issuer_top.proofs.run.Run.change_pin.Goals as goal

pub returns-in-Ok : goal.returns-in-Ok
returns-in-Ok g c =
    rw c.ended.ensures (λ words pin.
    ends-as _ _ _ _ refl
    (ends_changing _ _ words pin c.in-Ok.issuer
    (record {
      opened = record { config_is = refl; requests_is = refl; desk_stood = c.in-Ok.ensures.stood };
      none_opened = journals-none g.D.Journal.Store _ _ c.none.ensures.olds c.none.ensures.stores;
      said = says-issuer _ _ _ c.in-Ok.ensures.says;
    })
    _ c.write_change-ending.ensures))

pub returns-in-Err : goal.returns-in-Err
returns-in-Err g c = λ words pin.
    ends_at_config _ _ _ (λ stop text stops. inl stops) _ (c.not_opened.ensures _ _ c.in-Err.ensures.none)
