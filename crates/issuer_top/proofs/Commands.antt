-- What is done of each command, from what is done of what the words ask for.
use Rattle.std.proofs.Common.{◌≡◌, ℕ, ◌<◌, ◌^◌, List, ◌∷◌, [], Option, None, Some, ⊎_elim}
use Rattle.std.proofs.Common.{sym, subst, ◌∙◌, arith}
use Rattle.std.specs.Fmt.{decimal}
use Rattle.std.proofs.lemmas.Fmt.{decimal_injective}
use Rattle.command_line.specs.Command.{IsClear, IsExport, IsFill, IsNoCommand, IsPin, IsServe}
use Rattle.command_line.specs.Command.{IsShow, IsStandby, IsWorld, PinOrder, RequestFile}
use Rattle.command_line.specs.Pairs.{order_of, request_file, GivesCallers}
use Rattle.command_line.specs.declared.words.Task.{Task}
use Rattle.command_line.specs.declared.words.Task.TheVariants.{Serve as ServeTask, Show as ShowTask, Play, Fill as FillTask}
use Rattle.command_line.specs.declared.words.Task.TheVariants.{Pin as PinTask, Clear as ClearTask, Export as ExportTask}
use Rattle.command_line.specs.declared.words.Task.TheVariants.{Standby as StandbyTask}
use Rattle.command_line.proofs.ClearNames.{clear-no_command, clear-no_fill, clear-no_pin, clear-no_world, one-clear}
use Rattle.command_line.proofs.CommandWords.{command-no_world, fill-no_command, fill-no_world, serve-no_show}
use Rattle.command_line.proofs.CommandWords.{one-fill, serve-gives, show-gives, world-gives}
use Rattle.command_line.proofs.FeedNames.{export-no_clear, export-no_command, export-no_fill, export-no_pin}
use Rattle.command_line.proofs.FeedNames.{export-no_world, standby-no_clear, standby-no_command, standby-no_export}
use Rattle.command_line.proofs.FeedNames.{standby-no_fill, standby-no_pin, standby-no_world, one-export, one-standby}
use Rattle.command_line.proofs.PinOrders.{one-order, pin-no_command, pin-no_fill, pin-no_world}
use Rattle.issuer_top.specs.Clearing.{RunsClear, ways_to_clear}
use Rattle.issuer_top.specs.Exporting.{RunsExport, ways_to_export}
use Rattle.issuer_top.specs.Filling.{RunsFill, ways_to_fill}
use Rattle.issuer_top.specs.PinChanges.{RunsPin, ways_to_change}
use Rattle.issuer_top.specs.Played.{RunsWorld, ways_to_play}
use Rattle.issuer_top.specs.Refusing.{RunsAlone, ways_to_refuse}
use Rattle.issuer_top.specs.Seen.{Seen}
use Rattle.issuer_top.specs.Serving.{RunsServe, ways_to_serve}
use Rattle.issuer_top.specs.Showing.{RunsShow, ways_to_show}
use Rattle.issuer_top.specs.Standing.{RunsStandby, ways_to_stand_by}
use Rattle.issuer_top.specs.Tasks.{DoesTask, IsAsked, ways_of}
use Rattle.issuer_top.specs.Ways.{Ends}
use Rattle.issuer_top.proofs.FillingSteps.{fills}
use Rattle.issuer_top.proofs.InOrder.{changes-in_order, clears-in_order, exports-in_order, plays-in_order}
use Rattle.issuer_top.proofs.InOrder.{serves-in_order, shows-in_order, stands-in_order}
use Rattle.issuer_top.proofs.PinSteps.{pin-status}

-- ---- the names that the words give

one-value : (value : Option (List ℕ)) (x y : List ℕ) → value ≡ Some x → value ≡ Some y → x ≡ y
one-value value x y one two = let e : Some x ≡ Some y = sym one ∙ two in cc

one-decimal : (value : Option (List ℕ)) (x y : ℕ) → x < 2 ^ 32 → y < 2 ^ 32 → value ≡ Some (decimal x)
    → value ≡ Some (decimal y) → x ≡ y
one-decimal value x y small other_small one two =
    decimal_injective x y (omega (arith, small)) (omega (arith, other_small))
    (one-value value (decimal x) (decimal y) one two)

-- the words say one number of callers
one-group : (words : List (List ℕ)) (callers other : ℕ) → GivesCallers words callers → GivesCallers words other
    → callers ≡ other
one-group words callers other gives others =
    ⊎_elim
    (λ alone. ⊎_elim (λ too. alone.1 ∙ sym too.1)
    (λ several. absurd (let e : decimal other ∷ [] ≡ [] = sym several.0 ∙ alone.0 in cc)) others)
    (λ several. ⊎_elim
    (λ alone. absurd (let e : decimal callers ∷ [] ≡ [] = sym several.0 ∙ alone.0 in cc))
    (λ too.
    let few = several.1.few in
    let other_few = too.1.few in
    let e : decimal callers ∷ [] ≡ decimal other ∷ [] = sym several.0 ∙ too.0 in
    let same : decimal callers ≡ decimal other = cc in
    decimal_injective callers other (omega (arith, few)) (omega (arith, other_few)) same) others) gives

-- ---- what is done of each command

module _ (words : List (List ℕ)) (status : ℕ) (seen : Seen) where
  done-serve : (task : Option Task) → IsAsked words task → Ends (ways_of task seen) status seen
      → (config : List ℕ) (requests : RequestFile) (journal : List ℕ) → IsServe words config requests journal
      → Ends (ways_to_serve config requests journal seen) status seen
  done-serve None asked ends config requests journal serve =
      absurd (asked.no_host config (Some requests) journal serve)
  done-serve (Some (ServeTask names)) asked ends config requests journal serve =
      let one = serve-gives words names.config.now (request_file names) names.journal.now asked in
      let two = serve-gives words config requests journal serve in
      let name = one-value _ _ _ one.requests_is two.requests_is in
      let callers = one-group words names.callers requests.callers one.callers_are two.callers_are in
      subst (λ (c : List ℕ). Ends (ways_to_serve c requests journal seen) status seen)
      (one-value _ _ _ one.config_is two.config_is)
      (subst (λ (j : List ℕ). Ends (ways_to_serve names.config.now requests j seen) status seen)
      (one-value _ _ _ one.journal_is two.journal_is)
      (subst (λ (n : ℕ). Ends (ways_to_serve names.config.now (record { name = requests.name; callers = n })
      names.journal.now seen) status seen) callers
      (subst (λ (n : List ℕ). Ends (ways_to_serve names.config.now (record { name = n; callers = names.callers })
      names.journal.now seen) status seen) name ends)))
  done-serve (Some (ShowTask names)) asked ends config requests journal serve =
      absurd (serve-no_show words config requests journal names.config.now names.journal.now serve asked)
  done-serve (Some (Play size)) asked ends config requests journal serve =
      absurd (command-no_world words config (Some requests) journal size.cards size.steps size.seed serve asked)
  done-serve (Some (FillTask texts)) asked ends config requests journal serve =
      absurd (fill-no_command words texts.dol.items texts.data.items config (Some requests) journal asked serve)
  done-serve (Some (PinTask named)) asked ends config requests journal serve =
      absurd (pin-no_command words (order_of named) config (Some requests) journal asked serve)
  done-serve (Some (ClearTask names)) asked ends config requests journal serve =
      absurd (clear-no_command words names.config.now names.clearing.now names.journal.now asked config (Some
      requests) journal serve)
  done-serve (Some (ExportTask names)) asked ends config requests journal serve =
      absurd (export-no_command words names.config.now names.journal.now asked config (Some requests) journal serve)
  done-serve (Some (StandbyTask names)) asked ends config requests journal serve =
      absurd (standby-no_command words names.config.now names.feed.now names.journal.now asked config (Some
      requests) journal serve)

  done-show : (task : Option Task) → IsAsked words task → Ends (ways_of task seen) status seen
      → (config journal : List ℕ) → IsShow words config journal → Ends (ways_to_show config journal seen) status seen
  done-show None asked ends config journal show =
      absurd (asked.no_host config None journal show)
  done-show (Some (ShowTask names)) asked ends config journal show =
      let one = show-gives words names.config.now names.journal.now asked in
      let two = show-gives words config journal show in
      subst (λ (c : List ℕ). Ends (ways_to_show c journal seen) status seen)
      (one-value _ _ _ one.config_is two.config_is)
      (subst (λ (j : List ℕ). Ends (ways_to_show names.config.now j seen) status seen)
      (one-value _ _ _ one.journal_is two.journal_is) ends)
  done-show (Some (ServeTask names)) asked ends config journal show =
      absurd (serve-no_show words names.config.now (request_file names) names.journal.now config journal asked show)
  done-show (Some (Play size)) asked ends config journal show =
      absurd (command-no_world words config None journal size.cards size.steps size.seed show asked)
  done-show (Some (FillTask texts)) asked ends config journal show =
      absurd (fill-no_command words texts.dol.items texts.data.items config None journal asked show)
  done-show (Some (PinTask named)) asked ends config journal show =
      absurd (pin-no_command words (order_of named) config None journal asked show)
  done-show (Some (ClearTask names)) asked ends config journal show =
      absurd (clear-no_command words names.config.now names.clearing.now names.journal.now asked config None
      journal show)
  done-show (Some (ExportTask names)) asked ends config journal show =
      absurd (export-no_command words names.config.now names.journal.now asked config None journal show)
  done-show (Some (StandbyTask names)) asked ends config journal show =
      absurd (standby-no_command words names.config.now names.feed.now names.journal.now asked config None journal
      show)

  done-clear : (task : Option Task) → IsAsked words task → Ends (ways_of task seen) status seen
      → (config clearing journal : List ℕ) → IsClear words config clearing journal
      → Ends (ways_to_clear config clearing journal seen) status seen
  done-clear None asked ends config clearing journal clear =
      absurd (asked.no_clear config clearing journal clear)
  done-clear (Some (ClearTask names)) asked ends config clearing journal clear =
      let same = one-clear words names.config.now names.clearing.now names.journal.now config clearing journal asked
      clear in
      subst (λ (c : List ℕ). Ends (ways_to_clear c clearing journal seen) status seen) same.config_is
      (subst (λ (f : List ℕ). Ends (ways_to_clear names.config.now f journal seen) status seen) same.clearing_is
      (subst (λ (j : List ℕ). Ends (ways_to_clear names.config.now names.clearing.now j seen) status seen)
      same.journal_is ends))
  done-clear (Some (ServeTask names)) asked ends config clearing journal clear =
      absurd (clear-no_command words config clearing journal clear names.config.now (Some (request_file names))
      names.journal.now asked)
  done-clear (Some (ShowTask names)) asked ends config clearing journal clear =
      absurd (clear-no_command words config clearing journal clear names.config.now None names.journal.now asked)
  done-clear (Some (Play size)) asked ends config clearing journal clear =
      absurd (clear-no_world words config clearing journal clear size.cards size.steps size.seed asked)
  done-clear (Some (FillTask texts)) asked ends config clearing journal clear =
      absurd (clear-no_fill words config clearing journal clear texts.dol.items texts.data.items asked)
  done-clear (Some (PinTask named)) asked ends config clearing journal clear =
      absurd (clear-no_pin words config clearing journal clear (order_of named) asked)
  done-clear (Some (ExportTask names)) asked ends config clearing journal clear =
      absurd (export-no_clear words names.config.now names.journal.now asked config clearing journal clear)
  done-clear (Some (StandbyTask names)) asked ends config clearing journal clear =
      absurd (standby-no_clear words names.config.now names.feed.now names.journal.now asked config clearing
      journal clear)

  done-export : (task : Option Task) → IsAsked words task → Ends (ways_of task seen) status seen
      → (config journal : List ℕ) → IsExport words config journal
      → Ends (ways_to_export config journal seen) status seen
  done-export None asked ends config journal export =
      absurd (asked.no_export config journal export)
  done-export (Some (ExportTask names)) asked ends config journal export =
      let same = one-export words names.config.now names.journal.now config journal asked export in
      subst (λ (c : List ℕ). Ends (ways_to_export c journal seen) status seen) same.config_is
      (subst (λ (j : List ℕ). Ends (ways_to_export names.config.now j seen) status seen) same.journal_is ends)
  done-export (Some (ServeTask names)) asked ends config journal export =
      absurd (export-no_command words config journal export names.config.now (Some (request_file names))
      names.journal.now asked)
  done-export (Some (ShowTask names)) asked ends config journal export =
      absurd (export-no_command words config journal export names.config.now None names.journal.now asked)
  done-export (Some (Play size)) asked ends config journal export =
      absurd (export-no_world words config journal export size.cards size.steps size.seed asked)
  done-export (Some (FillTask texts)) asked ends config journal export =
      absurd (export-no_fill words config journal export texts.dol.items texts.data.items asked)
  done-export (Some (PinTask named)) asked ends config journal export =
      absurd (export-no_pin words config journal export (order_of named) asked)
  done-export (Some (ClearTask names)) asked ends config journal export =
      absurd (export-no_clear words config journal export names.config.now names.clearing.now names.journal.now asked)
  done-export (Some (StandbyTask names)) asked ends config journal export =
      absurd (standby-no_export words names.config.now names.feed.now names.journal.now asked config journal export)

  done-standby : (task : Option Task) → IsAsked words task → Ends (ways_of task seen) status seen
      → (config feed journal : List ℕ) → IsStandby words config feed journal
      → Ends (ways_to_stand_by config feed journal seen) status seen
  done-standby None asked ends config feed journal standby =
      absurd (asked.no_standby config feed journal standby)
  done-standby (Some (StandbyTask names)) asked ends config feed journal standby =
      let same = one-standby words names.config.now names.feed.now names.journal.now config feed journal asked
      standby in
      subst (λ (c : List ℕ). Ends (ways_to_stand_by c feed journal seen) status seen) same.config_is
      (subst (λ (f : List ℕ). Ends (ways_to_stand_by names.config.now f journal seen) status seen) same.feed_is
      (subst (λ (j : List ℕ). Ends (ways_to_stand_by names.config.now names.feed.now j seen) status seen)
      same.journal_is ends))
  done-standby (Some (ServeTask names)) asked ends config feed journal standby =
      absurd (standby-no_command words config feed journal standby names.config.now (Some (request_file names))
      names.journal.now asked)
  done-standby (Some (ShowTask names)) asked ends config feed journal standby =
      absurd (standby-no_command words config feed journal standby names.config.now None names.journal.now asked)
  done-standby (Some (Play size)) asked ends config feed journal standby =
      absurd (standby-no_world words config feed journal standby size.cards size.steps size.seed asked)
  done-standby (Some (FillTask texts)) asked ends config feed journal standby =
      absurd (standby-no_fill words config feed journal standby texts.dol.items texts.data.items asked)
  done-standby (Some (PinTask named)) asked ends config feed journal standby =
      absurd (standby-no_pin words config feed journal standby (order_of named) asked)
  done-standby (Some (ClearTask names)) asked ends config feed journal standby =
      absurd (standby-no_clear words config feed journal standby names.config.now names.clearing.now
      names.journal.now asked)
  done-standby (Some (ExportTask names)) asked ends config feed journal standby =
      absurd (standby-no_export words config feed journal standby names.config.now names.journal.now asked)

  done-pin : (task : Option Task) → IsAsked words task → Ends (ways_of task seen) status seen
      → (order : PinOrder) → IsPin words order → Ends (ways_to_change order seen) status seen
  done-pin None asked ends order pin =
      absurd (asked.no_pin order pin)
  done-pin (Some (PinTask named)) asked ends order pin =
      subst (λ (o : PinOrder). Ends (ways_to_change o seen) status seen)
      (one-order words (order_of named) order asked pin) ends
  done-pin (Some (ServeTask names)) asked ends order pin =
      absurd (pin-no_command words order names.config.now (Some (request_file names)) names.journal.now pin asked)
  done-pin (Some (ShowTask names)) asked ends order pin =
      absurd (pin-no_command words order names.config.now None names.journal.now pin asked)
  done-pin (Some (Play size)) asked ends order pin =
      absurd (pin-no_world words order size.cards size.steps size.seed pin asked)
  done-pin (Some (FillTask texts)) asked ends order pin =
      absurd (pin-no_fill words order texts.dol.items texts.data.items pin asked)
  done-pin (Some (ClearTask names)) asked ends order pin =
      absurd (clear-no_pin words names.config.now names.clearing.now names.journal.now asked order pin)
  done-pin (Some (ExportTask names)) asked ends order pin =
      absurd (export-no_pin words names.config.now names.journal.now asked order pin)
  done-pin (Some (StandbyTask names)) asked ends order pin =
      absurd (standby-no_pin words names.config.now names.feed.now names.journal.now asked order pin)

  done-world : (task : Option Task) → IsAsked words task → Ends (ways_of task seen) status seen
      → (cards steps seed : ℕ) → IsWorld words cards steps seed
      → Ends (ways_to_play cards steps seed seen) status seen
  done-world None asked ends cards steps seed world =
      absurd (asked.no_world cards steps seed world)
  done-world (Some (Play size)) asked ends cards steps seed world =
      let one = world-gives words size.cards size.steps size.seed asked in
      let two = world-gives words cards steps seed world in
      subst (λ (c : ℕ). Ends (ways_to_play c steps seed seen) status seen)
      (one-decimal _ _ _ one.cards_below two.cards_below one.cards_are two.cards_are)
      (subst (λ (t : ℕ). Ends (ways_to_play size.cards t seed seen) status seen)
      (one-decimal _ _ _ one.steps_below two.steps_below one.steps_are two.steps_are)
      (subst (λ (s : ℕ). Ends (ways_to_play size.cards size.steps s seen) status seen)
      (one-decimal _ _ _ one.seed_below two.seed_below one.seed_is two.seed_is) ends))
  done-world (Some (ServeTask names)) asked ends cards steps seed world =
      absurd (command-no_world words names.config.now (Some (request_file names)) names.journal.now cards steps
      seed asked world)
  done-world (Some (ShowTask names)) asked ends cards steps seed world =
      absurd (command-no_world words names.config.now None names.journal.now cards steps seed asked world)
  done-world (Some (FillTask texts)) asked ends cards steps seed world =
      absurd (fill-no_world words texts.dol.items texts.data.items cards steps seed asked world)
  done-world (Some (PinTask named)) asked ends cards steps seed world =
      absurd (pin-no_world words (order_of named) cards steps seed asked world)
  done-world (Some (ClearTask names)) asked ends cards steps seed world =
      absurd (clear-no_world words names.config.now names.clearing.now names.journal.now asked cards steps seed world)
  done-world (Some (ExportTask names)) asked ends cards steps seed world =
      absurd (export-no_world words names.config.now names.journal.now asked cards steps seed world)
  done-world (Some (StandbyTask names)) asked ends cards steps seed world =
      absurd (standby-no_world words names.config.now names.feed.now names.journal.now asked cards steps seed world)

  done-fill : (task : Option Task) → IsAsked words task → Ends (ways_of task seen) status seen
      → (dol given : List ℕ) → IsFill words dol given → Ends (ways_to_fill dol given seen) status seen
  done-fill None asked ends dol given fill =
      absurd (asked.no_fill dol given fill)
  done-fill (Some (FillTask texts)) asked ends dol given fill =
      let same = one-fill words texts.dol.items texts.data.items dol given asked fill in
      subst (λ (d : List ℕ). Ends (ways_to_fill d given seen) status seen) same.dol_is
      (subst (λ (g : List ℕ). Ends (ways_to_fill texts.dol.items g seen) status seen) same.given_is ends)
  done-fill (Some (ServeTask names)) asked ends dol given fill =
      absurd (fill-no_command words dol given names.config.now (Some (request_file names)) names.journal.now fill
      asked)
  done-fill (Some (ShowTask names)) asked ends dol given fill =
      absurd (fill-no_command words dol given names.config.now None names.journal.now fill asked)
  done-fill (Some (Play size)) asked ends dol given fill =
      absurd (fill-no_world words dol given size.cards size.steps size.seed fill asked)
  done-fill (Some (PinTask named)) asked ends dol given fill =
      absurd (pin-no_fill words (order_of named) dol given asked fill)
  done-fill (Some (ClearTask names)) asked ends dol given fill =
      absurd (clear-no_fill words names.config.now names.clearing.now names.journal.now asked dol given fill)
  done-fill (Some (ExportTask names)) asked ends dol given fill =
      absurd (export-no_fill words names.config.now names.journal.now asked dol given fill)
  done-fill (Some (StandbyTask names)) asked ends dol given fill =
      absurd (standby-no_fill words names.config.now names.feed.now names.journal.now asked dol given fill)

  done-none : (task : Option Task) → IsAsked words task → Ends (ways_of task seen) status seen
      → IsNoCommand words → Ends (ways_to_refuse seen) status seen
  done-none None asked ends none = ends
  done-none (Some (ServeTask names)) asked ends none =
      absurd (none.no_host names.config.now (Some (request_file names)) names.journal.now asked)
  done-none (Some (ShowTask names)) asked ends none =
      absurd (none.no_host names.config.now None names.journal.now asked)
  done-none (Some (Play size)) asked ends none =
      absurd (none.no_world size.cards size.steps size.seed asked)
  done-none (Some (FillTask texts)) asked ends none =
      absurd (none.no_fill texts.dol.items texts.data.items asked)
  done-none (Some (PinTask named)) asked ends none =
      absurd (none.no_pin (order_of named) asked)
  done-none (Some (ClearTask names)) asked ends none =
      absurd (none.no_clear names.config.now names.clearing.now names.journal.now asked)
  done-none (Some (ExportTask names)) asked ends none =
      absurd (none.no_export names.config.now names.journal.now asked)
  done-none (Some (StandbyTask names)) asked ends none =
      absurd (none.no_standby names.config.now names.feed.now names.journal.now asked)

  -- ---- the clauses of the call

  module _ (does : DoesTask words status seen) where
    pub runs-serve : RunsServe words status seen
    runs-serve = λ config requests journal serve.
        let ends = done-serve does.task does.asked does.ends config requests journal serve in
        record { ends = ends; completes = serves-in_order config requests journal seen status ends }

    pub runs-show : RunsShow words status seen
    runs-show = λ config journal show.
        let ends = done-show does.task does.asked does.ends config journal show in
        record { ends = ends; completes = shows-in_order config journal seen status ends }

    pub runs-clear : RunsClear words status seen
    runs-clear = λ config clearing journal clear.
        let ends = done-clear does.task does.asked does.ends config clearing journal clear in
        record { ends = ends; completes = clears-in_order config clearing journal seen status ends }

    pub runs-export : RunsExport words status seen
    runs-export = λ config journal export.
        let ends = done-export does.task does.asked does.ends config journal export in
        record { ends = ends; completes = exports-in_order config journal seen status ends }

    pub runs-standby : RunsStandby words status seen
    runs-standby = λ config feed journal standby.
        let ends = done-standby does.task does.asked does.ends config feed journal standby in
        record { ends = ends; completes = stands-in_order config feed journal seen status ends }

    pub runs-pin : RunsPin words status seen
    runs-pin = λ order pin.
        let ends = done-pin does.task does.asked does.ends order pin in
        record {
          runs = record { ends = ends; completes = changes-in_order order seen status ends };
          status_is = pin-status seen order status ends.ending ends.status_is ends.ends_by;
        }

    pub runs-alone : RunsAlone words status seen
    runs-alone = record {
      world = λ cards steps seed world.
          let ends = done-world does.task does.asked does.ends cards steps seed world in
          record { ends = ends; completes = plays-in_order cards steps seed seen status ends };
      fill = λ dol given fill.
          fills seen dol given status (done-fill does.task does.asked does.ends dol given fill);
      none = done-none does.task does.asked does.ends;
    }
