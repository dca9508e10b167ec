-- What a script comes to is a run of the card.
use Rattle.std.proofs.Common.{◌≡◌, ℕ, suc, List, [], ◌∷◌, ◌++◌, Option, Some, None, IfSome, refl, sym, ap, ◌∙◌, arith}
use Rattle.std.proofs.Common.{append_assoc, Result, Ok, Err}
use Rattle.jc_base.specs.declared.fault.LoadFault.{LoadFault}
use Rattle.jc_card.specs.Accesses.{ChangesBy, IsApartCard, IsGuardedCommand, KeepsApart, LeavesObjects}
use Rattle.jc_card.specs.Accesses.{law_of_plain_objects}
use Rattle.jc_card.specs.Card.{CardState}
use Rattle.jc_card.specs.Commands.{apdu_command, reset_command}
use Rattle.jc_card.specs.Install.{install_command}
use Rattle.jc_card.specs.Load.{IsLoad}
use Rattle.jc_card.specs.Order.{Leads, Order, Resets, apdu_order, install_order}
use Rattle.jc_card.specs.Parts.{Left}
use Rattle.jc_machine.specs.Machine.{Touch}
use Rattle.jc_store.specs.Heap.{Heap}
use Rattle.jc_words.specs.Values.{TaggedValue}
use Rattle.jc_run.specs.Answer.{Answered}
use Rattle.jc_run.specs.Performs.{PlaysOn}
use Rattle.jc_run.specs.Play.{IsAnswered, IsGiven, ScriptEnd, answer_line}
use Rattle.jc_run.specs.PrivatePlay.{EndsAt, IsCommandPlayed, IsLinePlayed, Plays, PlaysFrom}
use Rattle.jc_run.specs.PrivatePlay.EndsAt.{bad, memory, source, unwritten}
use Rattle.jc_run.specs.PrivatePlay.Plays.{ended, line, over, unread}
use Rattle.jc_run.specs.CardRun.{IsCardRun, accesses_in, accesses_of, contexts_of}
use Rattle.jc_run.specs.Loading.{AreSafeLoads, exactly}
use Rattle.jc_run.specs.Runs.{AreGuarded, EndsWith, IsGuarded, KeepsPlainObjects, answer_lines, commands_of}
use Rattle.jc_run.specs.Runs.EndsWith.{bad_line, memory as memory_left, over as over_left, source as source_left}
use Rattle.jc_run.specs.Runs.EndsWith.{unread as unread_left, unwritten as unwritten_left}
use Rattle.jc_run.specs.CardRun.IsCardRun.{command, nothing}
use Rattle.jc_run.specs.EndCauses.{EndCauses}
use Rattle.jc_run.specs.Reports.{AreReported, Report}
use Rattle.jc_run.specs.Reports.AreReported.{more as one_reported, none}
use Rattle.jc_script.specs.Script.{Apdu, Asks, Bad, Cells, Install, Load, Objects, Reset, ScriptCommand, ScriptLine}
use Rattle.jc_script.specs.Script.{Skipped, Steps, line_at}
use Rattle.jc_script.specs.Whole.{Numbered, Script, bad_fault, script_from, with_line}

-- commands that are done, up to an end, and what is told of them
record IsDone (images certificates : List ℕ → List ℕ → Type 0) (causes : EndCauses) (script : Script) (c : CardState)
    (reports : List Report) (written : List ℕ) (end : ScriptEnd) : Type 0 where
  done : List Numbered
  left : List Numbered
  in_order : script.commands ≡ done ++ left
  answers : List Answered
  touches : List Touch
  ran : List ℕ
  card : CardState
  run : IsCardRun (exactly images certificates) (commands_of done) c answers touches ran card
  part : List ℕ
  lines : written ≡ answer_lines answers ++ part
  reported : AreReported done answers reports
  ends : EndsWith (exactly images certificates) causes card script.bad left part end

module _ (images certificates : List ℕ → List ℕ → Type 0) (causes : EndCauses) where
  abbrev Is : Script → CardState → List Report → List ℕ → ScriptEnd → Type 0
  Is script c reports written end = IsDone images certificates causes script c reports written end

  -- ---- no command is done

  none_done : (script : Script) (c : CardState) (part : List ℕ) (end : ScriptEnd)
      → EndsWith (exactly images certificates) causes c script.bad script.commands part end → Is script c [] part end
  none_done script c part end ends = record {
    done = [];
    left = script.commands;
    in_order = refl;
    answers = [];
    touches = [];
    ran = [];
    card = c;
    run = nothing c;
    part = part;
    lines = refl;
    reported = none;
    ends = ends;
  }

  -- ---- a command more

  one_more : (number : ℕ) (bytes : List ℕ) (first : ScriptCommand) (script : Script) (c between : CardState)
      (played : List Report) (written : List ℕ) (more : List Report) (behind : List ℕ) (end : ScriptEnd)
      → IsCommandPlayed images certificates c number first played written between
      → Is script between more behind end
      → Is (with_line number bytes (Asks first) script) c (played ++ more) (written ++ behind) end
  one_more number bytes first script c between played written more behind end p d =
      let asked : Numbered = record { number = number; command = first } in
      record {
        done = asked ∷ d.done;
        left = d.left;
        in_order = ap (λ (more : List Numbered). asked ∷ more) d.in_order;
        answers = p.answer ∷ d.answers;
        touches = accesses_of c first ++ d.touches;
        ran = contexts_of c first ++ d.ran;
        card = d.card;
        run = command first (commands_of d.done) c between d.card p.answer d.answers d.touches d.ran p.answered d.run;
        part = d.part;
        lines =
            rw p.written_is
            (ap (λ (bytes : List ℕ). answer_line p.answer ++ bytes) d.lines
            ∙ sym (append_assoc (answer_line p.answer) (answer_lines d.answers) d.part));
        reported =
            rw p.reports_are (one_reported asked d.done p.answer d.answers p.stopped more d.reported);
        ends = d.ends;
      }

  line_done : (number : ℕ) (bytes : List ℕ) (said : ScriptLine) (script : Script) (c after : CardState)
      (reports more : List Report) (written behind : List ℕ) (end : ScriptEnd)
      → IsLinePlayed images certificates c number said reports written after → Is script after more behind end
      → Is (with_line number bytes said script) c (reports ++ more) (written ++ behind) end
  line_done number bytes Skipped script c after reports more written behind end played d =
      rw (played.0, played.1, ← played.2) d
  line_done number bytes (Asks first) script c after reports more written behind end played d =
      one_more number bytes first script c after reports written more behind end played d
  line_done number bytes Bad script c after reports more written behind end played d = elim played [ ]

  -- ---- a line that ends it

  line_ends : {number : ℕ} (bytes : List ℕ) (script : Script) {c : CardState} {said : ScriptLine} {written : List ℕ}
      {end : ScriptEnd}
      → EndsAt images certificates causes.failed_at causes.short causes.unwritten c number (bad_fault number bytes)
      said written end → Is (with_line number bytes said script) c [] written end
  line_ends {number = number} bytes script {c = c} bad =
      none_done _ c [] _ (bad_line (record { number = number; fault = bad_fault number bytes }) refl)
  line_ends {number = number} bytes script {c = c} (source folder certificate failing) =
      none_done _ c [] _ (source_left (record { number = number; command = Load folder certificate }) script.commands
      folder certificate refl failing)
  line_ends {number = number} bytes script {c = c} (memory folder certificate short) =
      none_done _ c [] _ (memory_left (record { number = number; command = Load folder certificate }) script.commands
      folder certificate refl short)
  line_ends {number = number} bytes script {c = c} (unwritten asked part answer after why answered first) =
      none_done _ c part _ (unwritten_left (record { number = number; command = asked }) script.commands part answer
      after why answered first)

  -- ---- all lines

  run_of : {number : ℕ} {lines : List (List ℕ)} {c : CardState} {reports : List Report} {written : List ℕ}
      {end : ScriptEnd} → Plays images certificates causes number lines c reports written end
      → Is (script_from number lines) c reports written end
  unfolding script_from
  run_of (over number c) = none_done _ c [] _ (over_left refl)
  run_of (line number first lines c after reports more part behind end played rest) =
      line_done number first (line_at number first) (script_from (suc number) lines) c after reports more part behind
      end played (run_of rest)
  run_of (ended number first more c part end e) = line_ends first (script_from (suc number) more) e
  run_of (unread number more c why) = none_done _ c [] _ (unread_left _ why)

  pub played_on : {told : List Report → Type 0} {script : List ℕ} {c : CardState} {before : List ℕ}
      {now : Option (List ℕ)} {end : ScriptEnd}
      → PlaysFrom images certificates causes told 1 script c before now end
      → PlaysOn images certificates causes told script c before now end
  played_on p =
      let d = run_of p.plays in
      record {
        written = p.written;
        played = record {
          done = d.done;
          left = d.left;
          in_order = d.in_order;
          answers = d.answers;
          touches = d.touches;
          ran = d.ran;
          card = d.card;
          run = d.run;
          part = d.part;
          lines = d.lines;
          reports = p.reports;
          reported = d.reported;
          were_told = p.were_told;
          ends = d.ends;
        };
        now_is = p.now_is;
      }

-- ---- what it accesses

pub record Laws : Type 0 where
  pub apdu : (c : CardState) (bytes : List ℕ) → IfSome (apdu_command c bytes) (IsGuardedCommand (apdu_order c bytes) c)
  pub install : (c : CardState) (applet instance incoming : List ℕ)
      → IfSome (install_command c applet instance incoming) (IsGuardedCommand (install_order c applet) c)
  pub reset : (c : CardState) → IfSome (reset_command c) (IsGuardedCommand Resets c)
  pub load : (c after : CardState) (image certificate : List ℕ) (result : Result ℕ LoadFault)
      → IsLoad c image certificate result after → LeavesObjects c.heap after.heap
  pub apart_apdu : (c : CardState) → IsApartCard c → (bytes : List ℕ)
      → IfSome (apdu_command c bytes) (λ l. KeepsApart (apdu_order c bytes) c l.touches l.card)
  pub apart_install : (c : CardState) → IsApartCard c → (applet instance incoming : List ℕ)
      → IfSome (install_command c applet instance incoming)
      (λ l. KeepsApart (install_order c applet) c l.touches l.card)
  pub apart_reset : (c : CardState) → IsApartCard c
      → IfSome (reset_command c) (λ l. KeepsApart Resets c l.touches l.card)
  pub apart_load : (c after : CardState) (image certificate : List ℕ) (result : Result ℕ LoadFault) → IsApartCard c
      → IsLoad c image certificate result after → IsApartCard after
  pub none : (before after : Heap TaggedValue) → LeavesObjects before after → ChangesBy [] before after
  pub more : (first between last : Heap TaggedValue) (touches behind : List Touch) → ChangesBy touches first between
      → ChangesBy behind between last → ChangesBy (touches ++ behind) first last

module _ (laws : Laws) (images certificates : List ℕ → List ℕ → Type 0) where
  guarded : (c : CardState) (command : ScriptCommand) (answer : Answered) (after : CardState)
      → IsAnswered (exactly images certificates) c command answer after → IsGuarded c command after
  guarded c (Load folder certificate) answer after h = laws.load c after h.image h.bytes h.result h.load
  guarded c (Install applet instance incoming) answer after h = laws.install c applet instance incoming
  guarded c (Apdu bytes) answer after h = laws.apdu c bytes
  guarded c Reset answer after h = laws.reset c
  guarded c Cells answer after h = h.1
  guarded c Objects answer after h = h.1
  guarded c (Steps steps) answer after h = h.1

  given_changes : {A : Type 0} (order : Order) (c : CardState) (done : Option (Left A)) (said : A → Answered)
      (answer : Answered) (after : CardState) → IfSome done (IsGuardedCommand order c) → IsGiven done said answer after
      → ChangesBy (accesses_in done) c.heap after.heap
  given_changes order c None said answer after h given = absurd cc
  given_changes order c (Some l) said answer after h given =
      let same : given.left ≡ l = cc in
      rw (given.after_is, same) h.changes

  changes : (c : CardState) (command : ScriptCommand) (answer : Answered) (after : CardState)
      → IsAnswered (exactly images certificates) c command answer after
      → ChangesBy (accesses_of c command) c.heap after.heap
  changes c (Load folder certificate) answer after h =
      laws.none c.heap after.heap (laws.load c after h.image h.bytes h.result h.load)
  changes c (Install applet instance incoming) answer after h =
      given_changes (install_order c applet) c (install_command c applet instance incoming) _ answer after
      (laws.install c applet instance incoming) h
  changes c (Apdu bytes) answer after h =
      given_changes (apdu_order c bytes) c (apdu_command c bytes) _ answer after (laws.apdu c bytes) h
  changes c Reset answer after h =
      given_changes Resets c (reset_command c) _ answer after (laws.reset c) h
  changes c Cells answer after h = rw h.1 (laws.none c.heap c.heap (λ number o e. e))
  changes c Objects answer after h = rw h.1 (laws.none c.heap c.heap (λ number o e. e))
  changes c (Steps steps) answer after h = rw h.1 (laws.none c.heap c.heap (λ number o e. e))

  run_changes : {commands : List ScriptCommand} {c : CardState} {answers : List Answered} {touches : List Touch}
      {ran : List ℕ} {after : CardState} → IsCardRun (exactly images certificates) commands c answers touches ran after
      → ChangesBy touches c.heap after.heap
  run_changes (nothing c) = laws.none c.heap c.heap (λ number o e. e)
  run_changes (command first more c between after answer answers touches ran answered rest) =
      laws.more c.heap between.heap after.heap (accesses_of c first) touches
      (changes c first answer between answered) (run_changes rest)

  -- ---- the runtime's name

  given_apart : {A : Type 0} (order : Order) (c : CardState) (done : Option (Left A)) (said : A → Answered)
      (answer : Answered) (after : CardState) → IfSome done (λ l. KeepsApart order c l.touches l.card)
      → IsGiven done said answer after
      → IsApartCard after
  given_apart order c done said answer after h1 h2 = grind arith

  plain_of : {A : Type 0} (order : Order) (c : CardState) (done : Option (Left A))
      → IfSome done (λ l. KeepsApart order c l.touches l.card)
      → IfSome done (λ l. Leads law_of_plain_objects order c l.touches l.card)
  plain_of order c None h = tt
  plain_of order c (Some l) h = h.plain

  keeps_plain : (c : CardState) → IsApartCard c → (command : ScriptCommand) → KeepsPlainObjects c command
  keeps_plain c p (Load folder certificate) = tt
  keeps_plain c p (Install applet instance incoming) =
      plain_of (install_order c applet) c (install_command c applet instance incoming)
      (laws.apart_install c p applet instance incoming)
  keeps_plain c p (Apdu bytes) = plain_of (apdu_order c bytes) c (apdu_command c bytes) (laws.apart_apdu c p bytes)
  keeps_plain c p Reset = plain_of Resets c (reset_command c) (laws.apart_reset c p)
  keeps_plain c p Cells = tt
  keeps_plain c p Objects = tt
  keeps_plain c p (Steps steps) = tt

  pub stays_apart : (c : CardState) (command : ScriptCommand) (answer : Answered) (after : CardState) → IsApartCard c
      → IsAnswered (exactly images certificates) c command answer after → IsApartCard after
  stays_apart c (Load folder certificate) answer after p h = laws.apart_load c after h.image h.bytes h.result p h.load
  stays_apart c (Install applet instance incoming) answer after p h = search (arith, given_apart)
  stays_apart c (Apdu bytes) answer after p h = search (arith, given_apart)
  stays_apart c Reset answer after p h = search (arith, given_apart)
  stays_apart c Cells answer after p h = rw h.1 p
  stays_apart c Objects answer after p h = rw h.1 p
  stays_apart c (Steps steps) answer after p h = rw h.1 (record {
    packages = p.packages;
    objects = p.objects;
    statics = p.statics;
    instances = p.instances;
  })

  run_apart : {commands : List ScriptCommand} {c : CardState} {answers : List Answered} {touches : List Touch}
      {ran : List ℕ} {after : CardState} → IsApartCard c
      → IsCardRun (exactly images certificates) commands c answers touches ran after
      → IsApartCard after
  run_apart p (nothing c) = p
  run_apart p (command first more c between after answer answers touches ran answered rest) =
      run_apart (stays_apart c first answer between p answered) rest

  pub all_guarded : AreGuarded IsApartCard (exactly images certificates)
  all_guarded = record {
    commands = λ c command answer after h. guarded c command answer after h;
    runs = λ commands c answers touches ran after run. run_changes run;
    plain = λ c p command. keeps_plain c p command;
    stays = λ commands c answers touches ran after p run. run_apart p run;
    known = λ c p. record { objects = p.objects; statics = p.statics; instances = p.instances };
  }

-- ---- loads

-- a package is loaded as its image says, or the card stays
pub loads_are_safe : AreSafeLoads IsLoad
loads_are_safe c image certificate (Ok number) after h =
    let l = h.fit.linked in record {
      parts = l.parts;
      cut = l.cut;
      «package» = l.linked.«package»;
      read = l.linked.read;
      linked = h.linked;
      world = l.linked.linked.world;
      kept = l.linked.linked.kept;
      targets = l.linked.linked.targets;
      number_is = h.number_is;
      after_is = h.after_is;
    }
loads_are_safe c image certificate (Err fault) after h = h.kept
