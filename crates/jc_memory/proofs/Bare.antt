-- What a card without applets answers to resets and to commands of a reader.
use Rattle.std.specs.Prelude.{⊤, is_some}
use Rattle.std.specs.Option.{option_and_then, option_map, option_map_or}
use Rattle.std.proofs.Common.{◌≡◌, ℕ, List, [], ◌∷◌, ◌++◌, Option, Some, None, Bool, true, false, map, refl, sym, ap}
use Rattle.std.proofs.Common.{◌∙◌, append-nil, append_assoc, if◌then◌else◌}
use Rattle.jc_card.specs.Card.{CardState, selected_instance, with_heap}
use Rattle.jc_card.specs.Command.{Command, buffer_of, command_of, is_select, not_selected, wrong_length}
use Rattle.jc_card.specs.Commands.{Response, perform, process, receive, reset_command, select, selected_by}
use Rattle.jc_card.specs.Commands.{status_alone}
use Rattle.jc_card.specs.Parts.{Left, behind, gives, runtime_touch}
use Rattle.jc_machine.specs.Machine.{Touch}
use Rattle.jc_machine.specs.Runtime.{apdu_buffer}
use Rattle.jc_natives.specs.Cells.{put_all}
use Rattle.jc_natives.specs.Kept.{instance_of, instance_with}
use Rattle.jc_natives.specs.declared.kept.Instance.{Instance}
use Rattle.jc_names.specs.declared.owner.Owner.{Owner}
use Rattle.jc_words.specs.Values.{Word}
use Rattle.jc_run.specs.Answer.{Answered, Responds, WasReset}
use Rattle.jc_run.specs.CardRun.{IsCardRun}
use Rattle.jc_run.specs.CardRun.IsCardRun.{command as performed, nothing}
use Rattle.jc_run.specs.Play.{BadLimits, BadLine, IsAnswered, IsGiven, IsPart, NoMemory, NotRead, NotWritten, Over}
use Rattle.jc_run.specs.Play.{ScriptEnd, SourceFailed, answer_line}
use Rattle.jc_run.specs.EndCauses.{EndCauses}
use Rattle.jc_run.specs.Reports.{Report}
use Rattle.jc_run.specs.Loading.{exactly}
use Rattle.jc_run.specs.Runs.{EndsWith, IsPlayed, answer_lines, commands_of}
use Rattle.jc_run.specs.Runs.EndsWith.{bad_line, memory, over, source, unread, unwritten}
use Rattle.jc_script.specs.Script.{Apdu, Cells, Install, Load, Objects, Reset, ScriptCommand, Steps}
use Rattle.jc_script.specs.Whole.{FaultyLine, Numbered, Script}

-- ---- cards without applets

-- no applet is installed, and none is selected
pub record IsBare (c : CardState) : Type 0 where
  pub unselected : c.selected ≡ None
  pub alone : c.kept.instances ≡ []

abbrev pub IsPlain : ScriptCommand → Type 0
IsPlain (Load folder certificate) = ⊥
IsPlain (Install applet instance incoming) = ⊥
IsPlain (Apdu bytes) = ⊤
IsPlain Reset = ⊤
IsPlain Cells = ⊥
IsPlain Objects = ⊥
IsPlain (Steps steps) = ⊥

abbrev pub response_to : Option Command → Response
response_to None = status_alone wrong_length
response_to (Some k) = status_alone not_selected

-- the answer to a plain command
abbrev pub answer_to : ScriptCommand → Answered
answer_to (Load folder certificate) = WasReset
answer_to (Install applet instance incoming) = WasReset
answer_to (Apdu bytes) = Responds (response_to (command_of bytes))
answer_to Reset = WasReset
answer_to Cells = WasReset
answer_to Objects = WasReset
answer_to (Steps steps) = WasReset

-- ---- one command

-- a command has this answer, and leaves a card without applets
record IsDone (command : ScriptCommand) (answer : Answered) (after : CardState) : Type 0 where
  answered : answer ≡ answer_to command
  bare : IsBare after

module _ (none : List Instance) (alone : none ≡ []) where
  none_named : (selects : Bool) (aid : List ℕ) → (if selects then instance_with none aid else None) ≡ None
  none_named true aid = rw alone refl
  none_named false aid = refl

none_selected : (selected : Option Owner) (instances : List Instance) → selected ≡ None
    → option_and_then (instance_of instances) selected ≡ None
none_selected selected instances unselected = rw unselected refl

perform_bare : (c : CardState) (k : Command) → IsBare c → perform c k ≡ gives c (status_alone not_selected)
perform_bare c k bare =
    neither (selected_by c k) (selected_instance c) (λ (i : Instance). select c i.owner k) (process c k false) _
    (none_named c.kept.instances bare.alone (is_select k) k.incoming)
    (none_selected c.selected c.kept.instances bare.unselected)
  where
    neither : (named selected : Option Instance) (chosen : Instance → Option (Left Response))
        (processed otherwise : Option (Left Response)) → named ≡ None → selected ≡ None
        → option_map_or chosen named (if is_some selected then processed else otherwise) ≡ otherwise
    neither named selected chosen processed otherwise h1 h2 = rw (h1, h2) refl

-- a part ends with this value, and leaves a card without applets
record EndsBare {A : Type 0} (done : Option (Left A)) (value : A) : Type 0 where
  left : Left A
  is : done ≡ Some left
  value_is : left.value ≡ value
  bare : IsBare left.card

ended_bare : {A : Type 0} (left : Left A) → IsBare left.card → EndsBare (Some left) left.value
ended_bare left bare = record { left = left; is = refl; value_is = refl; bare = bare }

receive_bare : (c : CardState) (k : Command) → IsBare c → EndsBare (receive c k) (status_alone not_selected)
receive_bare c k bare =
    let after : CardState = with_heap c (put_all c.heap apdu_buffer 0 (map Word (buffer_of k))) in
    let still : IsBare after = record { unselected = bare.unselected; alone = bare.alone } in
    let touches : List Touch = runtime_touch c.heap apdu_buffer in
    record {
      left = behind touches []
          (record { touches = []; ran = []; card = after; value = status_alone not_selected });
      is = ap (λ (done : Option (Left Response)). option_map (behind touches []) done) (perform_bare after k still);
      value_is = refl;
      bare = still;
    }

command_bare : (c : CardState) (asked : Option Command) → IsBare c
    → EndsBare (option_map_or (receive c) asked (gives c (status_alone wrong_length))) (response_to asked)
command_bare c None bare = ended_bare _ bare
command_bare c (Some k) bare = receive_bare c k bare

reset_bare : (c : CardState) → IsBare c → EndsBare (reset_command c) tt
reset_bare c bare = ended_bare _ (record { unselected = refl; alone = bare.alone })

done_of : {A : Type 0} (part : Option (Left A)) (value : A) (said : A → Answered) (command : ScriptCommand)
    (answer : Answered) (after : CardState) → EndsBare part value → said value ≡ answer_to command
    → IsGiven part said answer after → IsDone command answer after
done_of part value said command answer after ends same given =
    let left_is : given.left ≡ ends.left = cc in
    record {
      answered = given.answer_is ∙ (ap (λ l. said l.value) left_is ∙ (ap said ends.value_is ∙ same));
      bare = rw (given.after_is, left_is) ends.bare;
    }

-- ---- lines

abbrev pub ArePlain : List ScriptCommand → Type 0
ArePlain [] = ⊤
ArePlain (command ∷ commands) = IsPlain command × ArePlain commands

-- the lines of the answers to numbered commands
abbrev pub lines_to : List Numbered → List ℕ
lines_to commands = answer_lines (map answer_to (commands_of commands))

lines_apart : (done left : List Numbered) → lines_to (done ++ left) ≡ lines_to done ++ lines_to left
lines_apart [] left = refl
lines_apart (next ∷ done) left =
    ap (λ (bs : List ℕ). answer_line (answer_to next.command) ++ bs) (lines_apart done left)
    ∙ sym (append_assoc (answer_line (answer_to next.command)) (lines_to done) (lines_to left))

plain_parts : (done left : List Numbered) → ArePlain (commands_of (done ++ left))
    → ArePlain (commands_of done) × ArePlain (commands_of left)
plain_parts [] left plain = (tt, plain)
plain_parts (next ∷ done) left plain =
    let rest = plain_parts done left plain.1 in
    ((plain.0, rest.0), rest.1)

-- an answer's line begins with a part
whole_of : (before part line rest behind : List ℕ) → line ≡ part ++ rest
    → before ++ (line ++ behind) ≡ (before ++ part) ++ (rest ++ behind)
whole_of before part line rest behind is = rw is search (append_assoc)

-- how a script of such commands ends, by its bad line and the lines of all answers
abbrev pub EndsSo : Option FaultyLine → List ℕ → ScriptEnd → List ℕ → Type 0
EndsSo bad whole Over written = (bad ≡ None) × (written ≡ whole)
EndsSo bad whole (BadLine number fault) written =
    (bad ≡ Some (record { number = number; fault = fault })) × (written ≡ whole)
EndsSo bad whole (SourceFailed number) written = ⊥
EndsSo bad whole NotRead written = IsPart written whole
EndsSo bad whole NotWritten written = IsPart written whole
EndsSo bad whole NoMemory written = ⊥
EndsSo bad whole BadLimits written = ⊥

module _ (images certificates : List ℕ → List ℕ → Type 0) where
  command_done : (c : CardState) (command : ScriptCommand) (answer : Answered) (after : CardState)
      → IsPlain command → IsBare c → IsAnswered (exactly images certificates) c command answer after
      → IsDone command answer after
  command_done c (Load folder certificate) answer after plain bare h = elim plain [ ]
  command_done c (Install applet instance incoming) answer after plain bare h = elim plain [ ]
  command_done c (Apdu bytes) answer after plain bare h =
      done_of _ _ Responds (Apdu bytes) answer after (command_bare c (command_of bytes) bare) refl h
  command_done c Reset answer after plain bare h =
      done_of _ _ (λ u. WasReset) Reset answer after (reset_bare c bare) refl h
  command_done c Cells answer after plain bare h = elim plain [ ]
  command_done c Objects answer after plain bare h = elim plain [ ]
  command_done c (Steps steps) answer after plain bare h = elim plain [ ]

  -- ---- commands in order

  record AreDone (commands : List ScriptCommand) (answers : List Answered) (after : CardState) : Type 0 where
    answered : answers ≡ map answer_to commands
    bare : IsBare after

  run_done : {commands : List ScriptCommand} {c : CardState} {answers : List Answered} {touches : List Touch}
      {ran : List ℕ} {after : CardState} → ArePlain commands → IsBare c
      → IsCardRun (exactly images certificates) commands c answers touches ran after → AreDone commands answers after
  run_done plain bare (nothing c) = record { answered = refl; bare = bare }
  run_done plain bare (performed first more c between after answer answers touches ran answered rest) =
      let d : IsDone first answer between = command_done c first answer between plain.0 bare answered in
      let ds : AreDone more answers after = run_done plain.1 d.bare rest in
      record {
        answered = ap (λ (a : Answered). a ∷ answers) d.answered
            ∙ ap (λ (more : List Answered). answer_to first ∷ more) ds.answered;
        bare = ds.bare;
      }

  -- ---- a script

  module _ (causes : EndCauses) where
    ends_so : {c : CardState} {bad : Option FaultyLine} {left : List Numbered} {part : List ℕ} {end : ScriptEnd}
        (done : List Numbered) → IsBare c → ArePlain (commands_of left)
        → EndsWith (exactly images certificates) causes c bad left part end
        → EndsSo bad (lines_to done ++ lines_to left) end (lines_to done ++ part)
    ends_so done bare plain (over none) = (none, refl)
    ends_so done bare plain (bad_line at is) = (is, refl)
    ends_so done bare plain (source next left folder certificate is failing) = elim ((rw is at plain.0)) [ ]
    ends_so done bare plain (memory next left folder certificate is short) = elim ((rw is at plain.0)) [ ]
    ends_so done bare plain (unread left why) =
        record { rest = lines_to left; whole_is = ap (λ (bs : List ℕ). bs ++ lines_to left) (sym (append-nil _)) }
    ends_so {c = c} done bare plain (unwritten next left part answer after why answered is) =
        let d : IsDone next.command answer after =
        command_done c next.command answer after plain.0 bare answered in
        record {
          rest = is.rest ++ lines_to left;
          whole_is = whole_of (lines_to done) part (answer_line (answer_to next.command)) is.rest (lines_to left)
              (ap answer_line (sym d.answered) ∙ is.whole_is);
        }

    pub script_ends : (told : List Report → Type 0) (script : Script) (c : CardState) (written : List ℕ)
        (end : ScriptEnd) → ArePlain (commands_of script.commands) → IsBare c
        → IsPlayed (exactly images certificates) causes told script c written end
        → EndsSo script.bad (lines_to script.commands) end written
    script_ends told script c written end plain bare p =
        let plains = plain_parts p.done p.left (rw p.in_order at plain) in
        let d : AreDone (commands_of p.done) p.answers p.card = run_done plains.0 bare p.run in
        rw (p.lines, d.answered, p.in_order, lines_apart p.done p.left)
        (ends_so p.done d.bare plains.1 p.ends)
