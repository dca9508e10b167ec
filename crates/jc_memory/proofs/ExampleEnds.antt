-- The example's answers.
use Rattle.std.proofs.Common.{◌≡◌, ℕ, List, [], ◌∷◌, Option, Some, None, ap, refl}
use Rattle.jc_api.specs.Bound.{Bound}
use Rattle.jc_card.specs.New.{new_card}
use Rattle.jc_machine.specs.declared.limits.Limits.{Limits}
use Rattle.jc_run.specs.Play.{BadLimits, BadLine, NoMemory, NotRead, NotWritten, Over, ScriptEnd, SourceFailed}
use Rattle.jc_run.specs.EndCauses.{EndCauses}
use Rattle.jc_run.specs.Reports.{Report}
use Rattle.jc_run.specs.Loading.{exactly}
use Rattle.jc_run.specs.Runs.{RunsTo}
use Rattle.jc_run.specs.Runs.RunsTo.{no_card, played, unfit}
use Rattle.jc_script.specs.Faults.{fault_at}
use Rattle.jc_script.specs.Script.{Apdu, Reset, apdu_asked, asked, lines_of, reset_asked, said_by}
use Rattle.jc_script.specs.Whole.{FaultyLine, Script, script_commands, script_from}
use Rattle.jc_script.specs.declared.fault.LineCause.TheVariants.{UnknownCommand}
use Rattle.hex.specs.Hex.{decode_pairs, encode_with}
use Rattle.jc_memory.specs.Example.{IsExampleEnd, example_answers, example_script}
use Rattle.jc_memory.proofs.Bare.{EndsSo, lines_to, script_ends}

abbrev fourth_line : FaultyLine
fourth_line = record { number = 4; fault = fault_at UnknownCommand 1 }

abbrev example : Script
example = record {
  commands =
      record { number = 1; command = Reset }
      ∷ record { number = 2; command = Apdu (0x00 ∷ 0xA4 ∷ 0x04 ∷ 0x00 ∷ []) }
      ∷ record { number = 3; command = Apdu (0x00 ∷ []) }
      ∷ [];
  bad = Some fourth_line;
}

example_is : script_commands example_script ≡ example
unfolding lines_of script_from said_by asked reset_asked apdu_asked decode_pairs
example_is = refl

answers_are : lines_to example.commands ≡ example_answers
unfolding encode_with
answers_are = refl

as_example : (bad : Option FaultyLine) (written : List ℕ) (end : ScriptEnd) → bad ≡ Some fourth_line
    → EndsSo bad example_answers end written → IsExampleEnd end written
as_example bad written Over fourth h = let none : bad ≡ None = h.0 in absurd cc
as_example bad written (BadLine number fault) fourth h =
    let at : bad ≡ Some (record { number = number; fault = fault }) = h.0 in
    let is : record { number = number; fault = fault } ≡ fourth_line = cc in
    (ap (λ (l : FaultyLine). l.number) is, ap (λ (l : FaultyLine). l.fault) is, h.1)
as_example bad written (SourceFailed number) fourth h = h
as_example bad written NotRead fourth h = h
as_example bad written NotWritten fourth h = h
as_example bad written NoMemory fourth h = elim h [ ]
as_example bad written BadLimits fourth h = elim h [ ]

pub example_ends : {images certificates : List ℕ → List ℕ → Type 0} {causes : EndCauses}
    {told : List Report → Type 0} {limits : Limits} {binding : Bound} {written : List ℕ} {end : ScriptEnd}
    → RunsTo (exactly images certificates) causes told limits binding example_script written end
    → IsExampleEnd end written
example_ends (unfit too_far silent) = refl
example_ends (no_card fit silent) = refl
example_ends {images = images} {certificates = certificates} {causes = causes} {told = told} {limits = limits}
    {binding = binding} (played written end fit p) =
    as_example (Some fourth_line) written end refl (rw (← answers_are)
    (script_ends images certificates causes told example (new_card limits binding) written end (tt, (tt, (tt, tt)))
    (record { unselected = refl; alone = refl }) (rw (← example_is) p)))
