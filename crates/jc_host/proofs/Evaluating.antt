-- What eval answers, in each direction.
use Rattle.std.proofs.Common.{◌≡◌, ℕ, List, true, refl, subst}
use Rattle.std.specs.Prelude.{⊤, ◌≢◌}
use Rattle.jc_check.specs.Method.{word_method}
use Rattle.jc_check.specs.Rules.{word_rules}
use Rattle.jc_check.specs.Typing.{Typing, IsTyping, IsWellTyped}
use Rattle.jc_check.specs.Carried.{CertCarriesCode}
use Rattle.jc_cert.specs.Cert.{Row}
use Rattle.jc_host.specs.declared.answer.EvalAnswer.{EvalAnswer}
use Rattle.jc_host.specs.declared.answer.EvalAnswer.TheVariants.{Value, Throws, Refused, BadCertificate, StepsUsedUp}
use Rattle.jc_host.specs.declared.answer.EvalAnswer.TheVariants.{Memory}
use Rattle.jc_eval.specs.Alone.{EndsAs, GivesWord, ThrowsArithmetic, UsesUp, alone_call}
use Rattle.jc_eval.specs.declared.run.CodeEnd.{CodeEnd}
use Rattle.jc_eval.specs.declared.run.CodeEnd.TheVariants as ends
use Rattle.jc_machine.specs.Step.{CallEnd}
use Rattle.jc_host.specs.Eval.{SpellsCert, SpellsNone, HasFirstFault, RunEnds, RunGives, IsAnswer, tells_fault, tells_end}
use Rattle.jc_host.specs.PrivateEval.{answer_to}

-- what each answer means
abbrev Means : EvalAnswer → List ℕ → List ℕ → ℕ → Type 0
Means (Value n) code bytes steps = RunGives code bytes steps n
Means Throws code bytes steps = RunEnds code bytes steps ThrowsArithmetic
Means (Refused pc reason) code bytes steps = HasFirstFault code bytes pc reason
Means BadCertificate code bytes steps = SpellsNone bytes
Means StepsUsedUp code bytes steps = RunEnds code bytes steps UsesUp
Means Memory code bytes steps = ⊤

-- an answer that comes only when it may is one for each of the directions
is_answer : (answer : EvalAnswer) (code bytes : List ℕ) (steps : ℕ) → Means answer code bytes steps
    → (SpellsNone bytes → answer ≢ Memory → answer ≡ BadCertificate)
    → ((rows : List Row) → SpellsCert bytes rows → (CertCarriesCode code rows → ⊥) → answer ≢ Memory
    → tells_fault answer ≡ true)
    → ((rows : List Row) → SpellsCert bytes rows → CertCarriesCode code rows → answer ≢ Memory
    → tells_end answer ≡ true)
    → IsAnswer answer code bytes steps
is_answer answer code bytes steps means unspelled uncarried carried =
    let M : EvalAnswer → Type 0 = λ a. Means a code bytes steps in
    record {
      bad_certificate = λ e. subst M e means;
      refused = λ pc reason e. subst M e means;
      value = λ n e. subst M e means;
      throws = λ e. subst M e means;
      steps_used_up = λ e. subst M e means;
      unspelled = unspelled;
      uncarried = uncarried;
      carried = carried;
    }

-- the bytes spell these rows and no others
pub record Spelled (bytes : List ℕ) (rows : List Row) : Type 0 where
  pub spells : SpellsCert bytes rows
  pub only : (others : List Row) → SpellsCert bytes others → rows ≡ others

-- code that is carried, with a typing
record CarriedRun (code bytes : List ℕ) : Type 0 where
  pub rows : List Row
  pub spelled : SpellsCert bytes rows
  pub carried : CertCarriesCode code rows
  pub typing : Typing
  pub typed : IsTyping word_rules (word_method code) typing

ends_so : (code bytes : List ℕ) (steps : ℕ) (g : CarriedRun code bytes) (IsEnd : CallEnd ⊤ → Type 0)
    → IsEnd (alone_call g.typed.listing steps).ends → RunEnds code bytes steps IsEnd
ends_so code bytes steps g IsEnd h = record {
  rows = g.rows;
  spelled = g.spelled;
  carried = g.carried;
  listing = g.typed.listing;
  whole = g.typed.whole;
  run = h;
}

answered : (code bytes : List ℕ) (steps : ℕ) (g : CarriedRun code bytes) (end : CodeEnd)
    → EndsAs end (alone_call g.typed.listing steps).ends → Means (answer_to end) code bytes steps
answered code bytes steps g (ends.Gave word) h =
    record { word = word; is = refl; ends = ends_so code bytes steps g (GivesWord word) h }
answered code bytes steps g ends.Divided h = ends_so code bytes steps g ThrowsArithmetic h
answered code bytes steps g ends.UsedUp h = ends_so code bytes steps g UsesUp h

end_tells : (end : CodeEnd) → tells_end (answer_to end) ≡ true
end_tells (ends.Gave word) = refl
end_tells ends.Divided = refl
end_tells ends.UsedUp = refl

-- the end of a run of code that is carried
pub for_end : (code bytes : List ℕ) (steps : ℕ) (rows : List Row) (end : CodeEnd) → Spelled bytes rows
    → CertCarriesCode code rows → IsWellTyped code
    → ((typing : Typing) → (t : IsTyping word_rules (word_method code) typing)
    → EndsAs end (alone_call t.listing steps).ends)
    → IsAnswer (answer_to end) code bytes steps
for_end code bytes steps rows end spelled carried well so =
    let ground : CarriedRun code bytes = record {
      rows = rows;
      spelled = spelled.spells;
      carried = carried;
      typing = well.typing;
      typed = well.typed;
    } in
    is_answer (answer_to end) code bytes steps (answered code bytes steps ground end (so well.typing well.typed))
    (λ none m. absurd (none rows spelled.spells))
    (λ others s no m. absurd (no (subst (CertCarriesCode code) (spelled.only others s) carried)))
    (λ others s is m. end_tells end)
