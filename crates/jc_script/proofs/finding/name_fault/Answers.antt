use Rattle.std.proofs.Common.{◌≡◌, ℕ, List, false, inl, inr, refl}
use Rattle.std.specs.Prelude.{IsUtf8}
use Rattle.std.specs.Str.{is_utf8}
use Rattle.std.proofs.lemmas.Bool.{cases_Bool}
use Rattle.std.proofs.lemmas.Str.{IsUtf8-from_is_utf8, is_utf8-from_IsUtf8}
use Rattle.jc_script.proofs.finding.name_fault.Goals as goal

no_text : (word : List ℕ) → (IsUtf8 word → ⊥) → is_utf8 word ≡ false
no_text word n = elim (cases_Bool (is_utf8 word)) [ inl t ↦ absurd (n (IsUtf8-from_is_utf8 word t)) | inr f ↦ f ]

pub returns-in-Ok : goal.returns-in-Ok
returns-in-Ok c =
    let yes = is_utf8-from_IsUtf8 c.args.word.now c.in-Ok.ensures.cases.1 in
    rw yes refl

pub returns-in-Err : goal.returns-in-Err
returns-in-Err c =
    let no = no_text c.args.word.now c.in-Err.ensures.cases.0 in
    rw (no, c.fault_at.ensures) refl
