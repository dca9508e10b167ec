-- The answer to a package by its name, after others by theirs.
use Rattle.std.specs.Prelude.{ℕ, List}
use Rattle.std.specs.List.{AllZip}
use Rattle.jc_api.specs.Bound.{Bound}
use Rattle.jc_offcard.specs.Verify.{IsVerified}
use Rattle.jc_offcard.specs.declared.verify_answer.VerifyAnswer.{VerifyAnswer}

-- images are held under the earlier names, in order, and one under the package's name, and this is the answer to them
pub record AnswersNamed (holds : List ℕ → List ℕ → Type 0) (binding : Bound) (earlier : List (List ℕ)) (name : List ℕ)
    (answer : VerifyAnswer) : Type 0 where
  pub earlier_images : List (List ℕ)
  pub image : List ℕ
  pub earlier_held : AllZip holds earlier earlier_images
  pub held : holds name image
  pub answered : IsVerified binding earlier_images image answer
