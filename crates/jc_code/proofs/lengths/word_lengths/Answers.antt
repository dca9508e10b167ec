use Rattle.std.proofs.Common.{refl}
use Rattle.jc_code.specs.Decoding.{next_constant, next_local, next_shuffle, next_arithmetic, operator_of, next_branch}
use Rattle.jc_code.specs.Decoding.{next_control, next_wide_branch, next_wide_increment, when_of}
use Rattle.jc_code.proofs.LengthTable.{are_lengths, ◌&◌}
use Rattle.jc_code.proofs.lengths.word_lengths.Goals as goal

-- at each opcode by computing
pub returns : goal.returns
unfolding next_constant next_local next_shuffle next_arithmetic operator_of next_branch next_control next_wide_branch
    next_wide_increment when_of
returns c = are_lengths next_constant _
    ((λ r. refl) & (λ r. refl) & (λ r. refl) & (λ r. refl) & (λ r. refl) & (λ r. refl) & (λ r. refl) & (λ r. refl) &
    (refl, λ b r. refl) & (refl, λ b. (refl, λ b r. refl)) & (refl, λ b r. refl) & (λ r. refl) & (λ r. refl) &
    (λ r. refl) & (λ r. refl) & (refl, λ b r. refl) & (λ r. refl) & (λ r. refl) & (λ r. refl) & (λ r. refl) &
    (λ r. refl) & (λ r. refl) & (λ r. refl) & (λ r. refl) & (λ r. refl) & (λ r. refl) & (λ r. refl) & (λ r. refl) &
    (λ r. refl) & (λ r. refl) & (λ r. refl) & (λ r. refl) & (λ r. refl) & (λ r. refl) & (λ r. refl) & (λ r. refl) &
    (refl, λ b. (refl, λ b r. refl)) & (λ r. refl) & (refl, λ b r. refl) & (refl, λ b r. refl) & (refl, λ b r. refl) &
    (refl, λ b r. refl) & (refl, λ b r. refl) & (refl, λ b r. refl) & (refl, λ b r. refl) & (refl, λ b r. refl) &
    (refl, λ b r. refl) & (refl, λ b r. refl) & (refl, λ b r. refl) & (refl, λ b r. refl) & (refl, λ b r. refl) &
    (λ r. refl) & (refl, λ b. (refl, λ b. (refl, λ b r. refl))) & (refl, λ b. (refl, λ b r. refl)) &
    (refl, λ b. (refl, λ b r. refl)) & (refl, λ b. (refl, λ b r. refl)) & (refl, λ b. (refl, λ b r. refl)) &
    (refl, λ b. (refl, λ b r. refl)) & (refl, λ b. (refl, λ b r. refl)) & (refl, λ b. (refl, λ b r. refl)) &
    (refl, λ b. (refl, λ b r. refl)) & (refl, λ b. (refl, λ b r. refl)) & (refl, λ b. (refl, λ b r. refl)) &
    (refl, λ b. (refl, λ b r. refl)) & (refl, λ b. (refl, λ b r. refl)) & (refl, λ b. (refl, λ b r. refl)) & tt) refl
