use Rattle.std.proofs.Common.{refl}
use Rattle.jc_code.specs.Decoding.{next_constant, next_local, next_shuffle, next_arithmetic, operator_of, next_branch}
use Rattle.jc_code.specs.Decoding.{next_control, next_wide_branch, next_wide_increment, when_of}
use Rattle.jc_code.specs.Objects.{next_reference, next_array, next_condition, next_wide_condition}
use Rattle.jc_code.specs.Objects.{reference_condition_of, next_field, wide_field_of, next_narrow_field, narrow_field_of}
use Rattle.jc_code.specs.Objects.{next_invocation, next_interface, next_creation}
use Rattle.jc_code.specs.PrivateLengths.{next_any}
use Rattle.jc_code.proofs.LengthTable.{are_lengths, ◌&◌}
use Rattle.jc_code.proofs.lengths.lengths.Goals as goal

-- at each opcode by computing
pub returns : goal.returns
unfolding next_constant next_local next_shuffle next_arithmetic operator_of next_branch next_control next_wide_branch
    next_wide_increment when_of next_reference next_array next_condition next_wide_condition reference_condition_of
    next_field wide_field_of next_narrow_field narrow_field_of next_invocation next_interface next_creation
returns c = are_lengths next_any _
    ((λ r. refl) & (λ r. refl) & (λ r. refl) & (λ r. refl) & (λ r. refl) & (λ r. refl) & (λ r. refl) & (λ r. refl) &
    (λ r. refl) & (refl, λ b r. refl) & (refl, λ b. (refl, λ b r. refl)) & (refl, λ b r. refl) & (refl, λ b r. refl) &
    (λ r. refl) & (λ r. refl) & (λ r. refl) & (λ r. refl) & (λ r. refl) & (λ r. refl) & (λ r. refl) & (λ r. refl) &
    (λ r. refl) & (λ r. refl) & (λ r. refl) & (refl, λ b r. refl) & (refl, λ b r. refl) & (λ r. refl) & (λ r. refl) &
    (λ r. refl) & (λ r. refl) & (λ r. refl) & (λ r. refl) & (λ r. refl) & (λ r. refl) & (λ r. refl) & (λ r. refl) &
    (λ r. refl) & (λ r. refl) & (λ r. refl) & (λ r. refl) & (λ r. refl) & (λ r. refl) & (λ r. refl) & (λ r. refl) &
    (λ r. refl) & (λ r. refl) & (λ r. refl) & (λ r. refl) & (λ r. refl) & (λ r. refl) & (λ r. refl) & (λ r. refl) &
    (λ r. refl) & (refl, λ b. (refl, λ b r. refl)) & (λ r. refl) & (refl, λ b r. refl) & (refl, λ b r. refl) &
    (refl, λ b r. refl) & (refl, λ b r. refl) & (refl, λ b r. refl) & (refl, λ b r. refl) & (refl, λ b r. refl) &
    (refl, λ b r. refl) & (refl, λ b r. refl) & (refl, λ b r. refl) & (refl, λ b r. refl) & (refl, λ b r. refl) &
    (refl, λ b r. refl) & (refl, λ b r. refl) & (refl, λ b r. refl) & (refl, λ b r. refl) & (refl, λ b r. refl) &
    (λ r. refl) & (λ r. refl) & (λ r. refl) & (refl, λ b. (refl, λ b r. refl)) & (refl, λ b. (refl, λ b r. refl)) &
    (refl, λ b. (refl, λ b r. refl)) & (refl, λ b. (refl, λ b r. refl)) & (refl, λ b. (refl, λ b r. refl)) &
    (refl, λ b. (refl, λ b r. refl)) & (refl, λ b r. refl) & (refl, λ b r. refl) & (refl, λ b r. refl) &
    (refl, λ b r. refl) & (refl, λ b r. refl) & (refl, λ b r. refl) & (refl, λ b. (refl, λ b r. refl)) &
    (refl, λ b. (refl, λ b r. refl)) & (refl, λ b. (refl, λ b r. refl)) &
    (refl, λ b. (refl, λ b. (refl, λ b. (refl, λ b r. refl)))) & (refl, λ b. (refl, λ b r. refl)) &
    (refl, λ b. (refl, λ b r. refl)) & (λ r. refl) & (λ r. refl) & (refl, λ b. (refl, λ b. (refl, λ b r. refl))) &
    (refl, λ b. (refl, λ b r. refl)) & (refl, λ b. (refl, λ b r. refl)) & (refl, λ b. (refl, λ b r. refl)) &
    (refl, λ b. (refl, λ b r. refl)) & (refl, λ b. (refl, λ b r. refl)) & (refl, λ b. (refl, λ b r. refl)) &
    (refl, λ b. (refl, λ b r. refl)) & (refl, λ b. (refl, λ b r. refl)) & (refl, λ b. (refl, λ b r. refl)) &
    (refl, λ b. (refl, λ b r. refl)) & (refl, λ b. (refl, λ b r. refl)) & (refl, λ b. (refl, λ b r. refl)) &
    (refl, λ b. (refl, λ b r. refl)) & (refl, λ b. (refl, λ b r. refl)) & (refl, λ b. (refl, λ b r. refl)) &
    (refl, λ b. (refl, λ b r. refl)) & (refl, λ b. (refl, λ b r. refl)) & (refl, λ b. (refl, λ b r. refl)) &
    (refl, λ b. (refl, λ b r. refl)) & (refl, λ b. (refl, λ b r. refl)) & (refl, λ b r. refl) & (refl, λ b r. refl) &
    (refl, λ b r. refl) & (refl, λ b. (refl, λ b r. refl)) & (refl, λ b. (refl, λ b r. refl)) &
    (refl, λ b. (refl, λ b r. refl)) & (refl, λ b r. refl) & (refl, λ b r. refl) & (refl, λ b r. refl) & tt) refl
