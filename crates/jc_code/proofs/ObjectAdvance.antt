-- What is left behind an operation on references is no more than there was.
use Rattle.std.proofs.Common.{ℕ, ◌==◌, ◌≤◌, List, length, arith}
use Rattle.jc_base.specs.Cursor.{next_u1, next_u2}
use Rattle.jc_code.specs.declared.fault.CodeFault.TheVariants.{BadOpcode, BadOperand}
use Rattle.jc_code.specs.Objects.{word_kind_of, next_tested_type, next_creation, next_interface, next_invocation}
use Rattle.jc_code.specs.Objects.{next_narrow_field, next_field, next_wide_condition, next_condition, next_array}
use Rattle.jc_code.specs.Objects.{next_reference}
use Rattle.jc_code.proofs.Advance.{IsLeft, field, read_on, chosen, either, none, same, u1_left, s1_left, u2_left, s2_left}

tested_type_left : (n : ℕ) (bytes : List ℕ) → length bytes ≤ n → IsLeft n (next_tested_type bytes)
unfolding next_tested_type
tested_type_left n bytes le = grind (arith, field, u1_left, chosen, u2_left, same, either, none)

creation_left : (n op : ℕ) (bytes : List ℕ) → length bytes ≤ n → IsLeft n (next_creation op bytes)
unfolding next_creation
creation_left n op bytes le =
    chosen n (op == 119) _ _ (same n _ bytes le) (chosen n (op == 122) _ _ (same n _ bytes le) (chosen n (op == 143) _ _ (field n (next_u2 bytes) _ (u2_left n bytes le) (λ r h. same n _ r.rest h)) (chosen n (op == 144) _ _ (field n (next_u1 bytes) _ (u1_left n bytes le) (λ r h. either n (word_kind_of r.value) _ _ (λ kind. same n _ r.rest h) (none n BadOperand))) (chosen n (op == 145) _ _ (field n (next_u2 bytes) _ (u2_left n bytes le) (λ r h. same n _ r.rest h)) (chosen n (op == 147) _ _ (same n _ bytes le) (chosen n (op == 148) _ _ (read_on n (next_tested_type bytes) _ (tested_type_left n bytes le) (λ t h. same n _ t.rest h)) (chosen n (op == 149) _ _ (read_on n (next_tested_type bytes) _ (tested_type_left n bytes le) (λ t h. same n _ t.rest h)) (none n BadOpcode))))))))

interface_left : (n : ℕ) (bytes : List ℕ) → length bytes ≤ n → IsLeft n (next_interface bytes)
unfolding next_interface
interface_left n bytes le = grind (arith, field, u1_left, u2_left, same)

invocation_left : (n op : ℕ) (bytes : List ℕ) → length bytes ≤ n → IsLeft n (next_invocation op bytes)
unfolding next_invocation
invocation_left n op bytes le = grind (arith, chosen, field, u2_left, same, interface_left, creation_left)

narrow_field_left : (n op : ℕ) (bytes : List ℕ) → length bytes ≤ n → IsLeft n (next_narrow_field op bytes)
unfolding next_narrow_field
narrow_field_left n op bytes le = grind (arith, either, field, u1_left, same, invocation_left)

field_access_left : (n op : ℕ) (bytes : List ℕ) → length bytes ≤ n → IsLeft n (next_field op bytes)
unfolding next_field
field_access_left n op bytes le = grind (arith, either, field, u2_left, same, narrow_field_left)

wide_condition_left : (n op : ℕ) (bytes : List ℕ) → length bytes ≤ n → IsLeft n (next_wide_condition op bytes)
unfolding next_wide_condition
wide_condition_left n op bytes le = grind (arith, either, field, s2_left, same, field_access_left)

condition_left : (n op : ℕ) (bytes : List ℕ) → length bytes ≤ n → IsLeft n (next_condition op bytes)
unfolding next_condition
condition_left n op bytes le = grind (arith, either, field, s1_left, same, wide_condition_left)

array_left : (n op : ℕ) (bytes : List ℕ) → length bytes ≤ n → IsLeft n (next_array op bytes)
unfolding next_array
array_left n op bytes le = grind (arith, chosen, same, condition_left)

pub objects_left : (n op : ℕ) (bytes : List ℕ) → length bytes ≤ n → IsLeft n (next_reference op bytes)
unfolding next_reference
objects_left n op bytes le = grind (arith, chosen, same, field, u1_left, array_left)
