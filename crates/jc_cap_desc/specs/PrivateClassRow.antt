-- Private. A field's row takes seven bytes, a method's twelve. The lemmas stand here, since the rows' laws take them
-- from specs alone.
use Rattle.std.specs.Prelude.{ℕ, Bool, true, false, List, ◌∷◌, Result, Ok}
use Rattle.std.proofs.Common.{ap, sym, arith}
use Rattle.jc_base.specs.Cursor.{Read, next_u2, field}
use Rattle.jc_base.specs.Numbers.{has_flag}
use Rattle.jc_base.specs.Results.{◌>>=◌}
use Rattle.jc_base.specs.Rows.{HasSize}
use Rattle.jc_base.specs.Tag.{descriptor_tag}
use Rattle.jc_base.specs.declared.fault.LoadFault.{LoadFault}
use Rattle.jc_base.proofs.Binding.{the_ok}
use Rattle.jc_cap_desc.specs.declared.class_row.FieldRow.{FieldRow}
use Rattle.jc_cap_desc.specs.declared.class_row.MethodRow.{MethodRow}
use Rattle.jc_cap_desc.specs.ClassRow.{acc_static, stated_type_of, next_place, next_field_row, next_method_row}

-- a field's row after its flags
abbrev behind_flags : Bool → List ℕ → Result (Read FieldRow) LoadFault
behind_flags is_static bytes = do
  place ← next_place is_static bytes
  number ← field descriptor_tag (next_u2 place.rest)
  Ok (record { value = record { place = place.value; stated = stated_type_of number.value }; rest = number.rest })

behind_has_size : (is_static : Bool) → HasSize 5 (behind_flags is_static)
unfolding next_place
behind_has_size true (a ∷ b ∷ c ∷ d ∷ f ∷ bytes) x e =
    (ap (λ (r : Read FieldRow). r.rest) (sym (the_ok _ x e)), omega arith)
behind_has_size true _ x e = absurd cc
behind_has_size false (a ∷ b ∷ c ∷ d ∷ f ∷ bytes) x e =
    (ap (λ (r : Read FieldRow). r.rest) (sym (the_ok _ x e)), omega arith)
behind_has_size false _ x e = absurd cc

pub field_row_has_size : HasSize 7 next_field_row
unfolding next_field_row
field_row_has_size (a ∷ flags ∷ bytes) x e =
    let h = behind_has_size (has_flag flags acc_static) bytes x e in (h.0, omega arith)
field_row_has_size _ x e = absurd cc

pub method_row_has_size : HasSize 12 next_method_row
unfolding next_method_row
method_row_has_size (a ∷ b ∷ c ∷ d ∷ e ∷ f ∷ g ∷ h ∷ i ∷ j ∷ k ∷ l ∷ bytes) x is =
    (ap (λ (r : Read MethodRow). r.rest) (sym (the_ok _ x is)), omega arith)
method_row_has_size _ x is = absurd cc
