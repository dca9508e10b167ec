-- The frame that begins an applet's install is well typed, by computing.
use Rattle.std.proofs.Common.{◌≡◌, ℕ, ◌==◌, Bool, true, cond, List, [], ◌∷◌, Some, None}
use Rattle.std.proofs.Common.{if◌then◌else◌, refl, sym, ap, ◌∙◌, subst, arith, eqb-true}
use Rattle.std.proofs.lemmas.Option.{none-some, same_Some}
use Rattle.std.specs.List.{AllByRecursion}
use Rattle.std.specs.Option.{option_and_then}
use Rattle.jc_api.specs.Token.{chain, is_at_or_above}
use Rattle.jc_cap_desc.specs.Shape.{MethodBody}
use Rattle.jc_check.specs.Method.{CheckedMethod}
use Rattle.jc_check.specs.Package.{method_of, package_rules}
use Rattle.jc_check.specs.Rules.{Rules}
use Rattle.jc_check.specs.Typing.{IsFineAt, IsShaped, IsTyping, Typing}
use Rattle.jc_classes.specs.Api.{each_below, number_to, room_to, those_to}
use Rattle.jc_classes.specs.Walk.{most_classes}
use Rattle.jc_code.specs.Decoding.{next_stable_switch, next_lookup_switch, next_wide_increment, when_of}
use Rattle.jc_code.specs.Decoding.{next_wide_branch, next_control, next_branch, operator_of, next_arithmetic}
use Rattle.jc_code.specs.Decoding.{next_shuffle, next_local, next_constant, next_word_operation}
use Rattle.jc_code.specs.Instructions.{next_operation, instr_at}
use Rattle.jc_code.specs.Listing.{PlacedInstr, placed_at}
use Rattle.jc_code.specs.Objects.{word_kind_of, next_tested_type, next_creation, next_interface, next_invocation}
use Rattle.jc_code.specs.Objects.{narrow_field_of, wide_field_of, next_narrow_field, next_field, reference_condition_of}
use Rattle.jc_code.specs.Objects.{next_wide_condition, next_condition, next_array, next_reference}
use Rattle.jc_code.specs.declared.instr.Operation.TheVariants.{Object as OnObjects}
use Rattle.jc_code.specs.declared.object.Creation.TheVariants as creations
use Rattle.jc_code.specs.declared.object.Invocation.TheVariants.{Virtual}
use Rattle.jc_code.specs.declared.object.ObjectOperation.TheVariants.{Create, Invoke, ReturnVoid}
use Rattle.jc_link.specs.Linked.{IsResolved, Linked}
use Rattle.jc_link.specs.MemberType.{field_type_of}
use Rattle.jc_link.specs.Named.{static_field_at}
use Rattle.jc_names.specs.Names.{home_at}
use Rattle.jc_names.specs.declared.name.ClassName.TheVariants.{Loaded}
use Rattle.jc_effects.specs.Effect.{effect_of}
use Rattle.jc_effects.specs.Objects.{object_row}
use Rattle.jc_effects.specs.Row.{after, applied}
use Rattle.jc_types.specs.State.{Types}
use Rattle.jc_types.specs.declared.ty.Ty.{Ty}
use Rattle.jc_types.specs.declared.ty.Ty.TheVariants as types
use Rattle.jc_machine.specs.Accepted.{linked_as}
use Rattle.jc_machine.specs.Lookup.{of_package}
use Rattle.jc_machine.specs.Machine.{StaticValue}
use Rattle.jc_machine.specs.Typed.{IsTyped, RunsTyped, StaticTyped, StaticsTyped}
use Rattle.jc_machine.specs.TypedExamples.{applet_body, applet_world, idle_in, install_frame, new_machine}
use Rattle.jc_machine.specs.Runtime.{new_heap}
use Rattle.jc_machine.proofs.NewMachines.{all_fit_in, computed_heap_typed, new_heap_has_them}

pub applet_resolved : IsResolved applet_world.shapes 2 applet_body
unfolding most_classes those_to each_below room_to number_to is_at_or_above chain
applet_resolved = refl

-- ---- install, as the check sees it

abbrev pub applet_linked : Linked
applet_linked = linked_as applet_world 1 applet_body

abbrev pub rules : Rules
rules = package_rules applet_linked

abbrev pub install_code : MethodBody
install_code = record { offset = 1; code_offset = 3; code = 0x8F ∷ 0 ∷ 0 ∷ 0x8B ∷ 0 ∷ 1 ∷ 0x7A ∷ []; handlers = [] }

abbrev pub install : CheckedMethod
install = method_of applet_linked install_code

-- its instructions: the applet is made, it is registered, and install returns
abbrev pub makes : PlacedInstr
makes = record { pc = 0; instr = record { operation = OnObjects (Create (creations.Object 0)); next_pc = 3 } }

abbrev pub registers : PlacedInstr
registers = record { pc = 3; instr = record { operation = OnObjects (Invoke (Virtual 1)); next_pc = 6 } }

abbrev pub returns_nothing : PlacedInstr
returns_nothing = record { pc = 6; instr = record { operation = OnObjects ReturnVoid; next_pc = 7 } }

abbrev pub listing : List PlacedInstr
listing = makes ∷ registers ∷ returns_nothing ∷ []

-- its states: without an operand, and with the applet that was made
abbrev pub arguments : List Ty
arguments = types.ByteArray ∷ types.Word ∷ types.Word ∷ []

abbrev pub empty : Types
empty = record { locals = arguments; operands = [] }

abbrev pub with_applet : Types
with_applet = record { locals = arguments; operands = types.Class (Loaded 1 0) ∷ [] }

abbrev pub typing : Typing
typing pc = if pc == 0 then Some empty else if pc == 3 then Some with_applet else if pc == 6 then Some empty else None

-- what holds of the three states holds of each that the typing has
pub by_state : (P : ℕ → Types → Type 0) → P 0 empty → P 3 with_applet → P 6 empty → (pc : ℕ) (t : Types)
    → typing pc ≡ Some t → P pc t
by_state P a b c pc t e = first (pc == 0) refl e
  where
    moved : (q : ℕ) (s : Types) → (pc == q) ≡ true → Some s ≡ Some t → P q s → P pc t
    moved q s at same h = subst (λ n. P n t) (sym (eqb-true pc q at)) (subst (P q) (same_Some s t same) h)

    third : (x : Bool) → (pc == 6) ≡ x → cond x (Some empty) None ≡ Some t → P pc t
    third x h1 h2 = grind (arith, moved, none-some)

    second : (x : Bool) → (pc == 3) ≡ x → cond x (Some with_applet) (cond (pc == 6) (Some empty) None) ≡ Some t
        → P pc t
    second x h1 h2 = grind (arith, moved, third)

    first : (x : Bool) → (pc == 0) ≡ x
        → cond x (Some empty) (cond (pc == 3) (Some with_applet) (cond (pc == 6) (Some empty) None)) ≡ Some t
        → P pc t
    first x h1 h2 = grind (arith, moved, second)

abbrev IsFineHere : ℕ → Types → Type 0
IsFineHere pc s = IsFineAt rules install typing listing pc s

fine_made : IsFineHere 0 empty
unfolding effect_of object_row applied after placed_at most_classes those_to each_below room_to number_to
    is_at_or_above chain
fine_made = record {
  instr = makes;
  stands = refl;
  fine = record {
    handled = tt;
    after = with_applet;
    effect = refl;
    branches = tt;
    falls = λ e. record { state = with_applet; typed = refl; below = refl };
  };
}

fine_registered : IsFineHere 3 with_applet
unfolding effect_of object_row applied after placed_at most_classes those_to each_below room_to number_to
    is_at_or_above chain
fine_registered = record {
  instr = registers;
  stands = refl;
  fine = record {
    handled = tt;
    after = empty;
    effect = refl;
    branches = tt;
    falls = λ e. record { state = empty; typed = refl; below = refl };
  };
}

fine_returned : IsFineHere 6 empty
unfolding effect_of object_row applied after placed_at most_classes those_to each_below room_to number_to
    is_at_or_above chain
fine_returned = record {
  instr = returns_nothing;
  stands = refl;
  fine = record { handled = tt; after = empty; effect = refl; branches = tt; falls = λ e. absurd cc };
}

pub install_typed : IsTyping rules install typing
unfolding next_stable_switch next_lookup_switch next_wide_increment when_of next_wide_branch next_control
    next_branch operator_of next_arithmetic next_shuffle next_local next_constant next_word_operation next_operation
    instr_at word_kind_of next_tested_type next_creation next_interface next_invocation narrow_field_of wide_field_of
    next_narrow_field next_field reference_condition_of next_wide_condition next_condition next_array next_reference
    most_classes those_to each_below room_to number_to is_at_or_above chain
install_typed = record {
  listing = listing;
  whole = (refl, refl, (refl, refl, (refl, refl, refl)));
  entry = record { state = empty; typed = refl; below = refl };
  each = by_state IsFineHere fine_made fine_registered fine_returned;
}

pub install_shaped : IsShaped install typing
unfolding most_classes those_to each_below room_to number_to is_at_or_above chain
install_shaped = grind (arith, by_state)

first_frame_runs : RunsTyped applet_world new_heap install_frame
unfolding most_classes those_to each_below room_to number_to is_at_or_above chain
first_frame_runs = record {
  placed = record {
    body = applet_body;
    loaded = refl;
    code = install_code;
    there = refl;
    typing = typing;
    typed = install_typed;
    shaped = install_shaped;
    state = empty;
    stated = refl;
    locals_typed = (refl, (refl, (refl, tt)));
  };
  operands_typed = tt;
}

-- ---- the machine beside the frame

applet_fits : all_fit_in applet_world.shapes ≡ true
unfolding most_classes those_to each_below room_to number_to is_at_or_above chain
applet_fits = refl

no_static : (home offset : ℕ) → static_field_at applet_world.shapes (record { home = home; offset = offset }) ≡ None
unfolding those_to
no_static home offset = grind arith

applet_statics : StaticsTyped applet_world new_heap ([] ∷ [])
applet_statics = record {
  count = refl;
  typed = by_number;
  present = λ place declared e. absurd (none-some declared
      (sym (ap (option_and_then (field_type_of applet_world.shapes place.home)) (no_static place.home place.offset))
      ∙ e));
}
  where
    by_number : (number : ℕ) (fields : List StaticValue) → of_package ([] ∷ []) number ≡ Some fields
        → AllByRecursion (StaticTyped applet_world.shapes new_heap (home_at number)) fields
    by_number number fields h1 = grind (arith, none-some, same_Some)

pub first_machine_typed : IsTyped (idle_in applet_world) (new_machine ([] ∷ []) install_frame)
first_machine_typed = record {
  beside = record {
    heap = computed_heap_typed applet_world.shapes applet_fits;
    statics = applet_statics;
    runtime_objects = new_heap_has_them;
    fits = refl;
  };
  top = first_frame_runs;
  waiting = tt;
}
