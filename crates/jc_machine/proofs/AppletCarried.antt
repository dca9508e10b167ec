-- An applet's package behind the API's packages is carried by a certificate without rows, and well typed.
use Rattle.std.proofs.Common.{◌≡◌, ℕ, ◌==◌, Bool, true, cond, List, [], ◌∷◌, Option, Some, None}
use Rattle.std.proofs.Common.{if◌then◌else◌, refl, subst, arith, eqb-true}
use Rattle.std.proofs.lemmas.Option.{none-some, same_Some}
use Rattle.jc_api.specs.Bound.{default_binding}
use Rattle.jc_api.specs.NoClash.{HasNoClash}
use Rattle.jc_api.specs.Token.{chain, is_at_or_above}
use Rattle.jc_api.specs.declared.class.ApiClass.TheVariants.{Apdu}
use Rattle.jc_check.specs.Carried.{Carries, IsCarriedAt, NothingGoesOn, state_at}
use Rattle.jc_check.specs.Checked.{IsMethodCarried, IsMethodTyped, IsPackageCarried, IsPackageTyped}
use Rattle.jc_check.specs.Method.{CheckedMethod}
use Rattle.jc_check.specs.Package.{method_of}
use Rattle.jc_check.specs.Typing.{HasShape, IsFineAt, IsShaped, IsTyping, Typing}
use Rattle.jc_classes.specs.Api.{api_world, each_below, number_to, room_to, those_to}
use Rattle.jc_classes.specs.Walk.{most_classes}
use Rattle.jc_code.specs.Decoding.{next_stable_switch, next_lookup_switch, next_wide_increment, when_of}
use Rattle.jc_code.specs.Decoding.{next_wide_branch, next_control, next_branch, operator_of, next_arithmetic}
use Rattle.jc_code.specs.Decoding.{next_shuffle, next_local, next_constant, next_word_operation}
use Rattle.jc_code.specs.Instructions.{next_operation, instr_at}
use Rattle.jc_code.specs.Listing.{IsListing, PlacedInstr, begins, placed_at}
use Rattle.jc_code.specs.Objects.{word_kind_of, next_tested_type, next_creation, next_interface, next_invocation}
use Rattle.jc_code.specs.Objects.{narrow_field_of, wide_field_of, next_narrow_field, next_field, reference_condition_of}
use Rattle.jc_code.specs.Objects.{next_wide_condition, next_condition, next_array, next_reference}
use Rattle.jc_code.specs.declared.instr.Operation.TheVariants.{Object as OnObjects}
use Rattle.jc_code.specs.declared.object.ObjectOperation.TheVariants.{ReturnVoid}
use Rattle.jc_link.specs.Applet.{applet}
use Rattle.jc_link.specs.WellFormed.{IsWellFormed}
use Rattle.jc_names.specs.declared.name.ClassName.TheVariants.{Api, Loaded}
use Rattle.jc_effects.specs.Effect.{effect_of}
use Rattle.jc_effects.specs.Objects.{object_row}
use Rattle.jc_effects.specs.Row.{after, applied}
use Rattle.jc_types.specs.State.{Types}
use Rattle.jc_types.specs.declared.ty.Ty.TheVariants as types
use Rattle.jc_machine.specs.Accepted.{HaveByteTokens, IsAccepted, api_alone}
use Rattle.jc_machine.specs.TypedExamples.{applet_body, applet_world}
use Rattle.jc_machine.proofs.SmallWorlds.{applet_is_small}
use Rattle.jc_machine.proofs.Accepting.{api_is_accepted, grown_is_accepted}
use Rattle.jc_machine.proofs.AppletKnown.{applet_is_world, each_body, process_code}
use Rattle.jc_machine.proofs.FirstFrame.{applet_linked, by_state, empty, install, install_shaped, install_typed}
use Rattle.jc_machine.proofs.FirstFrame.{listing, makes, registers, returns_nothing, rules, typing, with_applet}

-- ---- install is carried

-- what stands in a listing behind its first instruction
abbrev behind_first : ℕ → Option PlacedInstr
behind_first pc = cond (3 == pc) (Some registers) (cond (6 == pc) (Some returns_nothing) None)

-- what holds of the three instructions holds of each that the listing has
by_instr : (P : ℕ → PlacedInstr → Type 0) → P 0 makes → P 3 registers → P 6 returns_nothing → (pc : ℕ)
    → (x : PlacedInstr) → placed_at listing pc ≡ Some x → P pc x
unfolding placed_at
by_instr P a b c pc x e = first (0 == pc) refl e
  where
    moved : (at : ℕ) (y : PlacedInstr) → (at == pc) ≡ true → Some y ≡ Some x → P at y → P pc x
    moved at y there same h = subst (λ n. P n x) (eqb-true at pc there) (subst (P at) (same_Some y x same) h)

    third : (t : Bool) → (6 == pc) ≡ t → cond t (Some returns_nothing) None ≡ Some x → P pc x
    third t h1 h2 = grind (arith, moved, returns_nothing, none-some)

    second : (t : Bool) → (3 == pc) ≡ t
        → cond t (Some registers) (cond (6 == pc) (Some returns_nothing) None) ≡ Some x → P pc x
    second t h1 h2 = grind (arith, moved, registers, third)

    first : (t : Bool) → (0 == pc) ≡ t → cond t (Some makes) (behind_first pc) ≡ Some x → P pc x
    first t h1 h2 = grind (arith, moved, makes, second)

abbrev IsLive : ℕ → Types → Type 0
IsLive pc s = (x : PlacedInstr) → placed_at listing pc ≡ Some x → IsCarriedAt rules install listing [] typing x s

live_made : IsCarriedAt rules install listing [] typing makes empty
unfolding effect_of object_row applied after state_at most_classes those_to each_below room_to number_to
    is_at_or_above chain
live_made = record { handled = tt; after = with_applet; effect = refl; branches = tt; behind = (omega arith, refl) }

live_registered : IsCarriedAt rules install listing [] typing registers with_applet
unfolding effect_of object_row applied after state_at most_classes those_to each_below room_to number_to
    is_at_or_above chain
live_registered = record { handled = tt; after = empty; effect = refl; branches = tt; behind = (omega arith, refl) }

live_returned : IsCarriedAt rules install listing [] typing returns_nothing empty
unfolding effect_of object_row applied after state_at most_classes those_to each_below room_to number_to
    is_at_or_above chain
live_returned = record { handled = tt; after = empty; effect = refl; branches = tt; behind = refl }

abbrev IsDead : ℕ → PlacedInstr → Type 0
IsDead pc x = typing pc ≡ None → NothingGoesOn (state_at [] x.instr.next_pc) (typing x.instr.next_pc)

some_none : {A : Type 0} (x : A) → Some x ≡ None → ⊥
some_none x e = cc

install_listed : IsListing rules.decoder install.code listing
unfolding next_stable_switch next_lookup_switch next_wide_increment when_of next_wide_branch next_control
    next_branch operator_of next_arithmetic next_shuffle next_local next_constant next_word_operation next_operation
    instr_at word_kind_of next_tested_type next_creation next_interface next_invocation narrow_field_of wide_field_of
    next_narrow_field next_field reference_condition_of next_wide_condition next_condition next_array next_reference
install_listed = (refl, refl, (refl, refl, (refl, refl, refl)))

install_carried : Carries rules install []
unfolding placed_at begins state_at most_classes those_to each_below room_to number_to is_at_or_above chain
install_carried = record {
  claims = [];
  found = refl;
  listing = listing;
  whole = install_listed;
  caught = tt;
  fitting = tt;
  typing = typing;
  starts = by_state (λ pc s. begins listing pc ≡ true) refl refl refl;
  stated = λ pc s e. absurd (none-some s e);
  entry = (omega arith, refl);
  live = λ pc x s there stated.
      by_state IsLive
      (λ x there. subst (λ x. IsCarriedAt rules install listing [] typing x empty) (same_Some makes x there) live_made)
      (λ x there.
      subst (λ x. IsCarriedAt rules install listing [] typing x with_applet) (same_Some registers x there)
      live_registered)
      (λ x there.
      subst (λ x. IsCarriedAt rules install listing [] typing x empty) (same_Some returns_nothing x there)
      live_returned) pc s stated x there;
  dead =
      by_instr IsDead (λ e. absurd (some_none empty e)) (λ e. absurd (some_none with_applet e))
      (λ e. absurd (some_none empty e));
}

-- ---- process, as the check sees it: it returns

abbrev process : CheckedMethod
process = method_of applet_linked process_code

abbrev only_returns : PlacedInstr
only_returns = record { pc = 0; instr = record { operation = OnObjects ReturnVoid; next_pc = 1 } }

abbrev process_listing : List PlacedInstr
process_listing = only_returns ∷ []

abbrev entered : Types
entered = record { locals = types.Class (Loaded 1 0) ∷ types.Class (Api Apdu) ∷ []; operands = [] }

abbrev process_typing : Typing
process_typing pc = if pc == 0 then Some entered else None

at_entry : (P : ℕ → Types → Type 0) → P 0 entered → (pc : ℕ) (t : Types) → process_typing pc ≡ Some t → P pc t
at_entry P a pc t e = first (pc == 0) refl e
  where
    first : (b : Bool) → (pc == 0) ≡ b → cond b (Some entered) None ≡ Some t → P pc t
    first b h1 h2 = grind (arith, eqb-true, same_Some, none-some)

at_return : (P : ℕ → PlacedInstr → Type 0) → P 0 only_returns → (pc : ℕ) (x : PlacedInstr)
    → placed_at process_listing pc ≡ Some x → P pc x
unfolding placed_at
at_return P a pc x e = first (0 == pc) refl e
  where
    first : (b : Bool) → (0 == pc) ≡ b → cond b (Some only_returns) None ≡ Some x → P pc x
    first b h1 h2 = grind (arith, eqb-true, same_Some, none-some)

process_listed : IsListing rules.decoder process.code process_listing
unfolding next_stable_switch next_lookup_switch next_wide_increment when_of next_wide_branch next_control
    next_branch operator_of next_arithmetic next_shuffle next_local next_constant next_word_operation next_operation
    instr_at word_kind_of next_tested_type next_creation next_interface next_invocation narrow_field_of wide_field_of
    next_narrow_field next_field reference_condition_of next_wide_condition next_condition next_array next_reference
process_listed = (refl, refl, refl)

process_fine : IsFineAt rules process process_typing process_listing 0 entered
unfolding effect_of object_row applied after placed_at most_classes those_to each_below room_to number_to
    is_at_or_above chain
process_fine = record {
  instr = only_returns;
  stands = refl;
  fine = record { handled = tt; after = entered; effect = refl; branches = tt; falls = λ e. absurd cc };
}

process_typed : IsTyping rules process process_typing
unfolding most_classes those_to each_below room_to number_to is_at_or_above chain
process_typed = record {
  listing = process_listing;
  whole = process_listed;
  entry = record { state = entered; typed = refl; below = refl };
  each = at_entry (λ pc s. IsFineAt rules process process_typing process_listing pc s) process_fine;
}

process_shaped : IsShaped process process_typing
unfolding most_classes those_to each_below room_to number_to is_at_or_above chain
process_shaped = at_entry (λ pc t. HasShape process t) (record { locals = refl; operands = omega arith })

process_live : IsCarriedAt rules process process_listing [] process_typing only_returns entered
unfolding effect_of object_row applied after state_at most_classes those_to each_below room_to number_to
    is_at_or_above chain
process_live = record { handled = tt; after = entered; effect = refl; branches = tt; behind = refl }

process_carried : Carries rules process []
unfolding placed_at begins state_at most_classes those_to each_below room_to number_to is_at_or_above chain
process_carried = record {
  claims = [];
  found = refl;
  listing = process_listing;
  whole = process_listed;
  caught = tt;
  fitting = tt;
  typing = process_typing;
  starts = at_entry (λ pc s. begins process_listing pc ≡ true) refl;
  stated = λ pc s e. absurd (none-some s e);
  entry = (omega arith, refl);
  live = λ pc x s there stated.
      at_entry
      (λ pc s. (x : PlacedInstr) → placed_at process_listing pc ≡ Some x
      → IsCarriedAt rules process process_listing [] process_typing x s)
      (λ x there.
      subst (λ x. IsCarriedAt rules process process_listing [] process_typing x entered)
      (same_Some only_returns x there) process_live) pc s stated x there;
  dead =
      at_return
      (λ pc x. process_typing pc ≡ None
      → NothingGoesOn (state_at [] x.instr.next_pc) (process_typing x.instr.next_pc))
      (λ e. absurd (some_none entered e));
}

-- ---- the package

carried : IsPackageCarried applet_linked
carried = record {
  rows = [];
  cert = record { count = omega arith; each = tt; ascend = tt };
  carried = record {
    no_stray = refl;
    methods = each_body (λ n b. IsMethodCarried applet_linked [] b) install_carried process_carried;
  };
}

typed : IsPackageTyped applet_linked
typed = record {
  each = each_body (λ n b. IsMethodTyped applet_linked b)
      (record { typing = typing; typed = install_typed; shaped = install_shaped })
      (record { typing = process_typing; typed = process_typed; shaped = process_shaped });
}

byte_tokens : HaveByteTokens applet_body.kept.pool
byte_tokens = grind arith

pub applet_accepted : IsWellFormed (api_world default_binding) applet → HasNoClash default_binding
    → IsAccepted applet_world
applet_accepted fine clear =
    grown_is_accepted (api_alone default_binding) applet_linked (api_is_accepted default_binding clear)
    (applet.shape, refl) (applet_is_world fine clear) applet_is_small byte_tokens carried typed
