-- Effects keep how many locals there are, and leave no more operands than there may be.
use Rattle.std.proofs.Common.{◌≡◌, ℕ, ◌+◌, ◌-◌, ◌≤◌, max, List, Bool, false, cond, not, refl, subst, arith}
use Rattle.std.proofs.Common.{length, take, drop, set, Option, Some, None, nat_lt, length-append, length-drop}
use Rattle.std.proofs.lemmas.Bool.{ltb-false}
use Rattle.std.proofs.lemmas.List.{length-set, length-take-le}
use Rattle.jc_base.specs.Stack.{duplicated, swapped}
use Rattle.jc_names.specs.declared.name.ClassName.{ClassName}
use Rattle.jc_code.specs.declared.instr.Operation.{Operation}
use Rattle.jc_code.specs.declared.instr.Operation.TheVariants as Operations
use Rattle.jc_code.specs.declared.instr.Shuffle as shuffles
use Rattle.jc_code.specs.declared.instr.Shuffle.TheVariants.{Pop, Duplicate, Swap}
use Rattle.jc_code.specs.declared.instr.WordOperation.{WordOperation}
use Rattle.jc_code.specs.declared.instr.WordOperation.TheVariants as Words
use Rattle.jc_types.specs.Changes.{with_operands, drop_types, duplicate_types, swap_types}
use Rattle.jc_types.specs.State.{Types}
use Rattle.jc_types.specs.declared.ty.Ty.{Ty}
use Rattle.jc_effects.proofs.Monotone.{four, one, two}
use Rattle.jc_effects.specs.Effect.{effect_of}
use Rattle.jc_effects.specs.Laws.{KeepsShape, StaysWithin}
use Rattle.jc_effects.specs.Objects.{Setting}
use Rattle.jc_effects.specs.Row.{Row, after, applied, count_of, given_type, has_local, is_met, local_of}
use Rattle.jc_effects.specs.Row.{put_in, put_on, taken_by}
use Rattle.jc_effects.specs.Words.{shuffle_effect, word_effect}
use Rattle.jc_effects.specs.declared.row.Given.{Given}
use Rattle.jc_effects.specs.declared.row.LocalDemand.{LocalDemand}
use Rattle.jc_effects.specs.declared.row.LocalDemand.TheVariants.{Nowhere, At}

-- ---- what rows put

put_locals : (place : LocalDemand) (given : Given) (t : Ty) (locals : List Ty)
    → length (put_in place given t locals) ≡ length locals
put_locals Nowhere given t locals = refl
put_locals (At index demand) given t locals = by_count (nat_lt 0 (count_of given))
  where
    by_count : (b : Bool) → length (cond b (set locals index t) locals) ≡ length locals
    by_count b = grind (arith, length-set)

put_operands : (given : Given) (t : Ty) (operands : List Ty)
    → length (put_on given t operands) ≤ length operands + count_of given
put_operands given t operands = grind arith

-- what a row gives, in a state
abbrev gives : Row → Given → Types → Ty
gives row given s = given_type given (local_of row.local s.locals) (taken_by row s)

-- how many operands there are behind a row
abbrev count_behind : Row → Types → ℕ
count_behind row s = length s.operands - length row.operands + count_of row.pushed

module _ (below : ClassName → ClassName → Bool) (most : ℕ) where
  -- ---- rows

  row_stays : (row : Row) (s : Types) → nat_lt (length s.operands) (length row.operands) ≡ false
      → nat_lt most (count_behind row s) ≡ false → StaysWithin most s (after row s)
  unfolding after
  row_stays row s there room = grind (arith, put_locals, put_operands, drop, length, length-drop, ltb-false)

  applied_stays : (row : Option Row) → KeepsShape most (applied below most row)
  unfolding applied
  applied_stays None s t e = absurd cc
  applied_stays (Some row) s t e =
      let r =
      four (not (has_local row.local s.locals)) (nat_lt (length s.operands) (length row.operands))
      (not (is_met below row s)) (nat_lt most (count_behind row s)) (after row s) t e in
      subst (StaysWithin most s) r.4 (row_stays row s r.1 r.3)

  -- ---- operands that are moved

  moved_stays : (s t : Types) (operands : List Ty) → with_operands s operands ≡ t
      → (length s.operands ≤ most → length operands ≤ most) → StaysWithin most s t
  moved_stays s t operands e within = subst (StaysWithin most s) e (record { locals = refl; operands = within })

  duplicated_length : (count depth : ℕ) (xs : List Ty) → max count depth ≤ length xs
      → length (duplicated count depth xs) ≡ length xs + count
  duplicated_length count depth xs there = grind (arith, length-append, take, drop, length-take-le, length-drop)

  swapped_length : (upper lower : ℕ) (xs : List Ty) → upper + lower ≤ length xs
      → length (swapped upper lower xs) ≡ length xs
  swapped_length upper lower xs there = grind (arith, length-drop, length-append, take, drop, length-take-le)

  shuffle_stays : (shuffle : shuffles.Shuffle) → KeepsShape most (shuffle_effect most shuffle)
  unfolding drop_types duplicate_types swap_types
  shuffle_stays (Pop count) s t e =
      let r = one (nat_lt (length s.operands) count) (with_operands s (drop count s.operands)) t e in
      moved_stays s t (drop count s.operands) r.1 (λ within. omega (arith, length-drop count s.operands, within))
  shuffle_stays (Duplicate count depth) s t e =
      let r =
      two (nat_lt (length s.operands) (max count depth)) (nat_lt most (length s.operands + count))
      (with_operands s (duplicated count depth s.operands)) t e in
      moved_stays s t (duplicated count depth s.operands) r.2
      (λ within. omega (
        arith,
        duplicated_length count depth s.operands (ltb-false (length s.operands) (max count depth) r.0),
        ltb-false most (length s.operands + count) r.1,
      ))
  shuffle_stays (Swap upper lower) s t e =
      let r = one (nat_lt (length s.operands) (upper + lower)) (with_operands s (swapped upper lower s.operands)) t e in
      moved_stays s t (swapped upper lower s.operands) r.1
      (λ within. omega (
        arith,
        swapped_length upper lower s.operands (ltb-false (length s.operands) (upper + lower) r.0),
        within,
      ))

  -- ---- all effects

  pub word_stays : (returned : Option Ty) (operation : WordOperation)
      → KeepsShape most (word_effect below most returned operation)
  unfolding word_effect
  word_stays returned (Words.Shuffle shuffle) = shuffle_stays shuffle
  word_stays returned t = applied_stays _

pub effect_stays : (setting : Setting) (most : ℕ) (operation : Operation)
    → KeepsShape most (effect_of setting most operation)
unfolding effect_of
effect_stays setting most (Operations.Word operation) = search (arith, word_stays, applied_stays)
effect_stays setting most (Operations.Object operation) = search (arith, word_stays, applied_stays)
