-- Frames on words are looked at outward, one by one, for a handler.
use Rattle.std.proofs.Common.{◌≡◌, ℕ, zero, suc, ◌+◌, ◌<◌, List, [], ◌∷◌, length, drop, slice_get, Option, Some, None}
use Rattle.std.proofs.Common.{option_map, refl, sym, ap, ◌∙◌, arith}
use Rattle.std.specs.Option.{option_and_then}
use Rattle.jc_frames.specs.Frames as words
use Rattle.jc_program.specs.declared.handler.LoadedHandler.{LoadedHandler}
use Rattle.jc_program.specs.declared.program.Program.{Program}
use Rattle.jc_interp.specs.PrivateDone.{done, with_frames}
use Rattle.jc_interp.specs.PrivateUnwinding.{Unwound, caught_in, handled, handler_in, handler_under, settled}
use Rattle.jc_interp.specs.PrivateUnwinding.{unwound_from}
use Rattle.jc_interp.specs.declared.ends.StepEnd.TheVariants.{GoesOn}
use Rattle.jc_interp.specs.declared.machine.WordMachine.{WordMachine}

-- what stands at an index comes first where those before it are left out
drop_at : {X : Type 0} (xs : List X) (i : ℕ) (x : X) → slice_get xs i ≡ Some x → drop i xs ≡ x ∷ drop (i + 1) xs
drop_at [] i x e = absurd cc
drop_at (y ∷ ys) zero x e = grind arith
drop_at (y ∷ ys) (suc i) x e = search (arith, drop_at ys i x e)

module _ (p : Program) (object class : ℕ) (u : WordMachine) where
  abbrev all : List words.Frame
  all = u.frames.frames

  abbrev from : ℕ → Unwound
  from i = unwound_from p object class all (drop i all)

  -- the handler is that of the frame at the index
  handler_is : (i : ℕ) (f : words.Frame) → slice_get all i ≡ Some f
      → handler_under p class i u ≡ handler_in p class f.header
  handler_is i f e = grind (arith, option_map)

  first_is : (i : ℕ) (f : words.Frame) → slice_get all i ≡ Some f
      → from i ≡ caught_in object f (drop (i + 1) all) (from (i + 1)) (handler_under p class i u)
  first_is i f e =
      ap (λ (fs : List words.Frame). unwound_from p object class all fs) (drop_at all i f e)
      ∙ ap (caught_in object f (drop (i + 1) all) (from (i + 1))) (sym (handler_is i f e))

  -- where it has none, the search goes on further out
  pub none_at : (i : ℕ) → i < length all → handler_under p class i u ≡ None → from i ≡ from (i + 1)
  none_at i within none = by_frame (slice_get all i) refl
    where
      is_there : {X : Type 0} (xs : List X) (k : ℕ) → k < length xs → slice_get xs k ≡ None → ⊥
      is_there [] k less none = omega (arith, less)
      is_there (x ∷ xs) zero less none = cc
      is_there (x ∷ xs) (suc k) less none = is_there xs k (omega (arith, less)) none

      by_frame : (o : Option words.Frame) → slice_get all i ≡ o → from i ≡ from (i + 1)
      by_frame (Some f) e =
          first_is i f e ∙ ap (caught_in object f (drop (i + 1) all) (from (i + 1))) none
      by_frame None e = absurd (is_there all i within e)

  -- where it has one, it goes on there
  pub found_at : (i : ℕ) (h : LoadedHandler) → handler_under p class i u ≡ Some h
      → done (handled object h (with_frames u (words.with_frames u.frames (drop i all)))) GoesOn
      ≡ settled u (from i)
  found_at i h found = by_frame (slice_get all i) refl
    where
      nothing : Some h ≡ None → ⊥
      nothing e = cc

      by_frame : (o : Option words.Frame) → slice_get all i ≡ o
          → done (handled object h (with_frames u (words.with_frames u.frames (drop i all)))) GoesOn
          ≡ settled u (from i)
      by_frame (Some f) e =
          ap (λ (fs : List words.Frame). done (handled object h (with_frames u (words.with_frames u.frames fs))) GoesOn)
          (drop_at all i f e)
          ∙ sym (ap (settled u)
          (first_is i f e ∙ ap (caught_in object f (drop (i + 1) all) (from (i + 1))) found))
      by_frame None e = absurd (nothing (sym found ∙ ap (λ (o : Option words.Frame).
          option_and_then (handler_in p class) (option_map (λ (g : words.Frame). g.header) o)) e))
