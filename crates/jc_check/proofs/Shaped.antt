-- The states of a method that is carried are all of its shape.
use Rattle.std.proofs.Common.{◌≡◌, ℕ, ◌<◌, ◌≤◌, ◌==◌, ◌&&◌, ◌||◌, List, [], ◌∷◌, length, map, replicate, Option, Some}
use Rattle.std.proofs.Common.{None, Bool, true, false, cond, nat_le, refl, sym, subst, ◌∙◌, arith, length-append}
use Rattle.std.proofs.lemmas.Bool.{eqb-true, leb-true}
use Rattle.std.proofs.lemmas.List.{length-replicate, length-reverse}
use Rattle.std.proofs.lemmas.Option.{none-some, same_Some}
use Rattle.std.specs.List.{AllByRecursion}
use Rattle.jc_cert.specs.Cert.{Stated}
use Rattle.jc_code.specs.Listing.{ListingLaws, PlacedInstr, StandBetween, begins, placed_at}
use Rattle.jc_code.specs.Targets.{falls_of}
use Rattle.jc_code.specs.declared.instr.Operation.{Operation}
use Rattle.jc_code.specs.declared.instr.Operation.TheVariants.{Object, Word}
use Rattle.jc_code.specs.declared.instr.WordOperation.{WordOperation}
use Rattle.jc_classes.specs.Subtype.{is_class_below}
use Rattle.jc_names.specs.declared.name.ClassName.{ClassName}
use Rattle.jc_effects.specs.Laws.{KeepsShape, StaysWithin}
use Rattle.jc_effects.specs.Words.{word_effect}
use Rattle.jc_types.specs.State.{Types}
use Rattle.jc_types.specs.declared.ty.Ty.{Ty}
use Rattle.jc_check.specs.Carried.{Carries, GoesOn, GoesOnIf, NothingGoesOn, Stands, has_shape, state_at, types_of}
use Rattle.jc_check.specs.Claim.{Claim, claim_of}
use Rattle.jc_check.specs.Method.{CheckedMethod, entry_of}
use Rattle.jc_check.specs.Rules.{Rules, word_rules}
use Rattle.jc_check.specs.Typing.{HasShape}
use Rattle.jc_check.proofs.Claims.{IsMade, made}
use Rattle.jc_check.proofs.Listings.{placed_behind, placed_front}

-- effects keep shapes
abbrev pub KeepShapes : Rules → Type 0
KeepShapes rules =
    (most : ℕ) (returned : Option Ty) (operation : Operation) → KeepsShape most (rules.effect most returned operation)

-- those of code alone do, as the law of effects says
pub words_keep : ((below : ClassName → ClassName → Bool) (most : ℕ) (returned : Option Ty) (operation : WordOperation)
    → KeepsShape most (word_effect below most returned operation)) → KeepShapes word_rules
words_keep words most returned (Word operation) = words (is_class_below []) most returned operation
words_keep words most returned (Object operation) = λ s t e. absurd cc

both : (a b : Bool) → (a && b) ≡ true → (a ≡ true) × (b ≡ true)
both a b h1 = grind arith

-- ---- where a shape comes from

entry_shaped : (m : CheckedMethod) → HasShape m (entry_of m)
entry_shaped m = grind (arith, length-append, replicate, length, length-replicate)

after_shaped : (m : CheckedMethod) (s t : Types) → StaysWithin m.max_stack s t → HasShape m s → HasShape m t
after_shaped m s t stays h = record { locals = stays.locals ∙ h.locals; operands = stays.operands h.operands }

stated_shaped : (m : CheckedMethod) (c : Stated) (d : Claim) → IsMade c d → has_shape m c ≡ true → HasShape m (types_of d)
stated_shaped m c d is fits = grind (arith, length, both, nat_le, eqb-true, length-reverse, leb-true)

claims_shaped : (rules : Rules) (m : CheckedMethod) (listing : List PlacedInstr) (states : List Stated) (claims : List Claim)
    → map (claim_of rules) states ≡ map Some claims → AllByRecursion (Stands m listing) states
    → (pc : ℕ) (t : Types) → state_at claims pc ≡ Some t → HasShape m t
unfolding state_at
claims_shaped rules m listing states [] found fitting pc t e = absurd (none-some t e)
claims_shaped rules m listing [] (d ∷ claims) found fitting pc t e = absurd cc
claims_shaped rules m listing (c ∷ states) (d ∷ claims) found fitting pc t e =
    by_place (d.pc == pc) (claims_shaped rules m listing states claims (rest found) fitting.1 pc t) e
  where
    rest : map (claim_of rules) (c ∷ states) ≡ map Some (d ∷ claims) → map (claim_of rules) states ≡ map Some claims
    rest h = cc

    first : map (claim_of rules) (c ∷ states) ≡ map Some (d ∷ claims) → claim_of rules c ≡ Some d
    first h = cc

    by_place : (b : Bool) → (state_at claims pc ≡ Some t → HasShape m t)
        → cond b (Some (types_of d)) (state_at claims pc) ≡ Some t → HasShape m t
    by_place b h1 h2 = grind (arith, stated_shaped, made, first, same_Some)

-- ---- from instruction to instruction

module _ (rules : Rules) (laws : ListingLaws rules.decoder) (keeps : KeepShapes rules)
    (m : CheckedMethod) (states : List Stated) (c : Carries rules m states) where
  -- the state at a pc, if there is one, is of the method's shape
  abbrev IsShapedAt : ℕ → Type 0
  IsShapedAt pc = (t : Types) → c.typing pc ≡ Some t → HasShape m t

  goes_shaped : (pc : ℕ) (s : Types) (o : Option Types) → state_at c.claims pc ≡ o → HasShape m s
      → GoesOn rules o (c.typing pc) s → IsShapedAt pc
  goes_shaped pc s None e h goes t is = subst (HasShape m) (same_Some s t (sym goes ∙ is)) h
  goes_shaped pc s (Some d) e h goes t is =
      claims_shaped rules m c.listing states c.claims c.found c.fitting pc t (e ∙ sym (c.stated pc d e) ∙ is)

  nothing_shaped : (pc : ℕ) (o : Option Types) → state_at c.claims pc ≡ o → NothingGoesOn o (c.typing pc)
      → IsShapedAt pc
  nothing_shaped pc None e nothing t is = absurd (none-some t (sym nothing ∙ is))
  nothing_shaped pc (Some d) e nothing t is =
      claims_shaped rules m c.listing states c.claims c.found c.fitting pc t (e ∙ sym (c.stated pc d e) ∙ is)

  behind_shaped : (falls : Bool) (s : Types) (pc : ℕ) → HasShape m s → GoesOnIf rules m c.claims c.typing falls s pc
      → IsShapedAt pc
  behind_shaped true s pc h behind = goes_shaped pc s (state_at c.claims pc) refl h behind.1
  behind_shaped false s pc h behind = nothing_shaped pc (state_at c.claims pc) refl behind

  -- behind an instruction
  next_shaped : (pc : ℕ) (x : PlacedInstr) → placed_at c.listing pc ≡ Some x → IsShapedAt pc
      → IsShapedAt x.instr.next_pc
  next_shaped pc x stands here = by_state (c.typing pc) refl
    where
      by_state : (o : Option Types) → c.typing pc ≡ o → IsShapedAt x.instr.next_pc
      by_state None e = nothing_shaped x.instr.next_pc (state_at c.claims x.instr.next_pc) refl (c.dead pc x stands e)
      by_state (Some s) e =
          let k = c.live pc x s stands e in
          let stays = keeps m.max_stack m.returned x.instr.operation s k.after k.effect in
          let after = after_shaped m s k.after stays (here s e) in
          behind_shaped (falls_of x.instr.operation) k.after x.instr.next_pc after k.behind

  -- the rest of the listing, from a pc on
  abbrev IsRest : ℕ → List PlacedInstr → Type 0
  IsRest from xs = (pc : ℕ) → from ≤ pc → placed_at c.listing pc ≡ placed_at xs pc

  rest_shaped : (from : ℕ) (xs : List PlacedInstr) → StandBetween rules.decoder m.code from xs (length m.code)
      → IsRest from xs → IsShapedAt from → (pc : ℕ) → begins xs pc ≡ true → IsShapedAt pc
  unfolding begins
  rest_shaped from [] stand rest here pc b = absurd cc
  rest_shaped from (x ∷ xs) stand rest here pc b =
      by_place (x.pc == pc) refl (rest_shaped x.instr.next_pc xs stand.2 after (next_shaped from x at here) pc) b
    where
      above : from < x.instr.next_pc
      above = (laws.ascends m.code from x.instr stand.1).0

      at : placed_at c.listing from ≡ Some x
      at = rest from (omega arith) ∙ placed_front x xs from stand.0

      after : IsRest x.instr.next_pc xs
      after q le = rest q (omega (arith, above, le)) ∙ placed_behind laws m.code from (length m.code) x xs q stand le

      by_place : (e : Bool) → (x.pc == pc) ≡ e → (begins xs pc ≡ true → IsShapedAt pc) → e || begins xs pc ≡ true
          → IsShapedAt pc
      by_place e h1 h2 h3 = grind (arith, eqb-true)

  -- each state
  pub shaped : (pc : ℕ) (t : Types) → c.typing pc ≡ Some t → HasShape m t
  shaped pc t is =
      let first = goes_shaped 0 (entry_of m) (state_at c.claims 0) refl (entry_shaped m) c.entry.1 in
      rest_shaped 0 c.listing c.whole (λ q le. refl) first pc (c.starts pc t is) t is
