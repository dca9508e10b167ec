-- Control flow that is followed from pc to pc.
use Rattle.std.proofs.Common.{◌≡◌, ◌⊎◌, inl, inr, ℕ, ◌<◌, ◌==◌, ◌||◌, true, false, List, [], ◌∷◌, ◌++◌, length-append, Option, Some, None, pos, refl, sym, ap, subst, ◌∙◌, arith}
use Rattle.std.specs.List.{Contains}
use Rattle.std.proofs.lemmas.List.Elements.{Contains-append_left, Contains-push, Contains-push_cases}
use Rattle.std.proofs.lemmas.Option.{none-some, same_Some}
use Rattle.jc_base.specs.NumberSet.{has_number}
use Rattle.jc_code.specs.Listing.{PlacedInstr, begins, placed_at}
use Rattle.jc_check.specs.Method.{CheckedMethod}
use Rattle.jc_verify.specs.Live.{IsEntered, IsLive, first, behind, by_branch, by_handler, branched, caught}
use Rattle.jc_code.specs.Targets.{targets_of}
use Rattle.jc_verify.specs.MethodFault.{GoesStraight, falls_off, no_target}
use Rattle.jc_verify.specs.PrivateLive.{AreEntries, AreLive, Grown, IsAwaited, IsDone, IsFollowed, IsFound, IsGround, IsHeld, IsReached}
use Rattle.jc_verify.specs.declared.entries.Followed.{Followed}
use Rattle.jc_verify.proofs.Numbers.{has_cases, has_itself, has_kept, one_less}
use Rattle.jc_verify.proofs.Starting.{none_past}

pub grown_self : (f : Followed) → Grown f f
grown_self f = record { live = λ pc h. h; entered = λ pc h. h; left = refl }

pub grown_through : (f g h : Followed) → Grown f g → Grown g h → Grown f h
grown_through f g h a b = record { live = λ pc e. b.live pc (a.live pc e); entered = λ pc e. b.entered pc (a.entered pc e); left = b.left ∙ a.left }

pub held_on : (f g : Followed) → Grown f g → (pc : ℕ) → IsHeld f pc → IsHeld g pc
held_on f g grown pc h = record { live = grown.live pc h.live; entered = grown.entered pc h.entered }

-- what was done stays so while the sets keep their pcs
done_on : (f g : Followed) → ((pc : ℕ) → has_number f.live pc ≡ true → has_number g.live pc ≡ true) → ((pc : ℕ) → has_number f.entered pc ≡ true → has_number g.entered pc ≡ true)
    → (m : CheckedMethod) (x : PlacedInstr) → IsDone m f x → IsDone m g x
done_on f g live entered m x d = record {
  handlers = λ h among covered. let k = d.handlers h among covered in record { live = live h.goes_on k.live; entered = entered h.goes_on k.entered };
  branches = λ place among. let k = d.branches place among in record { pc = k.pc; is = k.is; held = record { live = live k.pc k.held.live; entered = entered k.pc k.held.entered } };
  behind = λ falls. live x.instr.next_pc (d.behind falls);
}

-- what is entered is reached
pub reached_of : (m : CheckedMethod) (listing : List PlacedInstr) (pc : ℕ) → IsFound m listing pc → IsReached m listing pc
reached_of m listing pc h = record { live = by h.entered; begin = h.begin }
  where
    by : {q : ℕ} → IsEntered m listing q → IsLive m listing q
    by (branched x q at live among) = by_branch x q at live among
    by (caught x h at live among covered) = by_handler x h at live among covered

-- ---- a pc more that is reached

module _ (before after : Followed) (pc : ℕ) (live : (n : ℕ) → has_number after.live n ≡ (n == pc || has_number before.live n)) (entered : after.entered ≡ before.entered)
    (stack : after.stack.items ≡ before.stack.items ++ pc ∷ []) where
  live_on : (n : ℕ) → has_number before.live n ≡ true → has_number after.live n ≡ true
  live_on = has_kept before.live after.live pc live

  entered_on : (n : ℕ) → has_number before.entered n ≡ true → has_number after.entered n ≡ true
  entered_on n e = ap (λ (s : List ℕ). has_number s n) entered ∙ e

  pub reached_grown : has_number before.live pc ≡ false → pc < 65_536 → Grown before after
  reached_grown fresh small = grind (arith, live_on, entered_on, one_less, length-append)

  pub reached_followed : (m : CheckedMethod) (listing : List PlacedInstr) (now : Option ℕ) → IsReached m listing pc → IsFollowed m listing now before → IsFollowed m listing now after
  reached_followed m listing now reached h = record {
    first = live_on 0 h.first;
    live = λ n e. of_live n (has_cases before.live after.live pc live n e);
    entered = λ n e. h.entered n (ap (λ (s : List ℕ). has_number s n) (sym entered) ∙ e);
    awaited = λ n a. of_awaited n a;
    done = λ x at e. of_done x at (has_cases before.live after.live pc live x.pc e);
  }
    where
      of_live : (n : ℕ) → (n ≡ pc) ⊎ (has_number before.live n ≡ true) → IsReached m listing n
      of_live n h1 = grind arith

      of_stack : (n : ℕ) → Contains before.stack.items n ⊎ (pc ≡ n) → has_number after.live n ≡ true
      of_stack n h1 = grind (arith, live_on, has_itself)

      of_awaited : (n : ℕ) → IsAwaited now after n → has_number after.live n ≡ true
      of_awaited n (inl e) = live_on n (h.awaited n (inl e))
      of_awaited n (inr c) = of_stack n (Contains-push_cases before.stack.items pc n (subst (λ (s : List ℕ). Contains s n) stack c))

      await_on : (n : ℕ) → IsAwaited now before n → IsAwaited now after n
      await_on n (inl e) = inl e
      await_on n (inr c) = inr (subst (λ (s : List ℕ). Contains s n) (sym stack) (Contains-append_left before.stack.items (pc ∷ []) n c))

      of_before : (x : PlacedInstr) → IsAwaited now before x.pc ⊎ IsDone m before x → IsAwaited now after x.pc ⊎ IsDone m after x
      of_before x (inl a) = inl (await_on x.pc a)
      of_before x (inr d) = inr (done_on before after live_on entered_on m x d)

      of_done : (x : PlacedInstr) → placed_at listing x.pc ≡ Some x → (x.pc ≡ pc) ⊎ (has_number before.live x.pc ≡ true) → IsAwaited now after x.pc ⊎ IsDone m after x
      of_done x at (inl is) = inl (inr (subst (λ (n : ℕ). Contains after.stack.items n) (sym is) (subst (λ (s : List ℕ). Contains s pc) (sym stack) (Contains-push before.stack.items pc))))
      of_done x at (inr e) = of_before x (h.done x at e)

-- ---- a pc more that is entered

module _ (before after : Followed) (pc : ℕ) (live : after.live ≡ before.live) (entered : (n : ℕ) → has_number after.entered n ≡ (n == pc || has_number before.entered n))
    (stack : after.stack.items ≡ before.stack.items) where
  same_live : (n : ℕ) → has_number before.live n ≡ true → has_number after.live n ≡ true
  same_live n e = ap (λ (s : List ℕ). has_number s n) live ∙ e

  more_entered : (n : ℕ) → has_number before.entered n ≡ true → has_number after.entered n ≡ true
  more_entered = has_kept before.entered after.entered pc entered

  pub entered_grown : Grown before after
  entered_grown = grind (arith, same_live, more_entered)

  pub entered_followed : (m : CheckedMethod) (listing : List PlacedInstr) (now : Option ℕ) → IsFound m listing pc → IsFollowed m listing now before → IsFollowed m listing now after
  entered_followed m listing now found h = record {
    first = same_live 0 h.first;
    live = λ n e. h.live n (was_live n e);
    entered = λ n e. of_entered n (has_cases before.entered after.entered pc entered n e);
    awaited = λ n a. same_live n (h.awaited n (of_awaited n a));
    done = λ x at e. of_before x (h.done x at (was_live x.pc e));
  }
    where
      was_live : (n : ℕ) → has_number after.live n ≡ true → has_number before.live n ≡ true
      was_live n e = ap (λ (s : List ℕ). has_number s n) (sym live) ∙ e

      of_entered : (n : ℕ) → (n ≡ pc) ⊎ (has_number before.entered n ≡ true) → IsFound m listing n
      of_entered n h1 = grind arith

      of_awaited : (n : ℕ) → IsAwaited now after n → IsAwaited now before n
      of_awaited n h1 = grind arith

      await_on : (n : ℕ) → IsAwaited now before n → IsAwaited now after n
      await_on n h1 = grind arith

      of_before : (x : PlacedInstr) → IsAwaited now before x.pc ⊎ IsDone m before x → IsAwaited now after x.pc ⊎ IsDone m after x
      of_before x (inl a) = inl (await_on x.pc a)
      of_before x (inr d) = inr (done_on before after same_live more_entered m x d)

-- ---- one pc after the other

-- control flow was followed from the pc that it was followed from
pub is_done : (m : CheckedMethod) (listing : List PlacedInstr) (pc : ℕ) (f : Followed) → ((x : PlacedInstr) → placed_at listing x.pc ≡ Some x → x.pc ≡ pc → IsDone m f x)
    → IsFollowed m listing (Some pc) f → IsFollowed m listing None f
is_done m listing pc f done h = record {
  first = h.first;
  live = h.live;
  entered = h.entered;
  awaited = λ n a. h.awaited n (of_awaited n a);
  done = λ x at e. of_done x at (h.done x at e);
}
  where
    of_awaited : (n : ℕ) → IsAwaited None f n → IsAwaited (Some pc) f n
    of_awaited n h1 = grind (arith, none-some)

    of_done : (x : PlacedInstr) → placed_at listing x.pc ≡ Some x → IsAwaited (Some pc) f x.pc ⊎ IsDone m f x → IsAwaited None f x.pc ⊎ IsDone m f x
    of_done x h1 h2 = grind (arith, same_Some)

-- control flow is followed from the pc that was put on the stack last
module _ (before after : Followed) (pc : ℕ) (live : after.live ≡ before.live) (entered : after.entered ≡ before.entered) (stack : before.stack.items ≡ after.stack.items ++ pc ∷ []) where
  pub taken : (m : CheckedMethod) (listing : List PlacedInstr) → IsFollowed m listing None before → IsFollowed m listing (Some pc) after
  taken m listing h = record {
    first = live_on 0 h.first;
    live = λ n e. h.live n (was_live n e);
    entered = λ n e. h.entered n (ap (λ (s : List ℕ). has_number s n) (sym entered) ∙ e);
    awaited = λ n a. live_on n (h.awaited n (inr (of_awaited n a)));
    done = λ x at e. of_before x (h.done x at (was_live x.pc e));
  }
    where
      live_on : (n : ℕ) → has_number before.live n ≡ true → has_number after.live n ≡ true
      live_on n e = ap (λ (s : List ℕ). has_number s n) live ∙ e

      was_live : (n : ℕ) → has_number after.live n ≡ true → has_number before.live n ≡ true
      was_live n e = ap (λ (s : List ℕ). has_number s n) (sym live) ∙ e

      entered_on : (n : ℕ) → has_number before.entered n ≡ true → has_number after.entered n ≡ true
      entered_on n e = ap (λ (s : List ℕ). has_number s n) entered ∙ e

      of_awaited : (n : ℕ) → IsAwaited (Some pc) after n → Contains before.stack.items n
      of_awaited n (inl e) = subst (λ (k : ℕ). Contains before.stack.items k) (same_Some pc n e) (subst (λ (s : List ℕ). Contains s pc) (sym stack) (Contains-push after.stack.items pc))
      of_awaited n (inr c) = subst (λ (s : List ℕ). Contains s n) (sym stack) (Contains-append_left after.stack.items (pc ∷ []) n c)

      on_stack : (n : ℕ) → Contains after.stack.items n ⊎ (pc ≡ n) → IsAwaited (Some pc) after n
      on_stack n h1 = grind arith

      await_on : (n : ℕ) → IsAwaited None before n → IsAwaited (Some pc) after n
      await_on n (inl e) = absurd (none-some n e)
      await_on n (inr c) = on_stack n (Contains-push_cases after.stack.items pc n (subst (λ (s : List ℕ). Contains s n) stack c))

      of_before : (x : PlacedInstr) → IsAwaited None before x.pc ⊎ IsDone m before x → IsAwaited (Some pc) after x.pc ⊎ IsDone m after x
      of_before x (inl a) = inl (await_on x.pc a)
      of_before x (inr d) = inr (done_on before after live_on entered_on m x d)

-- pc 0 is reached, and nothing else yet
pub followed_first : (m : CheckedMethod) (listing : List PlacedInstr) (none : List ℕ) (f : Followed) → ((n : ℕ) → has_number none n ≡ false) → ((n : ℕ) → has_number f.live n ≡ (n == 0 || has_number none n))
    → ((n : ℕ) → has_number f.entered n ≡ false) → f.stack.items ≡ 0 ∷ [] → begins listing 0 ≡ true → IsFollowed m listing None f
followed_first m listing none f empty puts nothing stack begin = record {
  first = has_itself none f.live 0 puts;
  live = λ n e. of_live n (only n e);
  entered = λ n e. absurd (false_true (sym (nothing n) ∙ e));
  awaited = λ n a. of_awaited n a;
  done = λ x at e. inl (inr (subst (λ (n : ℕ). Contains f.stack.items n) (sym (only x.pc e)) (subst (λ (s : List ℕ). Contains s 0) (sym stack) (Contains-push [] 0))));
}
  where
    false_true : false ≡ true → ⊥
    false_true e = absurd cc

    only : (n : ℕ) → has_number f.live n ≡ true → n ≡ 0
    only n e = by (has_cases none f.live 0 puts n e)
      where
        by : (n ≡ 0) ⊎ (has_number none n ≡ true) → n ≡ 0
        by h1 = grind (arith, false_true)

    of_live : (n : ℕ) → n ≡ 0 → IsReached m listing n
    of_live n is = subst (IsReached m listing) (sym is) (record { live = first; begin = begin })

    on_stack : (n : ℕ) → Contains [] n ⊎ (0 ≡ n) → has_number f.live n ≡ true
    on_stack n h1 = grind (arith, has_itself)

    of_awaited : (n : ℕ) → IsAwaited None f n → has_number f.live n ≡ true
    of_awaited n h1 = grind (arith, none-some, on_stack)

-- ---- at the end

module _ (m : CheckedMethod) (listing : List PlacedInstr) (f : Followed) (h : IsFollowed m listing None f) (stack : f.stack.items ≡ []) where
  all_done : (x : PlacedInstr) → placed_at listing x.pc ≡ Some x → has_number f.live x.pc ≡ true → IsDone m f x
  all_done x at e = by (h.done x at e)
    where
      by : IsAwaited None f x.pc ⊎ IsDone m f x → IsDone m f x
      by h1 = grind (arith, none-some)

  held_at_branch : (x : PlacedInstr) (pc : ℕ) → placed_at listing x.pc ≡ Some x → has_number f.live x.pc ≡ true → Contains (targets_of x.pc x.instr.operation) (pos pc) → IsHeld f pc
  held_at_branch x pc at e among = let b = (all_done x at e).branches (pos pc) among in subst (IsHeld f) (sym (the_pos pc b.pc b.is)) b.held
    where
      the_pos : (a b : ℕ) → pos a ≡ pos b → a ≡ b
      the_pos a b e = cc

  all_live : {pc : ℕ} → IsLive m listing pc → has_number f.live pc ≡ true
  all_live first = h.first
  all_live (behind x at live falls) = (all_done x at (all_live live)).behind falls
  all_live (by_branch x pc at live among) = (held_at_branch x pc at (all_live live) among).live
  all_live (by_handler x h at live among covered) = ((all_done x at (all_live live)).handlers h among covered).live

  all_entered : {pc : ℕ} → IsEntered m listing pc → has_number f.entered pc ≡ true
  all_entered (branched x pc at live among) = (held_at_branch x pc at (all_live live) among).entered
  all_entered (caught x h at live among covered) = ((all_done x at (all_live live)).handlers h among covered).entered

  pub entries_found : AreEntries m listing f.entered
  entries_found = record { entered = h.entered; all = λ pc e. all_entered e }

  pub live_found : AreLive m listing f.live
  live_found = record { reached = λ pc e. (h.live pc e).live; all = λ pc e. all_live e }

  -- so nothing that is reached leads where no instruction begins
  pub goes_straight : (starts : List ℕ) → IsGround m listing starts → GoesStraight m listing
  goes_straight starts ground x why at live (no_target place among none) =
      let b = (all_done x at (all_live live)).branches place among in
      let e : true ≡ false = sym (h.entered b.pc b.held.entered).begin ∙ none b.pc b.is in
      absurd cc
  goes_straight starts ground x why at live (falls_off goes past) =
      let next = h.live x.instr.next_pc ((all_done x at (all_live live)).behind goes) in
      let k = none_past ground.laws m.code listing x.instr.next_pc ground.decoded.whole next.begin in
      absurd (omega (arith, k, past))
