-- Behind a call the instances are what they were, or the one that was being installed has registered.
use Rattle.std.proofs.Common.{◌≡◌, ℕ, ◌&&◌, not, Bool, true, false, cond, List, [], ◌∷◌, ◌++◌, Option, Some}
use Rattle.std.proofs.Common.{None, arith, bytes_eq, refl, sym, ap, subst, ◌∙◌}
use Rattle.std.proofs.lemmas.Bool.{and_parts, eq-eqb, eqb-true, true≢false}
use Rattle.std.proofs.lemmas.List.{append-nil}
use Rattle.std.proofs.lemmas.Slice.Eq.{bytes_eq-Decides}
use Rattle.jc_link.specs.Linked.{World}
use Rattle.jc_machine.specs.Keeping.{LeavesKept, MembersKeep}
use Rattle.jc_machine.specs.Machine.{NativeCall}
use Rattle.jc_machine.specs.Step.{CallEnd, WasStuck}
use Rattle.jc_names.specs.declared.owner.Owner.{Owner}
use Rattle.jc_natives.specs.Kept.{Kept, is_same_owner, now_registered}
use Rattle.jc_natives.specs.Meaning.{meaning}
use Rattle.jc_natives.specs.Registered.{LeavesInstances, MayRegister, as_they_were, one_more}
use Rattle.jc_natives.specs.Remembered as remembered
use Rattle.jc_natives.specs.Remembered.{IsRemembered, KeepsInstances}
use Rattle.jc_natives.specs.declared.kept.Installing.{Installing}
use Rattle.jc_natives.specs.declared.kept.Instance.{Instance}

-- ---- equality, by words

abbrev instance_words : Instance → List ℕ
instance_words i = i.object ∷ i.owner.context ∷ i.owner.instance ∷ i.aid

abbrev is_same : Instance → Instance → Bool
is_same one other = bytes_eq (instance_words one) (instance_words other)

same_instance : (one other : Instance) → is_same one other ≡ true → one ≡ other
same_instance one other e = grind (arith, bytes_eq-Decides)

same_as_itself : (i : Instance) → is_same i i ≡ true
same_as_itself i = grind (arith, bytes_eq-Decides)

abbrev installing_words : Option Installing → List ℕ
installing_words None = []
installing_words (Some i) = cond i.registered 1 0 ∷ i.owner.context ∷ i.owner.instance ∷ i.aid

abbrev is_same_installing : Option Installing → Option Installing → Bool
is_same_installing one other = bytes_eq (installing_words one) (installing_words other)

same_installing : (one other : Option Installing) → is_same_installing one other ≡ true → one ≡ other
same_installing one other e = grind (arith, bytes_eq-Decides)

same_from : (one other : Option Installing) → one ≡ other → is_same_installing one other ≡ true
same_from one other e = grind (arith, bytes_eq-Decides)

owners_are_one : (a b : Owner) → is_same_owner a b ≡ true → a ≡ b
owners_are_one a b e = grind (arith, and_parts, eqb-true)

owner_itself : (a b : Owner) → a ≡ b → is_same_owner a b ≡ true
owner_itself a b e = grind (arith, eq-eqb)

-- ---- instances, and more behind them

-- a list begins with these instances, and the rest of it passes
abbrev is_followed : (List Instance → Bool) → List Instance → List Instance → Bool
is_followed passes [] ys = passes ys
is_followed passes (x ∷ xs) [] = false
is_followed passes (x ∷ xs) (y ∷ ys) = is_same y x && is_followed passes xs ys

record IsFollowed (passes : List Instance → Bool) (xs ys : List Instance) : Type 0 where
  rest : List Instance
  is : ys ≡ xs ++ rest
  passed : passes rest ≡ true

followed : (passes : List Instance → Bool) (xs ys : List Instance) → is_followed passes xs ys ≡ true
    → IsFollowed passes xs ys
followed passes [] ys e = record { rest = ys; is = refl; passed = e }
followed passes (x ∷ xs) [] e = absurd (true≢false (sym e))
followed passes (x ∷ xs) (y ∷ ys) e =
    let parts = and_parts (is_same y x) (is_followed passes xs ys) e in
    let same = same_instance y x parts.0 in
    let f = followed passes xs ys parts.1 in
    record { rest = f.rest; is = λ k. same k ∷ f.is k; passed = f.passed }

follows : (passes : List Instance → Bool) (xs rest : List Instance) → passes rest ≡ true
    → is_followed passes xs (xs ++ rest) ≡ true
follows passes [] rest e = e
follows passes (x ∷ xs) rest e = grind (arith, same_as_itself, follows passes xs rest e)

-- ---- the test

-- none came, and the one that is being installed is what it was; or that one came, and hadn't registered
abbrev may_follow : Option Installing → Option Installing → List Instance → Bool
may_follow was now [] = is_same_installing now was
may_follow None now (i ∷ []) = false
may_follow (Some j) now (i ∷ []) =
    not j.registered && (is_same_owner i.owner j.owner && is_same_installing now (Some (now_registered j)))
may_follow was now (i ∷ j ∷ rest) = false

abbrev pub registers : Kept → Kept → Bool
registers before after = is_followed (may_follow before.installing after.installing) before.instances after.instances

module _ (before after : Kept) where
  may_register : registers before after ≡ true → MayRegister before after
  may_register e =
      let f = followed (may_follow before.installing after.installing) before.instances after.instances e in
      by_rest f.rest f.is before.installing refl f.passed
    where
      by_rest : (rest : List Instance) → after.instances ≡ before.instances ++ rest → (o : Option Installing)
          → before.installing ≡ o → may_follow o after.installing rest ≡ true → MayRegister before after
      by_rest [] is o was e =
          as_they_were (is ∙ append-nil before.instances) (same_installing after.installing o e ∙ sym was)
      by_rest (i ∷ []) is None was e = absurd (true≢false (sym e))
      by_rest (i ∷ []) is (Some j) was e =
          one_more j i was (grind arith) (grind (arith, owners_are_one)) is (grind (arith, same_installing))
      by_rest (i ∷ j ∷ rest) is o was e = absurd (true≢false (sym e))

  by_followers : (rest : List Instance) → after.instances ≡ before.instances ++ rest
      → may_follow before.installing after.installing rest ≡ true → registers before after ≡ true
  by_followers rest is e = grind (arith, follows)

  passes_test : MayRegister before after → registers before after ≡ true
  passes_test (as_they_were instances installing) =
      by_followers [] (instances ∙ sym (append-nil before.instances))
      (same_from after.installing before.installing installing)
  passes_test (one_more j i was waited owner instances now) =
      let same = owner_itself i.owner j.owner owner in
      let came : may_follow (Some j) after.installing (i ∷ []) ≡ true = grind (arith, same, same_from) in
      by_followers (i ∷ []) instances (subst (λ o. may_follow o after.installing (i ∷ []) ≡ true) (sym was) came)

-- ---- members

-- what may be behind some members may be behind one more: an instance that has registered doesn't do so again
still_may : (before : Kept) (call : NativeCall Kept) (after : Kept) → MayRegister before call.runtime
    → KeepsInstances call after → MayRegister before after
still_may before call after (as_they_were e f) (remembered.as_they_were g h) = as_they_were (g ∙ e) (h ∙ f)
still_may before call after (one_more j i was waited owner is now) (remembered.as_they_were g h) =
    one_more j i was waited owner (g ∙ is) (h ∙ now)
still_may before call after (as_they_were e f) (remembered.one_more register has) =
    one_more has.installing has.instance (sym f ∙ has.was) has.waited has.installs
    (has.instances ∙ ap (λ xs. xs ++ has.instance ∷ []) e) has.is
still_may before call after (one_more j i was waited owner is now) (remembered.one_more register has) =
    grind (arith, has.was, has.waited, now)

pub members_register : ((w : World) (call : NativeCall Kept) → IsRemembered call (meaning.answer w call))
    → (before : Kept) → MembersKeep (registers before) meaning
members_register remember before w call kept =
    let after = (meaning.answer w call).runtime in
    passes_test before after
    (still_may before call after (may_register before call.runtime kept) (remember w call).instances)

-- ---- calls

pub registers_itself : (k : Kept) → registers k k ≡ true
registers_itself k = passes_test k k (as_they_were refl refl)

pub left_registered : (before : Kept) (ends : CallEnd Kept) → LeavesKept (registers before) ends
    → LeavesInstances before ends
left_registered before WasStuck e = tt
left_registered before ends e = may_register before _ e
