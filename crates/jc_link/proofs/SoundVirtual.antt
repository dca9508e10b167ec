-- What a class finds at virtual tokens is a method of objects, and keeps what is found above it.
use Rattle.std.proofs.Common.{◌≡◌, ℕ, zero, suc, ◌-◌, ◌<◌, ◌==◌, ◌&&◌, Bool, true, false, cond, not, List, Option, Some, refl, ap, subst, ◌∙◌, arith, nat_lt, is_some, slice_get}
use Rattle.std.proofs.Math.Path.{fun_ext}
use Rattle.std.proofs.lemmas.Bool.{eqb-true}
use Rattle.std.specs.List.{list_any}
use Rattle.std.specs.Option.{option_and_then, option_map_or}
use Rattle.jc_cap.specs.declared.record.RecordBody.{RecordBody}
use Rattle.jc_cap_desc.specs.Shape.{ClassShape, Shape}
use Rattle.jc_base.specs.declared.class_ref.ClassRef.{ClassRef}
use Rattle.jc_classes.specs.Methods.{method_name, declared_above, package_visible, record_visit, virtual_visit, virtual_method_of}
use Rattle.jc_classes.specs.Record.{public_entries, package_entries}
use Rattle.jc_classes.specs.Subtype.{comes_to_end}
use Rattle.jc_classes.specs.Walk.{found_from, walk, most_classes}
use Rattle.jc_names.specs.Names.{home_of}
use Rattle.jc_classes.specs.World.{class_at, class_named, superclass_of, superclass_ref}
use Rattle.jc_names.specs.declared.name.ClassName.{ClassName}
use Rattle.jc_names.specs.declared.name.MethodName.{MethodName}
use Rattle.jc_link.proofs.GrownParts.{some_of, none_some}
use Rattle.jc_link.proofs.GrownWithin.{at_record, by_other}
use Rattle.jc_link.proofs.Nones.{true_false, left_false, right_false, then_false, left_true, right_true, not_false, not_true, there_some, none_at, none_in_range}
use Rattle.jc_link.proofs.SoundChains.{heir_of_walk, walk_enough}
use Rattle.jc_link.proofs.SameTypes.{same_when_agree}
use Rattle.jc_link.proofs.Superclasses.{most_is}
use Rattle.jc_link.specs.Classes.{is_bad_entry}
use Rattle.jc_link.specs.Inherited.{virtual_tokens, loses_at, is_same_method, is_other_type, retypes_at}
use Rattle.jc_link.specs.MemberType.{have_same_type, method_type_of}
use Rattle.jc_link.specs.Named.{method_above}
use Rattle.jc_link.specs.PrivateFit.{AreFit, IsFit}
use Rattle.jc_link.specs.Sound.{IsHeir, itself, behind, HaveSuperclasses, IsInstanceMethod, HasInPlace, HaveVirtualMethods}

-- ---- tests

-- what is told of an option is told of what is there
pub told_of : {A : Type 0} (p : A → Bool) (o : Option A) → option_map_or p o false ≡ true → (a : A) × (o ≡ Some a) × (p a ≡ true)
told_of p o h1 = grind (arith, true_false)

-- ---- superclasses

-- a class with a superclass is there, and is no interface
pub record IsBelow (world : List Shape) (c : ClassName) : Type 0 where
  pub body : ClassShape
  pub there : class_at world c ≡ Some body
  pub ref : ClassRef
  pub names : superclass_ref body.body ≡ Some ref

below : (world : List Shape) (c d : ClassName) → superclass_of world c ≡ Some d → IsBelow world c
below world c d e =
    let a = some_of (class_named world (home_of c)) (option_and_then (λ (k : ClassShape). superclass_ref k.body) (class_at world c)) d e in
    let b = some_of (λ (k : ClassShape). superclass_ref k.body) (class_at world c) a.0 a.1 in
    record { body = b.0; there = b.1; ref = a.0; names = b.2 }

-- ---- a method that a class finds

module _ (world : List Shape) (c : ClassName) where
  abbrev is_bad : ℕ → Bool
  is_bad = is_bad_entry world (home_of c) c

  entry_is : (offset : ℕ) → is_bad_entry world (home_of c) c offset ≡ false → (offset == declared_above) ≡ false → IsInstanceMethod world c (method_name (home_of c) offset)
  entry_is offset fine other =
      grind (arith, not_false, then_false, not, told_of, not_true, left_true, heir_of_walk, right_true)

  own_entry : (m : MethodName) (entries : List ℕ) (n : ℕ) → list_any is_bad entries ≡ false → (offset : ℕ)
      → slice_get entries n ≡ Some offset → (offset == declared_above) ≡ false → method_name (home_of c) offset ≡ m
      → IsInstanceMethod world c m
  own_entry m entries n fine offset at other same = grind (arith, entry_is, none_at)

module _ (world : List Shape) (fit : AreFit world) (asker token : ℕ) (m : MethodName) where
  walk_finds : (steps : ℕ) (c : ClassName) → walk (virtual_visit world asker token) world steps c ≡ Some m → IsInstanceMethod world c m
  walk_finds zero c e = absurd (none_some m e)
  walk_finds (suc n) c e = by_class c (λ d. walk_finds n d) e
    where
      from_above : (c : ClassName) → ((d : ClassName) → walk (virtual_visit world asker token) world n d ≡ Some m → IsInstanceMethod world d m)
          → option_and_then (walk (virtual_visit world asker token) world n) (superclass_of world c) ≡ Some m → IsInstanceMethod world c m
      from_above c rest e =
          let d = some_of (walk (virtual_visit world asker token) world n) (superclass_of world c) m e in
          let is = rest d.0 d.2 in
          record { declared = is.declared; there = is.there; instance = is.instance; heir = behind c d.0 (is.declared).class d.1 is.heir }

      by_class : (c : ClassName) → ((d : ClassName) → walk (virtual_visit world asker token) world n d ≡ Some m → IsInstanceMethod world d m)
          → walk (virtual_visit world asker token) world (suc n) c ≡ Some m → IsInstanceMethod world c m
      by_class c rest e =
          let above : Option MethodName = option_and_then (walk (virtual_visit world asker token) world n) (superclass_of world c) in
          let k = some_of (λ k. found_from (virtual_visit world asker token c k) above) (class_at world c) m e in
          let entries = (fit c k.0 k.1).entries in
          at_record world (home_of c) above m (IsInstanceMethod world c m) (from_above c rest) asker token (k.0).body
          (λ r is. own_entry world c m r.public_methods.methods (token - r.public_methods.base)
          (subst (λ body. list_any (is_bad_entry world (home_of c) c) (public_entries body) ≡ false) is
          (left_false (list_any (is_bad_entry world (home_of c) c) (public_entries (k.0).body))
          (list_any (is_bad_entry world (home_of c) c) (package_entries (k.0).body)) entries)))
          (λ r is high. own_entry world c m r.package_methods.methods (token - package_visible - r.package_methods.base)
          (subst (λ body. list_any (is_bad_entry world (home_of c) c) (package_entries body) ≡ false) is
          (right_false (list_any (is_bad_entry world (home_of c) c) (public_entries (k.0).body))
          (list_any (is_bad_entry world (home_of c) c) (package_entries (k.0).body)) entries)))
          k.2

-- ---- below 128 each asks alike

taken : {V : Type 0} (b : Bool) (x y z : V) → b ≡ true → cond b x y ≡ cond b x z
taken b x y z h1 = grind (arith, true_false)

same_visit : (world : List Shape) (a b token : ℕ) → nat_lt token package_visible ≡ true → virtual_visit world a token ≡ virtual_visit world b token
same_visit world a b token low = grind (arith, fun_ext, taken)

pub asked_alike : (world : List Shape) (a b token : ℕ) (c : ClassName) → nat_lt token package_visible ≡ true
    → virtual_method_of world c token a ≡ virtual_method_of world c token b
asked_alike world a b token c low = ap (λ visit. walk visit world most_classes c) (same_visit world a b token low)

-- ---- a method in place of another one

same_method : (m n : MethodName) → is_same_method m n ≡ true → m ≡ n
same_method m n h1 = grind (arith, eqb-true, left_true, right_true, true_false)

same_kept : (world : List Shape) (m above : MethodName) → is_other_type world m above ≡ false → method_type_of world m ≡ method_type_of world above
same_kept world m above e = by_name (is_same_method m above) (same_method m above) e
  where
    by_name : (b : Bool) → (b ≡ true → m ≡ above) → (not b && not (have_same_type (method_type_of world m) (method_type_of world above))) ≡ false
        → method_type_of world m ≡ method_type_of world above
    by_name b h1 h2 = grind (arith, same_when_agree, not_false)

at_token : (p : ℕ → Bool) (token : ℕ) → token < 256 → list_any p virtual_tokens ≡ false → p token ≡ false
unfolding virtual_tokens
at_token p token less e = none_in_range p 0 256 token e (omega arith) (omega arith)

-- a class and its superclass
module _ (world : List Shape) (c d : ClassName) (s : superclass_of world c ≡ Some d) (token : ℕ) (above : MethodName) where
  kept_home : (k : ClassShape) → IsFit world c k → token < 256 → virtual_method_of world d token (home_of c) ≡ Some above → HasInPlace world c token (home_of c) above
  kept_home k fit less e =
      let up : method_above world (home_of c) token c ≡ Some above = ap (option_and_then (λ d. virtual_method_of world d token (home_of c))) s ∙ e in
      let kept = at_token (loses_at world (home_of c) c) token less fit.keeps in
      let own = virtual_method_of world c token (home_of c) in
      let m = there_some own (not_false _ (then_false (is_some (method_above world (home_of c) token c)) (not (is_some own)) kept (ap is_some up))) in
      let types = at_token (retypes_at world (home_of c) c) token less fit.types_kept in
      let same : is_other_type world m.0 above ≡ false = grind arith in
      record { method = m.0; found = m.1; type = same_kept world m.0 above same }

  module _ (asker : ℕ) where
    passes : (body : RecordBody) (ref : ClassRef) (above : Option MethodName) → superclass_ref body ≡ Some ref → nat_lt token package_visible ≡ false
        → (home_of c == asker) ≡ false
        → found_from (record_visit world asker token (home_of c) body) above ≡ above
    passes body ref above h1 h2 h3 = grind (arith, none_some, by_other)

    passed : HaveSuperclasses world → nat_lt token package_visible ≡ false → (home_of c == asker) ≡ false
        → virtual_method_of world c token asker ≡ virtual_method_of world d token asker
    passed supers high other =
        let is = below world c d s in
        let n = most_classes - 1 in
        let one : most_classes ≡ suc n = omega (arith, most_is) in
        let behind = option_and_then (walk (virtual_visit world asker token) world n) (superclass_of world c) in
        let end : comes_to_end world n d ≡ true = grind (arith, supers.orderly.ends c) in
        grind (
          arith,
          is.there,
          passes (is.body).body is.ref behind is.names high other,
          walk_enough (virtual_visit world asker token) world n most_classes d end (omega (arith, one)),
        )

    kept_one : HaveSuperclasses world → AreFit world → token < 256 → virtual_method_of world d token asker ≡ Some above → HasInPlace world c token asker above
    kept_one supers fit less e =
        let is = below world c d s in
        by_asker (nat_lt token package_visible) (home_of c == asker) refl refl (kept_home is.body (fit c is.body is.there) less)
      where
        by_asker : (low own : Bool) → nat_lt token package_visible ≡ low → (home_of c == asker) ≡ own
            → (virtual_method_of world d token (home_of c) ≡ Some above → HasInPlace world c token (home_of c) above) → HasInPlace world c token asker above
        by_asker true own is same home = grind (arith, asked_alike)
        by_asker false true is same home = grind (arith, eqb-true)
        by_asker false false is same home = record { method = above; found = passed supers is same ∙ e; type = refl }

-- ---- all of it

module _ (world : List Shape) (supers : HaveSuperclasses world) (fit : AreFit world) where
  kept_all : (c d : ClassName) (token asker : ℕ) (above : MethodName) → IsHeir world c d → token < 256 → virtual_method_of world d token asker ≡ Some above
      → HasInPlace world c token asker above
  kept_all _ _ token asker above (itself c) less e = record { method = above; found = e; type = refl }
  kept_all _ _ token asker above (behind c d f s heir) less e =
      let up = kept_all d f token asker above heir less e in
      let own = kept_one world c d s token up.method asker supers fit less up.found in
      record { method = own.method; found = own.found; type = own.type ∙ up.type }

  pub virtual_methods_hold : HaveVirtualMethods world
  virtual_methods_hold = record { found = λ c token asker m e. walk_finds world fit asker token m most_classes c e; kept = kept_all }
