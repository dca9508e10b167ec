-- Names of classes while places take in what flows.
use Rattle.std.proofs.Common.{◌≡◌, ◌&&◌, Bool, true, List, [], ◌∷◌, Ok, Some, refl, sym, subst, arith}
use Rattle.std.specs.Prelude.{reverse}
use Rattle.std.specs.List.{AllByRecursion, Contains, list_all}
use Rattle.std.proofs.lemmas.Bool.{eq-eqb}
use Rattle.std.proofs.lemmas.List.{reverse-append, reverse-reverse}
use Rattle.jc_base.proofs.Binding.{both_true}
use Rattle.jc_cap_desc.specs.Shape.{Shape}
use Rattle.jc_classes.specs.Subtype.{common_class, is_class_at, is_class_below}
use Rattle.jc_names.specs.declared.name.ClassName.{ClassName}
use Rattle.jc_code.specs.declared.instr.Operation.{Operation}
use Rattle.jc_link.specs.Linked.{Linked}
use Rattle.jc_types.specs.Known.{AreKnown, is_known}
use Rattle.jc_types.specs.State.{IsJoin, Types, has_shape_of, joined_types, types_below}
use Rattle.jc_types.specs.declared.ty.Ty.{Ty}
use Rattle.jc_check.specs.Method.{CheckedHandler, CheckedMethod, entry_of}
use Rattle.jc_check.specs.Package.{package_rules}
use Rattle.jc_verify.specs.PrivateFlow.{Places}
use Rattle.jc_verify.specs.PrivateNames.{AreNamed, HasNames, HasUnnamed, KeepsNames, TypeHasName}
use Rattle.jc_verify.proofs.Arriving.{below_lengths}
use Rattle.jc_verify.proofs.Lists.{all_more}

pub never_unnamed : (l : Linked) (places : Places) → AreNamed l.world places → HasUnnamed l.world places → ⊥
never_unnamed l places named h = h.unnamed.unnamed (named h.number h.place h.unnamed.state h.is h.unnamed.held)

-- ---- what types name is known exactly where their classes have names

both : (a b : Bool) → a ≡ true → b ≡ true → (a && b) ≡ true
both a b e f = rw (e, f) refl

module _ (world : List Shape) where
  type_known : (t : Ty) → TypeHasName world t → is_known (is_class_at world) t ≡ true
  type_known t h1 = grind arith

  type_named : (t : Ty) → is_known (is_class_at world) t ≡ true → TypeHasName world t
  type_named t h1 = grind arith

  all_known : (ts : List Ty) → AllByRecursion (TypeHasName world) ts → list_all (is_known (is_class_at world)) ts ≡ true
  all_known [] h = refl
  all_known (t ∷ ts) h = both (is_known (is_class_at world) t) (list_all (is_known (is_class_at world)) ts) (type_known t h.0) (all_known ts h.1)

  all_named : (ts : List Ty) → list_all (is_known (is_class_at world)) ts ≡ true → AllByRecursion (TypeHasName world) ts
  all_named [] h = tt
  all_named (t ∷ ts) h =
      let b = both_true (is_known (is_class_at world) t) (list_all (is_known (is_class_at world)) ts) h in
      (type_named t b.0, all_named ts b.1)

  all_turned : (ts : List Ty) → AllByRecursion (TypeHasName world) ts → AllByRecursion (TypeHasName world) (reverse ts)
  all_turned [] h = tt
  all_turned (t ∷ ts) h =
      let named : List Ty → Type 0 = λ us. AllByRecursion (TypeHasName world) us in
      subst named (sym (reverse-append (t ∷ []) ts)) (all_more (TypeHasName world) (reverse ts) t (all_turned ts h.1) h.0)

  pub are_known : (s : Types) → HasNames world s → AreKnown (is_class_at world) s
  are_known s h = grind (arith, all_known, reverse-reverse, all_turned)

  pub have_names : (s : Types) → AreKnown (is_class_at world) s → HasNames world s
  have_names s h = record { locals = all_named s.locals h.locals; operands = all_turned s.operands (all_named s.operands h.operands) }

-- states below one are of one shape
of_one_shape : (below : ClassName → ClassName → Bool) (s t u : Types) → types_below below s u ≡ true → types_below below t u ≡ true → has_shape_of s t ≡ true
of_one_shape below s t u one other = grind (arith, below_lengths, both, eq-eqb)

-- whatever control flow does to types of a method leaves them known, so it leaves names to their classes
pub keeps_names : (l : Linked) (m : CheckedMethod) → AreKnown (is_class_at l.world) (entry_of m)
    → ((h : CheckedHandler) (c : ClassName) → Contains m.handlers h → h.caught ≡ Some c → is_class_at l.world c ≡ true)
    → ((operation : Operation) (s t : Types) → (package_rules l).effect m.max_stack m.returned operation s ≡ Ok t → AreKnown (is_class_at l.world) s → AreKnown (is_class_at l.world) t)
    → ((s t u : Types) → joined_types (common_class l.world) s t ≡ u → AreKnown (is_class_at l.world) s → AreKnown (is_class_at l.world) t → AreKnown (is_class_at l.world) u)
    → ((s t : Types) → has_shape_of s t ≡ true → IsJoin (is_class_below l.world) s t (joined_types (common_class l.world) s t))
    → ((s t : Types) → types_below (is_class_below l.world) s t ≡ true → types_below (is_class_below l.world) t s ≡ true → s ≡ t) → KeepsNames l m
keeps_names l m entry caught effects joins least apart = record {
  entry = have_names l.world (entry_of m) entry;
  effect = λ operation s t h e. have_names l.world t (effects operation s t e (are_known l.world s h));
  caught = λ h c s among is names. record { locals = names.locals; operands = (caught h c among is, tt) };
  join = λ s t u one other join.
      let j = least s t (of_one_shape (is_class_below l.world) s t u join.first join.second) in
      let same = apart (joined_types (common_class l.world) s t) u (j.least u join.first join.second) (join.least (joined_types (common_class l.world) s t) j.first j.second) in
      have_names l.world u (joins s t u same (are_known l.world s one) (are_known l.world t other));
}
