-- The methods of a package, one more, while one of them is told of.
use Rattle.std.proofs.Common.{◌≡◌, ◌⊎◌, ℕ, ◌+◌, ◌<◌, ◌≤◌, true, false, List, length, Option, Some, None, slice_get, sym, subst, ◌∙◌, arith}
use Rattle.std.specs.Prelude.{nat_le}
use Rattle.std.specs.Option.{option_map_or}
use Rattle.std.proofs.lemmas.Bool.{cases_eq, leb-false, leb-true}
use Rattle.std.proofs.lemmas.Option.{none-some, same_Some, slice_get_within}
use Rattle.jc_cap_desc.specs.Shape.{MethodBody}
use Rattle.jc_cert.specs.Cert.{Stated, rows}
use Rattle.jc_link.specs.Linked.{Linked}
use Rattle.jc_check.specs.Method.{CheckedMethod}
use Rattle.jc_check.specs.Package.{method_of, package_rules}
use Rattle.jc_verify.specs.PrivateGathered.{AreGathered, CanBeInferred, IsDenied, IsInferred, IsSoFar, IsTold, Stands}
use Rattle.jc_verify.proofs.Certifying.{all_stated}
use Rattle.jc_verify.specs.PrivateNames.{KeepsNames}
use Rattle.jc_verify.specs.PrivateRefused.{HasFitMethods}
use Rattle.jc_verify.specs.PrivateTurns.{AreCounted}
use Rattle.jc_verify.specs.Refusal.{CanBeCarried, IsUncarried}
use Rattle.jc_verify.specs.MethodFault.{IsToldOf}
use Rattle.jc_verify.specs.declared.gathering.Gathered.{Gathered}
use Rattle.jc_verify.specs.declared.gathering.MethodFault.{MethodFault}

-- what is told stands at an offset or before it, or behind it
pub is_passed : (told : Option MethodFault) (offset : ℕ) → option_map_or (λ (t : MethodFault). nat_le t.method offset) told false ≡ true → (t : MethodFault) × (told ≡ Some t) × (t.method ≤ offset)
is_passed told offset h1 = grind (arith, leb-true)

pub isnt_passed : (told : Option MethodFault) (offset : ℕ) → option_map_or (λ (t : MethodFault). nat_le t.method offset) told false ≡ false → (t : MethodFault) → told ≡ Some t → offset < t.method
isnt_passed told offset h1 t h2 = grind (arith, none-some, same_Some, leb-false)

-- where names are kept no states carry what is denied
pub without : (l : Linked) (m : CheckedMethod) → KeepsNames l m → IsDenied l m → CanBeCarried l m → ⊥
without l m h1 h2 h3 = grind arith

module _ (l : Linked) (n : ℕ) (b : MethodBody) (at : slice_get l.body.kept.methods n ≡ Some b) (g : Gathered) (so_far : IsSoFar l n g) where
  either : (k : ℕ) (c : MethodBody) → Stands l (n + 1) k c → Stands l n k c ⊎ (b ≡ c)
  either k c s = by_place (cases_eq k n)
    where
      by_place : (k ≡ n) ⊎ (k ≡ n → ⊥) → Stands l n k c ⊎ (b ≡ c)
      by_place h1 = grind (arith, same_Some)

  -- it stands behind one that is told of
  pub passed_over : (t : MethodFault) → g.told ≡ Some t → t.method ≤ b.offset → IsSoFar l (n + 1) g
  passed_over t told behind = record {
    gathered = λ none. absurd (none-some t (sym none ∙ told));
    counted = λ none. absurd (none-some t (sym none ∙ told));
    told = so_far.told;
    carried = λ k c s lower. by k c (either k c s) lower;
  }
    where
      by : (k : ℕ) (c : MethodBody) → Stands l n k c ⊎ (b ≡ c) → ((u : MethodFault) → g.told ≡ Some u → c.offset < u.method) → CanBeInferred l (method_of l c)
      by k c h1 h2 = grind arith

  -- it is told of now
  pub told_now : (after : Gathered) (t : MethodFault) → after.told ≡ Some t → t.method ≡ b.offset → ((u : MethodFault) → g.told ≡ Some u → b.offset < u.method)
      → (CanBeCarried l (method_of l b) → ⊥) → IsToldOf (package_rules l) (method_of l b) t.fault → IsSoFar l (n + 1) after
  told_now after t told is before without of = record {
    gathered = λ none. absurd (none-some t (sym none ∙ told));
    counted = λ none. absurd (none-some t (sym none ∙ told));
    told = λ u e. subst (λ (x : MethodFault). IsTold l x.method x.fault) (same_Some t u (sym told ∙ e)) (record { place = n; method = b; is = at; at = sym is; without = without; told = of });
    carried = λ k c s lower. by k c (either k c s) (lower t told);
  }
    where
      by : (k : ℕ) (c : MethodBody) → Stands l n k c ⊎ (b ≡ c) → c.offset < t.method → CanBeInferred l (method_of l c)
      by k c h1 h2 = grind (arith, before)

  -- it has states
  pub carried_now : (after : Gathered) (states : List Stated) → IsInferred l (method_of l b) states → after.told ≡ g.told → (after.told ≡ None → AreGathered l (n + 1) (rows after.rows.items))
      → (after.told ≡ None → AreCounted l (n + 1) (rows after.rows.items) after.followed) → IsSoFar l (n + 1) after
  carried_now after states inferred told gathered counted = record {
    gathered = gathered;
    counted = counted;
    told = λ t e. so_far.told t (sym told ∙ e);
    carried = λ k c s lower. by k c (either k c s) lower;
  }
    where
      by : (k : ℕ) (c : MethodBody) → Stands l n k c ⊎ (b ≡ c) → ((t : MethodFault) → after.told ≡ Some t → c.offset < t.method) → CanBeInferred l (method_of l c)
      by k c h1 h2 = grind arith

-- what is told of all methods is a refusal
pub is_refusal : (l : Linked) (g : Gathered) → HasFitMethods l → IsSoFar l (length l.body.kept.methods) g → (t : MethodFault) → g.told ≡ Some t
    → IsUncarried l t.method t.fault
is_refusal l g fit so_far t told =
    let why = so_far.told t told in
    record { first = record { place = why.place; method = why.method; is = why.is; at = why.at; without = why.without; before = before }; told = why.told }
  where
    inferred : (n : ℕ) (c : MethodBody) → slice_get l.body.kept.methods n ≡ Some c → c.offset < t.method → CanBeInferred l (method_of l c)
    inferred n c at lower = grind (arith, slice_get_within, same_Some)

    before : (n : ℕ) (c : MethodBody) → slice_get l.body.kept.methods n ≡ Some c → c.offset < t.method → CanBeCarried l (method_of l c)
    before n c at lower =
        let can = inferred n c at lower in
        let order = can.inferred.order in
        record {
          states = can.states;
          are = record {
            few = order.few;
            ascend = order.ascend;
            each = all_stated (method_of l c) (fit.locals n c at) can.states order.each;
          };
          carried = can.inferred.carried;
        }
