-- Each instance has a number of its own: behind each call of the runtime, and where one registers.
use Rattle.std.proofs.Common.{◌≡◌, ℕ, zero, suc, ◌+◌, ◌<◌, ◌≤◌, not, Bool, true, false, cond, List, [], ◌∷◌}
use Rattle.std.proofs.Common.{◌++◌, length, take, nat_le, Option, refl, ap, arith}
use Rattle.std.proofs.lemmas.Bool.{le-leb, leb-true}
use Rattle.std.specs.Option.{option_map, option_map_or}
use Rattle.jc_names.specs.declared.owner.Owner.{Owner}
use Rattle.jc_natives.proofs.Bare.{both}
use Rattle.jc_natives.specs.Kept.{Kept, after_install, has_numbers, is_instance_number, kept_instances}
use Rattle.jc_natives.specs.Kept.{now_registered, waits, with_install, with_instance}
use Rattle.jc_natives.specs.declared.kept.Installing.{Installing}
use Rattle.jc_natives.specs.declared.kept.Instance.{Instance}

-- ---- what the bounds say

-- one more where an instance waits
abbrev one_for : Bool → ℕ
one_for waiting = cond waiting 1 0

record AreFew (k : Kept) (waiting : Bool) : Type 0 where
  few : length k.instances + one_for waiting ≤ k.numbers
  most : k.numbers ≤ 32

few_of : (k : Kept) → has_numbers k ≡ true → AreFew k (waits k)
few_of k e = grind (arith, both, nat_le, leb-true)

of_few : (k : Kept) → AreFew k (waits k) → has_numbers k ≡ true
of_few k f = grind (arith, nat_le, le-leb)

-- ---- an instance that registers

with_one_more : (xs : List Instance) (i : Instance) → length (xs ++ i ∷ []) ≡ suc (length xs)
with_one_more [] i = refl
with_one_more (x ∷ xs) i = ap suc (with_one_more xs i)

waits_no_more : (o : Option Installing)
    → option_map_or (λ (i : Installing). not i.registered) (option_map now_registered o) false ≡ false
waits_no_more o = grind arith

-- the number that was left for it is its own then
pub registered_numbers : (k : Kept) (i : Instance) → has_numbers k ≡ true → waits k ≡ true
    → has_numbers (with_instance k i) ≡ true
registered_numbers k i e waiting = grind (arith, few_of, leb-true, nat_le, both, with_one_more, waits_no_more, le-leb)

-- ---- calls of the runtime itself

-- the next number is given out
pub begun_numbers : (k : Kept) (owner : Owner) (aid : List ℕ) → has_numbers k ≡ true
    → owner.instance ≡ suc k.numbers → k.numbers < 32 → has_numbers (with_install k owner aid) ≡ true
begun_numbers k owner aid e next less = grind (arith, few_of, of_few)

pub next_is_number : (k : Kept) (owner : Owner) → owner.instance ≡ suc k.numbers → k.numbers < 32
    → is_instance_number owner.instance ≡ true
next_is_number k owner next less = grind (arith, nat_le, le-leb)

taken_few : (xs : List Instance) (n : ℕ) → length (take n xs) ≤ length xs
taken_few [] zero = omega arith
taken_few [] (suc n) = omega arith
taken_few (x ∷ xs) zero = omega arith
taken_few (x ∷ xs) (suc n) = let h = taken_few xs n in omega (arith, h)

left_few : (xs : List Instance) (b : Bool) → length (kept_instances xs b) ≤ length xs
left_few xs b = grind (arith, taken_few)

-- no instance waits behind an install, and there is none more
pub over_numbers : (k : Kept) (succeeds : Bool) → has_numbers k ≡ true → has_numbers (after_install k succeeds) ≡ true
over_numbers k succeeds e = grind (arith, few_of, left_few, not, of_few)
