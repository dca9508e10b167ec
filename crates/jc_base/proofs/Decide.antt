-- What is kept gives what the components give.
use Rattle.std.proofs.Common.{◌≡◌, ℕ, zero, suc, ◌+◌, ◌<◌, ◌≤◌, Bool, false, cond, ltb, List, [], get_or, Option, Some, refl, ap, ◌∙◌, arith}
use Rattle.std.specs.List.{find, range_with_len}
use Rattle.jc_base.specs.Cutting.{Piece, info_of, count_of, infos_by, answer, known}
use Rattle.jc_base.specs.PrivateCutting.{Holds, info_in, twice_in}
use Rattle.jc_base.specs.declared.cutting.Slots.{Slots}

one_find : (a : ℕ) (p q : Bool) (x y : Option ℕ) → p ≡ q → x ≡ y → cond p (Some a) x ≡ cond q (Some a) y
one_find a p q x y e f = cc

find_range : (P Q : ℕ → Bool) → ((t : ℕ) → t < 13 → P t ≡ Q t) → (n a : ℕ) → a + n ≤ 13 → find P (range_with_len a n) ≡ find Q (range_with_len a n)
find_range P Q same zero a le = refl
find_range P Q same (suc n) a le = one_find a (P a) (Q a) _ _ (same a (omega arith)) (find_range P Q same n (a + 1) (omega arith))

same_repeats : (repeats : List Bool) (ps : List Piece) → ((tag : ℕ) → tag < 13 → get_or repeats tag false ≡ ltb 1 (count_of tag ps))
    → find (λ tag. get_or repeats tag false) known ≡ find (λ tag. ltb 1 (count_of tag ps)) known
unfolding known
same_repeats repeats ps are = find_range (λ tag. get_or repeats tag false) (λ tag. ltb 1 (count_of tag ps)) are 12 1 (omega arith)

-- infos that are the same at the tags of components
same_infos : (f g : ℕ → Option (List ℕ)) (r : Option ℕ) → ((tag : ℕ) → tag < 13 → f tag ≡ g tag) → infos_by f r ≡ infos_by g r
unfolding infos_by
same_infos f g r same = grind arith

pub holds_answer : (slots : Slots) (ps : List Piece) → Holds slots ps → infos_by (λ tag. info_in slots tag) (twice_in slots) ≡ answer ps []
holds_answer slots ps h =
    ap (λ r. infos_by (λ tag. info_in slots tag) r) (same_repeats slots.repeats ps h.repeats)
    ∙ same_infos (λ tag. info_in slots tag) (λ tag. info_of tag ps) _ h.infos
