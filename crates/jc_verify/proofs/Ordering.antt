-- The rows of places whose numbers ascend with their pcs are in order.
use Rattle.std.proofs.Common.{◌≡◌, ℕ, suc, ◌+◌, ◌<◌, ◌≤◌, ◌^◌, List, [], ◌∷◌, length, Option, Some, None, slice_get, refl, sym, subst, ◌∙◌, arith}
use Rattle.std.specs.List.{AllByRecursion}
use Rattle.jc_cert.specs.Cert.{PcsAscend, Stated}
use Rattle.jc_cert.specs.declared.stated_type.SpelledClass.{SpelledClass}
use Rattle.jc_names.specs.declared.name.ClassName.{ClassName}
use Rattle.jc_link.specs.Linked.{Linked}
use Rattle.jc_types.specs.State.{StateWithRoom}
use Rattle.jc_check.specs.Method.{CheckedMethod}
use Rattle.jc_check.specs.Package.{class_of_name}
use Rattle.jc_verify.specs.PrivateFlow.{AreShaped, IsNumbered, Places}
use Rattle.jc_verify.specs.PrivateGathered.{AreInOrder, IsInShape}
use Rattle.jc_verify.specs.PrivateSettled.{AreAscending}
use Rattle.jc_verify.specs.PrivateStated.{AreStateRows, RowIf}
use Rattle.jc_verify.specs.declared.place.Place.{Place}
use Rattle.jc_verify.proofs.Arriving.{number_within}
use Rattle.jc_verify.proofs.Carrying.{rows_each}

-- places stand from a pc on
abbrev StandFrom : ℕ → Places → Type 0
StandFrom least places = (n : ℕ) (p : Place StateWithRoom) → slice_get places n ≡ Some p → least ≤ p.pc

-- each place stands behind those before it
abbrev StandBehind : Places → Type 0
StandBehind places = (j k : ℕ) (p q : Place StateWithRoom) → slice_get places j ≡ Some p → slice_get places k ≡ Some q → j < k → p.pc < q.pc

rows_ascend : (class_of : SpelledClass → Option ClassName) (places : Places) (cs : List Stated) (least : ℕ) → StandFrom least places → StandBehind places → AreStateRows class_of places cs → PcsAscend least cs
rows_ascend class_of [] cs least from up are = subst (PcsAscend least) (sym are) tt
rows_ascend class_of (p ∷ places) cs least from up are = by_held p.held (λ ds n behind h. rows_ascend class_of places ds n behind (λ j k a b e f lt. up (suc j) (suc k) a b e f (omega (arith, lt))) h) are
  where
    by_held : (o : Option StateWithRoom) → ((ds : List Stated) (n : ℕ) → StandFrom n places → AreStateRows class_of places ds → PcsAscend n ds) → RowIf class_of p.pc o (AreStateRows class_of places) cs → PcsAscend least cs
    by_held None rest h = rest cs least (λ n q e. from (suc n) q e) h
    by_held (Some s) rest h =
        let here = from 0 p refl in
        let behind : PcsAscend (p.pc + 1) h.rest = rest h.rest (p.pc + 1) (λ n q e. let lt = up 0 (suc n) p q refl e (omega arith) in omega (arith, lt)) h.behind in
        subst (PcsAscend least) (sym h.are) (omega (arith, here, h.states.at), subst (λ (n : ℕ). PcsAscend (n + 1) h.rest) (sym h.states.at) behind)

-- pcs that ascend below a number are at most that many
few_ascend : (cs : List Stated) (least most : ℕ) → PcsAscend least cs → AllByRecursion (λ (c : Stated). c.pc < most) cs → least ≤ most → length cs + least ≤ most
few_ascend [] least most up below le = omega (arith, le)
few_ascend (c ∷ cs) least most up below le = let k = few_ascend cs (c.pc + 1) most up.1 below.1 (omega (arith, below.0)) in omega (arith, k, up.0)

pub in_order : (l : Linked) (m : CheckedMethod) (numbers : List (Option ℕ)) (places : Places) (cs : List Stated) → IsNumbered numbers places → AreAscending numbers → length numbers ≡ length m.code → length m.code < 2 ^ 16 → m.max_stack < 2 ^ 8
    → AreShaped m places → AreStateRows (class_of_name l.world) places cs → AreInOrder m cs
in_order l m numbers places cs numbered ascending sized short most shaped are = record {
  few = let n = few_ascend cs 0 (length m.code) up below (omega arith) in omega (arith, n, short);
  ascend = up;
  each = rows_each (class_of_name l.world) (IsInShape m) places cs are (λ n p s c at held row. record {
    pc = let w = number_within numbers p.pc n (numbered.known n p at) in omega (arith, w, sized, row.at, short);
    locals = row.local_count ∙ (shaped n p s at held).locals;
    depth = let h = (shaped n p s at held).operands in omega (arith, row.depth, h, most);
    each_local = row.each_local;
    each_operand = row.each_operand;
  });
}
  where
    below : AllByRecursion (λ (c : Stated). c.pc < length m.code) cs
    below =
        rows_each (class_of_name l.world) (λ (c : Stated). c.pc < length m.code) places cs are (λ n p s c at held row.
        let w = number_within numbers p.pc n (numbered.known n p at) in
        omega (arith, w, sized, row.at))

    up : PcsAscend 0 cs
    up = rows_ascend (class_of_name l.world) places cs 0 (λ n p e. omega arith) (λ j k p q e f lt. ascending p.pc q.pc j k (numbered.known j p e) (numbered.known k q f) lt) are
