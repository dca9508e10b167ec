-- Tests that pass have accessed the objects that they name.
use Rattle.std.proofs.Common.{◌≡◌, ◌⊎◌, inl, inr, ℕ, ◌==◌, ◌&&◌, ◌||◌, true, false, List, [], ◌∷◌, ◌++◌, arith}
use Rattle.std.proofs.Common.{None, ap, ◌∙◌}
use Rattle.std.proofs.lemmas.Bool.{eq-eqb}
use Rattle.std.proofs.lemmas.Option.{none-some}
use Rattle.jc_firewall.specs.declared.access.Verdict.{Verdict}
use Rattle.jc_machine.specs.Guarded.{may_change}
use Rattle.jc_machine.specs.Machine.{Touch}
use Rattle.jc_natives.specs.Checks.{access_of}
use Rattle.jc_natives.specs.PrivateCells.{argument}
use Rattle.jc_natives.specs.PrivateSeen.{NativeInput}
use Rattle.jc_natives.specs.PrivateTests.{Tested, by_verdict, followed, ranged, test, tested, used}
use Rattle.jc_natives.proofs.Changed.{is_change_of, is_changed}
use Rattle.jc_natives.specs.declared.row.MemberRow.{MemberRow}
use Rattle.jc_natives.specs.declared.row.Test.{Test}
use Rattle.jc_natives.specs.declared.row.Test.TheVariants as tests
use Rattle.jc_natives.specs.declared.row.Use.{Use}

touched_in_front : (xs ys : List Touch) (number : ℕ) → is_changed xs number ≡ true → is_changed (xs ++ ys) number ≡ true
touched_in_front [] ys number e = absurd cc
touched_in_front (x ∷ xs) ys number e = grind (arith, is_change_of, is_changed, touched_in_front xs ys number)

touched_behind : (xs ys : List Touch) (number : ℕ) → is_changed ys number ≡ true → is_changed (xs ++ ys) number ≡ true
touched_behind [] ys number e = e
touched_behind (x ∷ xs) ys number e = grind (arith, is_change_of, is_changed, touched_behind xs ys number e)

module _ (s : NativeInput) where
  -- by a way in which objects may change
  itself : (way : Use) (number : ℕ) → may_change (access_of way) ≡ true
      → ((number == number && may_change (access_of way)) || false) ≡ true
  itself way number change = grind (arith, eq-eqb)

  verdict_reaches : (way : Use) (number : ℕ) (v : Verdict) → may_change (access_of way) ≡ true
      → (by_verdict s way number v).thrown ≡ None
      → is_changed (by_verdict s way number v).touches number ≡ true
  verdict_reaches way number v h1 h2 = grind (arith, itself, none-some)

  used_reaches : (way : Use) (number : ℕ) → may_change (access_of way) ≡ true → (used s way number).thrown ≡ None
      → is_changed (used s way number).touches number ≡ true
  used_reaches way number change e = grind (arith, is_changed, none-some, verdict_reaches)

  test_reaches : (arguments : List ℕ) (one : Test) (place : ℕ) (way : Use) → may_change (access_of way) ≡ true
      → one ≡ tests.Object place way
      → (test s arguments one).thrown ≡ None
      → is_changed (test s arguments one).touches (argument arguments place) ≡ true
  test_reaches arguments one place way change is = grind (arith, is_changed, used_reaches)

  -- both pass, and all that they accessed is listed
  record BothPass (t u : Tested) : Type 0 where
    first : t.thrown ≡ None
    second : u.thrown ≡ None
    touches : (followed t u).touches ≡ t.touches ++ u.touches

  both_pass : (t u : Tested) → (followed t u).thrown ≡ None → BothPass t u
  both_pass t u e = grind (arith, none-some)

  pub row_reaches : (arguments : List ℕ) (row : MemberRow) (place : ℕ) (way : Use) → may_change (access_of way) ≡ true
      → (tested s arguments row).thrown ≡ None
      → (row.first ≡ tests.Object place way) ⊎ (row.second ≡ tests.Object place way)
      → is_changed (tested s arguments row).touches (argument arguments place) ≡ true
  row_reaches arguments row place way change e by = by_place by
    where
      by_place : (row.first ≡ tests.Object place way) ⊎ (row.second ≡ tests.Object place way)
          → is_changed (tested s arguments row).touches (argument arguments place) ≡ true
      by_place (inl f) =
          let one = test s arguments row.first in
          let two = test s arguments row.second in
          let ranges = followed (ranged s arguments row.first_range) (ranged s arguments row.second_range) in
          let p = both_pass one (followed two ranges) e in
          ap (λ ts. is_changed ts (argument arguments place)) p.touches
          ∙ touched_in_front one.touches (followed two ranges).touches (argument arguments place)
          (test_reaches arguments row.first place way change f p.first)
      by_place (inr f) =
          let one = test s arguments row.first in
          let two = test s arguments row.second in
          let ranges = followed (ranged s arguments row.first_range) (ranged s arguments row.second_range) in
          let p = both_pass one (followed two ranges) e in
          let q = both_pass two ranges p.second in
          ap (λ ts. is_changed ts (argument arguments place)) p.touches
          ∙ touched_behind one.touches (followed two ranges).touches (argument arguments place)
          (ap (λ ts. is_changed ts (argument arguments place)) q.touches
          ∙ touched_in_front two.touches ranges.touches (argument arguments place)
          (test_reaches arguments row.second place way change f q.first))
