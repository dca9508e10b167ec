-- Methods that install, put into a set one by one.
use Rattle.std.proofs.Common.{◌≡◌, ℕ, ◌==◌, ◌&&◌, ◌||◌, Bool, true, false, List, ◌∷◌, ap, sym, ◌∙◌, ◌⊎◌, arith}
use Rattle.std.proofs.lemmas.Bool.{cases_eq, eq-eqb, ne_eqb}
use Rattle.std.proofs.Math.Bool.{or_assoc}
use Rattle.std.proofs.lemmas.List.Folds.{list_any-append}
use Rattle.std.specs.List.{list_all}
use Rattle.jc_base.specs.NumberSet.{has_number}
use Rattle.jc_base.specs.declared.placed_rows.Placed.{Placed}
use Rattle.jc_cap.specs.declared.record.Record.{Record}
use Rattle.jc_cap_desc.proofs.Testing.{class_in_front}
use Rattle.jc_cap_desc.specs.Across.{class_methods, installs, is_interface_row}
use Rattle.jc_cap_desc.specs.PrivateApplets.{installs_at}
use Rattle.jc_cap_desc.specs.PrivateTypes.{PlacedTypes}
use Rattle.jc_cap_desc.specs.declared.class_row.ClassRow.{ClassRow}
use Rattle.jc_cap_desc.specs.declared.class_row.MethodRow.{MethodRow}

-- at one number: whether a method at an offset installs, whether the number was in the set, and what is left
moved : (n offset : ℕ) (passes before left : Bool) → true ≡ passes → ((n == offset || before) || left) ≡ (before || ((offset == n && passes) || left))
moved n offset passes before left is = by_offset (cases_eq n offset)
  where
    here : (b r : Bool) → ((true || b) || r) ≡ (b || ((true && true) || r))
    here b r = grind arith

    elsewhere : (b r : Bool) → ((false || b) || r) ≡ (b || ((false && passes) || r))
    elsewhere b r = grind arith

    by_offset : (n ≡ offset) ⊎ (n ≡ offset → ⊥) → ((n == offset || before) || left) ≡ (before || ((offset == n && passes) || left))
    by_offset h1 = grind (arith, eq-eqb, here, ne_eqb, elsewhere)

-- a method that installs goes from what is left into the set
pub put_one : (types : PlacedTypes) (m : MethodRow) (left then : List MethodRow) (set set_then : List ℕ) (n : ℕ) → left ≡ m ∷ then
    → true ≡ installs types m → has_number set_then n ≡ (n == m.offset || has_number set n)
    → (has_number set_then n || installs_at types then n) ≡ (has_number set n || installs_at types left n)
put_one types m left then set set_then n front is put = grind (arith, moved)

-- tests that say the same of each say the same of all
pub same_all : {X : Type 0} (p q : X → Bool) → ((x : X) → p x ≡ q x) → (xs : List X) → list_all p xs ≡ list_all q xs
same_all p q h1 xs = grind arith

-- the methods of one class more go from what is left into the set
pub class_more : (types : PlacedTypes) (records : List (Placed Record)) (left then : List ClassRow) (row : ClassRow)
    (set set_then : List ℕ) (n : ℕ) → left ≡ row ∷ then → is_interface_row records row ≡ false
    → has_number set_then n ≡ (has_number set n || installs_at types row.methods n)
    → (has_number set_then n || installs_at types (class_methods records then) n)
    ≡ (has_number set n || installs_at types (class_methods records left) n)
class_more types records left then row set set_then n front is put =
    let passes : MethodRow → Bool = λ m. m.offset == n && installs types m in
    ap (λ b. b || installs_at types (class_methods records then) n) put
    ∙ or_assoc (has_number set n) (installs_at types row.methods n) (installs_at types (class_methods records then) n)
    ∙ ap (λ b. has_number set n || b) (sym (list_any-append passes row.methods (class_methods records then))
    ∙ ap (λ ms. installs_at types ms n) (sym (class_in_front records left then row front is)))
