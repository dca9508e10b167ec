-- Pcs that count in the code.
use Rattle.std.proofs.Common.{◌≡◌, ◌⊎◌, ℕ, ◌<◌, ◌≤◌, true, false, List, nat_le, nat_lt, leb, arith}
use Rattle.std.proofs.lemmas.Bool.Decides.{leb_tells}
use Rattle.jc_cap_desc.specs.Shape.{Shape}
use Rattle.jc_cap.specs.declared.handler.Handler.{Handler}
use Rattle.jc_link.specs.Linked.{LinkedBody}
use Rattle.jc_program.specs.Methods.{CoversSame}

same_test : (a b c d : ℕ) → (a ≤ b → c ≤ d) → (c ≤ d → a ≤ b) → leb a b ≡ leb c d
same_test a b c d there back = by_tests (leb_tells a b) (leb_tells c d)
  where
    by_tests : ((leb a b ≡ true) × (a ≤ b)) ⊎ ((leb a b ≡ false) × (b < a))
        → ((leb c d ≡ true) × (c ≤ d)) ⊎ ((leb c d ≡ false) × (d < c))
        → leb a b ≡ leb c d
    by_tests h1 h2 = grind arith

pub covers_same : (world : List Shape) (number : ℕ) (body : LinkedBody) (code_offset : ℕ) (h : Handler)
    → CoversSame world number body code_offset h
covers_same world number body code_offset h pc = grind (arith, nat_lt, same_test, nat_le)
