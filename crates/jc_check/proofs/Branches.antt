-- The branches of an instruction in turn, as a loop takes them.
use Rattle.std.proofs.Common.{◌≡◌, ℕ, ℤ, ◌+◌, ◌≤◌, List, length, drop, Some, Result, Ok, Err, sym, ap, ◌∙◌, arith}
use Rattle.std.specs.Prelude.{⊤, slice_get}
use Rattle.jc_base.specs.declared.reason.Reason.{Reason}
use Rattle.jc_base.specs.Results.{◌>>=◌}
use Rattle.jc_types.specs.State.{Types}
use Rattle.jc_code.specs.Listing.{PlacedInstr}
use Rattle.jc_check.specs.Rules.{Rules}
use Rattle.jc_check.specs.Claim.{Claim}
use Rattle.jc_check.specs.FirstFault.{arrives, all_arrive}
use Rattle.jc_check.proofs.Pieces.{drop_get, drop_all}

pub goes_on : (rules : Rules) (listing : List PlacedInstr) (claims : List Claim) (t : Types) (places : List ℤ) (k : ℕ) (p : ℤ) (total : Result ⊤ Reason) → slice_get places k ≡ Some p → Ok tt ≡ arrives rules listing claims t p → all_arrive rules listing claims t (drop k places) ≡ total
    → all_arrive rules listing claims t (drop (k + 1) places) ≡ total
goes_on rules listing claims t places k p total at ok so_far =
    sym (ap (λ ps. all_arrive rules listing claims t ps) (drop_get places k p at) ∙ ap (λ (r : Result ⊤ Reason). r >>= λ _. all_arrive rules listing claims t (drop (k + 1) places)) (sym ok)) ∙ so_far

pub stops : (rules : Rules) (listing : List PlacedInstr) (claims : List Claim) (t : Types) (places : List ℤ) (k : ℕ) (p : ℤ) (total : Result ⊤ Reason) (reason : Reason) → slice_get places k ≡ Some p → Err reason ≡ arrives rules listing claims t p → all_arrive rules listing claims t (drop k places) ≡ total
    → Err reason ≡ total
stops rules listing claims t places k p total reason at err so_far = grind (arith, drop_get, Result, drop)

pub is_done : (rules : Rules) (listing : List PlacedInstr) (claims : List Claim) (t : Types) (places : List ℤ) (k : ℕ) (total : Result ⊤ Reason) → length places ≤ k → all_arrive rules listing claims t (drop k places) ≡ total → Ok tt ≡ total
is_done rules listing claims t places k total le so_far = sym (ap (λ ps. all_arrive rules listing claims t ps) (drop_all places k le)) ∙ so_far
