-- The members of the API by their numbers.
use Rattle.std.proofs.Common.{◌≡◌, ℕ, zero, suc, ◌≤◌, length, None, refl, arith}
use Rattle.std.proofs.lemmas.Option.{slice_get_past}
use Rattle.jc_api.specs.Member.{members, member_of}

-- no member has a number past a byte
pub member_past : (n : ℕ) → 256 ≤ n → member_of n ≡ None
member_past zero h = refl
member_past (suc n) h = slice_get_past members n (le-suc h)
  where
    le-suc : 256 ≤ suc n → length members ≤ n
    le-suc h = omega arith
