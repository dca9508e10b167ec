-- A header leaves no more than there was.
use Rattle.std.proofs.Common.{◌≡◌, ℕ, ◌≤◌, ◌/◌, Bool, cond, List, [], ◌∷◌, length, Ok, arith}
use Rattle.jc_base.specs.Cursor.{Read}
use Rattle.jc_base.proofs.Binding.{the_ok}
use Rattle.jc_cap.specs.MethodHeader.{next_header, next_short_header, next_extended_header, extended_flag}
use Rattle.jc_base.specs.Numbers.{has_flag}
use Rattle.jc_cap.specs.declared.method_header.MethodHeader.{MethodHeader}

short_within : (front : ℕ) (bytes : List ℕ) (x : Read MethodHeader) → next_short_header front bytes ≡ Ok x → length x.rest ≤ length bytes
unfolding next_short_header
short_within front bytes x h1 = grind (arith, the_ok)

extended_within : (front : ℕ) (bytes : List ℕ) (x : Read MethodHeader) → next_extended_header front bytes ≡ Ok x → length x.rest ≤ length bytes
unfolding next_extended_header
extended_within front bytes x h1 = grind (arith, the_ok)

pub header_within : (bytes : List ℕ) (x : Read MethodHeader) → next_header bytes ≡ Ok x → length x.rest ≤ length bytes
unfolding next_header
header_within [] x e = absurd cc
header_within (front ∷ bytes) x e = either (has_flag (front / 16) extended_flag) e
  where
    either : (b : Bool) → cond b (next_extended_header front bytes) (next_short_header front bytes) ≡ Ok x → length x.rest ≤ length (front ∷ bytes)
    either b h1 = grind (arith, extended_within, short_within)
