-- Bytes, cut at the first separator.
use Rattle.std.proofs.Common.{◌≡◌, ℕ, ◌+◌, ◌-◌, ◌<◌, ◌≤◌, Bool, true, false, cond, List, [], ◌∷◌, length, take, drop, Some, None, ap, ◌∙◌, sym, refl, arith, nat_lt, ◌==◌}
use Rattle.std.specs.List.{position, position_or_len}
use Rattle.std.proofs.lemmas.List.{take_rest}
use Rattle.std.proofs.lemmas.List.Elements.{All-from_get_or}
use Rattle.std.proofs.lemmas.List.Quantifiers.{position-Some}
use Rattle.std.proofs.lemmas.List.Sums.{fails_before_first, position_or_len_is}
use Rattle.std.proofs.lemmas.List.Splits.{slice_split_first, slice_split_none}
use Rattle.jc_api.specs.Text.{pieces}

pub cut_here : (separator : ℕ) (bytes : List ℕ) (at : ℕ) → position (λ b. b == separator) bytes ≡ Some at → pieces separator bytes ≡ take at bytes ∷ pieces separator (take (length bytes - (at + 1)) (drop (at + 1) bytes))
cut_here separator bytes at h =
    let p : ℕ → Bool = λ b. b == separator in
    let s = position-Some p bytes at 0 h in
    let place : position_or_len p bytes ≡ at = position_or_len_is p bytes at 0 (omega (arith, s.0)) s.2 (λ _. s.1) in
    let within : position_or_len p bytes < length bytes = omega (arith, s.0) in
    slice_split_first p bytes 0 within
    ∙ ap (λ n. take n bytes ∷ pieces separator (drop (n + 1) bytes)) place
    ∙ ap (λ rest. take at bytes ∷ pieces separator rest) (sym (take_rest bytes (at + 1)))

pub cut_nowhere : (separator : ℕ) (bytes : List ℕ) → position (λ b. b == separator) bytes ≡ None → pieces separator bytes ≡ bytes ∷ []
cut_nowhere separator bytes h =
    let p : ℕ → Bool = λ b. b == separator in
    let past : length bytes ≤ position_or_len p bytes = part p (nat_lt (position_or_len p bytes) (length bytes)) refl h in
    slice_split_none p bytes (All-from_get_or (λ x. p x ≡ false) bytes 0 (λ k inside. fails_before_first p bytes k 0 (omega arith)))
  where
    part : (p : ℕ → Bool) (b : Bool) → nat_lt (position_or_len p bytes) (length bytes) ≡ b → cond b (Some (position_or_len p bytes)) None ≡ None → length bytes ≤ position_or_len p bytes
    part p true e h = absurd cc
    part p false e h = grind arith
