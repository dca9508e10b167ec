-- Lines, cut at the first space.
use Rattle.std.proofs.Common.{◌≡◌, ℕ, ◌+◌, ◌-◌, ◌<◌, ◌≤◌, Bool, true, false, cond, List, [], ◌∷◌, length, take, drop, Some, None, ap, ◌∙◌, sym, refl, arith, nat_lt, ◌==◌}
use Rattle.std.specs.List.{position, position_or_len}
use Rattle.std.proofs.lemmas.List.{take_rest}
use Rattle.std.proofs.lemmas.List.Elements.{All-from_get_or}
use Rattle.std.proofs.lemmas.List.Quantifiers.{position-Some}
use Rattle.std.proofs.lemmas.List.Sums.{fails_before_first, position_or_len_is}
use Rattle.std.proofs.lemmas.List.Splits.{slice_split_first, slice_split_none}
use Rattle.jc_api.specs.Text.{words_of}

abbrev is_space : ℕ → Bool
is_space b = b == 32

-- at the first one the first word ends
pub cut_here : (line : List ℕ) (at : ℕ) → position is_space line ≡ Some at
    → words_of line ≡ take at line ∷ words_of (take (length line - (at + 1)) (drop (at + 1) line))
cut_here line at h =
    let s = position-Some is_space line at 0 h in
    let place : position_or_len is_space line ≡ at =
    position_or_len_is is_space line at 0 (omega (arith, s.0)) s.2 (λ _. s.1) in
    let within : position_or_len is_space line < length line = omega (arith, s.0) in
    slice_split_first is_space line 0 within
    ∙ ap (λ n. take n line ∷ words_of (drop (n + 1) line)) place
    ∙ ap (λ rest. take at line ∷ words_of rest) (sym (take_rest line (at + 1)))

-- with none the line is a word
pub cut_nowhere : (line : List ℕ) → position is_space line ≡ None → words_of line ≡ line ∷ []
cut_nowhere line h =
    let past : length line ≤ position_or_len is_space line =
    part (nat_lt (position_or_len is_space line) (length line)) refl h in
    slice_split_none is_space line
    (All-from_get_or (λ x. is_space x ≡ false) line 0 (λ k inside. fails_before_first is_space line k 0 (omega arith)))
  where
    part : (b : Bool) → nat_lt (position_or_len is_space line) (length line) ≡ b
        → cond b (Some (position_or_len is_space line)) None ≡ None → length line ≤ position_or_len is_space line
    part true e h = absurd cc
    part false e h = grind arith
