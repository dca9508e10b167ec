-- Bytes in several words, one word more at a time.
use Rattle.std.proofs.Common.{◌≡◌, ℕ, ◌+◌, ◌-◌, ◌<◌, ◌≤◌, List, [], ◌∷◌, ◌++◌, drop, length, take}
use Rattle.std.proofs.Common.{Option, Some, None, IfSome, true, cond, nat_le, ap, sym, refl, ◌∙◌, arith}
use Rattle.std.proofs.lemmas.List.{length-drop, length-take-le, take-append-le}
use Rattle.std.proofs.Math.Seq.{take-append-add}
use Rattle.jc_api.specs.Options.{◌>>=◌}
use Rattle.jc_script.specs.Script.{bytes_of, joined_behind, most_bytes}
use borrow.Rule.Slice.PartMut.{mid_of, post_of, put_mid}

-- how long a room's part behind its first bytes is
pub part_left : (room : List ℕ) (count size : ℕ) → count ≤ size → length room ≡ size
    → count + length (mid_of count (size - count) room) ≡ size
part_left room count size within are =
    let rest = length-drop count room in
    let part = length-take-le (size - count) (drop count room) (omega (arith, rest)) in
    omega (arith, part)

-- the front of a part that was written comes behind what stood in front of the part
put_behind : (room part : List ℕ) (count k more : ℕ) → count ≤ length room → more ≤ length part
    → take (count + more) (put_mid count k room part) ≡ take count room ++ take more part
put_behind room part count k more within fits =
    let front = take count room in
    let rest = part ++ post_of count k room in
    ap (λ n. take (n + more) (front ++ rest)) (sym (length-take-le count room within))
    ∙ take-append-add front rest more
    ∙ ap (λ l. front ++ l) (take-append-le more part (post_of count k room) fits)

-- what bytes come to behind others, with the words that are left
abbrev then_joined : List ℕ → List (List ℕ) → List ℕ → Option (List ℕ)
then_joined before words bytes =
    cond (nat_le (length before + length bytes) most_bytes) (joined_behind (before ++ bytes) words) None

fitting : (before bytes : List ℕ) (words : List (List ℕ)) → length before + length bytes ≤ 512
    → then_joined before words bytes ≡ joined_behind (before ++ bytes) words
fitting before bytes words fits =
    let yes : nat_le (length before + length bytes) most_bytes ≡ true = grind arith in rw yes refl

too_many : (before : List ℕ) (words : List (List ℕ)) (left : ℕ) (o : Option (List ℕ)) → 512 ≤ length before + left
    → IfSome o (λ bytes. left < length bytes) → (o >>= then_joined before words) ≡ None
too_many before words left (Some bytes) full more = grind (arith, more)
too_many before words left None full more = refl

pub all_joined : (before : List ℕ) (words : List (List ℕ)) → words ≡ [] → joined_behind before words ≡ Some before
unfolding joined_behind
all_joined before words none = rw none refl

module _ (room : List ℕ) (count : ℕ) (words : List (List ℕ)) (word : List ℕ) (more : List (List ℕ))
    (are : words ≡ word ∷ more) (within : count ≤ length room) where
  pub one_joined : (part : List ℕ) (k n : ℕ) → bytes_of word ≡ Some (take n part) → n ≤ length part → count + n ≤ 512
      → joined_behind (take count room) words ≡ joined_behind (take (count + n) (put_mid count k room part)) more
  unfolding joined_behind
  one_joined part k n spelled fits few =
      let front = length-take-le count room within in
      let behind = length-take-le n part fits in
      ap (joined_behind (take count room)) are
      ∙ ap (λ o. o >>= then_joined (take count room) more) spelled
      ∙ fitting (take count room) (take n part) more (omega (arith, front, behind))
      ∙ ap (λ l. joined_behind l more) (sym (put_behind room part count k n within fits))

  pub none_joined : (left : ℕ) → 512 ≤ count + left → IfSome (bytes_of word) (λ bytes. left < length bytes)
      → None ≡ joined_behind (take count room) words
  unfolding joined_behind
  none_joined left full refused =
      let front = length-take-le count room within in
      sym (ap (joined_behind (take count room)) are
      ∙ too_many (take count room) more left (bytes_of word) (omega (arith, front, full)) refused)
