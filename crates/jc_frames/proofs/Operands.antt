-- The operands in use of the frame at a place, and the words that hold them.
use Rattle.std.proofs.Common.{◌≡◌, ◌⊎◌, ℕ, suc, ◌+◌, ◌-◌, ◌<◌, ◌≤◌, min, inl, inr, true, false, if◌then◌else◌}
use Rattle.std.proofs.Common.{nat_lt, nat_le, List, [], ◌∷◌, ◌++◌, length, take, drop, reverse, set, refl, sym, ap}
use Rattle.std.proofs.Common.{◌≡◌, ◌∙◌, arith, subst}
use Rattle.std.proofs.lemmas.Bool.{lt-ltb}
use Rattle.std.proofs.lemmas.Bool.Decides.{leb_tells}
use Rattle.std.proofs.lemmas.List.{append_assoc, length-append, length-drop}
use Rattle.std.proofs.lemmas.List.{length-reverse, length-take, length-take-le, reverse-append, reverse-reverse}
use Rattle.std.proofs.lemmas.List.{set_split, take-append-drop}
use Rattle.jc_frames.specs.Frames.{Frame}
use Rattle.jc_frames.specs.Operands.{dropped, in_use, pushed, with_in_use}
use Rattle.jc_frames.specs.PrivateLaid.{IsChanged, IsWithin, frame_in, part}
use Rattle.jc_frames.specs.declared.place.FramePlace.{FramePlace}
use Rattle.jc_frames.proofs.Places.{more_first}
use Rattle.jc_frames.proofs.Words.{drop_first, drop_past, drop_twice, left_in_part, part_before, part_length}
use Rattle.jc_frames.proofs.Words.{take_both, take_first, take_less, take_long}

-- ---- lists

take_twice : (n m : ℕ) (xs : List ℕ) → take n (take m xs) ≡ take (min n m) xs
take_twice n m xs = which (leb_tells n m)
  where
    which : ((nat_le n m ≡ true) × (n ≤ m)) ⊎ ((nat_le n m ≡ false) × (m < n))
        → take n (take m xs) ≡ take (min n m) xs
    which h1 = grind (arith, min, take_less, take_long, length-take)

-- what was put before the rest of a part
put_part : (new words : List ℕ) (n : ℕ) → length new ≤ n
    → take n (new ++ drop (length new) words) ≡ new ++ drop (length new) (take n words)
put_part new words n le = grind (arith, left_in_part, take_long, length-append, length-drop, length-take)

-- without the first of a list in reverse
pub drop_reversed : (xs : List ℕ) (d count : ℕ) → d ≤ length xs
    → reverse (take (d - count) xs) ≡ drop count (reverse (take d xs))
drop_reversed xs d count le = which (leb_tells count d)
  where
    which : ((nat_le count d ≡ true) × (count ≤ d)) ⊎ ((nat_le count d ≡ false) × (d < count))
        → reverse (take (d - count) xs) ≡ drop count (reverse (take d xs))
    which (inl h) =
        let few = h.1 in
        let rest : ℕ = d - count in
        let whole : rest + count ≡ d = omega (arith, few) in
        let upper : List ℕ = take count (drop rest xs) in
        let l : length (reverse upper) ≡ count =
        length-reverse upper ∙ length-take-le count (drop rest xs)
        (let m = length-drop rest xs in omega (arith, m, le, few)) in
        sym (
        ap (λ k. drop count (reverse (take k xs))) (sym whole)
        ∙ ap (λ ys. drop count (reverse ys)) (sym (take_both xs rest count))
        ∙ ap (drop count) (reverse-append (take rest xs) upper)
        ∙ ap (λ k. drop k (reverse upper ++ reverse (take rest xs))) (sym l)
        ∙ drop_first (reverse upper) (reverse (take rest xs))
        )
    which (inr h) =
        let many = h.1 in
        let none : d - count ≡ 0 = omega (arith, many) in
        ap (λ k. reverse (take k xs)) none
        ∙ sym (drop_past (reverse (take d xs)) count
        (let l = length-reverse (take d xs) in let k = length-take-le d xs le in omega (arith, l, k, many)))

-- ---- the frame at a place; where its operands begin, and how many are in use

module _ (p : FramePlace) (words : List ℕ) (within : IsWithin p words) (from d : ℕ)
    (from_is : from ≡ p.start + p.locals) (d_is : d ≡ min p.header.depth p.operands) where
  abbrev f : Frame
  f = frame_in words p

  left_length : length (drop from words) ≡ length words - from
  left_length = length-drop from words

  pub room_is : length f.operands ≡ p.operands
  room_is = part_length words (p.start + p.locals) p.operands within

  pub in_use_are : in_use f ≡ reverse (take d (drop from words))
  in_use_are = grind (arith, reverse, take_twice)

  pub used_length : length (take d (drop from words)) ≡ d
  used_length = let l = left_length in length-take-le d (drop from words) (omega (arith, l, within, from_is, d_is))

  pub in_use_count : length (in_use f) ≡ d
  in_use_count = ap (λ (xs : List ℕ). length xs) in_use_are ∙ length-reverse (take d (drop from words)) ∙ used_length

  -- other operands in use, as words
  module _ (change : Frame → Frame) (n : ℕ) (ws new others : List ℕ) (fits : n ≤ p.operands) (count : length new ≡ n)
      (turned : reverse new ≡ ws)
      (is : change f ≡ with_in_use f ws) (are : others ≡ take from words ++ (new ++ drop n (drop from words))) where
    start_length : length (take from words) ≡ from
    start_length = length-take-le from words (omega (arith, within, from_is))

    same_before : take from others ≡ take from words
    same_before = grind (arith, start_length, take_first)

    behind : drop from others ≡ new ++ drop (length new) (drop from words)
    behind = grind (arith, start_length, drop_first)

    back : new ≡ reverse ws
    back = sym (reverse-reverse new) ∙ ap reverse turned

    count_is : length new ≡ length ws
    count_is = ap (λ (xs : List ℕ). length xs) back ∙ length-reverse ws

    locals_are : part others p.start p.locals ≡ part words p.start p.locals
    locals_are =
        sym (part_before others p.start p.locals from (omega (arith, from_is)))
        ∙ ap (λ xs. part xs p.start p.locals) same_before
        ∙ part_before words p.start p.locals from (omega (arith, from_is))

    operands_are : part others (p.start + p.locals) p.operands ≡ reverse ws ++ drop (length ws) f.operands
    operands_are = grind (arith, behind, put_part, count_is, back)

    pub part_changed : IsChanged change p words (record p { header = record p.header { depth = n } }) others
    part_changed = record {
      frame =
          ap (λ k. record {
            header = record p.header { depth = k };
            locals = part others p.start p.locals;
            operands =
                part others (p.start + p.locals) p.operands;
          }) (sym count ∙ count_is)
          ∙ ap (λ xs. record {
            header = record p.header { depth = length ws };
            locals = xs;
            operands = part others
                (p.start + p.locals) p.operands;
          }) locals_are
          ∙ ap (λ xs. record {
            header = record p.header { depth = length ws };
            locals = part words p.start p.locals;
            operands = xs;
          }) operands_are
          ∙ sym is;
      before = sym (take_less others p.start from (omega (arith, from_is))) ∙ ap (take p.start) same_before
          ∙ take_less words p.start from (omega (arith, from_is));
      start = refl;
      locals = refl;
      operands = refl;
    }

  pub push_changed : (word : ℕ) → d < p.operands
      → IsChanged (pushed word) p words (record p { header = record p.header { depth = d + 1 } })
      (set words (from + d) word)
  push_changed word lt =
      let used : List ℕ = take d (drop from words) in
      let n : ℕ = d + 1 in
      let l = used_length in
      let len : length (used ++ word ∷ []) ≡ n = let k = length-append used (word ∷ []) in omega (arith, k, l) in
      let room = room_is in
      let count = in_use_count in
      let test : nat_lt (length (in_use f)) (length f.operands)
      ≡ true = lt-ltb (length (in_use f)) (length f.operands) (omega (arith, room, count, lt)) in
      let next : suc (from + d) ≡ from + n = omega arith in
      part_changed (pushed word) n (word ∷ in_use f) (used ++ word ∷ []) (set words (from + d) word)
      (omega (arith, lt)) len
      (more_first used word ∙ ap (λ xs. word ∷ xs) (sym in_use_are))
      (ap (λ b. if b then with_in_use f (word ∷ in_use f) else f) test)
      (set_split words (from + d) word (omega (arith, within, from_is, lt))
      ∙ ap (λ xs. xs ++ word ∷ drop (suc (from + d)) words) (sym (take_both words from d))
      ∙ append_assoc (take from words) used (word ∷ drop (suc (from + d)) words)
      ∙ ap (λ xs. take from words ++ (used ++ word ∷ xs)) (ap (λ k. drop k words) next ∙ drop_twice words from n)
      ∙ ap (λ xs. take from words ++ xs) (sym (append_assoc used (word ∷ []) (drop n (drop from words)))))

  pub drop_changed : (count n : ℕ) → n ≡ d - count
      → IsChanged (dropped count) p words (record p { header = record p.header { depth = n } }) words
  drop_changed count n is =
      let l = left_length in
      part_changed (dropped count) n (drop count (in_use f)) (take n (drop from words)) words
      (omega (arith, is, d_is))
      (length-take-le n (drop from words) (omega (arith, l, is, d_is, within, from_is)))
      (ap (λ k. reverse (take k (drop from words))) is
      ∙ drop_reversed (drop from words) d count (omega (arith, l, d_is, within, from_is))
      ∙ ap (drop count) (sym in_use_are))
      refl (sym (ap (λ xs. take from words ++ xs) (take-append-drop n (drop from words))
      ∙ take-append-drop from words))

-- a change behind another
pub then_changed : (f g : Frame → Frame) (p q r : FramePlace) (words between after : List ℕ)
    → IsChanged f p words q between → IsChanged g q between r after → IsChanged (λ x. g (f x)) p words r after
then_changed f g p q r words between after one two = record {
  frame = two.frame ∙ ap g one.frame;
  before = subst (λ (n : ℕ). take n after ≡ take n between) one.start two.before ∙ one.before;
  start = two.start ∙ one.start;
  locals = two.locals ∙ one.locals;
  operands = two.operands ∙ one.operands;
}
