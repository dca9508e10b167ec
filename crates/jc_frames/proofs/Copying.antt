-- Words that are copied to where others stand, one by one.
use Rattle.std.proofs.Common.{◌≡◌, ℕ, ◌+◌, ◌<◌, ◌≤◌, List, ◌++◌, length, take, drop, set, get_or, sym, ap, ◌∙◌, add-one, arith}
use Rattle.std.proofs.Math.Seq.{paste, paste-suc}
use Rattle.std.proofs.lemmas.List.{append_assoc, get_or-drop, get_or-take, get_or_append_left, length-append, length-drop, length-take-le}
use Rattle.jc_frames.specs.PrivateLaid.{part, put_at}

module _ (words : List ℕ) (from start : ℕ) where
  -- what is read is what stood there
  pub source_kept : (n d : ℕ) → from + n < start → start ≤ length words
      → get_or (paste words start (drop from words) n) (from + n) d ≡ get_or (drop from words) n d
  source_kept n d before within =
      grind (
        arith,
        length-take-le start words within,
        length-append (take start words) (take n (drop from words)),
        get_or_append_left,
        get_or-take,
        get_or-drop,
      )

  pub copied_more : (n d : ℕ) → from + n < start → start + n < length words
      → set (paste words start (drop from words) n) (start + n) (get_or (paste words start (drop from words) n) (from + n) d)
      ≡ paste words start (drop from words) (n + 1)
  copied_more n d before within =
      ap (set (paste words start (drop from words) n) (start + n)) (source_kept n d before (omega arith))
      ∙ paste-suc words start (drop from words) n d within (omega (arith, length-drop from words))
      ∙ ap (paste words start (drop from words)) (sym (add-one n))

  pub all_copied : (n : ℕ) → from + n ≤ start → start + n ≤ length words
      → paste words start (drop from words) n ≡ put_at words start (part words from n)
  all_copied n before within =
      append_assoc (take start words) (take n (drop from words)) (drop (start + n) words)
      ∙ ap (λ k. take start words ++ (take n (drop from words) ++ drop (start + k) words))
      (sym (length-take-le n (drop from words) (omega (arith, length-drop from words))))
