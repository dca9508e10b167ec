-- Bytes, cut at the first line feed.
use Rattle.std.proofs.Common.{◌≡◌, ℕ, zero, suc, ◌+◌, ◌<◌, ◌≤◌, ◌==◌, true, false, List, [], ◌∷◌, ◌++◌, length, take, drop}
use Rattle.std.proofs.Common.{Some, None, Bool, cond, get_or, nat_lt, subst, ap, ◌∙◌, sym, refl, arith, drop-cons, take_all}
use Rattle.std.specs.List.{position, position_or_len}
use Rattle.std.proofs.lemmas.List.{take-append-drop}
use Rattle.std.proofs.lemmas.List.Quantifiers.{position-Some}
use Rattle.std.proofs.lemmas.List.Sums.{fails_before_first}
use Rattle.std.proofs.Math.Seq.{drop-drop, drop-length, take-length}
use Rattle.jc_script.specs.PrivateReading.{EndsAmong, EndsPart, GoesOnPart, IsTooLong, NoFeed}
use Rattle.jc_script.specs.Reading.{SoFar}

front_feedless : (bytes : List ℕ) (count : ℕ) → ((k : ℕ) → k < count → (get_or bytes k 0 == 10) ≡ false)
    → NoFeed (take count bytes)
front_feedless bytes zero each = tt
front_feedless [] (suc count) each = tt
front_feedless (b ∷ bytes) (suc count) each =
    (each 0 (omega arith), front_feedless bytes count (λ k less. each (suc k) (omega (arith, less))))

-- what stands around the first line feed
pub front_of : (bytes : List ℕ) (at : ℕ) → position (λ b. b == 10) bytes ≡ Some at → NoFeed (take at bytes)
front_of bytes at is = front_feedless bytes at (position-Some (λ b. b == 10) bytes at 0 is).2

pub feed_at : (bytes : List ℕ) (at : ℕ) → position (λ b. b == 10) bytes ≡ Some at
    → bytes ≡ take at bytes ++ 10 ∷ drop 1 (drop at bytes)
feed_at bytes at is =
    let found = position-Some (λ b. b == 10) bytes at 0 is in
    sym (take-append-drop at bytes)
    ∙ ap (λ (l : List ℕ). take at bytes ++ l)
    (begins_with (drop at bytes) (get_or bytes at 0) (drop (suc at) bytes) (drop-cons bytes at 0 found.0) (grind (arith, found.1)))
  where
    begins_with : (l : List ℕ) (b : ℕ) (rest : List ℕ) → l ≡ b ∷ rest → b ≡ 10 → l ≡ 10 ∷ drop 1 l
    begins_with [] b rest e is = absurd cc
    begins_with (x ∷ xs) b rest e is = let same : x ≡ 10 = cc in ap (λ n. n ∷ xs) same

pub feed_there : (bytes : List ℕ) (at : ℕ) → position (λ b. b == 10) bytes ≡ Some at → at < length bytes
feed_there bytes at is = (position-Some (λ b. b == 10) bytes at 0 is).0

pub skipped_to : (before after : List ℕ) (at : ℕ) → position (λ b. b == 10) before ≡ Some at
    → after ≡ drop (at + 1) before → EndsAmong before after
skipped_to before after at is rest = record {
  piece = take at before;
  are = feed_at before at is ∙ ap (λ l. take at before ++ 10 ∷ l) (drop-drop 1 at before ∙ sym rest);
  feedless = front_of before at is;
}

-- where there is none
past_all : (place count : ℕ) (b : Bool) → nat_lt place count ≡ b → cond b (Some place) None ≡ None → count ≤ place
past_all place count true e h = absurd cc
past_all place count false e h = grind arith

pub all_of : (bytes : List ℕ) → position (λ b. b == 10) bytes ≡ None → NoFeed bytes
all_of bytes is =
    let first = position_or_len (λ b. b == 10) bytes in
    let past = past_all first (length bytes) (nat_lt first (length bytes)) refl is in
    subst NoFeed (take_all (length bytes) bytes (omega arith))
    (front_feedless bytes (length bytes)
    (λ k less. fails_before_first (λ b. b == 10) bytes k 0 (omega (arith, less, past))))

-- ---- a part of a line

module _ (before after : SoFar) (count : ℕ) (taken : after.unread ≡ drop count before.unread) where
  pub too_long : NoFeed (take count before.unread) → 1024 < length (before.line ++ take count before.unread)
      → IsTooLong before after
  too_long feedless long = record {
    piece = take count before.unread;
    unread = sym (take-append-drop count before.unread) ∙ ap (λ l. take count before.unread ++ l) (sym taken);
    feedless = feedless;
    long = long;
  }

  pub all_too_long : count ≡ length before.unread → NoFeed before.unread
      → 1024 < length (before.line ++ take count before.unread) → IsTooLong before after
  all_too_long all feedless long =
      too_long (subst NoFeed (sym (ap (λ n. take n before.unread) all ∙ take-length before.unread)) feedless) long

  pub goes_on : count ≡ length before.unread → NoFeed before.unread
      → after.line ≡ before.line ++ take count before.unread → GoesOnPart before after
  goes_on all feedless line = record {
    unread = taken ∙ ap (λ n. drop n before.unread) all ∙ drop-length before.unread;
    feedless = feedless;
    line = line ∙ ap (λ l. before.line ++ l) (ap (λ n. take n before.unread) all ∙ take-length before.unread);
  }

pub line_ends : (before after : SoFar) (at : ℕ) → position (λ b. b == 10) before.unread ≡ Some at
    → after.unread ≡ drop 1 (drop at before.unread) → after.line ≡ before.line ++ take at before.unread
    → length after.line ≤ 1024 → EndsPart before after
line_ends before after at is taken line short = record {
  piece = take at before.unread;
  unread = feed_at before.unread at is ∙ ap (λ l. take at before.unread ++ 10 ∷ l) (sym taken);
  feedless = front_of before.unread at is;
  line = line;
  short = short;
}
