-- The rest of a line that is too long.
use Rattle.std.proofs.Common.{◌≡◌, ℕ, ◌<◌, List, [], ◌∷◌, ◌++◌, length}
use Rattle.std.proofs.Common.{Option, Some, None, ap, ◌∙◌, sym}
use Rattle.std.proofs.Common.{arith, append_assoc, append-nil, subst}
use Rattle.std.specs.Io.KnownBytes.{Consumes}
use Rattle.std.proofs.lemmas.List.{length-append}
use Rattle.jc_script.proofs.Feeds.{feedless_append, line_last, line_off, no_lines}
use Rattle.jc_script.specs.PrivateReading.{ArePast, AreSkipped, BeginsLong, EndsAmong, IsPast, IsSkipped, NoFeed}
use Rattle.jc_script.specs.PrivateReading.{ReadsKnown, ReadsOn}
use Rattle.jc_script.specs.PrivateReading.IsSkipped.{at_end, at_feed}
use Rattle.jc_script.specs.Reading.{SkipsLine, TellsInSession, TellsOfSession, pending}
use Rattle.jc_script.specs.Script.{lines_of, most_in_line}
use Rattle.jc_script.specs.declared.reader.NextLine.{NextLine}
use Rattle.jc_script.specs.declared.reader.NextLine.TheVariants as next

-- ---- bytes that were passed

pub all_taken : (before left : List ℕ) → IsPast before left → left ≡ [] → NoFeed before
all_taken before left p none =
    subst NoFeed (sym (p.are ∙ ap (λ l. p.piece ++ l) none ∙ append-nil p.piece)) p.feedless

-- ---- parts behind each other

more_past : (bytes unread k more came : List ℕ) → IsPast bytes (unread ++ k) → NoFeed unread → k ≡ came ++ more
    → IsPast bytes (came ++ more)
more_past bytes unread k more came p f is = record {
  piece = p.piece ++ unread;
  are = p.are ∙ ap (λ l. p.piece ++ (unread ++ l)) is ∙ sym (append_assoc p.piece unread (came ++ more));
  feedless = feedless_append p.piece unread p.feedless f;
}

pub goes_past : (before known after : Option (List ℕ)) (unread came : List ℕ) → ArePast before (pending unread known)
    → NoFeed unread → Consumes known after came → ArePast before (pending came after)
goes_past None known after unread came p f c = tt
goes_past (Some bytes) None after unread came p f c = absurd p
goes_past (Some bytes) (Some k) None unread came p f c = absurd c
goes_past (Some bytes) (Some k) (Some more) unread came p f c = more_past bytes unread k more came p f c

feed_found : (bytes unread k after : List ℕ) → IsPast bytes (unread ++ k) → EndsAmong unread after
    → EndsAmong bytes (after ++ k)
feed_found bytes unread k after p e = record {
  piece = p.piece ++ e.piece;
  are = p.are ∙ ap (λ l. p.piece ++ (l ++ k)) e.are ∙ ap (λ l. p.piece ++ l) (append_assoc e.piece (10 ∷ after) k)
      ∙ sym (append_assoc p.piece e.piece (10 ∷ after ++ k));
  feedless = feedless_append p.piece e.piece p.feedless e.feedless;
}

pub skipped_here : (before known : Option (List ℕ)) (unread after : List ℕ) → ArePast before (pending unread known)
    → EndsAmong unread after → AreSkipped before (pending after known)
skipped_here None known unread after p e = tt
skipped_here (Some bytes) None unread after p e = absurd p
skipped_here (Some bytes) (Some k) unread after p e = at_feed (feed_found bytes unread k after p e)

-- ---- a line of a session

longer : (front piece : List ℕ) → most_in_line < length front → most_in_line < length (front ++ piece)
longer front piece long = let n = length-append front piece in omega (arith, n, long)

last_line : (front piece : List ℕ) → NoFeed front → NoFeed piece → most_in_line < length front
    → lines_of (front ++ piece) ≡ (front ++ piece) ∷ []
last_line [] piece f g long = absurd (omega (arith, long))
last_line (b ∷ front) piece f g long = line_last b (front ++ piece) (feedless_append (b ∷ front) piece f g)

skipped_line : (bytes mid rest : List ℕ) → BeginsLong bytes mid → IsSkipped mid rest → SkipsLine bytes rest
skipped_line bytes mid rest b (at_feed e) = record {
  first = b.front ++ e.piece;
  lines = ap lines_of (b.are ∙ ap (λ l. b.front ++ l) e.are ∙ sym (append_assoc b.front e.piece (10 ∷ rest)))
      ∙ line_off (b.front ++ e.piece) rest (feedless_append b.front e.piece b.feedless e.feedless);
  long = longer b.front e.piece b.long;
}
skipped_line bytes mid rest b (at_end f none) = record {
  first = b.front ++ mid;
  lines = ap lines_of b.are ∙ last_line b.front mid b.feedless f b.long
      ∙ ap (λ l. (b.front ++ mid) ∷ l) (sym (ap lines_of none ∙ no_lines));
  long = longer b.front mid b.long;
}

pub told_skipped : (line last : List ℕ) (before mid after : Option (List ℕ)) (told : NextLine) → told ≡ next.Bad
    → ReadsOn line before mid told → AreSkipped mid after → TellsInSession last before after told
told_skipped line last None mid after told is r s = tt
told_skipped line last (Some bytes) None after told is r s = absurd r
told_skipped line last (Some bytes) (Some m) None told is r s = absurd s
told_skipped line last (Some bytes) (Some m) (Some rest) told is r s =
    subst (TellsOfSession last bytes rest) (sym is) (skipped_line bytes m rest (subst (ReadsKnown line bytes m) is r) s)
