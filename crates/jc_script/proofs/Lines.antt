-- The parts of reading a line, one behind the other.
use Rattle.std.proofs.Common.{◌≡◌, ℕ, ◌<◌, ◌≤◌, List, [], ◌∷◌, ◌++◌, length, Option, Some, None, Result, Ok, Err}
use Rattle.std.proofs.Common.{ap, ◌∙◌, sym, arith, append_assoc, append-nil}
use Rattle.std.specs.Io.KnownBytes.{Consumes, IsAtEnd}
use Rattle.std.proofs.lemmas.List.{length-append}
use Rattle.std.specs.Prelude.{IfOk}
use Rattle.jc_script.proofs.Feeds.{feedless_append, line_begins, line_last, line_off, no_lines, some_line}
use Rattle.jc_script.specs.PrivateReading.{AreSoFar, EndsPart, GoesOnPart, IsSoFar, IsTooLong}
use Rattle.jc_script.specs.PrivateReading.{NoFeed, ReadsKnown, ReadsOn, TellsKnown, TellsMore, told_last}
use Rattle.jc_script.specs.Reading.{SoFar, Tells, TellsOf, pending}
use Rattle.jc_script.specs.Script.{lines_of, most_in_line, most_lines}
use Rattle.jc_script.specs.declared.reader.NextLine.{NextLine}
use Rattle.jc_script.specs.declared.reader.NextLine.TheVariants as next

-- ---- parts behind each other

joined : (line piece middle k : List ℕ) → line ++ ((piece ++ middle) ++ k) ≡ (line ++ piece) ++ (middle ++ k)
joined line piece middle k =
    ap (λ l. line ++ l) (append_assoc piece middle k) ∙ sym (append_assoc line piece (middle ++ k))

ended_lines : (bytes k : List ℕ) (now after : SoFar) → IsSoFar bytes now.line (now.unread ++ k) → EndsPart now after
    → lines_of bytes ≡ after.line ∷ lines_of (after.unread ++ k)
ended_lines bytes k now after s e =
    ap lines_of
    (s.bytes_are ∙ ap (λ l. now.line ++ (l ++ k)) e.unread ∙ joined now.line e.piece (10 ∷ after.unread) k)
    ∙ line_off (now.line ++ e.piece) (after.unread ++ k) (feedless_append now.line e.piece s.feedless e.feedless)
    ∙ ap (λ l. l ∷ lines_of (after.unread ++ k)) (sym e.line)

pub ended : (before known : Option (List ℕ)) (now after : SoFar) → AreSoFar before now.line (pending now.unread known)
    → EndsPart now after → ReadsOn after.line before (pending after.unread known) next.Line
ended None known now after s e = tt
ended (Some bytes) None now after s e = absurd s
ended (Some bytes) (Some k) now after s e = (ended_lines bytes k now after s e, e.short)

-- a first line of bytes that begin with a long one
pub record IsLongFirst (bytes : List ℕ) : Type 0 where
  pub first : List ℕ
  pub others : List (List ℕ)
  pub are : lines_of bytes ≡ first ∷ others
  pub long : most_in_line < length first

long_first : (front rest : List ℕ) → NoFeed front → most_in_line < length front → IsLongFirst (front ++ rest)
long_first [] rest f l = absurd (omega (arith, l))
long_first (b ∷ front) rest f l =
    let begins = line_begins b front rest f in
    let more = length-append (b ∷ front) begins.more in record {
      first = (b ∷ front) ++ begins.more;
      others = begins.others;
      are = begins.are;
      long = omega (arith, more, l);
    }

long_known : (bytes k line : List ℕ) (now after : SoFar) → IsSoFar bytes now.line (now.unread ++ k)
    → IsTooLong now after → ReadsKnown line bytes (after.unread ++ k) next.Bad
long_known bytes k line now after s t = record {
  front = now.line ++ t.piece;
  are = s.bytes_are ∙ ap (λ l. now.line ++ (l ++ k)) t.unread ∙ joined now.line t.piece after.unread k;
  feedless = feedless_append now.line t.piece s.feedless t.feedless;
  long = t.long;
}

pub long_line : (before known : Option (List ℕ)) (now after : SoFar)
    → AreSoFar before now.line (pending now.unread known) → IsTooLong now after
    → ReadsOn after.line before (pending after.unread known) next.Bad
long_line None known now after s t = tt
long_line (Some bytes) None now after s t = absurd s
long_line (Some bytes) (Some k) now after s t = long_known bytes k after.line now after s t

-- all that was read belongs to the line, and more came
more_known : (bytes k more unread : List ℕ) (now after : SoFar) → IsSoFar bytes now.line (now.unread ++ k)
    → GoesOnPart now after → k ≡ unread ++ more → IsSoFar bytes after.line (unread ++ more)
more_known bytes k more unread now after s g u = record {
  bytes_are = s.bytes_are ∙ ap (λ l. now.line ++ (now.unread ++ l)) u
      ∙ sym (append_assoc now.line now.unread (unread ++ more)) ∙ ap (λ l. l ++ (unread ++ more)) (sym g.line);
  feedless = rw g.line (feedless_append now.line now.unread s.feedless g.feedless);
}

pub goes_on : (before known after_known : Option (List ℕ)) (now after : SoFar) (unread line : List ℕ)
    → AreSoFar before now.line (pending now.unread known) → GoesOnPart now after → Consumes known after_known unread
    → line ≡ after.line → AreSoFar before line (pending unread after_known)
goes_on None known after_known now after unread line s g u same = tt
goes_on (Some bytes) None after_known now after unread line s g u same = absurd s
goes_on (Some bytes) (Some k) None now after unread line s g u same = absurd u
goes_on (Some bytes) (Some k) (Some more) now after unread line s g u same =
    rw same (more_known bytes k more unread now after s g u)

-- what is left is the last line, if it has a byte
last_line : (bytes : List ℕ) (b : ℕ) (line : List ℕ) → IsSoFar bytes (b ∷ line) []
    → lines_of bytes ≡ (b ∷ line) ∷ lines_of []
last_line bytes b line s =
    ap lines_of (s.bytes_are ∙ append-nil (b ∷ line)) ∙ line_last b line s.feedless
    ∙ ap (λ l. (b ∷ line) ∷ l) (sym no_lines)

last_known : (bytes line : List ℕ) → IsSoFar bytes line [] → length line ≤ most_in_line
    → ReadsKnown line bytes [] (told_last line)
last_known bytes [] s short = ap lines_of s.bytes_are ∙ no_lines
last_known bytes (b ∷ line) s short = (last_line bytes b line s, short)

pub at_end : (before known : Option (List ℕ)) (line unread : List ℕ) → AreSoFar before line (pending unread known)
    → IsAtEnd known → unread ≡ [] → length line ≤ most_in_line
    → ReadsOn line before (pending unread known) (told_last line)
at_end None known line unread s e u short = tt
at_end (Some bytes) None line unread s e u short = absurd s
at_end (Some bytes) (Some k) line unread s e u short =
    let none : (unread ++ k) ≡ [] = ap (λ l. l ++ k) u ∙ e in
    rw none (last_known bytes line (rw none at s) short)

-- ---- the line with a number

told_known : (number : ℕ) (line bytes rest : List ℕ) (told : NextLine) → number ≤ most_lines
    → ReadsKnown line bytes rest told → TellsOf number line bytes rest told
told_known number line bytes rest next.Line few r = record { lines = r.0; short = r.1; few = few }
told_known number line bytes rest next.End few r = r
told_known number line bytes rest next.Bad few r =
    let long = long_first r.front rest r.feedless r.long in record {
      first = long.first;
      others = long.others;
      are = ap lines_of r.are ∙ long.are;
      unread = grind (arith, long.long);
    }

pub told_short : (number : ℕ) (line : List ℕ) (before after : Option (List ℕ)) → number ≤ most_lines
    → (told : NextLine) → ReadsOn line before after told → Tells number line before after told
told_short number line None after few told r = tt
told_short number line (Some bytes) None few told r = absurd r
told_short number line (Some bytes) (Some rest) few told r = told_known number line bytes rest told few r

past_known : (number : ℕ) (line bytes rest : List ℕ) (told : NextLine) → most_lines < number → TellsKnown bytes told
    → TellsOf number line bytes rest told
past_known number line bytes rest next.Line past t = absurd t
past_known number line bytes rest next.End past t = ap lines_of t ∙ no_lines
past_known number line [] rest next.Bad past t = absurd (omega (arith, t))
past_known number line (b ∷ bytes) rest next.Bad past t =
    let some = some_line b bytes in record {
      first = some.first;
      others = some.others;
      are = some.are;
      unread = grind (arith, past);
    }

pub told_past : (number : ℕ) (line : List ℕ) (before after : Option (List ℕ)) → most_lines < number
    → (told : NextLine) → TellsMore before after told → Tells number line before after told
told_past number line None after past told t = tt
told_past number line (Some bytes) None past told t = absurd t
told_past number line (Some bytes) (Some rest) past told t = past_known number line bytes rest told past t

-- ---- results

pub if_ok : {A E : Type 0} (P Q : A → Type 0) (r : Result A E) → ((x : A) → P x → Q x) → IfOk r P → IfOk r Q
if_ok P Q (Ok x) f h = f x h
if_ok P Q (Err e) f h = tt
