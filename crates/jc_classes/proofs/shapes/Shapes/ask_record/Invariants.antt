use Rattle.std.proofs.Common.{◌≡◌, ◌+◌, ◌<◌, ◌≤◌, ℕ}
use Rattle.jc_classes.specs.Methods.{record_visit}
use Rattle.jc_classes.specs.PrivateShape.{record_of}
use Rattle.jc_classes.specs.PrivateWalked.{IsFull, IsSameAt, IsVisited}
use Rattle.jc_classes.proofs.shapes.Shapes.ask_record.Given as goal

-- each place before was asked, and those from here on weren't yet
abbrev pub invariant-loop-place : goal.invariant-loop-place
invariant-loop-place l = record {
  full : IsFull l.walked;
  most : l.walked.most ≡ l.count;
  before : (i : ℕ) → i < l.place
      → IsVisited (record_visit l.self l.asker (l.first + i) l.home (record_of l.body)) l.fn.walked l.walked i;
  others : (i : ℕ) → l.place ≤ i → IsSameAt l.fn.walked l.walked i;
}
