use Rattle.std.proofs.Common.{List, None}
use Rattle.jc_code.specs.Listing.{PlacedInstr}
use Rattle.jc_verify.specs.PrivateLive.{IsFollowed, IsGround, left_of}
use Rattle.jc_verify.proofs.entries.follow_all.Given as goal

abbrev pub invariant-loop-pc : goal.invariant-loop-pc
invariant-loop-pc l = (listing : List PlacedInstr) → IsGround l.method listing l.starts → IsFollowed l.method listing None l.followed

abbrev pub decreases-loop-pc : goal.decreases-loop-pc
decreases-loop-pc l = left_of l.followed
