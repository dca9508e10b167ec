use Rattle.std.proofs.Common.{◌≡◌, ◌≤◌, [], length, take}
use Rattle.jc_script.specs.Script.{joined_behind}
use Rattle.jc_script.proofs.command.joined.Given as goal

-- the words that are left come behind the bytes that stand in the room
abbrev pub invariant-loop-word : goal.invariant-loop-word
invariant-loop-word l = (l.count ≤ 512) × (joined_behind [] l.fn.words ≡ joined_behind (take l.count l.room) l.words)

abbrev pub decreases-loop-word : goal.decreases-loop-word
decreases-loop-word l = length l.words
