use Rattle.std.proofs.Common.{◌≡◌, ◌+◌, ◌*◌, ◌<◌, ◌%◌, length, arith}
use Rattle.std.proofs.lemmas.List.{length-set}
use Rattle.jc_script.proofs.DigitPairs.{all_decoded, pair_decoded, refused_by_high, refused_by_low}
use Rattle.jc_script.proofs.digits.decode.Goals as goal
use Rattle.jc_script.proofs.digits.decode.Goals.{then-high-gt15-via-else-high-gt15+then-low-gt15}
use Rattle.jc_script.proofs.digits.decode.Goals.{then-high-gt15-via-then-high-gt15}

pub returns-then-high-gt15-clause-refused : goal.returns-then-high-gt15-clause-refused
returns-then-high-gt15-clause-refused c =
    let word = c.args.word.now in
    let within = c.loop-at-test.true in
    let room = c.loop-at.invariant.room in
    let fits : 2 * c.loop-at.at + 1 < length word = omega (arith, within, room, c.requires) in
    let even : length word % 2 ≡ 0 = omega (arith, c.if-word-eq1.false) in
    elim c.then-high-gt15.branch [
      | then-high-gt15-via-then-high-gt15 w ↦ refused_by_high word c.loop-at.out c.loop-at.at c.value_of-high.result
          c.value_of-low.result even fits c.value_of-high.ensures c.value_of-low.ensures c.loop-at.invariant.decoded
          w.if-high-gt15.true
      | then-high-gt15-via-else-high-gt15+then-low-gt15 w ↦ refused_by_low word c.loop-at.out c.loop-at.at
          c.value_of-high.result c.value_of-low.result even fits c.value_of-high.ensures c.value_of-low.ensures
          c.loop-at.invariant.decoded (omega (arith, w.if-high-gt15.false)) w.if-low-gt15.true
    ]

pub loop-at-preserved : goal.loop-at-preserved
loop-at-preserved c =
    let word = c.args.word.now in
    let within = c.loop-at-test.true in
    let room = c.loop-at.invariant.room in record {
      decoded = pair_decoded word c.loop-at.out c.loop-at.at c.value_of-high.result c.value_of-low.result
          (omega (arith, c.if-word-eq1.false)) (omega (arith, within, room, c.requires)) c.value_of-high.ensures
          c.value_of-low.ensures c.loop-at.invariant.decoded (omega (arith, within, room))
          (omega (arith, c.if-high-gt15.false)) (omega (arith, c.if-low-gt15.false));
      room = rw (length-set c.loop-at.out c.loop-at.at _) room;
    }

pub returns-clause-spelled : goal.returns-clause-spelled
returns-clause-spelled c =
    let over = c.loop-at-test.false in
    let room = c.loop-at.invariant.room in
    let even : length c.args.word.now % 2 ≡ 0 = omega (arith, c.if-word-eq1.false) in
    all_decoded c.args.word.now c.loop-at.out c.loop-at.at even (omega (arith, over, room))
    (omega (arith, over, room, c.requires, c.if-word-eq1.false)) c.loop-at.invariant.decoded
