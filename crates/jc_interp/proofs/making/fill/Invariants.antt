use Rattle.std.proofs.Common.{◌≡◌, drop}
use Rattle.jc_interp.specs.PrivateMaking.{filled}
use Rattle.jc_safety.specs.Loading.{words_of_array}
use Rattle.jc_interp.proofs.making.fill.Given as goal

-- the store so far, with the words that are left
abbrev pub invariant-loop-index : goal.invariant-loop-index
invariant-loop-index l =
    filled l.store l.number l.index (drop l.index (words_of_array l.array))
    ≡ filled l.fn.store l.number 0 (words_of_array l.array)
