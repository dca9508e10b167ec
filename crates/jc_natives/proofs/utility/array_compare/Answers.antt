use Rattle.std.proofs.Common.{refl}
use Rattle.jc_natives.specs.PrivateWords.{seen_in}
use Rattle.jc_natives.specs.declared.row.Use.TheVariants.{Loads}
use Rattle.jc_natives.proofs.Passing.{named, two_parts}
use Rattle.jc_natives.proofs.utility.array_compare.Goals as goal

pub compare_bytes-requires-clause-one_there : goal.compare_bytes-requires-clause-one_there
compare_bytes-requires-clause-one_there c =
    let store = c.args.store.now in
    named store c.argument-one.result c.argument-one_from.result c.argument-count.result
    c.argument-one.ensures.argument c.argument-one_from.ensures.argument c.argument-count.ensures.argument
    (two_parts (seen_in store c.args.call.now) store refl c.args.call.now.arguments.now Loads Loads
    c.requires.passed).0

pub compare_bytes-requires-clause-other_there : goal.compare_bytes-requires-clause-other_there
compare_bytes-requires-clause-other_there c =
    let store = c.args.store.now in
    named store c.argument-other.result c.argument-other_from.result c.argument-count.result
    c.argument-other.ensures.argument c.argument-other_from.ensures.argument c.argument-count.ensures.argument
    (two_parts (seen_in store c.args.call.now) store refl c.args.call.now.arguments.now Loads Loads
    c.requires.passed).1
