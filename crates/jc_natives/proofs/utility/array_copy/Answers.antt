use Rattle.std.proofs.Common.{refl}
use Rattle.jc_natives.specs.PrivateWords.{seen_in}
use Rattle.jc_natives.specs.declared.row.Use.TheVariants.{Loads, Stores}
use Rattle.jc_natives.proofs.Passing.{named, two_parts}
use Rattle.jc_natives.proofs.utility.array_copy.Goals as goal

pub copy_words-requires-clause-source_there : goal.copy_words-requires-clause-source_there
copy_words-requires-clause-source_there c =
    let store = c.args.store.now in
    named store c.argument-source.result c.argument-from.result c.argument-count.result
    c.argument-source.ensures.argument c.argument-from.ensures.argument c.argument-count.ensures.argument
    (two_parts (seen_in store c.args.call.now) store refl c.args.call.now.arguments.now Loads Stores
    c.requires.passed).0

pub copy_words-requires-clause-target_there : goal.copy_words-requires-clause-target_there
copy_words-requires-clause-target_there c =
    let store = c.args.store.now in
    named store c.argument-target.result c.argument-to.result c.argument-count.result
    c.argument-target.ensures.argument c.argument-to.ensures.argument c.argument-count.ensures.argument
    (two_parts (seen_in store c.args.call.now) store refl c.args.call.now.arguments.now Loads Stores
    c.requires.passed).1
