use Rattle.std.proofs.Common.{[], map, sym}
use Rattle.jc_cert.specs.Cert.{stated}
use Rattle.jc_classes.specs.Subtype.{is_class_below}
use Rattle.jc_check.proofs.NoClasses.{ordered}
use Rattle.jc_check.proofs.Shaped.{words_keep}
use Rattle.jc_check.proofs.Typed.{well_typed}
use Rattle.jc_check.proofs.words.check_words.Goals as goal

pub invariant_of-result : goal.invariant_of-result
invariant_of-result c =
    let carries = rw c.of_words.ensures at c.in_ok-check_method.ensures.accepted in
    let below = c.order_laws.ensures.reflexive (is_class_below []) (ordered c.order_laws.ensures.tables) in
    let keeps = words_keep c.effects_keep_shapes.ensures.words in
    let states = map stated c.in-Some.states.now in (
      record {
        rows = c.args.cert.now;
        carried = record {
          cert = c.states_for.ensures.cert;
          states = states;
          are = sym c.in-Some.ensures.states;
          carried = carries;
        };
        short = c.requires;
      },
      well_typed below c.listing_laws.ensures.words keeps c.args.code.now states carries,
    )

pub returns-clause-typed : goal.returns-clause-typed
returns-clause-typed c =
    let carries = rw c.of_words.ensures at c.in_ok-check_method.ensures.accepted in
    let below = c.order_laws.ensures.reflexive (is_class_below []) (ordered c.order_laws.ensures.tables) in
    let keeps = words_keep c.effects_keep_shapes.ensures.words in
    well_typed below c.listing_laws.ensures.words keeps c.args.code.now (map stated c.in-Some.states.now) carries
