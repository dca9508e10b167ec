use Rattle.std.proofs.Common.{Bool, Some, Ok, Err, subst}
use Rattle.jc_natives.specs.Kept.{after_install}
use Rattle.jc_store.specs.declared.kind.ClearingEvent.TheVariants.{Deselect}
use Rattle.jc_card.specs.Card.{with_kept}
use Rattle.jc_card.specs.Install.{installed, succeeds}
use Rattle.jc_card.specs.Parts.{clear, gives}
use Rattle.jc_card.specs.Reads.{GivesNothing, Holds, ReadsInstalled}
use Rattle.jc_card.specs.declared.fault.InstallFault.TheVariants.{InstallFailed}
use Rattle.jc_card.proofs.Doing.{then_done}
use Rattle.jc_card.proofs.Installing.{settled_badly, settled_well}
use Rattle.jc_card.proofs.card.Card.settle.Goals as goal

pub returns-then-succeeds : goal.returns-then-succeeds
returns-then-succeeds c card e h r =
    let is = c.succeeds-succeeds.ensures card e h r in
    let over = subst (λ (b : Bool). Holds c.end_install.new.self (with_kept card (after_install card.kept b))) is
    (c.end_install.ensures card h).0 in
    then_done c.clear.new.self c.clear.new.self GivesNothing (ReadsInstalled (Ok c.args.owner.instance))
    (clear Deselect (Some c.args.owner.context) (with_kept card (after_install card.kept (succeeds card e))))
    (λ d u. gives d (installed card c.args.owner e)) (c.clear.ensures _ over)
    (λ d u i n. (i, settled_well card c.args.owner e c.succeeds-succeeds.result c.if-succeeds.true is))

pub returns-else-succeeds : goal.returns-else-succeeds
returns-else-succeeds c card e h r =
    let is = c.succeeds-succeeds.ensures card e h r in
    let over = subst (λ (b : Bool). Holds c.end_install.new.self (with_kept card (after_install card.kept b))) is
    (c.end_install.ensures card h).0 in
    then_done c.clear.new.self c.clear.new.self GivesNothing (ReadsInstalled (Err (InstallFailed
    c.failure_of-failure.result)))
    (clear Deselect (Some c.args.owner.context) (with_kept card (after_install card.kept (succeeds card e))))
    (λ d u. gives d (installed card c.args.owner e)) (c.clear.ensures _ over)
    (λ d u i n. (
      i,
      settled_badly card c.args.owner e c.succeeds-succeeds.result c.if-succeeds.false is
          c.failure_of-failure.result (c.failure_of-failure.ensures card e h r),
    ))
