use Rattle.std.proofs.Common.{◌≡◌, List, ℕ, drop}
use Rattle.std.specs.List.{AllByRecursion}
use Rattle.jc_code.specs.Listing.{PlacedInstr}
use Rattle.jc_check.specs.Carried.{HandlerStands}
use Rattle.jc_check.specs.FirstFault.{handlers_stand}
use Rattle.jc_verify.specs.PrivateLive.{IsDecoded}
use Rattle.jc_verify.proofs.entries.stand_handlers.Given as goal

abbrev pub invariant-loop-index : goal.invariant-loop-index
invariant-loop-index l = record {
  stand : (code : List ℕ) (listing : List PlacedInstr) → IsDecoded code listing l.starts → AllByRecursion (HandlerStands listing) (drop l.index l.handlers) → AllByRecursion (HandlerStands listing) l.handlers;
  so_far : (code : List ℕ) (listing : List PlacedInstr) → IsDecoded code listing l.starts → handlers_stand listing l.handlers ≡ handlers_stand listing (drop l.index l.handlers);
}
