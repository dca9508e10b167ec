use Rattle.jc_store.specs.PrivateLaid.{AreCleared, headers_of}
use Rattle.jc_store.proofs.clearing.clear_objects.Given as goal

abbrev pub invariant-loop-place : goal.invariant-loop-place
invariant-loop-place l = AreCleared (headers_of l.heads l.rests) l.event l.context l.place l.fn.cells l.cells
