use Rattle.std.proofs.Common.{ℕ, List, [], Some, ap}
use Rattle.jc_memory.proofs.Ends.{run_in_memory}
use Rattle.jc_memory.proofs.play.play_in_memory.Goals as goal

pub returns : goal.returns
returns c =
    run_in_memory c.args.images.now c.args.certificates.now _ _ _ _ _ c.args.limits c.args.binding.now c.args.script.now
    _ _ _ _
    ((rw c.new-source.ensures at c.run_script-outcome.ensures.same_images))
    ((rw c.new-source.ensures at c.run_script-outcome.ensures.same_certificates))
    ((rw c.new-source.ensures at c.run_script-outcome.ensures.run) c.args.script.now []
    (ap (λ (bytes : List ℕ). Some bytes) c.new-reader.ensures.unread)
    (rw c.new-writer.ensures.writer (ap (λ (bytes : List ℕ). Some bytes) c.new.ensures.items)))
