use Rattle.std.proofs.Common.{◌≡◌, ℕ, List, ◌++◌, drop, map}
use Rattle.jc_cap_desc.specs.Shape.{Shape}
use Rattle.jc_link.specs.Linked.{IsResolved}
use Rattle.jc_names.specs.Names.{home_at}
use Rattle.jc_program.specs.Methods.{loaded_handler}
use Rattle.jc_program.proofs.handler.loaded_handlers.Given as goal

abbrev pub invariant-loop-row : goal.invariant-loop-row
invariant-loop-row l = (world : List Shape) (number : ℕ) → IsResolved world (home_at number) l.body
    → l.handlers.items ++ map (loaded_handler world number l.body l.code_offset) (drop l.row-index l.rows)
    ≡ map (loaded_handler world number l.body l.code_offset) l.rows
