use Rattle.std.proofs.Common.{◌≡◌, ◌-◌, ◌≤◌, ℕ, false}
use Rattle.jc_classes.specs.Methods.{is_among, package_visible, virtual_method_of, virtual_visit}
use Rattle.jc_classes.specs.PrivateWalk.{IsOnWalk}
use Rattle.jc_classes.specs.Walk.{most_classes, walk}
use Rattle.jc_classes.proofs.table.ClassTable.walked_places.Given as goal

abbrev pub invariant-loop-steps : goal.invariant-loop-steps
invariant-loop-steps l = (token asker : ℕ) → is_among l.places asker ≡ false → package_visible ≤ token
    → IsOnWalk (walk (virtual_visit l.self asker token) l.self) l.anchor l.at (most_classes - l.steps)
    (virtual_method_of l.self l.fn.class token asker)
