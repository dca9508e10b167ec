use Rattle.std.proofs.Common.{◌≤◌, ℕ, List, length, sym, subst, ◌∙◌}
use Rattle.jc_program.specs.PrivateSupertypes.{AreRight, AreWithin}
use Rattle.jc_program.proofs.Enlarging.{still_few, still_right, still_within}
use Rattle.jc_program.proofs.supertypes.Supertypes.grow.Goals as goal

pub rows_behind-requires-clause-few : goal.rows_behind-requires-clause-few
rows_behind-requires-clause-few c =
    subst (λ (rows : List (List ℕ)). length rows ≤ length c.args.classes.now)
    (sym (c.deref.ensures.value ∙ c.self.view_is))
    (still_few c.args.table.now c.args.classes.now _ c.requires.before)

pub rows_behind-requires-clause-right : goal.rows_behind-requires-clause-right
rows_behind-requires-clause-right c =
    subst (AreRight c.args.table.now c.args.classes.now) (sym (c.deref.ensures.value ∙ c.self.view_is))
    (still_right c.args.table.now c.args.classes.now _ c.growing_keeps_lookups.ensures.kept
    c.growing_keeps_lookups.ensures.there c.found_subtypes_are_subtypes.ensures.found c.requires.before)

pub rows_behind-requires-clause-within : goal.rows_behind-requires-clause-within
rows_behind-requires-clause-within c =
    subst (AreWithin (length c.args.classes.now)) (sym (c.deref.ensures.value ∙ c.self.view_is))
    (still_within c.args.table.now c.args.classes.now _ c.requires.before)
