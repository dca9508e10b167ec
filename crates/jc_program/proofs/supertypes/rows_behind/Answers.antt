use Rattle.std.proofs.Common.{◌++◌, List, ℕ, ap, sym, subst, arith, length}
use Rattle.jc_program.specs.PrivateBitRows.{IsRightAbove}
use Rattle.jc_program.specs.PrivateSupertypes.{AreAbove, AreBegun, AreWithin}
use Rattle.jc_program.specs.Supertypes.{AreSupertypes}
use Rattle.jc_program.proofs.Climbing.{all_within, are_supertypes}
use Rattle.jc_program.proofs.Rowing.{refilled}
use Rattle.jc_program.proofs.supertypes.rows_behind.Goals as goal

pub returns-clause-right : goal.returns-clause-right
returns-clause-right c =
    let laws = c.found_subtypes_are_subtypes.ensures in
    let world = c.args.table.now in
    let names = c.args.classes.now in
    let made = c.args.made.now in
    let begun = c.deref_mut.result.now in
    let lists = c.deref.result.now in
    let rows = c.settle.new.rows in
    let begins = subst (AreBegun names (length made) (length names)) (sym c.deref_mut.ensures.value)
    c.in_ok-rows.ensures in
    let above = subst (AreAbove world names (length made)) (sym c.deref.ensures.value) c.in_ok-above.ensures.above in
    let as_many = begins.count in
    let all = c.in_ok-above.ensures.count in
    let count = c.in_ok-settle.ensures.count in
    let b = ap length c.deref_mut.ensures.value in
    let l = ap length c.deref.ensures.value in
    let k = c.in_ok-rows.rows.ok.0 in
    subst (λ (rs : List (List ℕ)). AreSupertypes world names (made ++ rs))
    (sym (refilled rows _ c.in_ok-rows.rows.len (omega arith)))
    (are_supertypes world names (laws.found world) (laws.all world c.requires.small) made begun lists rows
    c.requires.right begins above (omega arith) c.in_ok-settle.ensures.settled)

pub returns-clause-within : goal.returns-clause-within
returns-clause-within c =
    let names = c.args.classes.now in
    let made = c.args.made.now in
    let begun = c.deref_mut.result.now in
    let lists = c.deref.result.now in
    let rows = c.settle.new.rows in
    let begins = subst (AreBegun names (length made) (length names)) (sym c.deref_mut.ensures.value)
    c.in_ok-rows.ensures in
    let count = c.in_ok-settle.ensures.count in
    let b = ap length c.deref_mut.ensures.value in
    let k = c.in_ok-rows.rows.ok.0 in
    subst (λ (rs : List (List ℕ)). AreWithin (length names) (made ++ rs))
    (sym (refilled rows _ c.in_ok-rows.rows.len (omega arith)))
    (all_within (IsRightAbove (length made) (length lists) lists) (length names) made begun rows
    c.requires.within begins.within c.in_ok-settle.ensures.settled)
