use Rattle.std.proofs.Common.{arith, sym, ◌∙◌}
use Rattle.jc_base.specs.NumberSet.{has_number}
use Rattle.jc_cap_desc.proofs.Matching.{begins, goes_on, is_new, not_anew, unnamed}
use Rattle.jc_cap_desc.proofs.across.offsets_named.Goals as goal

pub loop-row-init : goal.loop-row-init
loop-row-init c = begins _ _ _ _ c.empty-named.ensures c.again-left.ensures

pub loop-row-preserved : goal.loop-row-preserved
loop-row-preserved c =
    let offset = c.in-Some-offset_named.offset in
    let new = is_new (has_number c.args.starts.now offset) (has_number c.loop-row.named offset)
    (sym c.is_named_anew.ensures ∙ c.if-not-is_named_anew.false) in
    goes_on _ _ _ _ _ _ c.in-Some.row offset c.loop-row.invariant c.in-Some.ensures.some
    (sym c.offset_named.ensures ∙ c.in-Some-offset_named.is) (omega arith) new.0 new.1 c.insert.ensures

pub returns-in_default-offset_named-clause-refused : goal.returns-in_default-offset_named-clause-refused
returns-in_default-offset_named-clause-refused c records holds =
    unnamed _ _ records _ _ _ c.in-Some.row c.loop-row.invariant c.in-Some.ensures.some holds
    (sym c.offset_named.ensures ∙ c.in_default-offset_named.is)

pub returns-then-not-is_named_anew-clause-refused : goal.returns-then-not-is_named_anew-clause-refused
returns-then-not-is_named_anew-clause-refused c records holds =
    not_anew _ _ records _ _ _ c.in-Some.row c.in-Some-offset_named.offset c.loop-row.invariant
    c.in-Some.ensures.some holds (sym c.offset_named.ensures ∙ c.in-Some-offset_named.is) (omega arith)
    (sym c.is_named_anew.ensures ∙ c.if-not-is_named_anew.true)
