use Rattle.std.proofs.Common.{[], ◌∷◌, ap, map}
use Rattle.jc_cap_desc.proofs.FreshNumbers.{begins, goes_on, stops, adds_one, ends, ends_with}
use Rattle.jc_cap_desc.proofs.across.offsets_are_fresh.Goals as goal

pub loop-method-init : goal.loop-method-init
loop-method-init c before holds = begins _ _ _ _ holds (ap (map (λ m. m.offset)) c.again-left.ensures)

pub loop-method-preserved : goal.loop-method-preserved
loop-method-preserved c before holds =
    goes_on _ _ _ _ _ (c.in-Some.method.offset ∷ []) _ c.is_fresh.result (c.loop-method.invariant before holds) (ap (map (λ m. m.offset)) c.in-Some.ensures.some)
    (adds_one _ _ _ _ c.is_fresh.ensures.fresh c.is_fresh.ensures.put) c.if-not-is_fresh.false

pub returns-then-not-is_fresh-clause-fresh : goal.returns-then-not-is_fresh-clause-fresh
returns-then-not-is_fresh-clause-fresh c before holds =
    stops _ c.is_fresh.new.seen _ _ _ (c.in-Some.method.offset ∷ []) _ c.is_fresh.result (c.loop-method.invariant before holds) (ap (map (λ m. m.offset)) c.in-Some.ensures.some)
    (adds_one _ _ _ _ c.is_fresh.ensures.fresh c.is_fresh.ensures.put) c.if-not-is_fresh.true

pub returns-clause-fresh : goal.returns-clause-fresh
returns-clause-fresh c before holds = ends _ _ _ _ (c.loop-method.invariant before holds) (ap (map (λ m. m.offset)) c.in_default.ensures.none.0)

pub returns-clause-put : goal.returns-clause-put
returns-clause-put c before holds t = ends_with _ _ _ _ (c.loop-method.invariant before holds) (ap (map (λ m. m.offset)) c.in_default.ensures.none.0)
