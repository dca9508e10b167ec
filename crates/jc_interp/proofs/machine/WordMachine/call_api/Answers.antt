use Rattle.std.proofs.Common.{None, refl, subst, sym}
use Rattle.jc_interp.specs.Calling.{IsCall}
use Rattle.jc_interp.specs.Following.{WordState}
use Rattle.jc_interp.specs.PrivateDone.{with_store}
use Rattle.jc_interp.proofs.FirstCalls.{member_ends, member_has_no_step}
use Rattle.jc_interp.proofs.machine.WordMachine.call_api.Goals as goal

pub returns-then-steps-eq0 : goal.returns-then-steps-eq0
returns-then-steps-eq0 g c =
    let w = c.args.world.now in
    let p = c.args.program.now in
    let natives = g.N.Natives.meaning in
    let before : WordState g.N.Natives.Kept =
    record { machine = c.args.self.now; kept = g.N.Natives.kept c.args.natives.now } in
    let laws = c.accepted_packages_are_type_safe.ensures in
    member_has_no_step w p natives c.args.selected c.args.steps c.args.call.now before
    (λ accepted program. c.tables_are_known.ensures w accepted program) c.law.ensures
    (record { calls = laws.calls; first = laws.first }) c.args.member c.requires.native c.if-steps-eq0.true

pub returns : goal.returns
returns g c =
    let w = c.args.world.now in
    let p = c.args.program.now in
    let natives = g.N.Natives.meaning in
    let before : WordState g.N.Natives.Kept =
    record { machine = c.args.self.now; kept = g.N.Natives.kept c.args.natives.now } in
    let laws = c.accepted_packages_are_type_safe.ensures in
    subst (IsCall w p natives c.args.selected c.args.steps c.args.call.now before
    (record {
      machine = with_store c.args.self.now c.call.new.store;
      kept = g.N.Natives.kept c.call.new.self;
    })) (sym c.native_end.ensures)
    (member_ends w p natives c.args.selected c.args.steps c.args.call.now before
    (λ accepted program. c.tables_are_known.ensures w accepted program) c.law.ensures
    (record { calls = laws.calls; first = laws.first }) c.args.member c.requires.native c.if-steps-eq0.false
    (record {
      world = c.args.world;
      member = c.args.member;
      arguments = c.args.call.now.arguments;
      active = c.args.call.now.owner;
      previous = None;
      selected = c.args.selected;
    }) refl refl refl refl refl
    (record { store = c.call.new.store; runtime = g.N.Natives.kept c.call.new.self }) c.call.result
    c.call.ensures.answered c.call.ensures.classes c.call.ensures.limits)
