use Rattle.std.proofs.Common.{List, ℕ, subst, sym, ap, ◌∙◌}
use Rattle.jc_frames.specs.Frames.{Frames}
use Rattle.jc_frames.specs.declared.header.FrameHeader.{FrameHeader}
use Rattle.jc_switches.specs.PrivateSwitches.{AreCodeKinds}
use Rattle.jc_interp.specs.PrivateRunning.{IsPoolOf}
use Rattle.jc_interp.specs.declared.top.Activation.{Activation}
use Rattle.jc_interp.proofs.ByName.{its_code}
use Rattle.jc_interp.proofs.TopFrames.{runs_new}
use Rattle.jc_program.specs.Methods.{LoadedMethod}
use Rattle.jc_interp.proofs.machine.WordMachine.enter.Goals as goal

pub returns-clause-runs : goal.returns-clause-runs
returns-clause-runs c went =
    let p = c.args.here.now.program.now in
    let m = c.in-Some.method in
    let header = c.header_of-header.result in
    let entered = c.enter_call.ensures in
    let yes = c.if-not-enter_call.false in
    let there = entered.there yes in
    let pushed = entered.pushed there.top there.below there.is there.within (entered.fit yes) yes in
    let r : Activation = record {
      method = header.method;
      code = c.method.inside.code;
      kinds = c.code_kinds.result;
      pool = c.pool_from.result;
      context = header.active.context;
    } in
    runs_new p r _ pushed.frame _ (ap (λ (x : Frames). x.frames) pushed.is) (record {
      known = record {
        code = λ other same.
            ap (λ (x : LoadedMethod). x.code) c.method.view_is
            ∙ its_code p c.args.number c.requires.by_name m (sym c.get.ensures ∙ c.in-Some.is) other
            (same ∙ ap (λ (h : FrameHeader). h.method) c.header_of-header.ensures);
        kinds = subst (λ (code : List ℕ). AreCodeKinds code c.code_kinds.result)
            (sym (ap (λ (x : LoadedMethod). x.code) c.method.view_is)) c.code_kinds.ensures;
        pool = subst (λ (number : ℕ). IsPoolOf p number c.pool_from.result.now)
            (ap (λ (x : LoadedMethod). x.number) c.method.view_is
            ∙ sym (ap (λ (h : FrameHeader). h.method.«package») c.header_of-header.ensures)) c.pool_from.ensures;
      };
      method_is = ap (λ (h : FrameHeader). h.method) pushed.new.header_is;
      context = sym (ap (λ (h : FrameHeader). h.active.context) pushed.new.header_is);
    })
