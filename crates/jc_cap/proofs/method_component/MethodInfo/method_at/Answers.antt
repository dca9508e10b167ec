use Rattle.std.proofs.Common.{ap, length, arith, length-drop}
use Rattle.jc_cap.proofs.HeaderLemmas.{header_within}
use Rattle.jc_cap.proofs.method_component.MethodInfo.method_at.Goals as goal

pub overflow_sub-code_offset : goal.overflow_sub-code_offset
overflow_sub-code_offset c =
    let h = header_within _ _ c.in-Ok.ensures in
    let at = ap length c.at-cursor.ensures in
    omega (arith, length-drop c.from.result c.self.inside.info.now)
