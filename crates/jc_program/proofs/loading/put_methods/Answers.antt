use Rattle.std.proofs.Common.{◌++◌, ◌+◌, drop, map, Some, ap, ◌∙◌, arith}
use Rattle.jc_program.specs.Methods.{loaded_method}
use Rattle.jc_program.proofs.Known.{begins_still, one_put}
use Rattle.jc_program.proofs.loading.put_methods.Goals as goal

pub loop-method-preserved : goal.loop-method-preserved
loop-method-preserved c =
    let loaded = loaded_method c.args.table.now c.args.«package» c.args.body.now in
    let methods = c.args.methods.now in
    let i = c.loop-method.method-index in
    let so_far = c.loop-method.invariant in
    record {
      done = ap (λ ms. ms ++ map loaded (drop (i + 1) methods)) c.in_ok-put_method.ensures.done
          ∙ one_put loaded methods (map Some c.loop-method.loaded) _ i c.method-item.result so_far.done
          (omega (arith, c.loop-method-test.true)) c.method-item.is;
      begins = begins_still c.args.loaded.now c.loop-method.loaded c.put_method.new.loaded _
          c.in_ok-put_method.ensures.done so_far.begins;
    }
