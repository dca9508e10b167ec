use Rattle.jc_cert.specs.Cert.{IsStated, stated}
use Rattle.jc_cert.proofs.Each.{each_at}
use Rattle.jc_cert.proofs.writing.put_row.Goals as goal

pub put_state-requires : goal.put_state-requires
put_state-requires c =
    let states = c.deref-state-items.result.now in
    rw c.state-item.is (each_at stated IsStated states c.loop-state.state-index c.state-item.result c.loop-state-test.true (rw c.deref-state-items.ensures.value c.requires.each))
