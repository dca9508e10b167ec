use Rattle.jc_cert.specs.Cert.{IsRow, row}
use Rattle.jc_cert.proofs.Each.{each_at}
use Rattle.jc_cert.proofs.writing.write_rows.Goals as goal

pub put_row-requires : goal.put_row-requires
put_row-requires c = rw c.method-item.is (each_at row IsRow c.args.methods.now c.loop-method.method-index c.method-item.result c.loop-method-test.true c.requires.each)
