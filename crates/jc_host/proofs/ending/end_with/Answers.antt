use Rattle.jc_host.specs.Ending.IsEnd.{unwritten, written}
use Rattle.jc_host.proofs.ending.end_with.Goals as goal

pub returns-in-Ok : goal.returns-in-Ok
returns-in-Ok g c = rw (c.number.ensures) (written c.in-Ok.ensures)

pub returns-in-Err : goal.returns-in-Err
returns-in-Err g c = rw (c.unwritten.ensures) unwritten
