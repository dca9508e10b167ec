use Rattle.std.specs.Prelude.{refl}
use Rattle.jcard.specs.Ending.IsPlayEnd.{silent, unwritten, written}
use Rattle.jcard.proofs.ending.end_play.Goals as goal

pub returns-in-Ok : goal.returns-in-Ok
returns-in-Ok g c = rw (c.number.ensures, c.in-Ok.is) (silent refl)

pub returns-in-Ok-write_fault : goal.returns-in-Ok-write_fault
returns-in-Ok-write_fault g c =
    rw (c.number-in-Ok-write_fault.ensures, c.in-Err.is) (written c.in-Err.fault c.in-Ok-write_fault.ensures)

pub returns-in-Err-write_fault : goal.returns-in-Err-write_fault
returns-in-Err-write_fault g c = rw (c.unwritten.ensures, c.in-Err.is) (unwritten c.in-Err.fault)
