use Rattle.std.proofs.Common.{[]}
use Rattle.std.proofs.lemmas.Result.{err_from_is_err_and}
use Rattle.jc_host.specs.Folders.{IsComponentFault, IsComponentIn}
use Rattle.jc_host.proofs.Reading.{first_fault, joined_further}
use Rattle.jc_host.proofs.folders.joined.Goals as goal

pub returns-in_err-put_component-clause-faults : goal.returns-in_err-put_component-clause-faults
returns-in_err-put_component-clause-faults g c =
    let holds = g.F.Files.holds c.args.files.now in
    let folder = c.args.folder.now in
    let told = err_from_is_err_and c.from_residual.result c.from_residual.ensures.1 in
    let first = first_fault (IsComponentIn holds folder) (IsComponentFault holds folder) c.args.names.now
    c.loop-name.name-index (record { ref_ptr = (0, 0); now = [] })
    c.loop-name.invariant.files c.in_err-put_component.field-0.0 c.loop-name-test.true c.loop-name.invariant.read
    c.in_err-put_component.ensures.faults in
    rw (told.1, told.2) first

pub loop-name-preserved : goal.loop-name-preserved
loop-name-preserved g c =
    joined_further (g.F.Files.holds c.args.files.now) c.args.folder.now c.args.names.now c.loop-name.name-index
    (record { ref_ptr = (0, 0); now = [] }) _ _
    c.loop-name-test.true c.loop-name.invariant c.in_ok-put_component.ensures.put
