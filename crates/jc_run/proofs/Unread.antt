-- Why lines can't be read, or an answer can't be written, from the parts of a script.
use Rattle.std.proofs.Common.{◌≡◌, ℕ, suc, ◌+◌, ◌≤◌, ◌∙◌, ap, arith}
use Rattle.jc_run.specs.PrivatePlay.{IsUnreadSoFar}
use Rattle.jc_run.specs.PrivatePlay.IsUnreadSoFar.{called, failed}
use Rattle.jc_run.specs.EndCauses.{IsUnreadAt, IsUnreadable, IsUnwritable}
use Rattle.jc_run.specs.EndCauses.IsUnreadAt.{reader}
use Rattle.jc_run.specs.EndCauses.IsUnreadable.{called as called_all, failed as failed_once}
use Rattle.jc_run.specs.EndCauses.IsUnwritable.{called as written_often, failed as write_failed}
use Rattle.jc_script.specs.Reading.{IsReadFault, most_calls}
use Rattle.jc_script.specs.declared.reader.ReadFault.{ReadFault}
use Rattle.jc_script.specs.declared.reader.ReadFault.TheVariants.{System, TooManyReads}

-- the fault of a read
pub read_fault : (faults faults_after calls : ℕ) (fault : ReadFault) → IsReadFault faults faults_after calls fault
    → IsUnreadSoFar faults faults_after calls
read_fault faults faults_after calls (System error) is = failed is
read_fault faults faults_after calls TooManyReads is = called is

-- the calls of a reader so far are those that were made for the lines
pub calls_on : (first before after so_far later : ℕ) → before ≡ first + so_far → after + so_far ≡ before + later
    → after ≡ first + later
calls_on first before after so_far later h1 h2 = omega (arith, h1, h2)

-- the lines before were read, and made so many calls
pub unreadable : (first before after so_far later faults faults_between faults_after : ℕ) → before ≡ first + so_far
    → after + so_far ≡ before + later → faults_between ≡ faults → IsUnreadSoFar faults_between faults_after later
    → IsUnreadable first after faults faults_after
unreadable first before after so_far later faults faults_between faults_after h1 h2 h3 (failed once) =
    failed_once (once ∙ ap suc h3)
unreadable first before after so_far later faults faults_between faults_after h1 h2 h3 (called all) =
    called_all (calls_on first before after so_far later h1 h2 ∙ ap (λ n. first + n) all)

pub unread_at : {unread : Type 0} {failed short : ℕ} (number : ℕ) → unread → IsUnreadAt unread failed short number
unread_at number why = reader why

-- ---- writers

-- a writer that was called before, and failed in none of these calls
pub unwritable_later : (first between after faults faults_between faults_after : ℕ) → first ≤ between
    → faults_between ≡ faults → IsUnwritable between after faults_between faults_after
    → IsUnwritable first after faults faults_after
unwritable_later first between after faults faults_between faults_after h1 h2 (write_failed once) =
    write_failed (once ∙ ap suc h2)
unwritable_later first between after faults faults_between faults_after h1 h2 (written_often often) =
    written_often (omega (arith, h1, often))

pub write_failed_once : {calls calls_after faults faults_before faults_after : ℕ} → faults_before ≡ faults
    → faults_after ≡ suc faults_before → IsUnwritable calls calls_after faults faults_after
write_failed_once h1 h2 = write_failed (h2 ∙ ap suc h1)

pub called_too_often : {calls calls_after faults faults_after : ℕ} → calls + most_calls ≤ calls_after
    → IsUnwritable calls calls_after faults faults_after
called_too_often often = written_often often
