-- What may end a script or a session before its last line: the source of packages, its own lines, and its answers.
use Rattle.std.specs.Prelude.{◌≡◌, ◌⊎◌, ℕ, suc, ◌+◌, ◌-◌, ◌^◌, ◌≤◌}
use Rattle.jc_script.specs.Reading.{most_calls}
use Rattle.jc_source.specs.Source.{Asked}

-- of which name the last read of the source that failed was, and for how many of its reads memory ran out; why the
-- lines can't be read, if they can't; and why an answer can't be written, if one can't
pub record EndCauses : Type 1 where
  pub failed_at : Asked → Type 0
  pub short : ℕ
  pub unread : Type 0
  pub unwritten : Type 0

-- from how many ran out of memory before the script, and after it
abbrev pub end_causes : (failed_at : Asked → Type 0) → (short short_after : ℕ) → (unread unwritten : Type 0)
    → EndCauses
end_causes failed_at short short_after unread unwritten =
    record { failed_at = failed_at; short = short_after - short; unread = unread; unwritten = unwritten }

-- the same of a session: why the line with a number can't be read, and why an answer can't be written
pub record SessionCauses : Type 1 where
  pub unread : ℕ → Type 0
  pub unwritten : Type 0

abbrev pub session_causes : (unread : ℕ → Type 0) → (unwritten : Type 0) → SessionCauses
session_causes unread unwritten = record { unread = unread; unwritten = unwritten }

-- why lines can't be read, from how often their reader was called, and how many of these calls failed, before them and
-- after them: one call failed; or it was called as often as it may be
pub data IsUnreadable (calls calls_after faults faults_after : ℕ) : Type 0 where
  failed : faults_after ≡ suc faults → IsUnreadable calls calls_after faults faults_after
  called : calls_after ≡ calls + most_calls → IsUnreadable calls calls_after faults faults_after

-- why an answer can't be written, from the same of its writer: one call failed; or it was called at least as often as
-- it may be for one answer
pub data IsUnwritable (calls calls_after faults faults_after : ℕ) : Type 0 where
  failed : faults_after ≡ suc faults → IsUnwritable calls calls_after faults faults_after
  called : calls + most_calls ≤ calls_after → IsUnwritable calls calls_after faults faults_after

-- why the line of a session with a number can't be read: its reader can't be; or the source has failed, or run out of
-- memory, as often as it may; or there are as many lines as there may be
pub data IsUnreadAt (by_reader : Type 0) (failed short : ℕ) (number : ℕ) : Type 0 where
  reader : by_reader → IsUnreadAt by_reader failed short number
  source : (2 ^ 31 ≤ failed) ⊎ (2 ^ 31 ≤ short) → IsUnreadAt by_reader failed short number
  last : number ≡ 2 ^ 64 - 1 → IsUnreadAt by_reader failed short number
