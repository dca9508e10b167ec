-- Private. What a result of the system says of one call.
use Rattle.std.specs.Prelude.{◌≡◌, ◌≢◌, ◌<◌, ℕ, Result, Ok, Err}
use Rattle.std.specs.IoError.{error_kind}
use Rattle.std.specs.declared.io.Error.{Error}
use Rattle.std.specs.declared.io.ErrorKind.TheVariants as kinds
use Rattle.jc_streams.specs.declared.outcome.Outcome.{Outcome}
use Rattle.jc_streams.specs.declared.outcome.Outcome.TheVariants.{Moved, Interrupted, Failed}

-- an error of the kind that interrupts is no failure
abbrev pub IsOutcome : Result ℕ Error → Outcome → Type 0
IsOutcome (Ok count) (Moved moved) = moved ≡ count
IsOutcome (Ok count) Interrupted = ⊥
IsOutcome (Ok count) (Failed fault) = ⊥
IsOutcome (Err error) (Moved moved) = ⊥
IsOutcome (Err error) Interrupted = error_kind error ≡ kinds.Interrupted
IsOutcome (Err error) (Failed fault) = (fault ≡ error) × (error_kind error ≢ kinds.Interrupted)

-- a writer that took none of so many bytes has failed
abbrev pub IsTaken : Result ℕ Error → ℕ → Outcome → Type 0
IsTaken (Ok count) most (Moved moved) = (moved ≡ count) × (0 < most → 0 < count)
IsTaken (Ok count) most Interrupted = ⊥
IsTaken (Ok count) most (Failed fault) = count ≡ 0
IsTaken (Err error) most (Moved moved) = ⊥
IsTaken (Err error) most Interrupted = error_kind error ≡ kinds.Interrupted
IsTaken (Err error) most (Failed fault) = (fault ≡ error) × (error_kind error ≢ kinds.Interrupted)

-- a flush moves no byte
abbrev pub IsFlushed : Result (Unit {0}) Error → Outcome → Type 0
IsFlushed (Ok done) (Moved moved) = moved ≡ 0
IsFlushed (Ok done) Interrupted = ⊥
IsFlushed (Ok done) (Failed fault) = ⊥
IsFlushed (Err error) (Moved moved) = ⊥
IsFlushed (Err error) Interrupted = error_kind error ≡ kinds.Interrupted
IsFlushed (Err error) (Failed fault) = (fault ≡ error) × (error_kind error ≢ kinds.Interrupted)
