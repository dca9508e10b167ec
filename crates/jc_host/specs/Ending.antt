-- The end of the program: what it writes of its message, and its exit status.
use Rattle.std.specs.Prelude.{◌≡◌, ℕ, List, Option, None, IfSome}
use Rattle.std.specs.Io.KnownBytes.{Appends}
use Rattle.jc_host.specs.Saying.{remark_of, status_number, text_of}
use Rattle.jc_host.specs.declared.saying.Message.{Message}
use Rattle.jc_host.specs.declared.saying.Said.{Said}
use Rattle.jc_host.specs.declared.saying.Status.TheVariants.{Failure}
use Rattle.jc_host.specs.declared.saying.Stream.{Stream}
use Rattle.jc_host.specs.declared.saying.Stream.TheVariants.{Output, Errors}

-- a message is written to standard output: its text, if that is known, is appended. Standard error is unchanged, unless
-- the message has a remark
pub record IsPrinted {W E : Type 0} (contents : W → Option (List ℕ)) (old new : W) (before after : E)
    (message : Message) : Type 0 where
  pub text : IfSome (text_of message) (Appends (contents old) (contents new))
  pub alone : remark_of message ≡ None → after ≡ before

-- a message is written to standard error: its text, if that is known, is appended. Standard output is unchanged
pub record IsComplained {W E : Type 0} (contents : E → Option (List ℕ)) (old new : W) (before after : E)
    (message : Message) : Type 0 where
  pub text : IfSome (text_of message) (Appends (contents before) (contents after))
  pub alone : new ≡ old

abbrev pub IsMessageTo : {W E : Type 0} → Stream → (W → Option (List ℕ)) → (E → Option (List ℕ)) → (old new : W)
    → (before after : E) → Message → Type 0
IsMessageTo Output contents told old new before after message = IsPrinted contents old new before after message
IsMessageTo Errors contents told old new before after message = IsComplained told old new before after message

-- the end of the program, for its message, and its exit status
pub data IsEnd {W E : Type 0} (contents : W → Option (List ℕ)) (told : E → Option (List ℕ)) (old new : W)
    (before after : E) (said : Said) : ℕ → Type 0 where
  -- the message is written to its stream, and its status is the exit status
  written : IsMessageTo said.stream contents told old new before after said.message
      → IsEnd contents told old new before after said (status_number said.status)
  -- it can't be written, which is a failure
  unwritten : IsEnd contents told old new before after said (status_number Failure)
