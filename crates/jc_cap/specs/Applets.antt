-- The Applet component (Java Card Virtual Machine Specification, CAP file format: Applet component).
use Rattle.std.specs.Prelude.{ℕ, List, Option, Some, None, Result, Ok}
use Rattle.jc_base.specs.Cursor.{Read, next_u1, next_u2, field, whole}
use Rattle.jc_base.specs.Results.{◌>>=◌}
use Rattle.jc_base.specs.Aid.{next_aid}
use Rattle.jc_base.specs.Rows.{repeat}
use Rattle.jc_base.specs.declared.fault.LoadFault.{LoadFault}
use Rattle.jc_base.specs.declared.fault.LoadFault.TheVariants.{Malformed}
use Rattle.jc_base.specs.Tag.{applet_tag}
use Rattle.jc_cap.specs.declared.applets.Applet.{Applet}

-- an AID and the offset of an install method
unfoldable pub next_applet : List ℕ → Result (Read Applet) LoadFault
next_applet bytes = do
  aid ← next_aid applet_tag bytes
  install ← field applet_tag (next_u2 aid.rest)
  Ok (record { value = record { aid = aid.value; install = install.value }; rest = install.rest })

-- an info as applets: a count, that many applets and nothing after them; otherwise the first refusal
unfoldable pub applets_in : List ℕ → Result (List Applet) LoadFault
applets_in info = do
  count ← field applet_tag (next_u1 info)
  whole (Malformed applet_tag) (repeat next_applet count.value count.rest)

-- a package without the component is a library, which differs from a package with no applets
abbrev pub applets_of : Option (List ℕ) → Result (Option (List Applet)) LoadFault
applets_of None = Ok None
applets_of (Some info) = applets_in info >>= λ applets. Ok (Some applets)
