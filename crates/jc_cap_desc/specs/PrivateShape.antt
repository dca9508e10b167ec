-- Private. The headers of methods, if they are read.
use Rattle.std.specs.Prelude.{ℕ, Bool, Option, None, if◌then◌else◌}
use Rattle.jc_cap.specs.MethodComponent.{MethodComponent, header_at}
use Rattle.jc_cap.specs.declared.method_header.MethodHeader.{MethodHeader}

-- the header at an offset, if `counts` holds
abbrev pub header_if : Bool → MethodComponent → ℕ → Option MethodHeader
header_if counts methods offset = if counts then header_at offset methods else None
