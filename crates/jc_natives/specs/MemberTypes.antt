-- The declared types of the API's members in a world (Java Card API Specification): those of the API's table, in which
-- an interface counts as Object.
use Rattle.std.specs.Prelude.{if◌then◌else◌}
use Rattle.jc_api.specs.Class.{is_interface}
use Rattle.jc_api.specs.Member.{ApiMember}
use Rattle.jc_api.specs.declared.class.ApiClass.{ApiClass}
use Rattle.jc_api.specs.declared.class.ApiClass.TheVariants.{Object}
use Rattle.jc_base.specs.Signature.{Signature, signature_map}
use Rattle.jc_names.specs.declared.name.ClassName.{ClassName}
use Rattle.jc_names.specs.declared.name.ClassName.TheVariants.{Api}

-- a class as types count it
abbrev pub counted_name : ApiClass → ClassName
counted_name c = if is_interface c then Api Object else Api c

abbrev pub declared_signature : ApiMember → Signature ClassName
declared_signature m = signature_map counted_name m.signature
