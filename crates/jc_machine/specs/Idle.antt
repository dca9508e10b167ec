-- Native members that do nothing: they make no access, change nothing, and return 0, or null, if they are declared to
-- return something.
use Rattle.std.specs.Prelude.{ℕ, true, [], Option, Some, None}
use Rattle.std.specs.Option.{option_and_then}
use Rattle.jc_api.specs.Member.{ApiMember, member_of}
use Rattle.jc_api.specs.declared.class.ApiClass.{ApiClass}
use Rattle.jc_base.specs.declared.declared_type.DeclaredType.{DeclaredType}
use Rattle.jc_base.specs.declared.declared_type.DeclaredType.TheVariants as types
use Rattle.jc_base.specs.declared.declared_type.ReturnType.{ReturnType}
use Rattle.jc_base.specs.declared.declared_type.ReturnType.TheVariants.{Void, Value}
use Rattle.jc_machine.specs.Machine.{Gives, Natives}
use Rattle.jc_words.specs.Values.{Null, TaggedValue, Word}

-- the zero or null value of a type
abbrev pub zero_of : DeclaredType ApiClass → TaggedValue
zero_of types.Boolean = Word 0
zero_of types.Byte = Word 0
zero_of types.Short = Word 0
zero_of (types.Reference c) = Null
zero_of types.BooleanArray = Null
zero_of types.ByteArray = Null
zero_of types.ShortArray = Null
zero_of (types.ReferenceArray c) = Null

-- the result for a declared return type
abbrev pub idle_value : ReturnType ApiClass → Option TaggedValue
idle_value Void = None
idle_value (Value type) = Some (zero_of type)

-- the result of the member with a number
abbrev pub idle_result : ℕ → Option TaggedValue
idle_result member = option_and_then (λ (m : ApiMember). idle_value m.signature.result) (member_of member)

-- they keep nothing
abbrev pub idle : Natives (Unit {0})
idle = record {
  answer = λ w call. record {
    touches = [];
    heap = call.heap;
    runtime = call.runtime;
    ends = Gives (idle_result call.member);
  };
  fits = λ w heap runtime. true;
  registers = λ runtime. None;
}
