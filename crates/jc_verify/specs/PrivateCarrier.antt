-- Private. The typings that carry a method whose places are numbered. If one lies above what places hold, nothing is
-- refused.
use Rattle.std.specs.Prelude.{◌≡◌, ℕ, ◌≤◌, List, length, Option, Some}
use Rattle.jc_link.specs.Linked.{Linked}
use Rattle.jc_types.specs.State.{Types}
use Rattle.jc_check.specs.Method.{CheckedMethod}
use Rattle.jc_check.specs.Typing.{Typing}
use Rattle.jc_verify.specs.PrivateFlow.{IsUpper, number_at}

-- there is a place at a pc
pub record HasPlace (numbers : List (Option ℕ)) (pc : ℕ) : Type 0 where
  pub number : ℕ
  pub is : number_at numbers pc ≡ Some number

-- a typing of a method; its operands at places fit the operand stack
pub record IsCarrier (l : Linked) (m : CheckedMethod) (numbers : List (Option ℕ)) (typing : Typing) : Type 0 where
  pub upper : IsUpper l m typing
  pub room : (pc : ℕ) (t : Types) → HasPlace numbers pc → typing pc ≡ Some t → length t.operands ≤ m.max_stack
