-- Values where there are no objects: a reference is null, whatever its type says. A value of a type is of each type
-- above it.
use Rattle.std.proofs.Common.{◌≡◌, List, [], ◌∷◌, Bool, true, ◌&&◌, arith}
use Rattle.jc_check.specs.Rules.{word_rules}
use Rattle.jc_names.specs.declared.name.ClassName.{ClassName}
use Rattle.jc_store.specs.declared.kind.ObjectType.{ObjectType}
use Rattle.jc_types.specs.State.{all_below}
use Rattle.jc_types.specs.Ty.{is_below}
use Rattle.jc_types.specs.declared.ty.Ty.{Ty}
use Rattle.jc_words.specs.Values.{TaggedValue}
use Rattle.jc_machine.specs.Lookup.{leads_to}
use Rattle.jc_machine.specs.Objects.{is_null}
use Rattle.jc_machine.specs.Reading.{Pointwise}
use Rattle.jc_machine.specs.Typed.{HaveTypes, HoldTypes, IsOperand, has_type}

pub both : (a b : Bool) → (a && b) ≡ true → (a ≡ true) × (b ≡ true)
both a b e = grind arith

-- ---- code alone has no world and no objects

abbrev pub below : ClassName → ClassName → Bool
below = word_rules.below

abbrev pub Have : List TaggedValue → List Ty → Type 0
Have vs ts = HaveTypes [] [] vs ts

abbrev pub Hold : List TaggedValue → List Ty → Type 0
Hold vs ts = HoldTypes [] [] vs ts

-- ---- types above

null_alone : (test : ObjectType → Bool) (v : TaggedValue) → leads_to [] test v ≡ true → is_null v ≡ true
null_alone test v e = grind arith

type_up : (v : TaggedValue) (t u : Ty) → is_below below t u ≡ true → has_type [] [] v t ≡ true
    → has_type [] [] v u ≡ true
type_up v t u e h = grind (arith, null_alone)

operand_up : (v : TaggedValue) (t u : Ty) → is_below below t u ≡ true → IsOperand [] [] v t → IsOperand [] [] v u
operand_up v t u e h = record { type = type_up v t u e h.type; written = h.written }

-- values of a relation that goes up go up point by point
all_up : (R : TaggedValue → Ty → Type 0)
    → ((v : TaggedValue) (t u : Ty) → is_below below t u ≡ true → R v t → R v u)
    → (vs : List TaggedValue) (ts us : List Ty) → all_below below ts us ≡ true → Pointwise R vs ts → Pointwise R vs us
all_up R up [] ts us e h = grind arith
all_up R up (v ∷ vs) [] us e h = absurd h
all_up R up (v ∷ vs) (t ∷ ts) [] e h = absurd cc
all_up R up (v ∷ vs) (t ∷ ts) (u ∷ us) e h =
    let b = both (is_below below t u) (all_below below ts us) e in
    (up v t u b.0 h.0, all_up R up vs ts us b.1 h.1)

pub types_up : (vs : List TaggedValue) (ts us : List Ty) → all_below below ts us ≡ true → Have vs ts → Have vs us
types_up vs ts us e h = all_up (λ v t. has_type [] [] v t ≡ true) type_up vs ts us e h

pub operands_up : (vs : List TaggedValue) (ts us : List Ty) → all_below below ts us ≡ true → Hold vs ts → Hold vs us
operands_up vs ts us e h = all_up (λ v t. IsOperand [] [] v t) operand_up vs ts us e h
