-- Which exception handler catches a thrown object, if any (Java Card Virtual Machine Specification, Exceptions; Method
-- component, exception_handler_info). This specification doesn't use the machine's own search.
use Rattle.std.specs.Prelude.{◌≡◌, ◌⊎◌, ℕ, ◌+◌, ◌-◌, ◌<◌, ◌≤◌, List, [], ◌∷◌, ◌++◌, Some, true}
use Rattle.std.specs.List.{AllByRecursion}
use Rattle.jc_cap.specs.declared.handler.Handler.{Handler}
use Rattle.jc_cap_desc.specs.Shape.{MethodBody}
use Rattle.jc_classes.specs.Subtype.{is_class_below}
use Rattle.jc_link.specs.Linked.{World}
use Rattle.jc_link.specs.declared.target.PoolTarget.TheVariants.{Class}
use Rattle.jc_machine.specs.Lookup.{code_at, target_at}
use Rattle.jc_machine.specs.Machine.{Frame, Machine, Next, Outcome, Stuck, Surroundings, Throws}
use Rattle.jc_names.specs.declared.name.ClassName.{ClassName}
use Rattle.jc_words.specs.Values.{Ref}

-- P holds for no element of a list
abbrev pub HoldsOfNone : {A : Type 0} → (A → Type 0) → List A → Type 0
HoldsOfNone P xs = AllByRecursion (λ x. P x → ⊥) xs

-- x is the first element of a list for which P holds
pub record IsFirst {A : Type 0} (P : A → Type 0) (xs : List A) (x : A) : Type 0 where
  pub before : List A
  pub after : List A
  pub listed : xs ≡ before ++ x ∷ after
  pub none_before : HoldsOfNone P before
  pub is : P x

-- ---- exception handlers

-- an exception handler names, in the constant pool of the frame's package, this class or one above it
pub record NamesClassAbove (w : World) (f : Frame) (class : ClassName) (handler : Handler) : Type 0 where
  pub named : ClassName
  pub names : target_at w f.method.number handler.catch_type ≡ Some (Class named)
  pub above : is_class_below w.shapes class named ≡ true

-- an exception handler catches objects of a class at a frame's pc: the pc is in its range, which counts from the first
-- byte of the Method component, and it catches all objects, or those of the class or one above it
pub record Catches (w : World) (f : Frame) (body : MethodBody) (class : ClassName) (handler : Handler) : Type 0 where
  pub from : handler.start ≤ body.code_offset + f.pc
  pub until : body.code_offset + f.pc < handler.start + handler.active_length
  pub type : (handler.catch_type ≡ 0) ⊎ NamesClassAbove w f class handler

-- no exception handler of the frame's method catches objects of a class
pub record CatchesNone (w : World) (class : ClassName) (f : Frame) : Type 0 where
  pub body : MethodBody
  pub has_code : code_at w f.method ≡ Some body
  pub none : HoldsOfNone (Catches w f body class) body.handlers

-- ---- frames

-- the outcomes after an object of a class is thrown. The innermost frame with an exception handler for it continues at
-- the first such one, with the object as its only operand, and the frames inside are dropped; if no frame has one, the
-- object is thrown out of the call. Nothing else changes. The machine may also be stuck: jc_safety proves that a
-- well-typed one isn't
pub data UnwindsTo {C : Type 0} (s : Surroundings C) (m : Machine C) (object : ℕ) (class : ClassName)
    : Outcome C → Type 0 where
  caught : (within : List Frame) (f : Frame) (waiting : List Frame) (body : MethodBody) (handler : Handler)
      → (m.top ∷ m.waiting) ≡ within ++ f ∷ waiting → AllByRecursion (CatchesNone s.world class) within
      → code_at s.world f.method ≡ Some body → IsFirst (Catches s.world f body class) body.handlers handler
      → UnwindsTo s m object class (Next (record m {
        top = record f { pc = handler.handler - body.code_offset; operands = Ref object ∷ [] };
        waiting = waiting;
      }))
  uncaught : AllByRecursion (CatchesNone s.world class) (m.top ∷ m.waiting)
      → UnwindsTo s m object class (Throws m object)
  stuck : UnwindsTo s m object class Stuck
