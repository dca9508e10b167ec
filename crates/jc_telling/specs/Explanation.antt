-- The line that says why a call of an applet didn't end normally.
use Rattle.std.specs.Prelude.{ℕ, ◌==◌, if◌then◌else◌, List, [], ◌∷◌, ◌++◌, codes, flat_map, Option, Some, None}
use Rattle.std.specs.Prelude.{option_map}
use Rattle.std.specs.Fmt.{decimal, signed_decimal}
use Rattle.std.specs.Option.{option_and_then}
use Rattle.jc_firewall.specs.declared.access.Access.{Access}
use Rattle.jc_firewall.specs.declared.access.Access.TheVariants.{PutStaticReference, PutReferenceField, PutField}
use Rattle.jc_firewall.specs.declared.access.Access.TheVariants.{GetField, LoadComponent, StoreComponent}
use Rattle.jc_firewall.specs.declared.access.Access.TheVariants.{StoreReference, ArrayLength, InvokeVirtual}
use Rattle.jc_firewall.specs.declared.access.Access.TheVariants.{InvokeInterface, Throw, CheckCast, InstanceOf}
use Rattle.jc_firewall.specs.declared.access.Rule.{Rule}
use Rattle.jc_firewall.specs.declared.access.Rule.TheVariants.{Storing, Components, Fields, Calls, SharedCalls}
use Rattle.jc_firewall.specs.declared.access.Rule.TheVariants.{Throws, Casts, SharedCasts, Selection}
use Rattle.jc_firewall.specs.declared.access.Denial.{Denial}
use Rattle.jc_words.specs.Shorts.{short}
use Rattle.jc_machine.specs.declared.stop.Budget.{Budget}
use Rattle.jc_machine.specs.declared.stop.Budget.TheVariants.{Steps, Frames, FrameWords}
use Rattle.jc_machine.specs.declared.stop.CodePoint.{CodePoint}
use Rattle.jc_machine.specs.declared.limits.Limits.{Limits}
use Rattle.jc_interp.specs.declared.shown.IndexFault.{IndexFault}
use Rattle.jc_interp.specs.declared.shown.ShownFrame.{ShownFrame}
use Rattle.jc_card.specs.declared.cause.Cause.{Cause}
use Rattle.jc_card.specs.declared.cause.Cause.TheVariants.{Threw, RanOut, NotRegistered}
use Rattle.jc_telling.specs.Thrown.{object_text}
use Rattle.jc_telling.specs.declared.explanation.Explanation.{Explanation}

-- ---- a place in code

-- a place in a package's code, behind some words, if there is one
abbrev pub point_text : (before : List ℕ) → Option CodePoint → List ℕ
point_text before None = []
point_text before (Some point) =
    before ++ codes "package " ++ decimal point.package ++ codes ", method " ++ decimal point.method
    ++ codes ", pc " ++ decimal point.pc

-- ---- a denied access

-- the number of a rule of the firewall
abbrev pub rule_number : Rule → ℕ
rule_number Storing = 1
rule_number Components = 2
rule_number Fields = 3
rule_number Calls = 4
rule_number SharedCalls = 5
rule_number Throws = 6
rule_number Casts = 7
rule_number SharedCasts = 8
rule_number Selection = 9

-- an access: an instruction, or a read or write of a component, as members of the API do too
abbrev pub access_text : Access → List ℕ
access_text PutStaticReference = codes "putstatic of"
access_text PutReferenceField = codes "putfield of"
access_text PutField = codes "putfield of"
access_text GetField = codes "getfield of"
access_text LoadComponent = codes "a component read from"
access_text StoreComponent = codes "a component written to"
access_text StoreReference = codes "aastore to"
access_text ArrayLength = codes "arraylength of"
access_text InvokeVirtual = codes "invokevirtual on"
access_text InvokeInterface = codes "invokeinterface on"
access_text Throw = codes "athrow of"
access_text CheckCast = codes "checkcast of"
access_text InstanceOf = codes "instanceof of"

-- the owner of an object, by its context: 0 is the runtime's
abbrev pub owner_text : (context : ℕ) → List ℕ
owner_text context = if context == 0 then codes "the runtime" else codes "package " ++ decimal context

-- what the firewall denied: the rule, the access, and the object's owner
abbrev pub denial_text : Denial → List ℕ
denial_text denial =
    codes ", rule " ++ decimal (rule_number denial.rule) ++ codes ": " ++ access_text denial.access
    ++ codes " an object of " ++ owner_text denial.owner.context

-- where an object was thrown, behind the denial if there is one
abbrev pub throw_text : Option Denial → Option CodePoint → List ℕ
throw_text None at = point_text (codes ", ") at
throw_text (Some denial) at = denial_text denial ++ point_text (codes ", in ") at

-- ---- a spent budget

-- the budget that was spent, and its limit
abbrev pub budget_text : Limits → Budget → List ℕ
budget_text limits Steps = codes "steps used up (" ++ decimal limits.steps ++ codes ")"
budget_text limits Frames = codes "frames used up (" ++ decimal limits.frames ++ codes ")"
budget_text limits FrameWords = codes "words of frames used up (" ++ decimal limits.frame_words ++ codes ")"

-- ---- the frame in which a call stopped

-- the index outside of an array, if the frame stopped because of it
abbrev pub index_of : Option ShownFrame → Option IndexFault
index_of stopped = option_and_then (λ (frame : ShownFrame). frame.index) stopped

-- an index outside of an array, and the array's length
abbrev pub index_text : Option IndexFault → List ℕ
index_text None = []
index_text (Some fault) =
    codes ", index " ++ signed_decimal (short fault.index) ++ codes " of an array of " ++ decimal fault.length

-- a word as a short, behind a space
abbrev pub short_text : ℕ → List ℕ
short_text word = codes " " ++ signed_decimal (short word)

-- a frame's locals or operands, by their name
abbrev pub words_text : (name words : List ℕ) → List ℕ
words_text name [] = codes ", no " ++ name
words_text name (word ∷ words) = codes ", " ++ name ++ flat_map short_text (word ∷ words)

-- a frame: the running context, the locals and the operands
abbrev pub frame_text : Option ShownFrame → List ℕ
frame_text None = []
frame_text (Some frame) =
    codes ", context " ++ decimal frame.active.context ++ words_text (codes "locals") frame.locals.items
    ++ words_text (codes "operands") frame.operands.items

-- ---- the line

-- the line by its cause
abbrev pub cause_text : Cause → Option ShownFrame → Limits → List ℕ
cause_text (Threw object reason at denial) stopped limits =
    object_text object reason ++ index_text (index_of stopped) ++ throw_text denial at ++ frame_text stopped
cause_text (RanOut spent at) stopped limits =
    budget_text limits spent ++ point_text (codes ", ") at ++ frame_text stopped
cause_text NotRegistered stopped limits = codes "install: no register"

-- the line of an explanation, without a line feed
abbrev pub explanation_text : Explanation → List ℕ
explanation_text e = cause_text e.cause (option_map (λ frame. frame.now) e.stopped) e.limits
