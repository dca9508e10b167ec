-- Private. Members that are done at once, as the code is proved.
use Rattle.std.specs.Prelude.{◌≡◌, ℕ, true, List, Option, None}
use Rattle.jc_machine.specs.WordNatives.{IfDone}
use Rattle.jc_machine.specs.declared.natives.AtOnce.{AtOnce}
use Rattle.jc_natives.specs.Cells.{is_within}
use Rattle.jc_natives.specs.Kept.{Kept}
use Rattle.jc_natives.specs.PrivateCells.{argument, size_of}
use Rattle.jc_natives.specs.PrivateSeen.{NativeInput}
use Rattle.jc_natives.specs.PrivateTests.{used}
use Rattle.jc_natives.specs.PrivateWords.{word_done}
use Rattle.jc_natives.specs.declared.ended.Ended.TheVariants as ends
use Rattle.jc_natives.specs.declared.native.Native.{Native}
use Rattle.jc_natives.specs.declared.row.Use.{Use}
use Rattle.jc_natives.specs.declared.row.Use.TheVariants.{Loads, Stores}
use Rattle.jc_store.specs.Store.{IsThere, Store}
use Rattle.jc_store.specs.declared.kind.Mark.TheVariants.{GlobalArray}
use Rattle.jc_store.specs.declared.kind.ObjectKind.{ObjectKind}

-- there is an object with a number, and a context may use it in every way
pub record MayBeUsed (store : Store) (number context : ℕ) : Type 0 where
  pub there : IsThere store number
  pub used : (s : NativeInput) (way : Use) → s.objects ≡ store.objects → s.active.context ≡ context
      → (used s way number).thrown ≡ None

-- of a global array that is never cleared
pub record IsGlobal (kind : ObjectKind) : Type 0 where
  pub mark : kind.mark ≡ GlobalArray
  pub stays : kind.clears ≡ None

-- there is an object with a number, and a context may load and store its components
pub record MayUseComponents (store : Store) (number context : ℕ) : Type 0 where
  pub there : IsThere store number
  pub loads : (s : NativeInput) → s.objects ≡ store.objects → s.active.context ≡ context
      → (used s Loads number).thrown ≡ None
  pub stores : (s : NativeInput) → s.objects ≡ store.objects → s.active.context ≡ context
      → (used s Stores number).thrown ≡ None

-- there is such an array, and it has `count` components from an index on
pub record HasPart (store : Store) (number from count context : ℕ) : Type 0 where
  pub may : MayUseComponents store number context
  pub within : is_within (size_of store.objects number) from count ≡ true

-- the same for both arrays of a member
pub record HasParts (store : Store) (arguments : List ℕ) (context : ℕ) : Type 0 where
  pub source : HasPart store (argument arguments 0) (argument arguments 1) (argument arguments 4) context
  pub target : HasPart store (argument arguments 2) (argument arguments 3) (argument arguments 4) context

-- if a member was done at once, the store and the result are those of its tests and its work, whatever else the call
-- has in this context
abbrev pub WorksAtOnce : Option Native → List ℕ → ℕ → Store → Store → AtOnce → Type 0
WorksAtOnce native arguments context before after given =
    (s : NativeInput) (k : Kept) → s.objects ≡ before.objects → s.active.context ≡ context
    → IfDone given (λ value. record { store = after; kept = k; ended = ends.Returned value }
    ≡ word_done s.active before k s arguments native)
