-- The firewall (Java Card Runtime Environment Specification, Applet Isolation and Object Sharing: Class and Object
-- Access Behavior; and Transient Objects for arrays that are cleared on deselect), as a table of the accesses.
use Rattle.std.specs.Prelude.{ℕ, ◌==◌, Bool, true, false, not, ◌&&◌, ◌||◌, if◌then◌else◌, Option, None, Some}
use Rattle.std.specs.Option.{option_map_or}
use Rattle.jc_store.specs.declared.kind.ClearingEvent.{ClearingEvent}
use Rattle.jc_store.specs.declared.kind.ClearingEvent.TheVariants.{Reset, Deselect}
use Rattle.jc_store.specs.declared.kind.Mark.{Mark}
use Rattle.jc_store.specs.declared.kind.Mark.TheVariants.{Plain, PermanentEntryPoint, TemporaryEntryPoint, GlobalArray}
use Rattle.jc_names.specs.declared.owner.Owner.{Owner}
use Rattle.jc_firewall.specs.declared.access.Access.{Access}
use Rattle.jc_firewall.specs.declared.access.Access.TheVariants.{PutStaticReference, PutReferenceField, PutField}
use Rattle.jc_firewall.specs.declared.access.Access.TheVariants.{GetField, LoadComponent, StoreComponent}
use Rattle.jc_firewall.specs.declared.access.Access.TheVariants.{StoreReference, ArrayLength, InvokeVirtual}
use Rattle.jc_firewall.specs.declared.access.Access.TheVariants.{InvokeInterface, Throw, CheckCast, InstanceOf}
use Rattle.jc_firewall.specs.declared.access.Facts.{Facts}
use Rattle.jc_firewall.specs.declared.access.Rule.TheVariants.{Storing, Components, Fields, Calls, SharedCalls, Throws}
use Rattle.jc_firewall.specs.declared.access.Rule.TheVariants.{Casts, SharedCasts, Selection}
use Rattle.jc_firewall.specs.declared.access.Verdict.{Verdict}
use Rattle.jc_firewall.specs.declared.access.Verdict.TheVariants.{Allowed, AllowedSwitch, Denied}

-- ---- objects

-- the runtime's context, and the runtime as an owner
abbrev pub runtime_context : ℕ
runtime_context = 0

abbrev pub runtime : Owner
runtime = record { context = runtime_context; instance = 0 }

abbrev pub is_own : ℕ → Facts → Bool
is_own active f = f.owner.context == active

abbrev pub is_entry_point : Mark → Bool
is_entry_point Plain = false
is_entry_point PermanentEntryPoint = true
is_entry_point TemporaryEntryPoint = true
is_entry_point GlobalArray = false

abbrev pub is_global_array : Mark → Bool
is_global_array Plain = false
is_global_array PermanentEntryPoint = false
is_global_array TemporaryEntryPoint = false
is_global_array GlobalArray = true

-- a reference to an object with such a mark may not be stored
abbrev pub is_never_stored : Mark → Bool
is_never_stored Plain = false
is_never_stored PermanentEntryPoint = false
is_never_stored TemporaryEntryPoint = true
is_never_stored GlobalArray = true

abbrev pub is_deselect : ClearingEvent → Bool
is_deselect Reset = false
is_deselect Deselect = true

-- an array that is cleared on deselect, while no applet of the active context is selected
abbrev pub is_out_of_selection : ℕ → Facts → Bool
is_out_of_selection active f =
    option_map_or is_deselect f.clears false && not (option_map_or (λ selected. selected == active) f.selected false)

-- ---- accesses

abbrev pub stores_reference : Access → Bool
stores_reference PutStaticReference = true
stores_reference PutReferenceField = true
stores_reference PutField = false
stores_reference GetField = false
stores_reference LoadComponent = false
stores_reference StoreComponent = false
stores_reference StoreReference = true
stores_reference ArrayLength = false
stores_reference InvokeVirtual = false
stores_reference InvokeInterface = false
stores_reference Throw = false
stores_reference CheckCast = false
stores_reference InstanceOf = false

-- ---- the table: the row of an access, and the verdict in each row

pub data AccessRow : Type 0 where
  static_fields : AccessRow
  fields : AccessRow
  components : AccessRow
  virtual_calls : AccessRow
  interface_calls : AccessRow
  shared_calls : AccessRow
  throws : AccessRow
  casts : AccessRow
  shared_casts : AccessRow

-- a cast of an array is in the row of its components
abbrev pub row_of : Access → Facts → AccessRow
row_of PutStaticReference f = static_fields
row_of PutReferenceField f = fields
row_of PutField f = fields
row_of GetField f = fields
row_of LoadComponent f = components
row_of StoreComponent f = components
row_of StoreReference f = components
row_of ArrayLength f = components
row_of InvokeVirtual f = virtual_calls
row_of InvokeInterface f = if f.is_shared_interface then shared_calls else interface_calls
row_of Throw f = throws
row_of CheckCast f = if f.is_array then components else if f.is_shared_interface then shared_casts else casts
row_of InstanceOf f = if f.is_array then components else if f.is_shared_interface then shared_casts else casts

-- the first condition that holds decides; otherwise a rule denies
abbrev pub allowed_if : Bool → Verdict → Verdict
allowed_if condition otherwise = if condition then Allowed else otherwise

abbrev pub switched_if : Bool → Owner → Verdict → Verdict
switched_if condition owner otherwise = if condition then AllowedSwitch owner else otherwise

abbrev pub verdict_in : AccessRow → ℕ → Facts → Verdict
verdict_in static_fields active f = Allowed
verdict_in fields active f = allowed_if (is_own active f) (Denied Fields)
verdict_in components active f =
    if is_out_of_selection active f then Denied Selection
    else allowed_if (is_own active f || is_global_array f.mark) (Denied Components)
verdict_in virtual_calls active f =
    allowed_if (is_own active f) (switched_if (is_entry_point f.mark || is_global_array f.mark) runtime (Denied Calls))
verdict_in interface_calls active f =
    allowed_if (is_own active f) (switched_if (is_entry_point f.mark) runtime (Denied Calls))
verdict_in shared_calls active f =
    allowed_if (is_own active f) (switched_if (is_entry_point f.mark) runtime
    (switched_if f.is_shareable f.owner (Denied SharedCalls)))
verdict_in throws active f = allowed_if (is_own active f || is_entry_point f.mark) (Denied Throws)
verdict_in casts active f = allowed_if (is_own active f || is_entry_point f.mark) (Denied Casts)
verdict_in shared_casts active f =
    allowed_if (is_own active f || is_entry_point f.mark || f.is_shareable) (Denied SharedCasts)

-- the runtime may access every object, and calls a method as the object's owner
abbrev pub verdict_for_runtime : AccessRow → Facts → Verdict
verdict_for_runtime static_fields f = Allowed
verdict_for_runtime fields f = Allowed
verdict_for_runtime components f = Allowed
verdict_for_runtime virtual_calls f = AllowedSwitch f.owner
verdict_for_runtime interface_calls f = AllowedSwitch f.owner
verdict_for_runtime shared_calls f = AllowedSwitch f.owner
verdict_for_runtime throws f = Allowed
verdict_for_runtime casts f = Allowed
verdict_for_runtime shared_casts f = Allowed

-- a reference that may not be stored is denied before everything else
abbrev pub verdict_of : Access → ℕ → Facts → Verdict
verdict_of access active f =
    if active == runtime_context then verdict_for_runtime (row_of access f) f
    else if stores_reference access && option_map_or is_never_stored f.stored false then Denied Storing
    else verdict_in (row_of access f) active f

-- whether an access is allowed, by its verdict
abbrev pub is_allowed : Verdict → Bool
is_allowed Allowed = true
is_allowed (AllowedSwitch owner) = true
is_allowed (Denied rule) = false
