-- AIDs of applets, exceptions with a reason, registrations and transient arrays fit.
use Rattle.std.proofs.Common.{◌≡◌, ◌⊎◌, inl, inr, ℕ, ◌+◌, ◌<◌, ◌==◌, ◌&&◌, not, Bool, true, false, List, [], ◌∷◌, ◌++◌}
use Rattle.std.proofs.Common.{length, nat_le, is_some, Option, Some, None, refl, sym, subst, arith}
use Rattle.std.proofs.lemmas.Bool.{eq-eqb, eqb-true, leb-true, ltb-true}
use Rattle.std.proofs.lemmas.Option.{none-some, same_Some}
use Rattle.std.specs.List.{find, list_all}
use Rattle.std.specs.Option.{option_map, option_map_or}
use Rattle.jc_api.specs.declared.class.ApiClass.{ApiClass}
use Rattle.jc_api.specs.declared.class.ApiClass.TheVariants as api
use Rattle.jc_base.specs.Signature.{return_map, type_map}
use Rattle.jc_base.specs.declared.declared_type.DeclaredType.{DeclaredType}
use Rattle.jc_base.specs.declared.declared_type.ReturnType.{ReturnType}
use Rattle.jc_base.specs.declared.declared_type.ReturnType.TheVariants.{Value}
use Rattle.jc_machine.specs.Machine.{ByRuntime}
use Rattle.jc_machine.specs.Lookup.{is_given, is_of_class, is_of_type, leads_to}
use Rattle.jc_names.specs.declared.owner.Owner.{Owner}
use Rattle.jc_names.specs.declared.name.ClassName.TheVariants.{Api}
use Rattle.jc_natives.specs.MemberTypes.{counted_name}
use Rattle.jc_natives.proofs.Bare.{bare_object, both}
use Rattle.jc_natives.proofs.Facts.{LeadsToClass, found_fits}
use Rattle.jc_natives.proofs.FitWork.{Fits, either_fits, gives_as, void_ends}
use Rattle.jc_natives.proofs.FitWrites.{Known, aid_leads, aid_written, apdu_leads, apdu_reason, apdu_thrown, bytes_are}
use Rattle.jc_natives.proofs.FitWrites.{iso_leads, iso_reason, iso_thrown, size_thrown, system_leads, system_reason}
use Rattle.jc_natives.proofs.FitWrites.{system_thrown}
use Rattle.jc_natives.proofs.Keeping.{both_are}
use Rattle.jc_natives.proofs.Numbered.{registered_numbers}
use Rattle.jc_natives.proofs.Ranges.{length_of_bytes}
use Rattle.jc_natives.proofs.Takes as suits
use Rattle.jc_natives.proofs.Takes.{Gives}
use Rattle.jc_natives.specs.Cells.{is_count}
use Rattle.jc_natives.specs.Kept.{are_bytes, has_aid_length, has_numbers, instance_with, is_aid}
use Rattle.jc_natives.specs.Kept.{is_instance_number, now_registered, waits, with_instance}
use Rattle.jc_natives.specs.Meaning.{fits_command, fits_installing, fits_instance, fits_kept, new_array, reference}
use Rattle.jc_natives.specs.Members.{aid_of, aid_of_owner}
use Rattle.jc_natives.specs.PrivateApplets.{allowed, on_allowed, owner_of, registers}
use Rattle.jc_natives.specs.PrivateCells.{bared, bytes_of}
use Rattle.jc_natives.specs.PrivateSeen.{seen_of}
use Rattle.jc_natives.specs.PrivateSystem.{makes, may_make}
use Rattle.jc_natives.specs.PrivateTests.{test}
use Rattle.jc_natives.specs.Work.{Does, NewArray, Throws, Work, array_type}
use Rattle.jc_natives.specs.declared.kept.Installing.{Installing}
use Rattle.jc_natives.specs.declared.kept.Instance.{Instance}
use Rattle.jc_natives.specs.declared.native.Elements.{Elements}
use Rattle.jc_store.specs.Heap.{Heap, Object, next_number, object_at, with_new}
use Rattle.jc_store.specs.declared.kind.ClearingEvent.{ClearingEvent}
use Rattle.jc_store.specs.declared.kind.ObjectType.{ObjectType}
use Rattle.jc_words.specs.Values.{Ref, TaggedValue}

module _ (known : Known) where
  open known use {w, call, there, supers, fit, given}

  -- ---- AIDs of applets

  reference_leads : (n : ℕ) → LeadsToClass w.shapes call.heap n (Api api.Aid)
      → leads_to call.heap (is_of_class w.shapes (Api api.Aid)) (reference n) ≡ true
  reference_leads n leads = grind arith

  pub instances_fit : list_all (fits_instance w.shapes call.heap) call.runtime.instances ≡ true
  instances_fit = grind (arith, both)

  installing_fits : option_map_or fits_installing call.runtime.installing true ≡ true
  installing_fits = grind (arith, both)

  rest_fits : (fits_command call.runtime && has_numbers call.runtime) ≡ true
  rest_fits = grind (arith, both)

  pub command_fits : fits_command call.runtime ≡ true
  command_fits = (both (fits_command call.runtime) (has_numbers call.runtime) rest_fits).0

  numbers_fit : has_numbers call.runtime ≡ true
  numbers_fit = (both (fits_command call.runtime) (has_numbers call.runtime) rest_fits).1

  instance_number : (i : Instance) → fits_instance w.shapes call.heap i ≡ true → is_instance_number i.owner.instance
      ≡ true
  instance_number i e = grind (arith, both)

  pub aid_reference : (p : Instance → Bool) (o : Option Instance) → find p call.runtime.instances ≡ o
      → leads_to call.heap (is_of_class w.shapes (Api api.Aid)) (reference (aid_of o)) ≡ true
  aid_reference p o h1 = grind (arith, reference_leads, aid_leads, instance_number, found_fits, instances_fit)

  pub owner_reference : (owner : Option Owner)
      → leads_to call.heap (is_of_class w.shapes (Api api.Aid)) (reference (aid_of_owner call.runtime owner)) ≡ true
  owner_reference owner = grind (arith, aid_reference)

  -- ---- exceptions with a reason

  pub system_throw : (reason : ℕ) → reason < 65536
      → Fits known (Does (record { by = ByRuntime; object = 9; from = 0; words = reason ∷ [] } ∷ []) call.runtime
      (Throws 9))
  system_throw reason small = (system_reason known 9 reason (system_leads known) small, (fit.fits, system_thrown known))

  pub apdu_throw : (reason : ℕ) → reason < 65536
      → Fits known (Does (record { by = ByRuntime; object = 10; from = 0; words = reason ∷ [] } ∷ []) call.runtime
      (Throws 10))
  apdu_throw reason small = (apdu_reason known 10 reason (apdu_leads known) small, (fit.fits, apdu_thrown known))

  iso_throw : (reason : ℕ) → reason < 65536
      → Fits known (Does (record { by = ByRuntime; object = 8; from = 0; words = reason ∷ [] } ∷ []) call.runtime
      (Throws 8))
  iso_throw reason small = (iso_reason known 8 reason (iso_leads known) small, (fit.fits, iso_thrown known))

  pub throw_fits : (object n : ℕ) → n < 65536 → (object ≡ 8) ⊎ ((object ≡ 9) ⊎ (object ≡ 10))
      → Fits known (Does (record { by = ByRuntime; object = object; from = 0; words = n ∷ [] } ∷ []) call.runtime
      (Throws object))
  throw_fits object n small (inl e) =
      subst (λ o. Fits known (Does (record { by = ByRuntime; object = o; from = 0; words = n ∷ [] } ∷ []) call.runtime
      (Throws o)))
      (sym e) (iso_throw n small)
  throw_fits object n small (inr (inl e)) =
      subst (λ o. Fits known (Does (record { by = ByRuntime; object = o; from = 0; words = n ∷ [] } ∷ []) call.runtime
      (Throws o)))
      (sym e) (system_throw n small)
  throw_fits object n small (inr (inr e)) =
      subst (λ o. Fits known (Does (record { by = ByRuntime; object = o; from = 0; words = n ∷ [] } ∷ []) call.runtime
      (Throws o)))
      (sym e) (apdu_throw n small)

  -- ---- registration

  listed_behind : (is : List Instance) (i : Instance) → list_all (fits_instance w.shapes call.heap) is ≡ true
      → fits_instance w.shapes call.heap i ≡ true → list_all (fits_instance w.shapes call.heap) (is ++ i ∷ []) ≡ true
  listed_behind [] i e f = both_are (fits_instance w.shapes call.heap i) true f refl
  listed_behind (x ∷ is) i e f =
      let b = both (fits_instance w.shapes call.heap x) (list_all (fits_instance w.shapes call.heap) is) e in
      both_are (fits_instance w.shapes call.heap x) (list_all (fits_instance w.shapes call.heap) (is ++ i ∷ [])) b.0
      (listed_behind is i b.1 f)

  still_installing : (o : Option Installing) → option_map_or fits_installing o true ≡ true
      → option_map_or fits_installing (option_map now_registered o) true ≡ true
  still_installing o h1 = grind arith

  registered_fits : (i : Instance) → waits call.runtime ≡ true → fits_instance w.shapes call.heap i ≡ true
      → fits_kept w call.heap (with_instance call.runtime i) ≡ true
  registered_fits i waiting e =
      both_are
      (list_all (fits_instance w.shapes call.heap) (call.runtime.instances ++ i ∷ [])
      && option_map_or fits_installing (option_map now_registered call.runtime.installing) true)
      (fits_command call.runtime && has_numbers (with_instance call.runtime i))
      (both_are (list_all (fits_instance w.shapes call.heap) (call.runtime.instances ++ i ∷ []))
      (option_map_or fits_installing (option_map now_registered call.runtime.installing) true)
      (listed_behind call.runtime.instances i instances_fit e)
      (still_installing call.runtime.installing installing_fits))
      (both_are (fits_command call.runtime) (has_numbers (with_instance call.runtime i)) command_fits
      (registered_numbers call.runtime i numbers_fit waiting))

  itself : (n : ℕ) → (n == n) ≡ true
  itself n = eq-eqb n n refl

  -- the instance that is being installed, where it may register
  pub record May (object : ℕ) (i : Installing) : Type 0 where
    fits : fits_installing i ≡ true
    waiting : waits call.runtime ≡ true
    number : ((owner_of (bared call.heap) object).instance == i.owner.instance) ≡ true

  may_of : (object : ℕ) (o : Option Installing) (i : Installing) → option_map_or fits_installing o true ≡ true
      → call.runtime.installing ≡ o → allowed (seen_of w call) object o ≡ Some i → May object i
  may_of object o i h1 h2 h3 = grind (arith, none-some, same_Some, not, both)

  new_instance : (object : ℕ) (aid : List ℕ) (i : Installing) → May object i → is_aid aid ≡ true
      → LeadsToClass w.shapes call.heap object (Api api.Applet)
      → fits_instance w.shapes call.heap
      (record { aid = aid; object = object; owner = owner_of (bared call.heap) object }) ≡ true
  new_instance object aid i may whole leads = grind (arith, bare_object, both, both_are, eqb-true, itself)

  module _ (r : ReturnType ApiClass) (is : given.result ≡ return_map counted_name r) where
    pub registers_fit : (object : ℕ) (aid : List ℕ) (i : Installing) → May object i → is_aid aid ≡ true
        → LeadsToClass w.shapes call.heap object (Api api.Applet) → Gives suits.nothing r
        → Fits known (registers (seen_of w call) call.runtime i.owner.instance object aid)
    registers_fit object aid i may whole leads g =
        let number = (both (is_aid i.aid) (is_instance_number i.owner.instance) may.fits).1 in
        let parts = both (has_aid_length (length aid)) (are_bytes aid) whole in
        let short = leb-true (length aid) 16 (both (nat_le 5 (length aid)) (nat_le (length aid) 16) parts.0).1 in
        either_fits known (not (is_some (instance_with call.runtime.instances aid))) _ _
        (λ e. (
          aid_written known (13 + i.owner.instance) aid (aid_leads known i.owner.instance number) short parts.1,
          (registered_fits _ may.waiting (new_instance object aid i may whole leads), void_ends known r is g),
        ))
        (system_throw 4 (omega arith))

    pub on_allowed_fits : (object : ℕ) (go : Installing → Work) → ((i : Installing) → May object i → Fits known (go i))
        → Fits known (on_allowed call.runtime (allowed (seen_of w call) object call.runtime.installing) go)
    on_allowed_fits object go each = by_option (allowed (seen_of w call) object call.runtime.installing) refl
      where
        by_option : (o : Option Installing) → allowed (seen_of w call) object call.runtime.installing ≡ o
            → Fits known (on_allowed call.runtime o go)
        by_option None e = system_throw 4 (omega arith)
        by_option (Some i) e = each i (may_of object call.runtime.installing i installing_fits refl e)

    pub installing_aid : (object : ℕ) (i : Installing) → May object i → is_aid i.aid ≡ true
    installing_aid object i may = (both (is_aid i.aid) (is_instance_number i.owner.instance) may.fits).0

    pub range_aid : (number at count : ℕ) → has_aid_length count ≡ true
        → is_aid (bytes_of (bared call.heap) number at count) ≡ true
    range_aid number at count e = grind (arith, both_are, length_of_bytes, bytes_are)

    -- ---- transient arrays

    new_found : (heap : Heap TaggedValue) (o : Object TaggedValue) → object_at (heap ++ o ∷ []) (next_number heap)
        ≡ Some o
    new_found [] o = refl
    new_found (p ∷ heap) o = new_found heap o

    abbrev MadeGiven : NewArray → Type 0
    MadeGiven array = is_given w.shapes (with_new call.heap (new_array call.active array)) given.result
        (Some (Ref (next_number call.heap))) ≡ true

    pub made_given : (array : NewArray) (t : DeclaredType ApiClass) (test : ObjectType → Bool) → r ≡ Value t
        → is_of_type w.shapes (with_new call.heap (new_array call.active array)) (type_map counted_name t)
        (Ref (next_number call.heap))
        ≡ option_map_or (λ (o : Object TaggedValue). test o.kind.object_type)
        (object_at (with_new call.heap (new_array call.active array)) (next_number call.heap)) false
        → test (array_type array.elements) ≡ true → MadeGiven array
    made_given array t test g same e = grind (arith, gives_as, new_found)

    pub makes_fit : (elements : Elements) (size : ℕ) (event : Option ClearingEvent)
        → ((event : ClearingEvent) → MadeGiven (record { elements = elements; event = event; size = size }))
        → Fits known (makes (seen_of w call) call.runtime elements size event)
    makes_fit elements size None given_so = system_throw 1 (omega arith)
    makes_fit elements size (Some event) given_so =
        either_fits known (may_make (seen_of w call) event) _ _
        (λ e. either_fits known (is_count size) _ _
        (λ f. let low = ltb-true size 32768 f in (omega (arith, low), given_so event))
        (tt, (fit.fits, size_thrown known)))
        (system_throw 3 (omega arith))
