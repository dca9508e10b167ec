-- The install method of an applet can begin, and is called on words.
use Rattle.std.proofs.Common.{◌≡◌, ◌<◌, ℕ, zero, suc, ◌+◌, ◌-◌, ◌==◌, List, [], ◌∷◌, ◌++◌, length, drop, replicate}
use Rattle.std.proofs.Common.{cond, Bool, true, false, not, Option, Some, Ok, Err, sym, ap, ◌∙◌, subst, arith}
use Rattle.std.proofs.lemmas.Bool.{eq-eqb, le-ltb, lt-ltb}
use Rattle.std.proofs.lemmas.List.{drop-replicate}
use Rattle.jc_base.specs.Signature.{Signature}
use Rattle.jc_base.specs.declared.class_ref.ClassRef.{ClassRef}
use Rattle.jc_base.specs.declared.declared_type.DeclaredType.{DeclaredType}
use Rattle.jc_base.specs.declared.declared_type.DeclaredType.TheVariants.{Byte, ByteArray, Short}
use Rattle.jc_base.specs.declared.declared_type.ReturnType.{ReturnType}
use Rattle.jc_base.specs.declared.declared_type.ReturnType.TheVariants.{Void}
use Rattle.jc_cap_desc.specs.Across.{is_install_signature}
use Rattle.jc_cap_desc.specs.Shape.{IsConcrete, Shape}
use Rattle.jc_cap.specs.declared.method_header.MethodHeader.{MethodHeader}
use Rattle.jc_classes.specs.Limits.{IsSmall}
use Rattle.jc_classes.specs.Members.{DeclaredMethod, method_at}
use Rattle.jc_classes.specs.Methods.{method_name}
use Rattle.jc_link.specs.Built.{IsBuilt}
use Rattle.jc_link.specs.Found.{signature_found}
use Rattle.jc_link.specs.Linked.{HasInstall, IsKnown, LinkedBody, World}
use Rattle.jc_link.specs.MemberType.{declared_type_of, type_class}
use Rattle.jc_link.specs.Sound.{IsSound}
use Rattle.jc_machine.specs.Lookup.{are_of_types, body_at, is_byte_array, leads_to, may_begin_with}
use Rattle.jc_machine.specs.Machine.{Surroundings}
use Rattle.jc_machine.specs.Reading.{Pointwise, Reads}
use Rattle.jc_machine.specs.Step.{Start}
use Rattle.jc_names.specs.Names.{home_at, home_of}
use Rattle.jc_names.specs.declared.name.ClassName.{ClassName}
use Rattle.jc_names.specs.declared.name.MethodName.TheVariants.{Loaded}
use Rattle.jc_names.specs.declared.owner.Owner.{Owner}
use Rattle.jc_natives.specs.Kept.{Kept}
use Rattle.jc_safety.specs.Starting.{MethodCanBegin}
use Rattle.jc_words.specs.Values.{Ref, TaggedValue, Word}
use Rattle.jc_card.specs.Card.{CardState, around}
use Rattle.jc_card.specs.Install.{failure_of, installed, succeeds}
use Rattle.jc_card.specs.Parts.{Ended, start_on}
use Rattle.jc_card.specs.PrivateWords.{IsInstallPlace, install_words}
use Rattle.jc_card.specs.Reads.{ReadsInstalled}
use Rattle.jc_card.specs.Typed.{IsTypedCard}
use Rattle.jc_card.specs.declared.fault.Failure.{Failure}
use Rattle.jc_card.specs.declared.fault.InstallFault.TheVariants.{InstallFailed}
use Rattle.jc_card.specs.declared.places.AppletPlace.{AppletPlace}

-- ---- the array that it is handed

pub padded_is : (new bytes : List ℕ) → new ≡ bytes
    → new ++ drop {A = ℕ} (length bytes) (replicate 127 0) ≡ bytes ++ replicate (127 - length bytes) 0
padded_is new bytes e =
    ap (λ (xs : List ℕ). xs ++ drop {A = ℕ} (length bytes) (replicate 127 0)) e
    ∙ ap (λ (xs : List ℕ). bytes ++ xs) (drop-replicate (length bytes) 127 0)

-- ---- what it takes

abbrev given_types : List (DeclaredType ClassName)
given_types = ByteArray ∷ Short ∷ Byte ∷ []

abbrev install_type : Signature ClassName
install_type = record { parameters = given_types; result = Void }

never : {P : Type 0} → false ≡ true → P
never e = absurd cc

-- a signature of an install method has no class to be found
module _ (find : ClassRef → Option ClassName) where
  abbrev signature : List (DeclaredType ClassRef) → ReturnType ClassRef → Signature ClassRef
  signature parameters result = record { parameters = parameters; result = result }

  -- such a signature takes three values, of these types
  record Installs (parameters : List (DeclaredType ClassRef)) (result : ReturnType ClassRef) : Type 0 where
    found : signature_found find (signature parameters result) ≡ Some install_type
    three : length parameters ≡ 3

  by_result : (result : ReturnType ClassRef) → is_install_signature (signature (ByteArray ∷ Short ∷ Byte ∷ [])
      result) ≡ true
      → Installs (ByteArray ∷ Short ∷ Byte ∷ []) result
  by_result result h1 = grind (arith, never)

  by_fourth : (types : List (DeclaredType ClassRef)) (result : ReturnType ClassRef)
      → is_install_signature (signature (ByteArray ∷ Short ∷ Byte ∷ types) result) ≡ true
      → Installs (ByteArray ∷ Short ∷ Byte ∷ types) result
  by_fourth types result h1 = grind (arith, by_result, never)

  by_third : (types : List (DeclaredType ClassRef)) (result : ReturnType ClassRef)
      → is_install_signature (signature (ByteArray ∷ Short ∷ types) result) ≡ true
      → Installs (ByteArray ∷ Short ∷ types) result
  by_third types result h1 = grind (arith, never, by_fourth)

  by_second : (types : List (DeclaredType ClassRef)) (result : ReturnType ClassRef)
      → is_install_signature (signature (ByteArray ∷ types) result) ≡ true
      → Installs (ByteArray ∷ types) result
  by_second types result h1 = grind (arith, never, by_third)

  install_found : (types : List (DeclaredType ClassRef)) (result : ReturnType ClassRef)
      → is_install_signature (signature types result) ≡ true
      → Installs types result
  install_found types result h1 = grind (arith, never, by_second)

-- ---- the method

-- it is declared there, static and not abstract
record IsInstall (w : World) (number install : ℕ) : Type 0 where
  declared : DeclaredMethod
  found : method_at w.shapes (Loaded number install) ≡ Some declared
  static : declared.method.is_static ≡ true
  header : MethodHeader
  header_is : declared.method.header ≡ Some header
  concrete : header.is_abstract ≡ false
  type : declared_type_of w.shapes declared ≡ Some install_type
  three : length declared.method.signature.parameters ≡ 3

named : (n offset : ℕ) → method_name (suc (suc n)) offset ≡ Loaded (suc n) offset
named n offset = grind (arith, le-ltb)

same_declared : (d e : DeclaredMethod) → Some d ≡ Some e → d ≡ e
same_declared d e q = cc

is_install : (w : World) (number install : ℕ) (body : LinkedBody) → body_at w number ≡ Some body
    → IsKnown w.shapes (home_at number) body → HasInstall w.shapes (home_at number) body.kept.methods install
    → IsInstall w number install
is_install w zero install body e known h = absurd cc
is_install w (suc n) install body e known h =
    let found = sym (ap (method_at w.shapes) (named n install)) ∙ h.there in
    let coded = h.coded in
    let x = known.declared coded.place coded.body coded.there in
    let same : x.declared ≡ h.declared = same_declared x.declared h.declared
    (sym x.there ∙ ap (λ o. method_at w.shapes (method_name (home_at (suc n)) o)) coded.offset_is ∙ h.there) in
    let concrete = subst (λ (d : DeclaredMethod). IsConcrete d.method) same x.concrete in
    let m = h.declared.method in
    let its = install_found (type_class w.shapes (home_of h.declared.class)) m.signature.parameters m.signature.result
    h.installs in
    record {
      declared = h.declared;
      found = found;
      static = h.static;
      header = concrete.header;
      header_is = concrete.there;
      concrete = concrete.concrete;
      type = its.found;
      three = its.three;
    }

-- ---- it can begin

abbrev AreSound : Type 0
AreSound = (world : List Shape) → IsSmall world → IsBuilt world → IsSound world

module _ (c : CardState) (t : IsTypedCard c) (place : AppletPlace) (owner : Owner) (size : ℕ)
    (short : size < 65536) (known : IsInstallPlace c.world place) where
  abbrev pub arguments : List TaggedValue
  arguments = Ref 13 ∷ Word 0 ∷ Word size ∷ []

  its : IsInstall c.world place.number place.install
  its = is_install c.world place.number place.install known.body known.there known.known known.method

  array_leads : leads_to c.heap is_byte_array (Ref 13) ≡ true
  array_leads = grind arith

  arguments_fit : are_of_types c.world.shapes c.heap given_types arguments ≡ true
  arguments_fit = grind (arith, array_leads, lt-ltb)

  fits : may_begin_with c.world.shapes c.heap its.declared arguments ≡ true
  fits = grind (arith, its, arguments_fit)

  abbrev around_it : Surroundings Kept
  around_it = around c (Some owner.context)

  abbrev its_start : Start Kept
  its_start = start_on c owner (Loaded place.number place.install) arguments

  -- its header counts them
  counted : AreSound → (length arguments == (its.header).nargs) ≡ true
  counted sound =
      let have = (sound c.world.shapes t.accepted.small t.accepted.world.built).methods in
      eq-eqb (length arguments) (its.header).nargs
      (sym (have.words (Loaded place.number place.install) its.declared its.header its.found its.header_is
      ∙ ap (λ (b : Bool). cond b (length its.declared.method.signature.parameters) (length
      its.declared.method.signature.parameters + 1)) its.static
      ∙ its.three))

  pub can_begin : AreSound
      → MethodCanBegin around_it its_start (record { number = place.number; offset = place.install })
  can_begin sound = grind (arith, its, not, counted, fits)

-- ---- and is called on words

pub words_read : (size : ℕ) (words : List ℕ) → words ≡ install_words size
    → Pointwise Reads words (Ref 13 ∷ Word 0 ∷ Word size ∷ [])
words_read size words e = grind arith

-- ---- how it went

pub settled_well : (c : CardState) (owner : Owner) (e : Ended) (ok : Bool) → ok ≡ true → ok ≡ succeeds c e
    → ReadsInstalled (Ok owner.instance) (installed c owner e)
settled_well c owner e ok done is = grind arith

pub settled_badly : (c : CardState) (owner : Owner) (e : Ended) (ok : Bool) → ok ≡ false → ok ≡ succeeds c e
    → (failure : Failure) → failure ≡ failure_of c e
    → ReadsInstalled (Err (InstallFailed failure)) (installed c owner e)
settled_badly c owner e ok failed is failure failure_is = grind arith
