-- The members of the API in a built world are what its tables say.
use Rattle.std.proofs.Common.{◌≡◌, ◌⊎◌, inl, inr, ℕ, ◌==◌, List, Bool, true, cond, Option, Some, slice_get, sym, ap}
use Rattle.std.proofs.Common.{◌∙◌, subst, arith}
use Rattle.std.specs.List.{position}
use Rattle.std.specs.Option.{option_and_then}
use Rattle.jc_api.specs.Class.{package_of}
use Rattle.jc_api.specs.Member.{ApiMember, member_of}
use Rattle.jc_api.specs.Token.{is_same_class}
use Rattle.jc_api.specs.declared.class.ApiClass.{ApiClass}
use Rattle.jc_api.specs.declared.member.MemberKind.TheVariants.{Static, Virtual}
use Rattle.jc_cap.specs.declared.record.ClassRecord.{ClassRecord}
use Rattle.jc_cap.specs.declared.record.InterfaceRecord.{InterfaceRecord}
use Rattle.jc_cap.specs.declared.record.RecordBody.TheVariants.{Class, Interface}
use Rattle.jc_cap_desc.specs.Shape.{Shape}
use Rattle.jc_classes.specs.Api.{is_static, method_in}
use Rattle.jc_classes.specs.Members.{DeclaredMethod, declared_in, method_at}
use Rattle.jc_classes.specs.Record.{public_entries}
use Rattle.jc_classes.specs.Methods.{virtual_method_of}
use Rattle.jc_classes.specs.Subtype.{is_class_below}
use Rattle.jc_classes.specs.Walk.{most_classes}
use Rattle.jc_link.specs.ApiClasses.{StandsAtToken, StandsOnApi}
use Rattle.jc_link.specs.Sound.{IsHeir}
use Rattle.jc_link.specs.Sound.IsHeir.{behind, itself}
use Rattle.jc_names.specs.Names.{api_home, method_home}
use Rattle.jc_names.specs.declared.name.ClassName.{ClassName}
use Rattle.jc_names.specs.declared.name.ClassName.TheVariants as classes
use Rattle.jc_names.specs.declared.name.MethodName.{MethodName}
use Rattle.jc_names.specs.declared.name.MethodName.TheVariants.{Api}
use Rattle.jc_machine.specs.Calls.{token_in, virtual_member}
use Rattle.jc_machine.specs.Machine.{Surroundings}
use Rattle.jc_api.specs.declared.class.ApiClass.TheVariants as api_classes
use Rattle.jc_safety.proofs.ApiCode.{applet_alone}
use Rattle.jc_safety.proofs.Callees.{and_then, mapped_from}
use Rattle.jc_safety.proofs.Ground.{Ground}
use Rattle.jc_safety.proofs.Members.{HasVirtual, HaveMembers}
use Rattle.jc_safety.proofs.Natives.{below_heir}

-- the token that a table says, where it begins at token 0
token_told : (n token : ℕ) (b : Bool) (i : InterfaceRecord) (r : ClassRecord) → r.public_methods.base ≡ 0
    → position (λ m. m == n) (public_entries (cond b (Interface i) (Class r))) ≡ Some token
    → token_in n (cond b (Interface i) (Class r)) ≡ Some token
token_told n token b i r h1 h2 = grind arith

applet_is : (c : ApiClass) → is_same_class c api_classes.Applet ≡ true → c ≡ api_classes.Applet
applet_is c h1 = grind arith

some_same : (o : Option DeclaredMethod) (y z : DeclaredMethod) → o ≡ Some y → o ≡ Some z → y ≡ z
some_same o y z e f = cc

-- ---- in a world

module _ {C : Type 0} (s : Surroundings C) (ground : Ground s) where
  abbrev shapes : List Shape
  shapes = s.world.shapes

  abbrev on : StandsOnApi shapes
  on = ground.on_api

  -- a member's method, and the member that a method is
  abbrev its_method : ℕ → ApiMember → DeclaredMethod
  its_method n x = record { class = classes.Api x.class; method = method_in on.bound n x }

  member_there : (j : ℕ) (d : DeclaredMethod) → method_at shapes (Api j) ≡ Some d
      → (x : ApiMember) × (d.class ≡ classes.Api x.class)
  member_there j d there =
      let home = and_then (λ home. option_and_then (declared_in home j) (slice_get shapes home)) (method_home (Api j)) d
      there in
      let x = mapped_from (λ (x : ApiMember). api_home (package_of x.class)) (member_of j) home.0 home.1 in (
        x.0,
        ap (λ (y : DeclaredMethod). y.class) (some_same (method_at shapes (Api j)) d (its_method j x.0) there
            (on.members j x.0 x.1)),
      )

  -- classes of one chain
  either : (a b c : ClassName) → IsHeir shapes a b → IsHeir shapes a c → IsHeir shapes b c ⊎ IsHeir shapes c b
  either _ _ c (itself a) k = inl k
  either _ b _ (behind a d e up h) (itself f) = inr (behind a d e up h)
  either _ _ _ (behind a d e up h) (behind f g i over k) =
      let same : d ≡ g = cc in
      either d e i h (subst (λ (x : ClassName). IsHeir shapes x i) (sym same) k)

  module _ (n : ℕ) (x : ApiMember) (is : member_of n ≡ Some x) (virtual : x.kind ≡ Virtual) where
    abbrev its : StandsAtToken shapes on.bound n x.class
    its = on.virtual n x is virtual

    listed_here : virtual_member shapes n ≡ Some (record { class = classes.Api x.class; token = its.token })
    listed_here = grind (arith, token_told)

    -- what is found below is declared below
    declared_below : (c : ClassName) (name : MethodName) (d : DeclaredMethod) → IsHeir shapes c (classes.Api x.class)
        → virtual_method_of shapes c its.token 0 ≡ Some name → method_at shapes name ≡ Some d
        → is_class_below shapes d.class (classes.Api x.class) ≡ true
    declared_below c name d heir finds there =
        let f = ground.sound.virtual_methods.found c its.token 0 name finds in
        let same = some_same (method_at shapes name) f.declared d f.there there in
        let h = subst (λ (y : DeclaredMethod). IsHeir shapes c y.class) same f.heir in
        by_side (either c d.class (classes.Api x.class) h heir)
      where
        by_side : IsHeir shapes d.class (classes.Api x.class) ⊎ IsHeir shapes (classes.Api x.class) d.class
            → is_class_below shapes d.class (classes.Api x.class) ≡ true
        by_side (inl h) =
            below_heir s ground d.class (classes.Api x.class) h
            (ground.names.declared (Api n) (its_method n x) (on.members n x is))
        by_side (inr h) =
            let is_it = some_same (method_at shapes name) d (its_method n x) there
            (ap (method_at shapes) (its.only c name d finds there h) ∙ on.members n x is) in
            subst (λ (y : ClassName). is_class_below shapes y (classes.Api x.class) ≡ true)
            (sym (ap (λ (y : DeclaredMethod). y.class) is_it)) (ground.order.reflexive (classes.Api x.class))

    -- of Applet's, no other one is found
    no_other : x.class ≡ api_classes.Applet → (c : ClassName) (j : ℕ) → IsHeir shapes c (classes.Api x.class)
        → virtual_method_of shapes c its.token 0 ≡ Some (Api j) → j ≡ n
    no_other class_is c j heir finds =
        let f = ground.sound.virtual_methods.found c its.token 0 (Api j) finds in
        let m = member_there j f.declared f.there in
        let below : is_class_below shapes (classes.Api (m.0).class) (classes.Api api_classes.Applet) ≡ true =
        subst (λ (y : ApiClass). is_class_below shapes (classes.Api (m.0).class) (classes.Api y) ≡ true) class_is
        (subst (λ (y : ClassName). is_class_below shapes y (classes.Api x.class) ≡ true) m.1
        (declared_below c (Api j) f.declared heir finds f.there)) in
        let same : classes.Api x.class ≡ f.declared.class =
        ap classes.Api (class_is
        ∙ sym (applet_is (m.0).class (applet_alone shapes on.stands most_classes (m.0).class below))) ∙ sym m.1 in
        let one = its.only c (Api j) f.declared finds f.there
        (subst (IsHeir shapes (classes.Api x.class)) same (itself (classes.Api x.class))) in
        cc

    has_virtual : HasVirtual shapes n x.class
    has_virtual = record {
      token = its.token;
      small = let low = its.public in omega (arith, low);
      listed = listed_here;
      found = its.found;
      below = declared_below;
      only = no_other;
    }

  static_there : (n : ℕ) (x : ApiMember) (d : DeclaredMethod) → member_of n ≡ Some x → x.kind ≡ Static
      → method_at shapes (Api n) ≡ Some d → d.method.is_static ≡ true
  static_there n x d is kind e =
      let same = some_same (method_at shapes (Api n)) d (its_method n x) e (on.members n x is) in
      ap (λ (y : DeclaredMethod). y.method.is_static) same ∙ ap is_static kind

  -- in an accepted world
  pub have_members : HaveMembers s.world.shapes
  have_members = record { virtual = has_virtual; static = static_there }
