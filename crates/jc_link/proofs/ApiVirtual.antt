-- The virtual members of the API in each world that begins with its packages: the token at which each stands in its
-- class's table, and what is found there.
use Rattle.std.proofs.Common.{◌≡◌, ℕ, zero, suc, ◌-◌, ◌<◌, ◌≤◌, ◌==◌, List, [], ◌∷◌, length, Bool, true, false}
use Rattle.std.proofs.Common.{cond, Option, Some, nat_lt, slice_get, unwrap_or, refl, sym, ap, ◌∙◌, subst, arith}
use Rattle.std.proofs.lemmas.Bool.{eq-eqb, eqb-true, le-ltb, lt-ltb, ltb-true}
use Rattle.std.proofs.lemmas.List.Folds.{find_at}
use Rattle.std.proofs.lemmas.Option.{slice_get_within}
use Rattle.std.specs.List.{find, position, position_or_len}
use Rattle.std.specs.Option.{option_and_then, option_map}
use Rattle.jc_api.specs.Member.{last_member}
use Rattle.jc_api.specs.Bound.{Bound}
use Rattle.jc_api.specs.Class as tables
use Rattle.jc_api.specs.Class.{is_interface, package_of}
use Rattle.jc_api.specs.Member.{ApiMember, member_of}
use Rattle.jc_api.specs.NoClash.{HasNoClash}
use Rattle.jc_api.specs.Numbered.{numbered}
use Rattle.jc_api.specs.Token.{is_at_or_above, is_virtual, member_token_limit}
use Rattle.jc_api.specs.declared.class.ApiClass.{ApiClass}
use Rattle.jc_api.specs.declared.class.ApiPackage.{ApiPackage}
use Rattle.jc_api.specs.declared.member.MemberKind.{MemberKind}
use Rattle.jc_cap.specs.declared.record.ClassRecord.{ClassRecord}
use Rattle.jc_cap.specs.declared.record.RecordBody.TheVariants.{Class, Interface}
use Rattle.jc_cap_desc.specs.Shape.{ClassShape, Shape}
use Rattle.jc_classes.specs.Api.{api_world, class_in_api, each_below, method_in, public_table, record_in}
use Rattle.jc_classes.specs.Growth.{IsMethodWithin, KeepsAllLookups}
use Rattle.jc_classes.specs.Members.{DeclaredMethod, declared_in, method_at}
use Rattle.jc_classes.specs.Methods.{declared_above, method_name, package_visible, virtual_method_of, virtual_visit}
use Rattle.jc_classes.specs.Record.{public_entries}
use Rattle.jc_classes.specs.Walk.{found_from, most_classes, walk}
use Rattle.jc_classes.specs.World.{class_at, superclass_of}
use Rattle.jc_link.proofs.ApiClasses.{above_itself, above_super, class_itself, class_there, superclass_is}
use Rattle.jc_link.proofs.ApiLists.{each_is, each_there, number_there, numbered_there, there_at, within_room}
use Rattle.jc_link.proofs.ApiMembers.{has_member, member_range, member_there, no_interface}
use Rattle.jc_link.proofs.ApiTables.{IsDeclared, both_meet, class_record, declared_token, entry, found_step}
use Rattle.jc_link.proofs.ApiTables.{inherited_token, is_declared, room, there_visit}
use Rattle.jc_link.proofs.GrownParts.{chosen_of, mapped, position_below, some_of, the_some}
use Rattle.jc_link.proofs.GrownWithin.{at_record, by_test, declared_home}
use Rattle.jc_link.proofs.Nones.{found_passes}
use Rattle.jc_link.proofs.SoundChains.{api_low}
use Rattle.jc_link.specs.ApiClasses.{StandsAtToken}
use Rattle.jc_link.specs.Sound.{IsHeir}
use Rattle.jc_link.specs.Sound.IsHeir.{behind, itself}
use Rattle.jc_names.specs.Names.{api_home, home_of}
use Rattle.jc_names.specs.declared.name.ClassName.{ClassName}
use Rattle.jc_names.specs.declared.name.ClassName.TheVariants as classes
use Rattle.jc_names.specs.declared.name.MethodName.{MethodName}
use Rattle.jc_names.specs.declared.name.MethodName.TheVariants.{Api, Loaded}

-- ---- tests

false_if : (b : Bool) → (b ≡ true → ⊥) → b ≡ false
false_if b h1 = grind arith

never : (b : Bool) → b ≡ true → b ≡ false → ⊥
never b h1 h2 = grind arith

-- ---- where a number stands

some_found : (n : ℕ) (xs : List ℕ) (t : ℕ) → slice_get xs t ≡ Some n → find (λ (m : ℕ). m == n) xs ≡ Some n
some_found n [] t e = absurd cc
some_found n (y ∷ xs) zero e = grind (arith, by_test, never, eq-eqb)
some_found n (y ∷ xs) (suc t) e =
    by_test (λ (o : Option ℕ). o ≡ Some n) (y == n) (Some y) (find (λ (m : ℕ). m == n) xs)
    (λ h. ap Some (eqb-true y n h)) (λ h. some_found n xs t e)

found_position : (p : ℕ → Bool) (xs : List ℕ) (x : ℕ) → find p xs ≡ Some x
    → (i : ℕ) × (position p xs ≡ Some i) × (slice_get xs i ≡ Some x)
found_position p xs x e = grind (arith, find_at, slice_get_within, lt-ltb)

-- ---- in the API's tables

module _ (bound : Bound) (clear : HasNoClash bound) where
  -- what stands in a class's table is a member that it declares under that token
  pub in_class : (b : ApiClass) (token offset : ℕ) → slice_get (each_below (room bound b) (entry bound b)) token
      ≡ Some offset → (offset == declared_above) ≡ false → IsDeclared bound b token offset
  in_class b token offset e other = grind (arith, declared_token, each_is, entry, room, never, eq-eqb, is_declared)

  not_above : (n : ℕ) (x : ApiMember) → member_of n ≡ Some x → (n == declared_above) ≡ false
  not_above n x is = grind (arith, false_if, eqb-true, member_range)

  virtual_limit : (kind : MemberKind) → is_virtual kind ≡ true → member_token_limit kind ≡ 127
  virtual_limit kind h1 = grind arith

  -- so its token is public
  token_low : (b : ApiClass) (token n : ℕ) → IsDeclared bound b token n → token < package_visible
  token_low b token n d =
      let within = clear.member_range n token d.member d.number d.its_token in
      let limit = virtual_limit (d.member).kind d.virtual in
      omega (arith, within, limit)

  pub public_there : (c : ApiClass) (n token : ℕ) (m : ApiMember) → member_of n ≡ Some m
      → position (λ i. i == n) (public_entries (record_in bound c)) ≡ Some token → token < package_visible
  public_there c n token m is = by_kind (is_interface c)
    where
      placed_at : (p : ℕ → Bool) (xs : List ℕ) (i : ℕ) → position p xs ≡ Some i
          → (x : ℕ) × (slice_get xs i ≡ Some x) × (p x ≡ true)
      placed_at p xs i e =
          let x = there_at xs i (position_below p xs i e) in
          let same = the_some (position_or_len p xs) i
          (chosen_of (nat_lt (position_or_len p xs) (length xs)) (Some (position_or_len p xs)) i e) in
          (x.0, x.1, found_passes p xs x.0 (find_at p xs ∙ ap (slice_get xs) same ∙ x.1))

      by_kind : (b : Bool) → position (λ i. i == n) (public_entries (cond b (Interface
          (record { superinterfaces = [] })) (Class (class_record bound c)))) ≡ Some token → token < package_visible
      by_kind true e = absurd cc
      by_kind false e =
          let at = placed_at (λ i. i == n) (public_table bound c).methods token e in
          token_low c token n (in_class c token n (at.1 ∙ ap Some (eqb-true at.0 n at.2)) (not_above n m is))

  -- a virtual member, at the token that its class has it under
  record InTable (n : ℕ) (x : ApiMember) : Type 0 where
    token : ℕ
    its : numbered bound.members n ≡ Some token
    placed : position (λ (m : ℕ). m == n) (each_below (room bound x.class) (entry bound x.class)) ≡ Some token
    there : slice_get (each_below (room bound x.class) (entry bound x.class)) token ≡ Some n
    small : token < package_visible

  -- the one member with its token, of its class or of one above it
  only_one : (n j t : ℕ) (x y : ApiMember) → member_of n ≡ Some x → is_virtual x.kind ≡ true → member_of j ≡ Some y
      → is_virtual y.kind ≡ true → is_at_or_above y.class x.class ≡ true → numbered bound.members j ≡ Some t
      → numbered bound.members n ≡ Some t → j ≡ n
  only_one n j t x y is v f w up e g = clear.member_tokens j n t y x f is (both_meet y x w v up) e g

  module _ (n : ℕ) (x : ApiMember) (is : member_of n ≡ Some x) (virtual : is_virtual x.kind ≡ true) where
    abbrev entries : List ℕ
    entries = each_below (room bound x.class) (entry bound x.class)

    few : n ≤ last_member
    few = (member_range n x is).1

    at_least : 1 ≤ n
    at_least = (member_range n x is).0

    token_there : (t : ℕ) × (numbered bound.members n ≡ Some t)
    token_there =
        let count = clear.member_count in
        let most = few in
        numbered_there bound.members n at_least (omega (arith, count, most))

    its_declared : (t : ℕ) → numbered bound.members n ≡ Some t → declared_token bound x.class n ≡ Some t
    its_declared t e = rw (is, virtual, class_itself x.class) e

    its_inherited : (t : ℕ) → numbered bound.members n ≡ Some t → inherited_token bound x.class n ≡ Some t
    its_inherited t e = rw (is, virtual, above_itself x.class) e

    in_table : InTable n x
    in_table =
        let t = token_there in
        let k = number_there last_member (declared_token bound x.class) t.0 n at_least few (its_declared t.0 t.1) in
        let d = is_declared bound x.class t.0 k.0 k.1 in
        let same = only_one n k.0 t.0 x d.member is virtual d.number d.virtual
        (ap (λ (c : ApiClass). is_at_or_above c x.class) d.class ∙ above_itself x.class) d.its_token t.1 in
        let within = within_room last_member (inherited_token bound x.class) n t.0 at_least few (its_inherited t.0 t.1)
        in
        let at = each_there (entry bound x.class) (room bound x.class) t.0 within
        ∙ ap (λ (o : Option ℕ). Some (unwrap_or o declared_above)) k.1 ∙ ap Some same in
        let f = found_position (λ (m : ℕ). m == n) entries n (some_found n entries t.0 at) in
        let its = in_class x.class f.0 n f.2 (not_above n x is) in record {
          token = f.0;
          its = its.its_token;
          placed = f.1;
          there = f.2;
          small = token_low x.class f.0 n its;
        }

    some_there : (xs : List ℕ) (i : ℕ) → slice_get xs i ≡ Some n → (length xs == 0) ≡ false
    some_there xs i e = grind (arith, false_if, eqb-true, slice_get_within)

    not_below : (i : ℕ) → nat_lt i 0 ≡ false
    not_below i = false_if (nat_lt i 0) (λ h. let less = ltb-true i 0 h in absurd (omega (arith, less)))

    found_there : (i : ℕ) → slice_get entries i ≡ Some n → i < package_visible
        → virtual_method_of (api_world bound) (classes.Api x.class) i 0 ≡ Some (Api n)
    found_there i e low =
        let same : i - 0 ≡ i = omega arith in
        let home = api_home (package_of x.class) in
        let above = option_and_then (λ d. virtual_method_of (api_world bound) d i 0) (option_map classes.Api
        (tables.superclass_of x.class)) in
        grind (
          arith,
          found_step bound clear 0 i x.class,
          no_interface n x is,
          lt-ltb i 128 low,
          not_below i,
          some_there entries i e,
          not_above n x is,
          there_visit bound clear 0 i n (package_of x.class) above (has_member bound n x is),
        )

-- ---- in a world

module _ (world : List Shape) (bound : Bound) (clear : HasNoClash bound)
    (looks : KeepsAllLookups (api_world bound) world) where
  pub its_class : (b : ApiClass) → class_at world (classes.Api b) ≡ Some (class_in_api bound b)
  its_class b = looks.classes (classes.Api b) (api_low (package_of b)) ∙ class_there bound b

  pub its_superclass : (b : ApiClass)
      → superclass_of world (classes.Api b) ≡ option_map classes.Api (tables.superclass_of b)
  its_superclass b = looks.superclasses (classes.Api b) (api_low (package_of b)) ∙ superclass_is bound clear b

  pub method_within : (n : ℕ) → IsMethodWithin (api_world bound) (Api n)
  method_within n home e = grind (arith, mapped, api_low)

  pub its_method : (n : ℕ) (x : ApiMember) → member_of n ≡ Some x
      → method_at world (Api n) ≡ Some (record { class = classes.Api x.class; method = method_in bound n x })
  its_method n x is = looks.methods (Api n) (method_within n) ∙ member_there bound n x is

  -- what is found at a token and is a member of the API is declared under that token
  record IsAt (token j : ℕ) : Type 0 where
    class : ApiClass
    declared : IsDeclared bound class token j

  in_record : (b : ApiClass) (interface : Bool) (token offset : ℕ) (r : ClassRecord)
      → cond interface (Interface (record { superinterfaces = [] })) (Class (class_record bound b)) ≡ Class r
      → slice_get r.public_methods.methods (token - r.public_methods.base) ≡ Some offset
      → (offset == declared_above) ≡ false → IsAt token offset
  in_record b true token offset r e f other = absurd cc
  in_record b false token offset r e f other =
      let is : class_record bound b ≡ r = cc in
      let P : ClassRecord → Type 0 =
      λ x. slice_get x.public_methods.methods (token - x.public_methods.base) ≡ Some offset in
      let same : token ≡ token - 0 = omega arith in record {
        class = b;
        declared = in_class bound clear b token offset
            (ap (slice_get (each_below (room bound b) (entry bound b))) same ∙ subst P (sym is) f) other;
      }

  api_offset : (p : ApiPackage) (offset j : ℕ) → method_name (api_home p) offset ≡ Api j → offset ≡ j
  api_offset p offset j h1 = grind arith

  by_name : (c : ClassName) (k : ClassShape) → class_at world c ≡ Some k → (token offset j : ℕ) (r : ClassRecord)
      → k.body ≡ Class r → slice_get r.public_methods.methods (token - r.public_methods.base) ≡ Some offset
      → (offset == declared_above) ≡ false → method_name (home_of c) offset ≡ Api j → IsAt token j
  by_name (classes.Api b) k there token offset j r body e other name =
      let is = the_some k (class_in_api bound b) (sym there ∙ its_class b) in
      let same = api_offset (package_of b) offset j name in
      subst (λ (i : ℕ). IsAt token i) same
      (in_record b (is_interface b) token offset r (sym (ap (λ (x : ClassShape). x.body) is) ∙ body) e other)
  by_name (classes.Loaded zero o) k there token offset j r body e other name = absurd cc
  by_name (classes.Loaded (suc n) o) k there token offset j r body e other name = grind (arith, le-ltb)

  walk_finds : (token j : ℕ) → nat_lt token package_visible ≡ true → (steps : ℕ) (c : ClassName)
      → walk (virtual_visit world 0 token) world steps c ≡ Some (Api j) → IsAt token j
  walk_finds token j low zero c e = absurd cc
  walk_finds token j low (suc n) c e =
      let above : Option MethodName = option_and_then (walk (virtual_visit world 0 token) world n)
      (superclass_of world c) in
      let k = some_of (λ (k : ClassShape). found_from (virtual_visit world 0 token c k) above) (class_at world c)
      (Api j) e in
      at_record world (home_of c) above (Api j) (IsAt token j)
      (λ f.
      let d = some_of (walk (virtual_visit world 0 token) world n) (superclass_of world c) (Api j) f in
      walk_finds token j low n d.0 d.2)
      0 token (k.0).body (λ r body offset. by_name c k.0 k.1 token offset j r body)
      (λ r body high. absurd (never (nat_lt token package_visible) low high)) k.2

  -- ---- what is above a class of the API

  record IsAbove (b : ApiClass) (c : ClassName) : Type 0 where
    class : ApiClass
    is : c ≡ classes.Api class
    above : is_at_or_above class b ≡ true

  api_above : (a c : ClassName) → IsHeir world a c → (b : ApiClass) → a ≡ classes.Api b → IsAbove b c
  api_above _ _ (itself a) b is = record { class = b; is = is; above = above_itself b }
  api_above _ _ (behind a d e up h) b is =
      let f = mapped classes.Api (tables.superclass_of b) d
      (sym (its_superclass b) ∙ ap (superclass_of world) (sym is) ∙ up) in
      let g = api_above d e h f.0 (sym f.2) in
      record { class = g.class; is = g.is; above = above_super g.class b f.0 f.1 g.above }

  -- a method of a loaded package isn't declared by a class of the API
  api_name : (name : MethodName) (d : DeclaredMethod) (b : ApiClass) → method_at world name ≡ Some d
      → d.class ≡ classes.Api b → (j : ℕ) × (name ≡ Api j)
  api_name (Api j) d b e is = (j, refl)
  api_name (Loaded zero offset) d b e is = absurd cc
  api_name (Loaded (suc n) offset) d b e is =
      let a = some_of (declared_in (suc (suc n)) offset) (slice_get world (suc (suc n))) d e in
      let home = declared_home (suc (suc n)) offset a.0 d a.2 in
      let low = api_low (package_of b) in
      let same = ap home_of is in
      absurd (omega (arith, home, low, same))

  -- ---- a virtual member

  module _ (n : ℕ) (x : ApiMember) (is : member_of n ≡ Some x) (virtual : is_virtual x.kind ≡ true) where
    abbrev its : InTable bound clear n x
    its = in_table bound clear n x is virtual

    only : (c : ClassName) (name : MethodName) (d : DeclaredMethod) → virtual_method_of world c its.token 0 ≡ Some name
        → method_at world name ≡ Some d → IsHeir world (classes.Api x.class) d.class → name ≡ Api n
    only c name d finds there heir =
        let a = api_above (classes.Api x.class) d.class heir x.class refl in
        let j = api_name name d a.class there a.is in
        let k = (walk_finds its.token j.0 (lt-ltb its.token 128 its.small) most_classes c
        (finds ∙ ap Some j.1)).declared in
        let same = the_some d _ (sym there ∙ ap (method_at world) j.1 ∙ its_method j.0 k.member k.number) in
        let classes_same : classes.Api a.class ≡ classes.Api k.member.class = grind arith in
        let class_is : a.class ≡ k.member.class = cc in
        j.1 ∙ ap Api (only_one bound clear n j.0 its.token x k.member is virtual k.number k.virtual
        (subst (λ (y : ApiClass). is_at_or_above y x.class ≡ true) class_is a.above) k.its_token its.its)

    pub has_virtual : StandsAtToken world bound n x.class
    has_virtual = record {
      token = its.token;
      public = its.small;
      listed = grind (arith, class_record, no_interface);
      found = grind (arith, api_low, found_there);
      only = only;
    }
