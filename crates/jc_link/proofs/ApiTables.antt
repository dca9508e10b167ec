-- Virtual methods of the API: each that a class finds is a member of it or of a class above it, under its token, and no class
-- loses what its superclass finds.
use Rattle.std.proofs.Common.{◌≡◌, ℕ, zero, suc, ◌-◌, ◌<◌, ◌≤◌, ◌==◌, ◌&&◌, ◌||◌, ◌⊎◌, inl, inr, Bool, true, false, cond, List, [], length, Option, Some, None, refl, ap, sym, ◌∙◌, arith, nat_lt, slice_get, unwrap_or}
use Rattle.std.proofs.lemmas.Bool.{cases_lt, le-ltb, lt-ltb}
use Rattle.std.specs.Option.{option_and_then, option_map}
use Rattle.jc_api.specs.Member.{last_member}
use Rattle.jc_cap.specs.declared.record.ClassRecord.{ClassRecord}
use Rattle.jc_cap.specs.declared.record.RecordBody.TheVariants.{Interface, Class}
use Rattle.jc_cap_desc.specs.Shape.{Shape}
use Rattle.jc_api.specs.Bound.{Bound}
use Rattle.jc_api.specs.Class.{is_interface, number_of, package_of, size_of, superclass_of}
use Rattle.jc_api.specs.Member.{ApiMember, member_of}
use Rattle.jc_api.specs.NoClash.{HasNoClash}
use Rattle.jc_api.specs.Numbered.{numbered}
use Rattle.jc_api.specs.Token.{is_at_or_above, is_same_class, is_virtual, members_meet}
use Rattle.jc_api.specs.declared.class.ApiClass.{ApiClass}
use Rattle.jc_api.specs.declared.class.ApiPackage.{ApiPackage}
use Rattle.jc_classes.specs.Api.{api_shape, api_world, class_in_api, each_below, member_token, no_table, number_to, public_table, room_to, spelled_in}
use Rattle.jc_classes.specs.Methods.{declared_above, entry_visit, has_method, method_there, record_visit, table_visit, virtual_method_of, virtual_visit}
use Rattle.jc_classes.specs.Walk.{found_from, most_classes, walk}
use Rattle.jc_names.specs.Names.{api_home}
use Rattle.jc_names.specs.declared.name.ClassName.{ClassName}
use Rattle.jc_names.specs.declared.name.ClassName.TheVariants as Names
use Rattle.jc_names.specs.declared.name.MethodName.{MethodName}
use Rattle.jc_names.specs.declared.name.MethodName.TheVariants.{Api}
use Rattle.jc_link.proofs.ApiClasses.{above_itself, above_super, class_there, in_range, interface_alone, not_above, same_class, super_before, superclass_is}
use Rattle.jc_link.proofs.ApiLists.{each_is, each_there, number_has, within_room}
use Rattle.jc_link.proofs.ApiMembers.{has_member, member_range}
use Rattle.jc_link.proofs.GrownParts.{none_some, some_of, the_some}
use Rattle.jc_link.proofs.Nones.{left_true, right_true, true_false}
use Rattle.jc_link.proofs.Superclasses.{most_is}

-- ---- the tokens of virtual methods: of those that a class declares, and of those above it too

abbrev pub declared_token : Bound → ApiClass → ℕ → Option ℕ
declared_token bound c = member_token (λ m. is_virtual m.kind && is_same_class m.class c) bound

abbrev pub inherited_token : Bound → ApiClass → ℕ → Option ℕ
inherited_token bound c = member_token (λ m. is_virtual m.kind && is_at_or_above m.class c) bound

abbrev pub entry : Bound → ApiClass → ℕ → ℕ
entry bound c token = unwrap_or (number_to last_member (declared_token bound c) token) declared_above

abbrev pub room : Bound → ApiClass → ℕ
room bound c = room_to last_member (inherited_token bound c)

abbrev pub class_record : Bound → ApiClass → ClassRecord
class_record bound c = record {
  superclass = option_map (spelled_in bound (package_of c)) (superclass_of c);
  declared_size = size_of c;
  public_methods = public_table bound c;
  package_methods = no_table;
  interfaces = [];
}

-- the member that a class declares under a token, by its number
pub record IsDeclared (bound : Bound) (c : ApiClass) (token n : ℕ) : Type 0 where
  pub member : ApiMember
  pub number : member_of n ≡ Some member
  pub virtual : is_virtual member.kind ≡ true
  pub class : member.class ≡ c
  pub its_token : numbered bound.members n ≡ Some token

pub is_declared : (bound : Bound) (c : ApiClass) (t n : ℕ) → number_to last_member (declared_token bound c) t ≡ Some n → IsDeclared bound c t n
is_declared bound c t n e = grind (arith, some_of, number_has, left_true, same_class, right_true, none_some)

-- ---- members along a chain

-- a member of a class or of one above it, under its token
pub record IsMember (bound : Bound) (c : ApiClass) (token : ℕ) (m : MethodName) : Type 0 where
  pub number : ℕ
  pub member : ApiMember
  pub name : m ≡ Api number
  pub is_number : member_of number ≡ Some member
  pub virtual : is_virtual member.kind ≡ true
  pub class : is_at_or_above member.class c ≡ true
  pub its_token : numbered bound.members number ≡ Some token

member_below : (bound : Bound) (c d : ApiClass) (token : ℕ) (m : MethodName) → superclass_of c ≡ Some d → IsMember bound d token m → IsMember bound c token m
member_below bound c d token m e i = grind (arith, above_super)

pub both_meet : (a b : ApiMember) → is_virtual a.kind ≡ true → is_virtual b.kind ≡ true → is_at_or_above a.class b.class ≡ true → members_meet a b ≡ true
unfolding members_meet
both_meet a b v w h = rw (v, w, h) refl

-- ---- walks

module _ (bound : Bound) (clear : HasNoClash bound) (asker token : ℕ) where
  abbrev world : List Shape
  world = api_world bound

  abbrev steps : ℕ → ClassName → Option MethodName
  steps n = walk (virtual_visit world asker token) world n

  pub walk_step : (n : ℕ) (c : ApiClass) → steps (suc n) (Names.Api c)
      ≡ found_from (virtual_visit world asker token (Names.Api c) (class_in_api bound c))
      (option_and_then (steps n) (option_map Names.Api (superclass_of c)))
  walk_step n c = grind (arith, class_there, superclass_is)

  -- more steps than a class's number change nothing
  enough : (n m : ℕ) (c : ApiClass) → number_of c ≤ n → number_of c ≤ m
      → steps n (Names.Api c) ≡ steps m (Names.Api c)
  enough zero m c h k = let low = (in_range c).0 in absurd (omega (arith, low))
  enough (suc n) zero c h k = let low = (in_range c).0 in absurd (omega (arith, low))
  enough (suc n) (suc m) c h k =
      walk_step n c
      ∙ ap (found_from (virtual_visit world asker token (Names.Api c) (class_in_api bound c)))
      (by_super (superclass_of c) (λ d e. let less = super_before c d e in enough n m d (omega (arith, less)) (omega (arith, less))))
      ∙ sym (walk_step m c)
    where
      by_super : (o : Option ApiClass)
          → ((d : ApiClass) → o ≡ Some d → steps n (Names.Api d) ≡ steps m (Names.Api d))
          → option_and_then (steps n) (option_map Names.Api o)
          ≡ option_and_then (steps m) (option_map Names.Api o)
      by_super o h1 = grind arith

  pub found_step : (c : ApiClass) → virtual_method_of world (Names.Api c) token asker
      ≡ found_from (virtual_visit world asker token (Names.Api c) (class_in_api bound c))
      (option_and_then (λ d. virtual_method_of world d token asker) (option_map Names.Api (superclass_of c)))
  found_step c =
      let high = (in_range c).1 in
      enough most_classes (suc most_classes) c (omega (arith, high, most_is)) (omega (arith, high, most_is)) ∙ walk_step most_classes c

  -- ---- package-visible tokens find nothing

  past : (home : ℕ) (c : ApiClass) (b : Bool) (above : Option MethodName) → 128 ≤ token → above ≡ None
      → found_from (record_visit world asker token home (cond b (Interface (record { superinterfaces = [] })) (Class (class_record bound c)))) above ≡ None
  past home c b above h1 h2 = grind (arith, le-ltb)

  none_visible : (n : ℕ) (c : ApiClass) → 128 ≤ token → steps n (Names.Api c) ≡ None
  none_visible zero c h = refl
  none_visible (suc n) c h = walk_step n c ∙ past (api_home (package_of c)) c (is_interface c) _ h (by_super (superclass_of c) (λ d. none_visible n d h))
    where
      by_super : (o : Option ApiClass) → ((d : ApiClass) → steps n (Names.Api d) ≡ None)
          → option_and_then (steps n) (option_map Names.Api o) ≡ None
      by_super o h1 = grind arith

  -- ---- public tokens find members

  public_visit : (home : ℕ) (r : ClassRecord) → token < 128 → record_visit world asker token home (Class r) ≡ table_visit world home r.public_methods token
  public_visit home r h = rw (lt-ltb token 128 h) refl

  pub there_visit : (n : ℕ) (p : ApiPackage) (above : Option MethodName) → has_method n (api_shape bound p) ≡ true
      → found_from (method_there world (api_home p) n) above ≡ Some (Api n)
  there_visit n p above h1 = grind arith

  -- what a class gives is what is above it, or the member that it declares
  module _ (c : ApiClass) (above : Option MethodName) (m : MethodName) (low : token < 128) where
    abbrev Gives : Type 0
    Gives = (above ≡ Some m) ⊎ ((n : ℕ) × (m ≡ Api n) × (number_to last_member (declared_token bound c) token ≡ Some n))

    by_number : (o : Option ℕ) → number_to last_member (declared_token bound c) token ≡ o
        → found_from (entry_visit world (api_home (package_of c)) (Some (unwrap_or o declared_above))) above ≡ Some m → Gives
    by_number o h1 h2 = grind (arith, is_declared, there_visit, has_member, the_some)

    by_entry : (o : Option ℕ) → slice_get (each_below (room bound c) (entry bound c)) token ≡ o
        → found_from (entry_visit world (api_home (package_of c)) o) above ≡ Some m → Gives
    by_entry o h1 h2 = grind (arith, none_some, by_number, each_is)

    by_table : (b : Bool) (t : ℕ) → t ≡ token → found_from (cond b (entry_visit world (api_home (package_of c)) (Some declared_above))
        (entry_visit world (api_home (package_of c)) (slice_get (each_below (room bound c) (entry bound c)) t))) above ≡ Some m → Gives
    by_table b t h1 h2 = grind (arith, by_entry)

    by_kind : (b : Bool) → found_from (record_visit world asker token (api_home (package_of c))
        (cond b (Interface (record { superinterfaces = [] })) (Class (class_record bound c)))) above ≡ Some m → Gives
    by_kind true e = absurd (none_some m e)
    by_kind false e =
        let same : token - 0 ≡ token = omega arith in
        by_table (nat_lt token 0 || length (each_below (room bound c) (entry bound c)) == 0) (token - 0) same
        (ap (λ v. found_from v above) (sym (public_visit (api_home (package_of c)) (class_record bound c) low)) ∙ e)

    pub gives : found_from (virtual_visit world asker token (Names.Api c) (class_in_api bound c)) above ≡ Some m → Gives
    gives e = by_kind (is_interface c) e

  -- a class that declares nothing under a token of its table gives what is above it
  passes : (c : ApiClass) (above : Option MethodName) → token < 128 → is_interface c ≡ false → token < room bound c
      → number_to last_member (declared_token bound c) token ≡ None
      → found_from (virtual_visit world asker token (Names.Api c) (class_in_api bound c)) above ≡ above
  passes c above low class within none =
      let same : token ≡ token - 0 = omega arith in
      grind (arith, public_visit, by_table)
    where
      by_table : (b : Bool) (t : ℕ) → token ≡ t → found_from (cond b (entry_visit world (api_home (package_of c)) (Some declared_above))
          (entry_visit world (api_home (package_of c)) (slice_get (each_below (room bound c) (entry bound c)) t))) above ≡ above
      by_table b t h1 = grind (arith, each_there)

  -- ---- what is found

  walk_finds : (n : ℕ) (c : ApiClass) (m : MethodName) → token < 128 → steps n (Names.Api c) ≡ Some m → IsMember bound c token m
  walk_finds zero c m low e = absurd (none_some m e)
  walk_finds (suc n) c m low e =
      by_case (superclass_of c) refl (λ d. walk_finds n d m low)
      (gives c (option_and_then (steps n) (option_map Names.Api (superclass_of c))) m low
      (sym (walk_step n c) ∙ e))
    where
      by_case : (o : Option ApiClass) → superclass_of c ≡ o
          → ((d : ApiClass) → steps n (Names.Api d) ≡ Some m → IsMember bound d token m)
          → (option_and_then (steps n) (option_map Names.Api o) ≡ Some m)
          ⊎ ((k : ℕ) × (m ≡ Api k) × (number_to last_member (declared_token bound c) token ≡ Some k)) → IsMember bound c token m
      by_case None f above (inl e) = absurd (none_some m e)
      by_case (Some d) f above (inl e) = member_below bound c d token m f (above d e)
      by_case o f above (inr k) =
          let d = is_declared bound c token k.0 k.2 in
          grind (arith, above_itself)

  pub found_member : (c : ApiClass) (m : MethodName) → virtual_method_of world (Names.Api c) token asker ≡ Some m → IsMember bound c token m
  found_member c m e = grind (arith, cases_lt, walk_finds, none_some, none_visible)

  -- a class finds what its superclass finds
  pub found_below : (c d : ApiClass) (m : MethodName) → superclass_of c ≡ Some d
      → virtual_method_of world (Names.Api d) token asker ≡ Some m → virtual_method_of world (Names.Api c) token asker ≡ Some m
  found_below c d m e f = by_order (cases_lt token 128)
    where
      is_member : IsMember bound c token m
      is_member = member_below bound c d token m e (found_member d m f)

      is_class : (b : Bool) → is_interface c ≡ b → is_interface c ≡ false
      is_class b h1 = grind (arith, none_some, interface_alone)

      has_room : token < room bound c
      has_room =
          let i = is_member in
          within_room last_member (inherited_token bound c) i.number token (member_range i.number i.member i.is_number).0 (member_range i.number i.member i.is_number).1
          (ap (option_and_then (λ (l : ApiMember). cond (is_virtual l.kind && is_at_or_above l.class c) (numbered bound.members i.number) None)) i.is_number
          ∙ ap (λ b. cond (b && is_at_or_above (i.member).class c) (numbered bound.members i.number) None) i.virtual
          ∙ ap (λ b. cond b (numbered bound.members i.number) None) i.class
          ∙ i.its_token)

      not_own : (n : ℕ) → IsDeclared bound c token n → ⊥
      not_own n k =
          let i = found_member d m f in
          let up : is_at_or_above (i.member).class c ≡ true = above_super (i.member).class c d e i.class in
          let one = clear.member_tokens i.number n token i.member k.member i.is_number k.number
          (both_meet i.member k.member i.virtual k.virtual (ap (is_at_or_above (i.member).class) k.class ∙ up)) i.its_token k.its_token in
          let its : (i.member).class ≡ c = ap (λ (l : ApiMember). l.class) (the_some i.member k.member (sym i.is_number ∙ ap member_of one ∙ k.number)) ∙ k.class in
          true_false (sym i.class ∙ ap (λ a. is_at_or_above a d) its ∙ not_above c d e)

      by_number : (o : Option ℕ) → number_to last_member (declared_token bound c) token ≡ o → token < 128 → virtual_method_of world (Names.Api c) token asker ≡ Some m
      by_number None g low = grind (arith, found_step, passes, is_class, has_room)
      by_number (Some n) g low = absurd (not_own n (is_declared bound c token n g))

      by_order : (token < 128) ⊎ (128 ≤ token) → virtual_method_of world (Names.Api c) token asker ≡ Some m
      by_order h1 = grind (arith, by_number, none_some, none_visible)
