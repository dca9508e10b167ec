-- Drafts and bindings have no clash.
use Rattle.std.proofs.Common.{◌≡◌, ℕ, suc, ◌≤◌, ◌&&◌, ◌||◌, ◌==◌, not, Bool, true, false, cond, List, [], ◌∷◌, Option, Some, None, Ok, Err, refl, ap, ◌∙◌, sym, subst, arith}
use Rattle.std.proofs.lemmas.Slice.Eq.{bytes_eq-Decides}
use Rattle.jc_base.specs.declared.package_info.PackageInfo.{PackageInfo}
use Rattle.jc_base.proofs.Binding.{the_some, the_ok, bind_ok}
use Rattle.jc_api.specs.Member.{last_member}
use Rattle.jc_api.specs.Class.{last_class}
use Rattle.jc_api.specs.Options.{◌>>=◌, all_of}
use Rattle.jc_api.specs.Numbered.{numbered}
use Rattle.jc_api.specs.Class.{number_of, numbered_classes, package_of}
use Rattle.jc_api.specs.Member.{ApiMember, members, member_of}
use Rattle.jc_api.specs.Token.{class_token_limit, member_token_limit, is_virtual, is_same_package, is_same_class, is_at_or_above, classes_meet, members_meet}
use Rattle.jc_api.specs.Bound.{Bound}
use Rattle.jc_api.specs.NoClash.{HasNoClash}
use Rattle.jc_api.specs.Text.{is_skipped}
use Rattle.jc_api.specs.Statement.{statement_of}
use Rattle.jc_api.specs.Draft.{empty_draft, is_repeated, is_aid, clashes, member_clashes, drafted, whole_of}
use Rattle.jc_api.specs.PrivateDraft.{IsSound}
use Rattle.jc_api.specs.Binding.{with_statement, with_line, with_lines}
use Rattle.jc_api.specs.declared.class.ApiPackage.{ApiPackage}
use Rattle.jc_api.specs.declared.class.ApiPackage.TheVariants.{Lang, Framework}
use Rattle.jc_api.specs.declared.class.ApiClass.{ApiClass}
use Rattle.jc_api.specs.declared.class.ApiClass.TheVariants.{Object, Throwable, Exception, RuntimeException, ArithmeticException, ArrayStoreException, ClassCastException, IndexOutOfBoundsException, ArrayIndexOutOfBoundsException, NegativeArraySizeException, NullPointerException, SecurityException, Shareable, CardRuntimeException, IsoException, SystemException, ApduException, Aid, Apdu, Applet, JcSystem, Util}
use Rattle.jc_api.specs.declared.fault.BindingFault.{BindingFault}
use Rattle.jc_api.specs.declared.fault.BindingFault.TheVariants.{Repeated, Clash}
use Rattle.jc_api.specs.declared.statement.Statement.{Statement}
use Rattle.jc_api.specs.declared.statement.Statement.TheVariants.{Package, Class, Member}
use Rattle.jc_api.specs.declared.draft.Draft.{Draft}
use Rattle.jc_api.proofs.Tables.{differ_on, kept_on, put_length, none_named, all_numbered, all_length}
use Rattle.jc_api.proofs.Stated.{IsStated, statement_kept}

-- the class with a class's number is that class
pub class_numbered : (c : ApiClass) → numbered numbered_classes (number_of c) ≡ Some c
class_numbered Object = refl
class_numbered Throwable = refl
class_numbered Exception = refl
class_numbered RuntimeException = refl
class_numbered ArithmeticException = refl
class_numbered ArrayStoreException = refl
class_numbered ClassCastException = refl
class_numbered IndexOutOfBoundsException = refl
class_numbered ArrayIndexOutOfBoundsException = refl
class_numbered NegativeArraySizeException = refl
class_numbered NullPointerException = refl
class_numbered SecurityException = refl
class_numbered Shareable = refl
class_numbered CardRuntimeException = refl
class_numbered IsoException = refl
class_numbered SystemException = refl
class_numbered ApduException = refl
class_numbered Aid = refl
class_numbered Apdu = refl
class_numbered Applet = refl
class_numbered JcSystem = refl
class_numbered Util = refl

-- meeting goes both ways
packages_turned : (a b : ApiPackage) → is_same_package a b ≡ is_same_package b a
packages_turned Lang Lang = refl
packages_turned Lang Framework = refl
packages_turned Framework Lang = refl
packages_turned Framework Framework = refl

pub classes_turned : (a b : ApiClass) → classes_meet a b ≡ classes_meet b a
classes_turned a b = packages_turned (package_of a) (package_of b)

equal_turned : (m n : ℕ) → (m == n) ≡ (n == m)
equal_turned m n = grind arith

pub members_turned : (a b : ApiMember) → members_meet a b ≡ members_meet b a
unfolding members_meet
members_turned a b = part (is_virtual a.kind) (is_virtual b.kind) (is_at_or_above a.class b.class) (is_at_or_above b.class a.class) (is_same_class a.class b.class) (is_same_class b.class a.class) (equal_turned (number_of a.class) (number_of b.class))
  where
    part : (p q u v s t : Bool) → s ≡ t → cond p (q && (u || v)) (not q && s) ≡ cond q (p && (v || u)) (not p && t)
    part true true true true s t e = refl
    part true true true false s t e = refl
    part true true false true s t e = refl
    part true true false false s t e = refl
    part true false u v s t e = refl
    part false true u v s t e = refl
    part false false u v s t e = e

other_aid : (i j : PackageInfo) → is_aid i.aid (Some j) ≡ false → i.aid ≡ j.aid → ⊥
other_aid i j free same = grind (arith, bytes_eq-Decides)

-- one more statement that doesn't clash
pub name_sound : (draft : Draft) (s : Statement) → IsStated s → clashes draft s ≡ false → IsSound draft → IsSound (drafted draft s)
unfolding clashes drafted
name_sound draft (Package Lang info) fits free sound = record {
  class_count = sound.class_count;
  member_count = sound.member_count;
  class_range = sound.class_range;
  member_range = sound.member_range;
  aids = λ i j here there same. other_aid i j (ap (is_aid i.aid) (sym there) ∙ ap (λ (p : PackageInfo). is_aid p.aid draft.framework) (sym (the_some info i here)) ∙ free) same;
  class_tokens = sound.class_tokens;
  member_tokens = sound.member_tokens;
}
name_sound draft (Package Framework info) fits free sound = record {
  class_count = sound.class_count;
  member_count = sound.member_count;
  class_range = sound.class_range;
  member_range = sound.member_range;
  aids = λ i j here there same. other_aid j i (ap (is_aid j.aid) (sym here) ∙ ap (λ (p : PackageInfo). is_aid p.aid draft.lang) (sym (the_some info j there)) ∙ free) (sym same);
  class_tokens = sound.class_tokens;
  member_tokens = sound.member_tokens;
}
name_sound draft (Class class token) fits free sound = record {
  class_count = put_length draft.classes (number_of class) (Some token) ∙ sound.class_count;
  member_count = sound.member_count;
  class_range = kept_on (λ n t. t ≤ class_token_limit) draft.classes (number_of class) token fits sound.class_range;
  member_range = sound.member_range;
  aids = sound.aids;
  class_tokens = differ_on classes_meet classes_turned numbered_classes draft.classes (number_of class) token class (class_numbered class) free sound.class_tokens;
  member_tokens = sound.member_tokens;
}
name_sound draft (Member number token) fits free sound = record {
  class_count = sound.class_count;
  member_count = put_length draft.members number (Some token) ∙ sound.member_count;
  class_range = sound.class_range;
  member_range = λ n t m at name. kept_on InRange draft.members number token fit (λ k u h q place. sound.member_range k u q place h) n t name m at;
  aids = sound.aids;
  class_tokens = sound.class_tokens;
  member_tokens = differ_on members_meet members_turned members draft.members number token fits.0 fits.1 (ap (member_clashes draft token) (sym fits.1) ∙ free) sound.member_tokens;
}
  where
    InRange : ℕ → ℕ → Type 0
    InRange n t = (m : ApiMember) → member_of n ≡ Some m → t ≤ member_token_limit m.kind

    fit : InRange number token
    fit m at = let P : ApiMember → Type 0 = λ q. token ≤ member_token_limit q.kind in subst P (the_some fits.0 m (sym fits.1 ∙ at)) fits.2

pub line_sound : (n : ℕ) (draft more : Draft) (line : List ℕ) → with_line n draft line ≡ Ok more → IsSound draft → IsSound more
unfolding with_line
line_sound n draft more line h sound = skip (is_skipped line) h
  where
    clash : (s : Statement) → statement_of line ≡ Some s → (b : Bool) → clashes draft s ≡ b → cond b (Err (Clash n)) (Ok (drafted draft s)) ≡ Ok more → IsSound more
    clash s said true c e = absurd cc
    clash s said false c e = subst IsSound (the_ok {E = BindingFault} (drafted draft s) more e) (name_sound draft s (statement_kept line s said) c sound)

    repeated : (s : Statement) → statement_of line ≡ Some s → (b : Bool) → cond b (Err (Repeated n)) (cond (clashes draft s) (Err (Clash n)) (Ok (drafted draft s))) ≡ Ok more → IsSound more
    repeated s said true e = absurd cc
    repeated s said false e = clash s said (clashes draft s) refl e

    say : (o : Option Statement) → statement_of line ≡ o → with_statement n draft o ≡ Ok more → IsSound more
    say None said e = absurd cc
    say (Some s) said e = repeated s said (is_repeated draft s) e

    skip : (b : Bool) → cond b (Ok draft) (with_statement n draft (statement_of line)) ≡ Ok more → IsSound more
    skip true e = subst IsSound (the_ok {E = BindingFault} draft more e) sound
    skip false e = say (statement_of line) refl e

pub lines_sound : (n : ℕ) (draft more : Draft) (lines : List (List ℕ)) → with_lines n draft lines ≡ Ok more → IsSound draft → IsSound more
unfolding with_lines
lines_sound n draft more [] h sound = subst IsSound (the_ok {E = BindingFault} draft more h) sound
lines_sound n draft more (line ∷ lines) h sound =
    let step = bind_ok (with_line n draft line) (λ d. with_lines (suc n) d lines) more h in
    lines_sound (suc n) step.0 more lines step.2 (line_sound n draft step.0 line step.1 sound)

pub empty_sound : IsSound empty_draft
empty_sound = record {
  class_count = refl;
  member_count = refl;
  class_range = λ n t h. absurd (none_named last_class n t h);
  member_range = λ n t m at h. absurd (none_named last_member n t h);
  aids = λ i j h. absurd cc;
  class_tokens = λ i j t x y at there met h. absurd (none_named last_class i t h);
  member_tokens = λ i j t x y at there met h. absurd (none_named last_member i t h);
}

some_bind : {A B : Type 0} (o : Option A) (f : A → Option B) (y : B) → (o >>= f) ≡ Some y → (x : A) × (o ≡ Some x) × (f x ≡ Some y)
some_bind (Some x) f y h = (x, refl, h)
some_bind None f y h = absurd cc

-- what a whole draft has
pub record IsWhole (draft : Draft) (bound : Bound) : Type 0 where
  pub lang : draft.lang ≡ Some bound.lang
  pub framework : draft.framework ≡ Some bound.framework
  pub classes : all_of draft.classes ≡ Some bound.classes
  pub members : all_of draft.members ≡ Some bound.members

pub is_whole : (draft : Draft) (bound : Bound) → whole_of draft ≡ Some bound → IsWhole draft bound
unfolding whole_of
is_whole draft bound h =
    let a = some_bind draft.lang _ bound h in
    let b = some_bind draft.framework _ bound a.2 in
    let d = some_bind (all_of draft.classes) _ bound b.2 in
    let e = some_bind (all_of draft.members) _ bound d.2 in
    let made = the_some (record { lang = a.0; framework = b.0; classes = d.0; members = e.0 }) bound e.2 in
    subst (IsWhole draft) made (record { lang = a.1; framework = b.1; classes = d.1; members = e.1 })

pub whole_sound : (draft : Draft) (bound : Bound) → IsSound draft → IsWhole draft bound → HasNoClash bound
whole_sound draft bound sound whole = record {
  class_count = all_length draft.classes bound.classes whole.classes ∙ sound.class_count;
  member_count = all_length draft.members bound.members whole.members ∙ sound.member_count;
  class_range = λ n t h. sound.class_range n t (class_at n t h);
  member_range = λ n t m at h. sound.member_range n t m at (member_at n t h);
  aids = λ same. sound.aids bound.lang bound.framework whole.lang whole.framework same;
  class_tokens = λ i j t x y at there met h k. sound.class_tokens i j t x y at there met (class_at i t h) (class_at j t k);
  member_tokens = λ i j t x y at there met h k. sound.member_tokens i j t x y at there met (member_at i t h) (member_at j t k);
}
  where
    class_at : (n t : ℕ) → numbered bound.classes n ≡ Some t → numbered draft.classes n ≡ Some (Some t)
    class_at n t h = all_numbered draft.classes bound.classes n t whole.classes h

    member_at : (n t : ℕ) → numbered bound.members n ≡ Some t → numbered draft.members n ≡ Some (Some t)
    member_at n t h = all_numbered draft.members bound.members n t whole.members h
