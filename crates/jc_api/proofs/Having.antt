-- What a draft has, and how statements change that.
use Rattle.std.proofs.Common.{◌≡◌, ℕ, zero, suc, ◌+◌, ◌&&◌, ◌||◌, Bool, true, false, List, [], ◌∷◌, length, zip, Option, Some, None, is_some, slice_get, slice_set, option_map, refl, ap, ◌∙◌, sym, ◌⊎◌, inl, inr, arith}
use Rattle.std.specs.List.{list_any}
use Rattle.std.proofs.lemmas.Bool.{cases_eq}
use Rattle.std.proofs.lemmas.Option.{slice_get-map}
use Rattle.jc_base.specs.declared.package_info.PackageInfo.{PackageInfo}
use Rattle.jc_base.proofs.Binding.{the_some, both_true}
use Rattle.jc_api.specs.Member.{last_member}
use Rattle.jc_api.specs.Class.{last_class}
use Rattle.jc_api.specs.Numbered.{numbered, put}
use Rattle.jc_api.specs.Class.{number_of, numbered_classes}
use Rattle.jc_api.specs.Member.{members}
use Rattle.jc_api.specs.Draft.{named_package, is_named, is_repeated, is_taken, is_token, drafted, empty_draft}
use Rattle.jc_api.specs.PrivateDraft.{IsSound}
use Rattle.jc_api.specs.Meaning.{Subject, subject_of}
use Rattle.jc_api.specs.Meaning.Subject.{ThePackage, TheClass, TheMember}
use Rattle.jc_api.specs.declared.class.ApiPackage.TheVariants.{Lang, Framework}
use Rattle.jc_api.specs.declared.class.ApiClass.{ApiClass}
use Rattle.jc_api.specs.declared.statement.Statement.{Statement}
use Rattle.jc_api.specs.declared.statement.Statement.TheVariants.{Package, Class, Member}
use Rattle.jc_api.specs.declared.draft.Draft.{Draft}
use Rattle.jc_api.proofs.Stated.{IsStated}
use Rattle.jc_api.proofs.Sound.{class_numbered}
use Rattle.jc_api.proofs.Tables.{put_same, put_other, none_named}

abbrev pub Has : Draft → Statement → Type 0
Has d (Package which info) = named_package d which ≡ Some info
Has d (Class class token) = numbered d.classes (number_of class) ≡ Some (Some token)
Has d (Member number token) = numbered d.members number ≡ Some (Some token)

pub same_class : (c e : ApiClass) → number_of c ≡ number_of e → c ≡ e
same_class c e h = the_some c e (sym (class_numbered c) ∙ ap (numbered numbered_classes) h ∙ class_numbered e)

-- whether a draft has something of a subject
abbrev pub repeat_of : Draft → Subject → Bool
repeat_of d (ThePackage which) = is_some (named_package d which)
repeat_of d (TheClass class) = is_named (numbered d.classes (number_of class))
repeat_of d (TheMember number) = is_named (numbered d.members number)

pub repeated_is : (d : Draft) (s : Statement) → is_repeated d s ≡ repeat_of d (subject_of s)
unfolding is_repeated
repeated_is d (Package which info) = refl
repeated_is d (Class class token) = refl
repeated_is d (Member number token) = refl

has_at : (d : Draft) (s : Statement) → Has d s → repeat_of d (subject_of s) ≡ true
has_at d (Package which info) h = ap is_some h
has_at d (Class class token) h = ap is_named h
has_at d (Member number token) h = ap is_named h

pub has_repeated : (d : Draft) (s u : Statement) → Has d s → subject_of u ≡ subject_of s → is_repeated d u ≡ true
has_repeated d s u h same = repeated_is d u ∙ ap (repeat_of d) same ∙ has_at d s h

pub clash_of : {b : Bool} → b ≡ true → b ≡ false → ⊥
clash_of {b} first second = cc

-- a statement that isn't repeated takes nothing away
pub keep : (d : Draft) (s u : Statement) → is_repeated d s ≡ false → Has d u → Has (drafted d s) u
unfolding is_repeated drafted
keep d (Package Lang i) (Package Lang j) r h = absurd (clash_of (ap is_some h) r)
keep d (Package Lang i) (Package Framework j) r h = h
keep d (Package Framework i) (Package Lang j) r h = h
keep d (Package Framework i) (Package Framework j) r h = absurd (clash_of (ap is_some h) r)
keep d (Package Lang i) (Class e u) r h = h
keep d (Package Framework i) (Class e u) r h = h
keep d (Package Lang i) (Member m u) r h = h
keep d (Package Framework i) (Member m u) r h = h
keep d (Class c t) (Package Lang j) r h = h
keep d (Class c t) (Package Framework j) r h = h
keep d (Class c t) (Class e u) r h =
    elim (cases_eq (number_of c) (number_of e)) [
      | inl same ↦ absurd (clash_of (ap is_named (ap (numbered d.classes) same ∙ h)) r)
      | inr other ↦ put_other d.classes (number_of c) (number_of e) (Some t) other ∙ h
    ]
keep d (Class c t) (Member m u) r h = h
keep d (Member n t) (Package Lang j) r h = h
keep d (Member n t) (Package Framework j) r h = h
keep d (Member n t) (Class e u) r h = h
keep d (Member n t) (Member m u) r h =
    elim (cases_eq n m) [
      | inl same ↦ absurd (clash_of (ap is_named (ap (numbered d.members) same ∙ h)) r)
      | inr other ↦ put_other d.members n m (Some t) other ∙ h
    ]

set_there : {A B : Type 0} (rows : List B) (xs : List A) (k : ℕ) (x : B) (v : A) → length rows ≡ length xs → slice_get rows k ≡ Some x → slice_get (slice_set xs k v) k ≡ Some v
set_there [] xs k x v h e = absurd cc
set_there (r ∷ rows) [] k x v h e = absurd (omega arith)
set_there (r ∷ rows) (y ∷ xs) zero x v h e = refl
set_there (r ∷ rows) (y ∷ xs) (suc k) x v h e = set_there rows xs k x v (omega arith) e

put_there : {A B : Type 0} (rows : List B) (xs : List A) (n : ℕ) (x : B) (v : A) → length rows ≡ length xs → numbered rows n ≡ Some x → numbered (put xs n v) n ≡ Some v
put_there rows xs zero x v h e = absurd cc
put_there rows xs (suc k) x v h e = set_there rows xs k x v h e

-- what was stated is had
pub gains : (d : Draft) (s : Statement) → IsStated s → IsSound d → Has (drafted d s) s
unfolding drafted
gains d (Package Lang i) fits sound = refl
gains d (Package Framework i) fits sound = refl
gains d (Class c t) fits sound = put_there numbered_classes d.classes (number_of c) c (Some t) (sym sound.class_count) (class_numbered c)
gains d (Member n t) fits sound = put_there members d.members n fits.0 (Some t) (sym sound.member_count) fits.1

-- what is had behind a statement was had before it, or is it
pub has_back : (d : Draft) (s u : Statement) → Has (drafted d s) u → Has d u ⊎ (s ≡ u)
unfolding drafted
has_back d (Package Lang i) (Package Lang j) h = inr (ap (Package Lang) (the_some i j h))
has_back d (Package Lang i) (Package Framework j) h = inl h
has_back d (Package Framework i) (Package Lang j) h = inl h
has_back d (Package Framework i) (Package Framework j) h = inr (ap (Package Framework) (the_some i j h))
has_back d (Package Lang i) (Class e u) h = inl h
has_back d (Package Framework i) (Class e u) h = inl h
has_back d (Package Lang i) (Member m u) h = inl h
has_back d (Package Framework i) (Member m u) h = inl h
has_back d (Class c t) (Package Lang j) h = inl h
has_back d (Class c t) (Package Framework j) h = inl h
has_back d (Class c t) (Class e u) h =
    elim (cases_eq (number_of c) (number_of e)) [
      | inl same ↦
          let given = the_some u t (put_same d.classes (number_of c) (Some t) (Some u) (ap (numbered (put d.classes (number_of c) (Some t))) same ∙ h)) in
          inr (ap (λ k. Class k t) (same_class c e same) ∙ ap (Class e) (sym given))
      | inr other ↦ inl (sym (put_other d.classes (number_of c) (number_of e) (Some t) other) ∙ h)
    ]
has_back d (Class c t) (Member m u) h = inl h
has_back d (Member n t) (Package Lang j) h = inl h
has_back d (Member n t) (Package Framework j) h = inl h
has_back d (Member n t) (Class e u) h = inl h
has_back d (Member n t) (Member m u) h =
    elim (cases_eq n m) [
      | inl same ↦
          let given = the_some u t (put_same d.members n (Some t) (Some u) (ap (numbered (put d.members n (Some t))) same ∙ h)) in
          inr (ap (λ k. Member k t) same ∙ ap (Member m) (sym given))
      | inr other ↦ inl (sym (put_other d.members n m (Some t) other) ∙ h)
    ]

-- what is named is had
pub named_has : (d : Draft) (subject : Subject) → repeat_of d subject ≡ true → (u : Statement) × Has d u × (subject_of u ≡ subject)
named_has d (ThePackage which) h = part (named_package d which) refl h
  where
    part : (o : Option PackageInfo) → named_package d which ≡ o → is_some o ≡ true → (u : Statement) × Has d u × (subject_of u ≡ ThePackage which)
    part None e h = absurd cc
    part (Some info) e h = (Package which info, e, refl)
named_has d (TheClass class) h = part (numbered d.classes (number_of class)) refl h
  where
    part : (o : Option (Option ℕ)) → numbered d.classes (number_of class) ≡ o → is_named o ≡ true → (u : Statement) × Has d u × (subject_of u ≡ TheClass class)
    part None e h = absurd cc
    part (Some None) e h = absurd cc
    part (Some (Some t)) e h = (Class class t, e, refl)
named_has d (TheMember number) h = part (numbered d.members number) refl h
  where
    part : (o : Option (Option ℕ)) → numbered d.members number ≡ o → is_named o ≡ true → (u : Statement) × Has d u × (subject_of u ≡ TheMember number)
    part None e h = absurd cc
    part (Some None) e h = absurd cc
    part (Some (Some t)) e h = (Member number t, e, refl)

pub has_none : (u : Statement) → Has empty_draft u → ⊥
has_none (Package Lang i) h = cc
has_none (Package Framework i) h = cc
has_none (Class c t) h = none_named last_class (number_of c) t h
has_none (Member n t) h = none_named last_member n t h

-- a row that was given a token that is taken
found : {A : Type 0} (meets : A → A → Bool) (x : A) (t : ℕ) (rows : List A) (named : List (Option ℕ)) → list_any (λ r. meets x r.0 && is_token t r.1) (zip rows named) ≡ true → (k : ℕ) × (y : A) × (slice_get rows k ≡ Some y) × (meets x y ≡ true) × (slice_get named k ≡ Some (Some t))
found meets x t [] named h = absurd cc
found meets x t (r ∷ rows) [] h = absurd cc
found {A} meets x t (r ∷ rows) (n ∷ named) h = part (meets x r && is_token t n) refl h (λ g. found meets x t rows named g)
  where
    token : (o : Option ℕ) → is_token t o ≡ true → o ≡ Some t
    token None e = absurd cc
    token (Some u) e = ap Some (grind arith)

    part : (b : Bool) → (meets x r && is_token t n) ≡ b → (b || list_any (λ r. meets x r.0 && is_token t r.1) (zip rows named)) ≡ true → (list_any (λ r. meets x r.0 && is_token t r.1) (zip rows named) ≡ true → (k : ℕ) × (y : A) × (slice_get rows k ≡ Some y) × (meets x y ≡ true) × (slice_get named k ≡ Some (Some t))) → (k : ℕ) × (y : A) × (slice_get (r ∷ rows) k ≡ Some y) × (meets x y ≡ true) × (slice_get (n ∷ named) k ≡ Some (Some t))
    part true e h more = let both = both_true _ _ e in (0, r, refl, both.0, ap Some (token n both.1))
    part false e h more = let m = more h in (suc m.0, m.1, m.2, m.3, m.4)

pub taken_has : {A : Type 0} (meets : A → A → Bool) (x : A) (t : ℕ) (rows : List A) (named : List (Option ℕ)) → is_taken meets x t rows named ≡ true → (j : ℕ) × (y : A) × (numbered rows j ≡ Some y) × (meets x y ≡ true) × (numbered named j ≡ Some (Some t))
unfolding is_taken
taken_has meets x t rows named h = let m = found meets x t rows named h in (suc m.0, m.1, m.2, m.3, m.4)

-- a class's number is that of its place
ups : ℕ → ℕ → List ℕ
ups n zero = []
ups n (suc len) = n ∷ ups (n + 1) len

ups_at : (n len k v : ℕ) → slice_get (ups n len) k ≡ Some v → v ≡ n + k
unfolding ups
ups_at n zero k v h = absurd cc
ups_at n (suc len) zero v h = let e = the_some n v h in omega arith
ups_at n (suc len) (suc k) v h = let e = ups_at (n + 1) len k v h in omega arith

pub number_at : (j : ℕ) (y : ApiClass) → numbered numbered_classes j ≡ Some y → number_of y ≡ j
unfolding ups
number_at zero y h = absurd cc
number_at (suc k) y h =
    let at : slice_get (ups 1 last_class) k ≡ Some (number_of y) = slice_get-map number_of numbered_classes k ∙ ap (option_map number_of) h in
    let e = ups_at 1 last_class k (number_of y) at in
    omega arith
