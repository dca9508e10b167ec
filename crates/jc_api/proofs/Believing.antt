-- What is read as a binding is one, and what is one is read.
use Rattle.std.proofs.Common.{◌≡◌, ℕ, zero, suc, ◌+◌, ◌<◌, Bool, true, false, List, [], ◌∷◌, length, Option, Some, None, Result, Ok, ok_or, IsSome, slice_get, refl, ap, ◌∙◌, sym, subst, ◌⊎◌, inl, inr, arith, rules}
use Rattle.std.proofs.lemmas.Slice.Eq.{bytes_eq-Decides}
use Rattle.jc_base.specs.declared.package_info.PackageInfo.{PackageInfo}
use Rattle.jc_base.proofs.Binding.{the_some, the_ok, bind_ok}
use Rattle.jc_api.specs.Options.{◌>>=◌, all_of}
use Rattle.jc_api.specs.Numbered.{numbered}
use Rattle.jc_api.specs.Class.{number_of, numbered_classes}
use Rattle.jc_api.specs.Member.{ApiMember, members, member_of}
use Rattle.jc_api.specs.Token.{classes_meet, members_meet}
use Rattle.jc_api.specs.Bound.{Bound, package_in}
use Rattle.jc_api.specs.NoClash.{HasNoClash}
use Rattle.jc_api.specs.Text.{lines_of}
use Rattle.jc_api.specs.Draft.{named_package, is_repeated, is_aid, clashes, member_clashes, drafted, empty_draft, whole_of}
use Rattle.jc_api.specs.PrivateDraft.{IsSound}
use Rattle.jc_api.specs.Binding.{with_lines, binding_of}
use Rattle.jc_api.specs.Meaning.{Subject, subject_of, IsThere, Says, told, IsBinding}
use Rattle.jc_api.specs.Meaning.Subject.{ThePackage, TheClass, TheMember}
use Rattle.jc_api.specs.declared.class.ApiPackage.{ApiPackage}
use Rattle.jc_api.specs.declared.class.ApiPackage.TheVariants.{Lang, Framework}
use Rattle.jc_api.specs.declared.class.ApiClass.{ApiClass}
use Rattle.jc_api.specs.declared.fault.BindingFault.{BindingFault}
use Rattle.jc_api.specs.declared.fault.BindingFault.TheVariants.{Missing}
use Rattle.jc_api.specs.declared.statement.Statement.{Statement}
use Rattle.jc_api.specs.declared.statement.Statement.TheVariants.{Package, Class, Member}
use Rattle.jc_api.specs.declared.draft.Draft.{Draft}
use Rattle.jc_api.proofs.Behind.{whole_behind}
use Rattle.jc_api.proofs.Stated.{IsStated}
use Rattle.jc_api.proofs.Sound.{class_numbered, name_sound, lines_sound, empty_sound, IsWhole, is_whole, whole_sound}
use Rattle.jc_api.proofs.Tables.{all_numbered}
use Rattle.jc_api.proofs.Taking.{Takes, lines_take, take_lines, told_stated}
use Rattle.jc_api.proofs.Taking.Takes.{done, take}
use Rattle.jc_api.proofs.Having.{Has, same_class, repeated_is, has_repeated, clash_of, keep, gains, has_back, named_has, has_none, taken_has, number_at}

-- ---- what statements leave behind

takes_has : (last d : Draft) (all : List Statement) → Takes last d all → (u : Statement) → Has d u → Has last u
takes_has last d [] (done d' h) u at = subst (λ e. Has e u) h at
takes_has last d (s ∷ all) (take d' s' all' r c t) u at = takes_has last (drafted d s) all t u (keep d s u r at)

takes_have : (last d : Draft) (all : List Statement) → Takes last d all → IsSound d → ((i : ℕ) (s : Statement) → slice_get all i ≡ Some s → IsStated s) → (i : ℕ) (s : Statement) → slice_get all i ≡ Some s → Has last s
takes_have last d [] t sound fits i s at = absurd cc
takes_have last d (h ∷ all) (take d' h' all' r c t) sound fits zero s at = subst (Has last) (the_some h s at) (takes_has last (drafted d h) all t h (gains d h (fits 0 h refl) sound))
takes_have last d (h ∷ all) (take d' h' all' r c t) sound fits (suc i) s at = takes_have last (drafted d h) all t (name_sound d h (fits 0 h refl) c sound) (λ j. fits (suc j)) i s at

takes_fresh : (last d : Draft) (all : List Statement) → Takes last d all → (u : Statement) → Has d u → (j : ℕ) (t : Statement) → slice_get all j ≡ Some t → subject_of t ≡ subject_of u → ⊥
takes_fresh last d [] t u has j v at same = absurd cc
takes_fresh last d (h ∷ all) (take d' h' all' r c t) u has zero v at same =
    clash_of (has_repeated d u h has (ap subject_of (the_some h v at) ∙ same)) r
takes_fresh last d (h ∷ all) (take d' h' all' r c t) u has (suc j) v at same = takes_fresh last (drafted d h) all t u (keep d h u r has) j v at same

takes_once : (last d : Draft) (all : List Statement) → Takes last d all → IsSound d → ((i : ℕ) (s : Statement) → slice_get all i ≡ Some s → IsStated s) → (i j : ℕ) (s t : Statement) → slice_get all i ≡ Some s → slice_get all j ≡ Some t → subject_of s ≡ subject_of t → i ≡ j
takes_once last d [] k sound fits i j s t at there same = absurd cc
takes_once last d (h ∷ all) k sound fits zero zero s t at there same = refl
takes_once last d (h ∷ all) (take d' h' all' r c k) sound fits zero (suc j) s t at there same =
    absurd (takes_fresh last (drafted d h) all k h (gains d h (fits 0 h refl) sound) j t there (sym same ∙ ap subject_of (sym (the_some h s at))))
takes_once last d (h ∷ all) (take d' h' all' r c k) sound fits (suc i) zero s t at there same =
    absurd (takes_fresh last (drafted d h) all k h (gains d h (fits 0 h refl) sound) i s at (same ∙ ap subject_of (sym (the_some h t there))))
takes_once last d (h ∷ all) (take d' h' all' r c k) sound fits (suc i) (suc j) s t at there same =
    ap suc (takes_once last (drafted d h) all k (name_sound d h (fits 0 h refl) c sound) (λ i. fits (suc i)) i j s t at there same)

takes_named : (last d : Draft) (all : List Statement) → Takes last d all → (u : Statement) → Has last u → Has d u ⊎ ((i : ℕ) × (slice_get all i ≡ Some u))
takes_named last d [] (done d' h) u has = inl (subst (λ e. Has e u) (sym h) has)
takes_named last d (s ∷ all) (take d' s' all' r c t) u has =
    elim (takes_named last (drafted d s) all t u has) [
      | inl here ↦ elim (has_back d s u here) [ inl before ↦ inl before | inr same ↦ inr (0, ap Some same) ]
      | inr there ↦ inr (suc there.0, there.1)
    ]

-- ---- from a reading to what it means

all_back : (xs : List (Option ℕ)) (ys : List ℕ) → all_of xs ≡ Some ys → (k : ℕ) (t : ℕ) → slice_get xs k ≡ Some (Some t) → slice_get ys k ≡ Some t
all_back [] ys h k t e = absurd cc
all_back (None ∷ xs) ys h k t e = absurd cc
all_back (Some x ∷ xs) ys h k t e = part (all_of xs) (λ more f. all_back xs more f) refl h
  where
    at : (more : List ℕ) → ((k : ℕ) (t : ℕ) → slice_get xs k ≡ Some (Some t) → slice_get more k ≡ Some t) → (k : ℕ) → slice_get (Some x ∷ xs) k ≡ Some (Some t) → slice_get (x ∷ more) k ≡ Some t
    at more on zero e = the_some (Some x) (Some t) e
    at more on (suc k) e = on k t e

    part : (o : Option (List ℕ)) → ((more : List ℕ) → all_of xs ≡ Some more → (k : ℕ) (t : ℕ) → slice_get xs k ≡ Some (Some t) → slice_get more k ≡ Some t) → all_of xs ≡ o → (o >>= λ more. Some (x ∷ more)) ≡ Some ys → slice_get ys k ≡ Some t
    part None on f h = absurd cc
    part (Some more) on f h = sym (ap (λ l. slice_get l k) (the_some (x ∷ more) ys h)) ∙ at more (on more f) k e

numbered_back : (xs : List (Option ℕ)) (ys : List ℕ) → all_of xs ≡ Some ys → (n t : ℕ) → numbered xs n ≡ Some (Some t) → numbered ys n ≡ Some t
numbered_back xs ys h zero t e = absurd cc
numbered_back xs ys h (suc k) t e = all_back xs ys h k t e

whole_says : (d : Draft) (bound : Bound) → IsWhole d bound → (s : Statement) → Has d s → Says bound s
whole_says d bound whole (Package Lang info) h = the_some bound.lang info (sym whole.lang ∙ h)
whole_says d bound whole (Package Framework info) h = the_some bound.framework info (sym whole.framework ∙ h)
whole_says d bound whole (Class c t) h = numbered_back d.classes bound.classes whole.classes (number_of c) t h
whole_says d bound whole (Member n t) h = numbered_back d.members bound.members whole.members n t h

there_at : {A B : Type 0} (rows : List B) (xs : List A) (k : ℕ) (x : B) → length rows ≡ length xs → slice_get rows k ≡ Some x → (w : A) × (slice_get xs k ≡ Some w)
there_at [] xs k x h e = absurd cc
there_at (r ∷ rows) [] k x h e = absurd (omega arith)
there_at (r ∷ rows) (y ∷ xs) zero x h e = (y, refl)
there_at (r ∷ rows) (y ∷ xs) (suc k) x h e = there_at rows xs k x (omega arith) e

there : {A B : Type 0} (rows : List B) (xs : List A) (n : ℕ) (x : B) → length rows ≡ length xs → numbered rows n ≡ Some x → (w : A) × (numbered xs n ≡ Some w)
there rows xs zero x h e = absurd cc
there rows xs (suc k) x h e = there_at rows xs k x h e

whole_has : (d : Draft) (bound : Bound) → IsWhole d bound → HasNoClash bound → (subject : Subject) → IsThere subject → (u : Statement) × Has d u × (subject_of u ≡ subject)
whole_has d bound whole clear (ThePackage Lang) h = (Package Lang bound.lang, whole.lang, refl)
whole_has d bound whole clear (ThePackage Framework) h = (Package Framework bound.framework, whole.framework, refl)
whole_has d bound whole clear (TheClass c) h =
    let w = there numbered_classes bound.classes (number_of c) c (sym clear.class_count) (class_numbered c) in
    (Class c w.0, all_numbered d.classes bound.classes (number_of c) w.0 whole.classes w.1, refl)
whole_has d bound whole clear (TheMember n) h = part (member_of n) refl h
  where
    part : (o : Option ApiMember) → member_of n ≡ o → IsSome o → (u : Statement) × Has d u × (subject_of u ≡ TheMember n)
    part None e h = absurd cc
    part (Some m) e h =
        let w = there members bound.members n m (sym clear.member_count) e in
        (Member n w.0, all_numbered d.members bound.members n w.0 whole.members w.1, refl)

read_whole : (d : Draft) (bound : Bound) → ok_or {E = BindingFault} (whole_of d) Missing ≡ Ok bound → whole_of d ≡ Some bound
read_whole d bound h = part (whole_of d) refl h
  where
    part : (o : Option Bound) → whole_of d ≡ o → ok_or {E = BindingFault} o Missing ≡ Ok bound → whole_of d ≡ Some bound
    part None e h = absurd cc
    part (Some b) e h = e ∙ ap Some (the_ok {E = BindingFault} b bound h)

pub read_means : (text : List ℕ) (bound : Bound) → binding_of text ≡ Ok bound → IsBinding text bound
unfolding binding_of
read_means text bound h =
    let step = bind_ok (with_lines 1 empty_draft (lines_of text)) (λ d. ok_or (whole_of d) Missing) bound h in
    let d = step.0 in
    let whole : IsWhole d bound = is_whole d bound (read_whole d bound step.2) in
    let taken = lines_take 1 empty_draft d (lines_of text) step.1 in
    let fits = told_stated (told (lines_of text)) taken.0 taken.1 in
    let clear : HasNoClash bound = whole_sound d bound (lines_sound 1 empty_draft d (lines_of text) step.1 empty_sound) whole in
    record {
      statements = taken.0;
      lines = taken.1;
      said = λ i s at. whole_says d bound whole s (takes_have d empty_draft taken.0 taken.2 empty_sound fits i s at);
      once = takes_once d empty_draft taken.0 taken.2 empty_sound fits;
      named = λ subject is_there.
          (let u = whole_has d bound whole clear subject is_there in
          elim (takes_named d empty_draft taken.0 taken.2 u.0 u.1) [
            | inl before ↦ absurd (has_none u.0 before)
            | inr at ↦ (at.0, u.0, at.1, u.2)
          ]);
      no_clash = clear;
    }

-- ---- from what a text means to its reading

-- a statement that a binding says gives nothing that is taken, where a draft has only what the binding says
clear_here : (d : Draft) (bound : Bound) → HasNoClash bound → ((u : Statement) → Has d u → Says bound u) → (s : Statement) → IsStated s → Says bound s → is_repeated d s ≡ false → clashes d s ≡ true → ⊥
unfolding clashes
clear_here d bound clear under (Package Lang i) fits said r h = part d.framework refl h
  where
    part : (o : Option PackageInfo) → d.framework ≡ o → is_aid i.aid o ≡ true → ⊥
    part None e h = cc
    part (Some j) e h =
        let same : j.aid ≡ i.aid = grind (arith, bytes_eq-Decides) in
        clear.aids (ap (λ (p : PackageInfo). p.aid) said ∙ sym same ∙ ap (λ (p : PackageInfo). p.aid) (sym (under (Package Framework j) e)))
clear_here d bound clear under (Package Framework i) fits said r h = part d.lang refl h
  where
    part : (o : Option PackageInfo) → d.lang ≡ o → is_aid i.aid o ≡ true → ⊥
    part None e h = cc
    part (Some j) e h =
        let same : j.aid ≡ i.aid = grind (arith, bytes_eq-Decides) in
        clear.aids (ap (λ (p : PackageInfo). p.aid) (under (Package Lang j) e) ∙ same ∙ ap (λ (p : PackageInfo). p.aid) (sym said))
clear_here d bound clear under (Class c t) fits said r h =
    let m = taken_has classes_meet c t numbered_classes d.classes h in
    let has : Has d (Class m.1 t) = ap (numbered d.classes) (number_at m.0 m.1 m.2) ∙ m.4 in
    let same = clear.class_tokens (number_of c) (number_of m.1) t c m.1 (class_numbered c) (class_numbered m.1) m.3 said (under (Class m.1 t) has) in
    clash_of (has_repeated d (Class m.1 t) (Class c t) has (ap TheClass (same_class c m.1 same))) r
clear_here d bound clear under (Member n t) fits said r h =
    let m = taken_has members_meet fits.0 t members d.members (ap (member_clashes d t) (sym fits.1) ∙ h) in
    let same = clear.member_tokens n m.0 t fits.0 m.1 fits.1 m.2 m.3 said (under (Member m.0 t) m.4) in
    clash_of (has_repeated d (Member m.0 t) (Member n t) m.4 (ap TheMember same)) r

module _ (bound : Bound) (clear : HasNoClash bound) (all : List Statement) (fits : (i : ℕ) (s : Statement) → slice_get all i ≡ Some s → IsStated s) (said : (i : ℕ) (s : Statement) → slice_get all i ≡ Some s → Says bound s) (once : (i j : ℕ) (s t : Statement) → slice_get all i ≡ Some s → slice_get all j ≡ Some t → subject_of s ≡ subject_of t → i ≡ j) where
  -- a draft has only what the first so many said
  From : ℕ → Draft → Type 0
  From n d = (u : Statement) → Has d u → (k : ℕ) × (k < n) × (slice_get all k ≡ Some u)

  fresh : (n : ℕ) (d : Draft) (s : Statement) → From n d → slice_get all n ≡ Some s → is_repeated d s ≡ true → ⊥
  unfolding From
  fresh n d s from at h =
      let u = named_has d (subject_of s) (sym (repeated_is d s) ∙ h) in
      let k = from u.0 u.1 in
      let same = once k.0 n u.0 s k.2 at u.2 in
      let below = k.1 in
      omega arith

  grown : (n : ℕ) (d : Draft) (s : Statement) → From n d → slice_get all n ≡ Some s → From (suc n) (drafted d s)
  unfolding From
  grown n d s from at u has =
      elim (has_back d s u has) [
        | inl before ↦ (let k = from u before in let below = k.1 in (k.0, omega arith, k.2))
        | inr same ↦ (n, omega arith, at ∙ ap Some same)
      ]

  taken_up : (rest : List Statement) (n : ℕ) → ((k : ℕ) → slice_get rest k ≡ slice_get all (n + k)) → (d : Draft) → IsSound d → From n d → (last : Draft) × Takes last d rest
  unfolding From
  taken_up [] n tail d sound from = (d, done d refl)
  taken_up (s ∷ rest) n tail d sound from =
      let here : n + 0 ≡ n = omega arith in
      let at : slice_get all n ≡ Some s = ap (slice_get all) (sym here) ∙ sym (tail 0) in
      let r : is_repeated d s ≡ false = not_true (is_repeated d s) (fresh n d s from at) in
      let c : clashes d s ≡ false = not_true (clashes d s) (clear_here d bound clear (λ u has. (let k = from u has in said k.0 u k.2)) s (fits n s at) (said n s at) r) in
      let more = taken_up rest (suc n) (λ k. (let same : n + suc k ≡ suc n + k = omega arith in tail (suc k) ∙ ap (slice_get all) same)) (drafted d s) (name_sound d s (fits n s at) c sound) (grown n d s from at) in
      (more.0, take d s rest r c more.1)
    where
      not_true : (b : Bool) → (b ≡ true → ⊥) → b ≡ false
      not_true true h = absurd (h refl)
      not_true false h = refl

  pub taken_whole : (last : Draft) × Takes last empty_draft all
  unfolding From
  taken_whole = taken_up all 0 (λ k. (let same : k ≡ 0 + k = omega arith in ap (slice_get all) same)) empty_draft empty_sound (λ u has. absurd (has_none u has))

all_from : (xs : List (Option ℕ)) (ys : List ℕ) → length xs ≡ length ys → ((k t : ℕ) → slice_get ys k ≡ Some t → slice_get xs k ≡ Some (Some t)) → all_of xs ≡ Some ys
all_from [] [] h each = refl
all_from [] (y ∷ ys) h each = absurd (omega arith)
all_from (x ∷ xs) [] h each = absurd (omega arith)
all_from (x ∷ xs) (y ∷ ys) h each =
    ap (λ o. all_of (o ∷ xs)) (the_some x (Some y) (each 0 y refl)) ∙ ap (λ o. o >>= λ more. Some (y ∷ more)) (all_from xs ys (omega arith) (λ k. each (suc k)))

abbrev bound_of : Bound → Option Bound
bound_of b = Some b

whole_from : (d : Draft) (bound : Bound) → IsWhole d bound → whole_of d ≡ Some bound
unfolding whole_of
whole_from d bound whole =
    ap (λ o. o >>= λ lang. d.framework >>= λ framework. all_of d.classes >>= λ classes. all_of d.members >>= λ members. bound_of (record { lang = lang; framework = framework; classes = classes; members = members })) whole.lang
    ∙ ap (λ o. o >>= λ framework. all_of d.classes >>= λ classes. all_of d.members >>= λ members. bound_of (record { lang = bound.lang; framework = framework; classes = classes; members = members })) whole.framework
    ∙ ap (λ o. o >>= λ classes. all_of d.members >>= λ members. bound_of (record { lang = bound.lang; framework = bound.framework; classes = classes; members = members })) whole.classes
    ∙ ap (λ o. o >>= λ members. bound_of (record { lang = bound.lang; framework = bound.framework; classes = bound.classes; members = members })) whole.members

-- what is had of a subject is what the binding says
has_class : (d : Draft) (bound : Bound) (c : ApiClass) (s : Statement) → Has d s → Says bound s → subject_of s ≡ TheClass c → (t : ℕ) → numbered bound.classes (number_of c) ≡ Some t → numbered d.classes (number_of c) ≡ Some (Some t)
has_class d bound c (Package which info) has says e t at = absurd cc
has_class d bound c (Member n u) has says e t at = absurd cc
has_class d bound c (Class k u) has says e t at =
    let same : k ≡ c = cc in
    let token = the_some u t (sym says ∙ ap (λ x. numbered bound.classes (number_of x)) same ∙ at) in
    ap (λ x. numbered d.classes (number_of x)) (sym same) ∙ has ∙ ap (λ v. Some (Some v)) token

has_member : (d : Draft) (bound : Bound) (n : ℕ) (s : Statement) → Has d s → Says bound s → subject_of s ≡ TheMember n → (t : ℕ) → numbered bound.members n ≡ Some t → numbered d.members n ≡ Some (Some t)
has_member d bound n (Package which info) has says e t at = absurd cc
has_member d bound n (Class k u) has says e t at = absurd cc
has_member d bound n (Member m u) has says e t at =
    let same : m ≡ n = cc in
    let token = the_some u t (sym says ∙ ap (numbered bound.members) same ∙ at) in
    ap (numbered d.members) (sym same) ∙ has ∙ ap (λ v. Some (Some v)) token

has_package : (d : Draft) (bound : Bound) (which : ApiPackage) (s : Statement) → Has d s → Says bound s → subject_of s ≡ ThePackage which → named_package d which ≡ Some (package_in bound which)
has_package d bound which (Class k u) has says e = absurd cc
has_package d bound which (Member m u) has says e = absurd cc
has_package d bound which (Package w info) has says e =
    let same : w ≡ which = cc in
    ap (named_package d) (sym same) ∙ has ∙ ap Some (sym says) ∙ ap (λ x. Some (package_in bound x)) same

-- what is read goes on to the whole
then_whole : (r : Result Draft BindingFault) (d : Draft) → r ≡ Ok d → whole_behind r ≡ ok_or (whole_of d) Missing
then_whole r d h = ap whole_behind h

pub means_read : (text : List ℕ) (bound : Bound) → IsBinding text bound → binding_of text ≡ Ok bound
unfolding binding_of
means_read text bound b =
    let fits = told_stated (told (lines_of text)) b.statements b.lines in
    let taken = taken_whole bound b.no_clash b.statements fits b.said b.once in
    let d = taken.0 in
    let read : with_lines 1 empty_draft (lines_of text) ≡ Ok d = take_lines 1 empty_draft d (lines_of text) b.statements b.lines taken.1 in
    let sound : IsSound d = lines_sound 1 empty_draft d (lines_of text) read empty_sound in
    let has = takes_have d empty_draft b.statements taken.1 empty_sound fits in
    let package_at = λ (which : ApiPackage). (let n = b.named (ThePackage which) tt in has_package d bound which n.1 (has n.0 n.1 n.2) (b.said n.0 n.1 n.2) n.3) in
    let whole : IsWhole d bound = record {
      lang = package_at Lang;
      framework = package_at Framework;
      classes = all_from d.classes bound.classes (sound.class_count ∙ sym b.no_clash.class_count) (class_at d has);
      members = all_from d.members bound.members (sound.member_count ∙ sym b.no_clash.member_count) (member_at d has);
    } in
    then_whole (with_lines 1 empty_draft (lines_of text)) d read ∙ ap (λ o. ok_or o Missing) (whole_from d bound whole)
  where
    class_at : (d : Draft) → ((i : ℕ) (s : Statement) → slice_get b.statements i ≡ Some s → Has d s) → (k t : ℕ) → slice_get bound.classes k ≡ Some t → slice_get d.classes k ≡ Some (Some t)
    class_at d has k t at =
        let y = there bound.classes numbered_classes (suc k) t b.no_clash.class_count at in
        let place = number_at (suc k) y.0 y.1 in
        let n = b.named (TheClass y.0) tt in
        sym (ap (numbered d.classes) place) ∙ has_class d bound y.0 n.1 (has n.0 n.1 n.2) (b.said n.0 n.1 n.2) n.3 t (ap (numbered bound.classes) place ∙ at)

    member_at : (d : Draft) → ((i : ℕ) (s : Statement) → slice_get b.statements i ≡ Some s → Has d s) → (k t : ℕ) → slice_get bound.members k ≡ Some t → slice_get d.members k ≡ Some (Some t)
    member_at d has k t at =
        let y = there bound.members members (suc k) t b.no_clash.member_count at in
        let n = b.named (TheMember (suc k)) (some_there (member_of (suc k)) y.0 y.1) in
        has_member d bound (suc k) n.1 (has n.0 n.1 n.2) (b.said n.0 n.1 n.2) n.3 t at
      where
        some_there : (o : Option ApiMember) (m : ApiMember) → o ≡ Some m → IsSome o
        some_there None m e = absurd cc
        some_there (Some x) m e = search rules
