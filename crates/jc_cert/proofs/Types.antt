-- Types with the names of their classes: what is read was spelled in front, and what is spelled in front is read.
use Rattle.std.proofs.Common.{◌≡◌, ℕ, zero, suc, ◌+◌, ◌*◌, ◌/◌, ◌%◌, ◌^◌, ◌<◌, ◌==◌, ◌&&◌, Bool, true, false, cond, eqb, ltb, leb, List, [], ◌∷◌, ◌++◌, length, take, drop, Option, Some, None, Result, Ok, Err, slice_get, refl, sym, ap, append_assoc, arith}
use Rattle.std.specs.Int.{w16, to_be_bytes}
use Rattle.std.proofs.lemmas.Bool.{ltb-false, le-ltb, le-leb, leb-true, eqb-true, ne_eqb, and_from, cond_both}
use Rattle.std.proofs.lemmas.List.{take-append-drop, length-take-le, length-append, take_at, drop_at}
use Rattle.jc_base.proofs.Binding.{the_some, none_some, both_true}
use Rattle.jc_base.specs.Aid.{has_aid_length}
use Rattle.jc_base.specs.Cursor.{Read, next_u2, next_bytes}
use Rattle.jc_base.specs.Results.{◌>>=◌}
use Rattle.jc_api.specs.Class.{class_of, number_of, numbered_classes}
use Rattle.jc_api.specs.declared.class.ApiClass.{ApiClass}
use Rattle.jc_api.specs.declared.class.ApiClass.TheVariants.{Object}
use Rattle.jc_cert.specs.declared.refusal.NoSpelling.{NoSpelling}
use Rattle.jc_cert.specs.declared.stated_type.SpelledClass.{SpelledClass}
use Rattle.jc_cert.specs.declared.stated_type.SpelledClass.TheVariants.{Own, Api, Other}
use Rattle.jc_cert.specs.declared.stated_type.StatedType.{StatedType}
use Rattle.jc_cert.specs.declared.stated_type.StatedType.TheVariants.{Top, Word, Null, Class, BooleanArray, ByteArray, ShortArray, ReferenceArray}
use Rattle.jc_cert.specs.Cert.{IsSpelledClass, IsStatedType}
use Rattle.jc_cert.specs.Writing.{class_bytes, type_bytes}
use Rattle.jc_cert.specs.PrivateReading.{no_spelling, spelled, read_with, next_api, next_other, next_class, next_type}
use Rattle.jc_cert.proofs.Repeats.{read_as}
use Rattle.jc_cert.proofs.Fields.{IsBytes, Took, took_bind, u2_took, u2_again}

-- what is made of what was read is spelled as that behind one byte
tagged : {A B : Type 0} (spell : A → List ℕ) (Fits : A → Type 0) (whole : B → List ℕ) (All : B → Type 0) (make : A → B) (tag k : ℕ) (bytes : List ℕ) (o : Result (Read A) NoSpelling)
    → eqb tag k ≡ true → ((x : A) → whole (make x) ≡ k ∷ spell x) → ((x : A) → Fits x → All (make x)) → Took spell Fits bytes o → Took whole All (tag ∷ bytes) (read_with make o)
tagged spell Fits whole All make tag k bytes (Err none) is spells all h = tt
tagged spell Fits whole All make tag k bytes (Ok x) is spells all h =
    let same : tag ≡ k = eqb-true tag k is in
    let text : tag ∷ bytes ≡ whole (make x.value) ++ x.rest = rw (same, h.0, spells x.value) refl in
    (text, h.1, all x.value h.2)

-- ---- classes of the API

-- each class has the number of its place, counted from this one on
abbrev follow : ℕ → List ApiClass → Bool
follow n [] = true
follow n (c ∷ classes) = (number_of c == n) && follow (n + 1) classes

number_at : (classes : List ApiClass) (n i : ℕ) (class : ApiClass) → follow n classes ≡ true → slice_get classes i ≡ Some class → number_of class ≡ n + i
number_at [] n i class each e = absurd (none_some class e)
number_at (c ∷ classes) n zero class each e =
    let here : number_of c ≡ n = eqb-true _ _ (both_true (number_of c == n) (follow (n + 1) classes) each).0 in
    let same : number_of c ≡ number_of class = ap number_of (the_some c class e) in
    omega arith
number_at (c ∷ classes) n (suc i) class each e =
    let far : number_of class ≡ n + 1 + i = number_at classes (n + 1) i class (both_true (number_of c == n) (follow (n + 1) classes) each).1 e in
    omega arith

number_is : (n : ℕ) (class : ApiClass) → class_of n ≡ Some class → number_of class ≡ n
number_is zero class e = absurd (none_some class e)
number_is (suc n) class e = let k : number_of class ≡ 1 + n = number_at numbered_classes 1 n class refl e in omega arith

abbrev api_bytes : ApiClass → List ℕ
api_bytes class = 0 ∷ to_be_bytes w16 (number_of class)

abbrev IsAny : ApiClass → Type 0
IsAny class = Unit {0}

api_took : (bytes : List ℕ) → IsBytes bytes → Took api_bytes IsAny bytes (next_api bytes)
unfolding next_api
api_took [] fits = tt
api_took (a ∷ []) fits = tt
api_took (a ∷ b ∷ []) fits = tt
api_took (a ∷ b ∷ n ∷ rest) fits = classed (class_of n) refl (a == 0 && b == 0) refl
  where
    classed : (o : Option ApiClass) → class_of n ≡ o → (zeros : Bool) → (a == 0 && b == 0) ≡ zeros
        → Took api_bytes IsAny (a ∷ b ∷ n ∷ rest) (spelled o >>= λ class. cond zeros (Ok (read_as class rest)) (Err no_spelling))
    classed None e zeros test = tt
    classed (Some class) e false test = tt
    classed (Some class) e true test =
        let low = fits.1.1.0 in
        let both = both_true (a == 0) (b == 0) test in
        let first : a ≡ 0 = eqb-true a 0 both.0 in
        let number : number_of class ≡ n = number_is n class e in
        let second : b ≡ number_of class / 256 % 256 = let zero : b ≡ 0 = eqb-true b 0 both.1 in omega arith in
        let third : n ≡ number_of class % 256 = omega arith in
        let text : a ∷ b ∷ n ∷ rest ≡ api_bytes class ++ rest = cc in
        (text, fits.1.1.1, tt)

api_again : (class : ApiClass) (rest : List ℕ) → next_api (api_bytes class ++ rest) ≡ Ok (read_as class rest)
unfolding next_api
api_again Object rest = refl
api_again class rest = refl

-- ---- classes of other packages

drop_fits : (n : ℕ) (bytes : List ℕ) → IsBytes bytes → IsBytes (drop n bytes)
drop_fits zero bytes fits = fits
drop_fits (suc n) [] fits = tt
drop_fits (suc n) (b ∷ bytes) fits = drop_fits n bytes fits.1

front_took : (n : ℕ) (bytes : List ℕ) → IsBytes bytes → Took (λ front. front) (λ front. length front ≡ n) bytes (spelled (next_bytes n bytes))
front_took n bytes fits = cut (ltb (length bytes) n) refl
  where
    cut : (short : Bool) → ltb (length bytes) n ≡ short → Took (λ front. front) (λ front. length front ≡ n) bytes (spelled (cond short None (Some (read_as (take n bytes) (drop n bytes)))))
    cut true test = tt
    cut false test = (sym (take-append-drop n bytes), drop_fits n bytes fits, length-take-le n bytes (ltb-false _ _ test))

other_took : (len : ℕ) (bytes : List ℕ) → IsBytes bytes → Took class_bytes IsSpelledClass (len ∷ bytes) (next_other len bytes)
unfolding next_other
other_took len bytes fits =
    took_bind (λ front. front) (λ front. length front ≡ len) class_bytes IsSpelledClass bytes (len ∷ bytes) (spelled (next_bytes len bytes)) _ (front_took len bytes fits) (λ aid behind e more n.
    named aid behind e more n (has_aid_length (length aid)) refl)
  where
    named : (aid behind : List ℕ) → bytes ≡ aid ++ behind → IsBytes behind → length aid ≡ len → (is : Bool) → has_aid_length (length aid) ≡ is
        → Took class_bytes IsSpelledClass (len ∷ bytes) (spelled (cond is (Some aid) None) >>= λ a. spelled (next_u2 behind) >>= λ offset. Ok (read_as (Other a offset.value) offset.rest))
    named aid behind e more n false test = tt
    named aid behind e more n true test =
        let range = both_true (leb 5 (length aid)) (leb (length aid) 16) test in
        took_bind (to_be_bytes w16) (λ offset. offset < 2 ^ 16) class_bytes IsSpelledClass behind (len ∷ bytes) (spelled (next_u2 behind)) _ (u2_took behind more) (λ offset rest f last lt.
        let text : len ∷ bytes ≡ class_bytes (Other aid offset) ++ rest = rw (e, f, ← n) (ap (λ (w : List ℕ). length aid ∷ w) (sym (append_assoc aid (to_be_bytes w16 offset) rest))) in
        (text, last, (leb-true _ _ range.0, leb-true _ _ range.1, lt)))

other_again : (aid : List ℕ) (offset : ℕ) (rest : List ℕ) → IsSpelledClass (Other aid offset) → next_other (length aid) (aid ++ (to_be_bytes w16 offset ++ rest)) ≡ Ok (read_as (Other aid offset) rest)
unfolding next_other
other_again aid offset rest fits =
    let behind : List ℕ = to_be_bytes w16 offset ++ rest in
    let enough : ltb (length (aid ++ behind)) (length aid) ≡ false = le-ltb _ _ (omega (arith, length-append aid behind)) in
    let front : take (length aid) (aid ++ behind) ≡ aid = take_at aid behind (length aid) refl in
    let last : drop (length aid) (aid ++ behind) ≡ behind = drop_at aid behind (length aid) refl in
    let is : has_aid_length (length aid) ≡ true = and_from _ _ (le-leb _ _ fits.0) (le-leb _ _ fits.1) in
    let number : 256 * (offset / 256 % 256) + offset % 256 ≡ offset = let lt = fits.2 in omega arith in
    rw (enough, front, is, last, number) refl

-- ---- names of classes

pub class_took : (bytes : List ℕ) → IsBytes bytes → Took class_bytes IsSpelledClass bytes (next_class bytes)
unfolding next_class
class_took [] fits = tt
class_took (len ∷ bytes) fits =
    cond_both (eqb len 0) _ _ (λ o. Took class_bytes IsSpelledClass (len ∷ bytes) o)
    (λ own. tagged (to_be_bytes w16) (λ n. n < 2 ^ 16) class_bytes IsSpelledClass Own len 0 bytes (spelled (next_u2 bytes)) own (λ n. refl) (λ n h. h) (u2_took bytes fits.1))
    (λ no. cond_both (eqb len 1) _ _ (λ o. Took class_bytes IsSpelledClass (len ∷ bytes) o)
    (λ api. tagged api_bytes IsAny class_bytes IsSpelledClass Api len 1 bytes (next_api bytes) api (λ c. refl) (λ c h. tt) (api_took bytes fits.1))
    (λ neither. other_took len bytes fits.1))

pub class_again : (class : SpelledClass) (rest : List ℕ) → IsSpelledClass class → next_class (class_bytes class ++ rest) ≡ Ok (read_as class rest)
unfolding next_class
class_again (Own offset) rest fits = ap (read_with Own) (u2_again offset rest fits)
class_again (Api class) rest fits = ap (read_with Api) (api_again class rest)
class_again (Other aid offset) rest fits =
    let zero : eqb (length aid) 0 ≡ false = ne_eqb _ _ (λ e. omega (arith, e, fits.0)) in
    let one : eqb (length aid) 1 ≡ false = ne_eqb _ _ (λ e. omega (arith, e, fits.0)) in
    rw (zero, one, append_assoc aid (to_be_bytes w16 offset) rest) (other_again aid offset rest fits)

-- ---- types

plain : (t : StatedType) (tag k : ℕ) (bytes : List ℕ) → IsBytes bytes → eqb tag k ≡ true → type_bytes t ≡ k ∷ [] → IsStatedType t → Took type_bytes IsStatedType (tag ∷ bytes) (Ok (read_as t bytes))
plain t tag k bytes more is spells fits =
    let same : tag ≡ k = eqb-true tag k is in
    let text : tag ∷ bytes ≡ type_bytes t ++ bytes = rw (same, spells) refl in
    (text, more, fits)

with_class : (make : SpelledClass → StatedType) (tag k : ℕ) (bytes : List ℕ) → IsBytes bytes → eqb tag k ≡ true → ((c : SpelledClass) → type_bytes (make c) ≡ k ∷ class_bytes c) → ((c : SpelledClass) → IsSpelledClass c → IsStatedType (make c))
    → Took type_bytes IsStatedType (tag ∷ bytes) (read_with make (next_class bytes))
with_class make tag k bytes more is spells fits =
    tagged class_bytes IsSpelledClass type_bytes IsStatedType make tag k bytes (next_class bytes) is spells fits (class_took bytes more)

abbrev Taken : ℕ → List ℕ → Result (Read StatedType) NoSpelling → Type 0
Taken tag bytes o = Took type_bytes IsStatedType (tag ∷ bytes) o

pub type_took : (bytes : List ℕ) → IsBytes bytes → Took type_bytes IsStatedType bytes (next_type bytes)
unfolding next_type
type_took [] fits = tt
type_took (tag ∷ bytes) fits =
    cond_both (eqb tag 0) _ _ (Taken tag bytes) (λ e. plain Top tag 0 bytes fits.1 e refl tt) (λ n.
    cond_both (eqb tag 1) _ _ (Taken tag bytes) (λ e. plain Word tag 1 bytes fits.1 e refl tt) (λ n.
    cond_both (eqb tag 2) _ _ (Taken tag bytes) (λ e. plain Null tag 2 bytes fits.1 e refl tt) (λ n.
    cond_both (eqb tag 3) _ _ (Taken tag bytes) (λ e. with_class Class tag 3 bytes fits.1 e (λ c. refl) (λ c h. h)) (λ n.
    cond_both (eqb tag 4) _ _ (Taken tag bytes) (λ e. plain BooleanArray tag 4 bytes fits.1 e refl tt) (λ n.
    cond_both (eqb tag 5) _ _ (Taken tag bytes) (λ e. plain ByteArray tag 5 bytes fits.1 e refl tt) (λ n.
    cond_both (eqb tag 6) _ _ (Taken tag bytes) (λ e. plain ShortArray tag 6 bytes fits.1 e refl tt) (λ n.
    cond_both (eqb tag 7) _ _ (Taken tag bytes) (λ e. with_class ReferenceArray tag 7 bytes fits.1 e (λ c. refl) (λ c h. h)) (λ n. tt))))))))

pub type_again : (t : StatedType) (rest : List ℕ) → IsStatedType t → next_type (type_bytes t ++ rest) ≡ Ok (read_as t rest)
unfolding next_type
type_again (Class c) rest fits = ap (read_with Class) (class_again c rest fits)
type_again (ReferenceArray c) rest fits = ap (read_with ReferenceArray) (class_again c rest fits)
type_again Top rest fits = refl
type_again t rest fits = refl
