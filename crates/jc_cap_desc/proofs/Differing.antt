-- Of the methods with code of a package that was read no two stand at one offset, and each stands within its component.
use Rattle.std.proofs.Common.{◌≡◌, ℕ, zero, suc, ◌-◌, ◌^◌, ◌<◌, arith, length, drop, ◌==◌, ◌&&◌, ◌||◌, Bool, true, false, cond, not, List, [], ◌∷◌, map, Option, Some, None, Result, Ok, Err, IfOk, refl, sym, ap, subst, ◌∙◌, take, slice_get}
use Rattle.std.proofs.lemmas.Bool.{eq-eqb}
use Rattle.std.proofs.lemmas.List.{length-drop}
use Rattle.std.specs.List.{cons_option, filter_map}
use Rattle.std.specs.Option.{option_and_then, option_map}
use Rattle.std.specs.Result.{result_ok}
use Rattle.jc_base.specs.Parts.{Infos}
use Rattle.jc_base.specs.Cursor.{Read, field, next_u1}
use Rattle.jc_base.specs.Rows.{part, repeat}
use Rattle.jc_base.specs.Tag.{method_tag}
use Rattle.jc_base.specs.declared.fault.LoadFault.{LoadFault}
use Rattle.jc_base.proofs.Binding.{bind_ok, the_ok, the_some, none_some, both_true}
use Rattle.jc_cap.specs.MethodComponent.{Method, MethodComponent, method_at, methods_of}
use Rattle.jc_cap.specs.Handler.{next_handler}
use Rattle.jc_cap.specs.MethodHeader.{next_header}
use Rattle.jc_cap.specs.declared.method_header.MethodHeader.{MethodHeader}
use Rattle.jc_cap.specs.declared.handler.Handler.{Handler}
use Rattle.jc_cap_desc.proofs.Reading.{read_of}
use Rattle.jc_cap_desc.specs.Across.{are_distinct, class_methods, has_code, is_among}
use Rattle.jc_cap_desc.specs.Package.{package_of}
use Rattle.jc_cap_desc.specs.Shape.{StandApart, MethodBody, Package, body_of_method}
use Rattle.jc_cap_desc.specs.declared.class_row.MethodRow.{MethodRow}

pub or_left : (a b : Bool) → a ≡ true → (a || b) ≡ true
or_left true b e = refl
or_left false b e = absurd cc

pub or_right : (a b : Bool) → b ≡ true → (a || b) ≡ true
or_right true b e = refl
or_right false b e = e

pub is_not : (a b : Bool) → (not a && b) ≡ true → (a ≡ false) × (b ≡ true)
is_not true b e = absurd cc
is_not false b e = (refl, e)

pub clash : (a : Bool) → a ≡ true → a ≡ false → ⊥
clash true e f = absurd cc
clash false e f = absurd cc

-- what is made of some elements has their numbers, where these are distinct
module _ {A B : Type 0} (f : A → Option B) (number : A → ℕ) (its : B → ℕ) (keeps : (a : A) (b : B) → f a ≡ Some b → its b ≡ number a) where
  among_all : (xs : List A) (k : ℕ) (c : B) → slice_get (filter_map f xs) k ≡ Some c → is_among (its c) (map number xs) ≡ true
  among_all [] k c e = absurd (none_some c e)
  among_all (x ∷ xs) k c e = by_first (f x) refl (λ m. among_all xs m c) k e
    where
      by_first : (o : Option B) → f x ≡ o → ((m : ℕ) → slice_get (filter_map f xs) m ≡ Some c → is_among (its c) (map number xs) ≡ true)
          → (k : ℕ) → slice_get (cons_option o (filter_map f xs)) k ≡ Some c → (its c == number x || is_among (its c) (map number xs)) ≡ true
      by_first None is rest k e = or_right (its c == number x) (is_among (its c) (map number xs)) (rest k e)
      by_first (Some b) is rest zero e =
          or_left (its c == number x) (is_among (its c) (map number xs)) (eq-eqb (its c) (number x) (sym (ap its (the_some b c e)) ∙ keeps x b is))
      by_first (Some b) is rest (suc k) e = or_right (its c == number x) (is_among (its c) (map number xs)) (rest k e)

  pub differ_where_distinct : (xs : List A) → are_distinct (map number xs) ≡ true → (n k : ℕ) (b c : B) → slice_get (filter_map f xs) n ≡ Some b
      → slice_get (filter_map f xs) k ≡ Some c → its b ≡ its c → n ≡ k
  differ_where_distinct [] distinct n k b c at there same = absurd (none_some b at)
  differ_where_distinct (x ∷ xs) distinct n k b c at there same =
      let parts = is_not (is_among (number x) (map number xs)) (are_distinct (map number xs)) distinct in
      by_first (f x) refl parts.0 (λ n k. differ_where_distinct xs parts.1 n k b c) n k at there
    where
      by_first : (o : Option B) → f x ≡ o → is_among (number x) (map number xs) ≡ false
          → ((n k : ℕ) → slice_get (filter_map f xs) n ≡ Some b → slice_get (filter_map f xs) k ≡ Some c → its b ≡ its c → n ≡ k)
          → (n k : ℕ) → slice_get (cons_option o (filter_map f xs)) n ≡ Some b → slice_get (cons_option o (filter_map f xs)) k ≡ Some c → n ≡ k
      by_first None is apart rest n k at there = rest n k at there same
      by_first (Some a) is apart rest zero zero at there = refl
      by_first (Some a) is apart rest zero (suc k) at there =
          let number_c : its c ≡ number x = sym same ∙ sym (ap its (the_some a b at)) ∙ keeps x a is in
          absurd (clash _ (ap (λ i. is_among i (map number xs)) (sym number_c) ∙ among_all xs k c there) apart)
      by_first (Some a) is apart rest (suc n) zero at there =
          let number_b : its b ≡ number x = same ∙ sym (ap its (the_some a c there)) ∙ keeps x a is in
          absurd (clash _ (ap (λ i. is_among i (map number xs)) (sym number_b) ∙ among_all xs n b at) apart)
      by_first (Some a) is apart rest (suc n) (suc k) at there = ap suc (rest n k at there same)

-- a method with code has the offset of its row
abbrev pub made : MethodRow → Method → List Handler → MethodBody
made m found handlers = record { offset = m.offset; code_offset = found.code_offset; code = take m.bytecode_count found.code; handlers = handlers }

pub body_offset : (methods : MethodComponent) (m : MethodRow) (b : MethodBody) → body_of_method methods m ≡ Some b → b.offset ≡ m.offset
body_offset methods m b e = by_parts (has_code m) (method_at m.offset methods) (part m.handler_index m.handler_count methods.handlers) e
  where
    by_parts : (coded : Bool) (o : Option Method) (p : Option (List Handler)) → cond coded (option_and_then (λ found. option_map (made m found) p) o) None ≡ Some b → b.offset ≡ m.offset
    by_parts true (Some found) (Some handlers) e = sym (ap (λ (b : MethodBody). b.offset) (the_some (made m found handlers) b e))
    by_parts true (Some found) None e = absurd (none_some b e)
    by_parts true None p e = absurd (none_some b e)
    by_parts false o p e = absurd (none_some b e)

-- what is made of some elements has what each that is made has
all_made : {A B : Type 0} (f : A → Option B) (P : B → Type 0) → ((a : A) (b : B) → f a ≡ Some b → P b)
    → (xs : List A) (n : ℕ) (b : B) → slice_get (filter_map f xs) n ≡ Some b → P b
all_made {B = B} f P each [] n b e = absurd (none_some b e)
all_made {B = B} f P each (x ∷ xs) n b e = by_first (f x) refl (λ m. all_made f P each xs m b) n e
  where
    by_first : (o : Option B) → f x ≡ o → ((m : ℕ) → slice_get (filter_map f xs) m ≡ Some b → P b)
        → (n : ℕ) → slice_get (cons_option o (filter_map f xs)) n ≡ Some b → P b
    by_first None is rest n e = rest n e
    by_first (Some c) is rest zero e = each x b (is ∙ e)
    by_first (Some c) is rest (suc n) e = rest n e

-- a header that was read begins before the end of the info
abbrev placed : MethodComponent → Read MethodHeader → Method
placed methods header = record { header = header.value; code_offset = length methods.info - length header.rest; code = header.rest }

no_header : (f : Read MethodHeader → Method) (found : Method) → option_map f (result_ok (next_header [])) ≡ Some found → ⊥
unfolding next_header
no_header f found e = none_some found e

within_info : (offset : ℕ) (methods : MethodComponent) (found : Method) → method_at offset methods ≡ Some found → offset < length methods.info
within_info offset methods found e = by_rest (drop offset methods.info) refl e
  where
    by_rest : (rest : List ℕ) → drop offset methods.info ≡ rest → option_map (placed methods) (result_ok (next_header rest)) ≡ Some found
        → offset < length methods.info
    by_rest [] is e = absurd (no_header (placed methods) found e)
    by_rest (byte ∷ rest) is e =
        let left : length (drop offset methods.info) ≡ suc (length rest) = ap length is in
        omega (arith, left, length-drop offset methods.info)

-- the info is kept
info_kept : (info : List ℕ) (methods : MethodComponent) → methods_of info ≡ Ok methods → info ≡ methods.info
unfolding methods_of
info_kept info methods e =
    let count = bind_ok (field method_tag (next_u1 info)) _ methods e in
    let table = bind_ok (repeat next_handler (count.0).value (count.0).rest) _ methods count.2 in
    ap (λ (m : MethodComponent). m.info) (the_ok _ methods table.2)

-- a method with code has a header, so its offset is before the end of the info
body_within : (methods : MethodComponent) (m : MethodRow) (b : MethodBody) → body_of_method methods m ≡ Some b → b.offset < length methods.info
body_within methods m b e = by_parts (has_code m) (method_at m.offset methods) refl (part m.handler_index m.handler_count methods.handlers) e
  where
    by_parts : (coded : Bool) (o : Option Method) → method_at m.offset methods ≡ o → (p : Option (List Handler))
        → cond coded (option_and_then (λ found. option_map (made m found) p) o) None ≡ Some b → b.offset < length methods.info
    by_parts true (Some found) at (Some handlers) e =
        subst (λ n. n < length methods.info) (ap (λ (b : MethodBody). b.offset) (the_some (made m found handlers) b e)) (within_info m.offset methods found at)
    by_parts true (Some found) at None e = absurd (none_some b e)
    by_parts true None at p e = absurd (none_some b e)
    by_parts false o at p e = absurd (none_some b e)

-- of a package that was read
pub stand_apart_in : (infos : Infos) (r : Result Package LoadFault) → r ≡ package_of infos → length infos.method < 2 ^ 16 → IfOk r (λ p. StandApart p.body.methods)
stand_apart_in infos (Err fault) e short = tt
stand_apart_in infos (Ok p) e short =
    let fine = read_of infos p e in
    let r = fine.read in
    let rows = class_methods r.records r.info.classes in
    let distinct = (both_true (are_distinct (map (λ m. m.offset) rows)) _ (fine.tested).differ).0 in
    let info = info_kept infos.method r.methods r.are_methods in
    let short_info : length r.methods.info < 2 ^ 16 = subst (λ info. length info < 2 ^ 16) info short in
    let within : (m : MethodRow) (b : MethodBody) → body_of_method r.methods m ≡ Some b → suc b.offset < 2 ^ 16
    = λ m b made. omega (arith, body_within r.methods m b made, short_info) in
    subst StandApart r.bodies (record {
      differ = differ_where_distinct (body_of_method r.methods) (λ m. m.offset) (λ b. b.offset)
          (body_offset r.methods) rows distinct;
      within = all_made (body_of_method r.methods) (λ b. suc b.offset < 2 ^ 16) within rows;
    })
