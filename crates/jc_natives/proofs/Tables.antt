-- What the API's tables say of its classes, in each world in which these stand: the cells of objects of a class below
-- one of them, and which are below which.
use Rattle.std.proofs.Common.{◌≡◌, ℕ, zero, suc, ◌+◌, ◌<◌, ◌≤◌, ◌||◌, Bool, true, false, List, [], ◌∷◌}
use Rattle.std.proofs.Common.{◌++◌, length, map, slice_get, Option, Some, None, refl, sym, ap, subst, ◌∙◌, arith}
use Rattle.std.proofs.Common.{append_assoc, length-append}
use Rattle.std.proofs.lemmas.List.{append-nil, length-map}
use Rattle.std.proofs.lemmas.List.FromFn.{length-range_with_len}
use Rattle.std.proofs.lemmas.Option.{same_Some}
use Rattle.std.specs.List.{AllByRecursion, range_with_len}
use Rattle.std.specs.Option.{option_map, option_map_or}
use Rattle.jc_api.specs.Class as tables
use Rattle.jc_api.specs.declared.class.ApiClass.{ApiClass}
use Rattle.jc_api.specs.declared.class.ApiClass.TheVariants as api
use Rattle.jc_base.specs.declared.declared_type.DeclaredType.{DeclaredType}
use Rattle.jc_cap_desc.specs.Shape.{Shape}
use Rattle.jc_classes.specs.Subtype.{comes_to_end, is_at_or_above, is_class_below}
use Rattle.jc_classes.specs.Walk.{most_classes}
use Rattle.jc_classes.specs.World.{superclass_of}
use Rattle.jc_link.specs.ApiClasses.{StandsThere, cells_within}
use Rattle.jc_link.specs.Named.{size_of}
use Rattle.jc_link.specs.Sound.{HaveSuperclasses, IsHeir, behind, itself}
use Rattle.jc_link.specs.Target.{instance_type_of}
use Rattle.jc_machine.specs.Lookup.{fields_within, own_fields}
use Rattle.jc_names.specs.Names.{is_same_name}
use Rattle.jc_names.specs.declared.name.ClassName.{ClassName}
use Rattle.jc_names.specs.declared.name.ClassName.TheVariants.{Api}
use Rattle.jc_natives.proofs.Keeping.{IsBlankAt}

abbrev Fields : Type 0
Fields = List (Option (DeclaredType ClassName))

-- ---- the cells of an object of a class of the API: as many as the API's tables say, and none is a field's

record AreBlank (fields : Fields) (count : ℕ) : Type 0 where
  blank : AllByRecursion (λ f. f ≡ None) fields
  counted : length fields ≡ count

blank_joined : (xs ys : Fields) → AllByRecursion (λ f. f ≡ None) xs → AllByRecursion (λ f. f ≡ None) ys
    → AllByRecursion (λ f. f ≡ None) (xs ++ ys)
blank_joined [] ys a b = b
blank_joined (x ∷ xs) ys a b = (a.0, blank_joined xs ys a.1 b)

joined : (xs ys : Fields) (m n : ℕ) → AreBlank xs m → AreBlank ys n → AreBlank (xs ++ ys) (n + m)
joined xs ys m n a b = grind (arith, length-append, blank_joined)

blank_each : (f : ℕ → Option (DeclaredType ClassName)) → ((n : ℕ) → f n ≡ None) → (xs : List ℕ)
    → AllByRecursion (λ f. f ≡ None) (map f xs)
blank_each f none [] = tt
blank_each f none (x ∷ xs) = (none x, blank_each f none xs)

-- the first of them
front_blank : (xs ys : Fields) (n : ℕ) (f : Option (DeclaredType ClassName)) → AllByRecursion (λ f. f ≡ None) xs
    → n < length xs → slice_get (xs ++ ys) n ≡ Some f → f ≡ None
front_blank [] ys n f all h e = absurd (omega (arith, h))
front_blank (x ∷ xs) ys zero f all h e = sym (same_Some x f e) ∙ all.0
front_blank (x ∷ xs) ys (suc n) f all h e = front_blank xs ys n f all.1 (omega (arith, h)) e

-- ---- by the tables alone

abbrev pub above_in : ℕ → ApiClass → ApiClass → Bool
above_in zero d c = false
above_in (suc n) d c = is_same_name (Api c) (Api d) || option_map_or (above_in n d) (tables.superclass_of c) false

module _ (world : List Shape) (there : (c : ApiClass) → StandsThere world c) where
  own_blank : (c : ApiClass) → AreBlank (own_fields world (Api c)) (tables.size_of c)
  own_blank c = record {
    blank = blank_each (instance_type_of world (Api c)) (there c).fields (range_with_len 0 (size_of world (Api c)));
    counted =
        length-map (range_with_len 0 (size_of world (Api c))) (instance_type_of world (Api c))
        ∙ length-range_with_len 0 (size_of world (Api c)) ∙ (there c).size;
  }

  blank_above : (n : ℕ) → ((c : ApiClass) → AreBlank (fields_within world n (Api c)) (cells_within n c))
      → (o : Option ApiClass)
      → AreBlank (option_map_or (fields_within world n) (option_map Api o) []) (option_map_or (cells_within n) o 0)
  blank_above n h1 o = grind arith

  all_blank : (n : ℕ) (c : ApiClass) → AreBlank (fields_within world n (Api c)) (cells_within n c)
  all_blank zero c = record { blank = tt; counted = refl }
  all_blank (suc n) c =
      let above = subst
      (λ o. AreBlank (option_map_or (fields_within world n) o [])
      (option_map_or (cells_within n) (tables.superclass_of c) 0))
      (sym (there c).superclass) (blank_above n (all_blank n) (tables.superclass_of c)) in
      joined (option_map_or (fields_within world n) (superclass_of world (Api c)) []) (own_fields world (Api c))
      (option_map_or (cells_within n) (tables.superclass_of c) 0) (tables.size_of c) above (own_blank c)

  -- which class of the API is below which
  pub above_is : (n : ℕ) (d c : ApiClass) → is_at_or_above world n (Api d) (Api c) ≡ above_in n d c
  above_is zero d c = refl
  above_is (suc n) d c =
      ap (λ o. is_same_name (Api c) (Api d) || option_map_or (is_at_or_above world n (Api d)) o false)
      (there c).superclass
      ∙ by_super (λ e. above_is n d e) (tables.superclass_of c)
    where
      by_super : ((e : ApiClass) → is_at_or_above world n (Api d) (Api e) ≡ above_in n d e) → (o : Option ApiClass)
          → (is_same_name (Api c) (Api d) || option_map_or (is_at_or_above world n (Api d)) (option_map Api o) false)
          ≡ (is_same_name (Api c) (Api d) || option_map_or (above_in n d) o false)
      by_super rest None = refl
      by_super rest (Some e) = ap (λ b. is_same_name (Api c) (Api d) || b) (rest e)

  or_true : (a b : Bool) → b ≡ true → (a || b) ≡ true
  or_true a b h1 = grind arith

  pub below_is : (d c : ApiClass) → above_in most_classes d c ≡ true → is_class_below world (Api c) (Api d) ≡ true
  below_is d c e = grind (arith, or_true, above_is)

  -- ---- classes below one of the API's begin with its cells

  record BeginsWith (n : ℕ) (x c : ClassName) : Type 0 where
    left : ℕ
    ends : comes_to_end world left x ≡ true
    rest : Fields
    fields : fields_within world n c ≡ fields_within world left x ++ rest

  begins_on : (n : ℕ) (x c d : ClassName) → superclass_of world c ≡ Some d → BeginsWith n x d → BeginsWith (suc n) x c
  begins_on n x c d e b = record {
    left = b.left;
    ends = b.ends;
    rest = b.rest ++ own_fields world c;
    fields = ap (λ o. option_map_or (fields_within world n) o [] ++ own_fields world c) e
        ∙ ap (λ fs. fs ++ own_fields world c) b.fields
        ∙ append_assoc (fields_within world b.left x) b.rest (own_fields world c);
  }

  begins_with : (n : ℕ) (x c : ClassName) → IsHeir world c x → comes_to_end world n c ≡ true → BeginsWith n x c
  begins_with n _ _ (itself c) ends = grind (arith, append-nil)
  begins_with zero _ _ (behind c d x e h) ends = absurd cc
  begins_with (suc n) _ _ (behind c d x e h) ends = search (arith, append-nil, begins_on, begins_with n x d h)

  -- a class below one with so many cells
  pub blank_at : (x : ApiClass) (c : ClassName) (index : ℕ)
      → HaveSuperclasses world → is_at_or_above world most_classes (Api x) c ≡ true
      → ((n : ℕ) → comes_to_end world n (Api x) ≡ true → index < cells_within n x) → IsBlankAt world c index
  blank_at x c index supers below enough =
      let b = begins_with most_classes (Api x) c (supers.heirs c (Api x) below) (supers.orderly.ends c) in
      let blank = all_blank b.left x in
      record {
        blank = λ f e.
            let low = enough b.left b.ends in
            let count = blank.counted in
            front_blank (fields_within world b.left (Api x)) b.rest index f blank.blank (omega (arith, low, count))
            (ap (λ fs. slice_get fs index) (sym b.fields) ∙ e);
      }

  -- AIDs have 17 cells, and exceptions with a reason one
  pub aid_cells : (n : ℕ) → comes_to_end world n (Api api.Aid) ≡ true → 17 ≤ cells_within n api.Aid
  aid_cells n h1 = grind arith

  pub reason_cells : (n : ℕ) → comes_to_end world n (Api api.CardRuntimeException) ≡ true
      → 1 ≤ cells_within n api.CardRuntimeException
  reason_cells n h1 = grind arith

  pub below_reason : (x : ApiClass) → tables.superclass_of x ≡ Some api.CardRuntimeException → (n : ℕ)
      → comes_to_end world n (Api x) ≡ true → 1 ≤ cells_within n x
  below_reason x e zero f = absurd cc
  below_reason x e (suc n) f =
      let above = reason_cells n
      (sym (ap (λ o. option_map_or (comes_to_end world n) o true) ((there x).superclass ∙ ap (option_map Api) e)) ∙ f)
      in
      let cells = ap (λ o. tables.size_of x + option_map_or (cells_within n) o 0) e in
      omega (arith, above, cells)
