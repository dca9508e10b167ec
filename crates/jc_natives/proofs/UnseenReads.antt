-- What members read of objects that their tests reached is the same where objects are alike.
use Rattle.std.proofs.Common.{◌≡◌, ◌⊎◌, ℕ, ◌==◌, ◌&&◌, Bool, true, false}
use Rattle.std.proofs.Common.{map, Option, Some, None, refl, sym, ap, ◌∙◌, subst, slice_get, arith, eqb-true}
use Rattle.std.proofs.lemmas.Option.{none-some, same_Some}
use Rattle.std.specs.Option.{option_and_then, option_map, option_map_or}
use Rattle.jc_firewall.specs.Verdict.{is_allowed, runtime_context, verdict_of}
use Rattle.jc_firewall.specs.declared.access.Verdict.{Verdict}
use Rattle.jc_link.specs.Linked.{World}
use Rattle.jc_machine.specs.Going.{facts_in}
use Rattle.jc_machine.specs.Machine.{NativeCall}
use Rattle.jc_machine.specs.Runtime.{HasRuntimeObjects, apdu_buffer}
use Rattle.jc_machine.specs.Unseen.{AreAlike, is_hidden, is_plain, with_objects}
use Rattle.jc_natives.proofs.Bare.{both}
use Rattle.jc_natives.proofs.Facts.{own_object}
use Rattle.jc_natives.proofs.Guarding.{own_use}
use Rattle.jc_machine.proofs.AlikeLaws.{AlikeAt, as_cells, at_alike, with_cells}
use Rattle.jc_natives.specs.Checks.{Checked, Passed, access_of, by_verdict}
use Rattle.jc_natives.specs.Checks.{judged, unfit, uses, uses_value}
use Rattle.jc_natives.specs.Cells.{low}
use Rattle.jc_natives.specs.Kept.{Kept}
use Rattle.jc_natives.specs.Taking.{Called, aid_in, as_reference, bytes_in, called}
use Rattle.jc_natives.specs.Taking.{word_at, words_in}
use Rattle.jc_natives.specs.declared.row.Use.{Use}
use Rattle.jc_store.specs.Heap.{Heap, Object, object_at}
use Rattle.jc_store.specs.declared.kind.Mark.{Mark}
use Rattle.jc_store.specs.declared.kind.Mark.TheVariants.{Plain}
use Rattle.jc_words.specs.Values.{TaggedValue}

pub and_then_both : {A B : Type 0} (o p : Option A) (f g : A → Option B) → o ≡ p
    → ((x : A) → o ≡ Some x → f x ≡ g x) → option_and_then f o ≡ option_and_then g p
and_then_both {A = A} {B = B} o p f g e k =
    subst (λ (q : Option A). option_and_then f o ≡ option_and_then g q) e (by_option o k)
  where
    by_option : (q : Option A) → ((x : A) → q ≡ Some x → f x ≡ g x) → option_and_then f q ≡ option_and_then g q
    by_option q h1 = grind arith

module _ (context : ℕ) (w : World) (call : NativeCall Kept) (K : Heap TaggedValue)
    (alike : AreAlike context call.heap K) (own : HasRuntimeObjects call.heap)
    (applet : call.active.context ≡ runtime_context → ⊥) (other : call.active.context ≡ context → ⊥) where
  abbrev pub H : Heap TaggedValue
  H = call.heap

  abbrev pub h : Called
  h = called w call

  abbrev pub k : Called
  k = called w (with_objects call K)

  -- an object is the same, its components too
  abbrev pub SameAt : ℕ → Type 0
  SameAt n = object_at H n ≡ object_at K n

  -- one that isn't hidden
  pub seen_same : (n : ℕ) (o : Object TaggedValue) → object_at H n ≡ Some o → is_hidden context o ≡ false → SameAt n
  seen_same n o e seen = by_objects (object_at H n) (object_at K n) e (at_alike context H K alike n)
    where
      by_objects : (x y : Option (Object TaggedValue)) → x ≡ Some o → AlikeAt context x y → x ≡ y
      by_objects None y f a = absurd (none-some o f)
      by_objects (Some x) None f a = absurd a
      by_objects (Some x) (Some y) f a =
          let is : x ≡ o = same_Some x o f in
          let fine : is_hidden context x ≡ false = ap (is_hidden context) is ∙ seen in
          ap (λ (z : Object TaggedValue). Some z)
          (ap (with_cells x) (a.seen fine) ∙ sym (as_cells context x y a))

  marked_seen : (o : Object TaggedValue) → is_plain o.kind.mark ≡ false → is_hidden context o ≡ false
  marked_seen o e = by_bool (o.owner.context == context) (is_plain o.kind.mark) e
    where
      by_bool : (a b : Bool) → b ≡ false → (a && b) ≡ false
      by_bool a b h1 = grind arith

  pub buffer_same : SameAt apdu_buffer
  buffer_same =
      let has = own_object H 11 _ own refl in
      seen_same apdu_buffer has.object has.found (marked_seen has.object (ap is_plain has.mark))

  -- ---- what is read of it

  pub word_same : (n i : ℕ) → SameAt n → word_at H n i ≡ word_at K n i
  word_same n i e = grind arith

  pub words_same : (n from count : ℕ) → SameAt n → words_in H n from count ≡ words_in K n from count
  words_same n from count h1 = grind (arith, and_then_both, word_same)

  pub bytes_same : (n from count : ℕ) → SameAt n → bytes_in H n from count ≡ bytes_in K n from count
  bytes_same n from count e = ap (option_map (λ words. map low words)) (words_same n from count e)

  pub aid_same : (n : ℕ) → SameAt n → aid_in H n ≡ aid_in K n
  aid_same n e = grind (arith, and_then_both, word_same, bytes_same)

  -- ---- an argument that a test reached

  abbrev pub Reads : ℕ → Type 0
  Reads place = (n : ℕ) → option_and_then as_reference (slice_get call.arguments place) ≡ Some n → SameAt n

  passed_allowed : (way : Use) (n : ℕ) (v : Verdict) → (by_verdict h way n v).ends ≡ Passed → is_allowed v ≡ true
  passed_allowed way n v h1 = grind arith

  used_seen : (way : Use) (n : ℕ) (o : Object TaggedValue) → (judged h way n o).ends ≡ Passed
      → is_hidden context o ≡ false
  used_seen way n o e = by_test (o.owner.context == context && is_plain o.kind.mark) refl
    where
      fine : is_allowed (verdict_of (access_of way) call.active.context
          (facts_in w.shapes call.selected o None false)) ≡ true
      fine = grind (arith, passed_allowed)

      plain_of : (m : Mark) → is_plain m ≡ true → m ≡ Plain
      plain_of m f = grind arith

      by_owner : (o.owner.context == context) ≡ true
          → (call.active.context ≡ o.owner.context) ⊎ (call.active.context ≡ runtime_context) → ⊥
      by_owner h1 h2 = grind (arith, eqb-true)

      by_test : (b : Bool) → (o.owner.context == context && is_plain o.kind.mark) ≡ b
          → (o.owner.context == context && is_plain o.kind.mark) ≡ false
      by_test b h1 = grind (arith, both, by_owner, own_use, fine, plain_of)

  pub uses_read : (place : ℕ) (way : Use) (null : Checked) → (uses h place way null).ends ≡ Passed → Reads place
  uses_read place way null e n f = by_argument (slice_get call.arguments place) e f
    where
      by_object : (m : ℕ) (x : Option (Object TaggedValue)) → object_at H m ≡ x
          → (option_map_or (judged h way m) x unfit).ends ≡ Passed → SameAt m
      by_object m x h1 h2 = grind (arith, seen_same, used_seen)

      by_argument : (a : Option TaggedValue) → (option_map_or (uses_value h way null) a unfit).ends ≡ Passed
          → option_and_then as_reference a ≡ Some n → SameAt n
      by_argument a h1 h2 = grind (arith, same_Some, by_object)
