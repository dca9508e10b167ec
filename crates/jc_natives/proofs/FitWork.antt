-- A work that fits leaves objects typed and ends as it is declared to; and what tests throw may be thrown.
use Rattle.std.specs.Prelude.{⊤}
use Rattle.std.proofs.Common.{◌≡◌, ℕ, ◌<◌, Bool, true, cond, List, [], ◌∷◌, Option, Some, None, refl, ap, ◌∙◌, arith}
use Rattle.std.proofs.lemmas.Bool.{lt-ltb}
use Rattle.jc_api.specs.declared.class.ApiClass.{ApiClass}
use Rattle.jc_api.specs.declared.class.ApiClass.TheVariants as api
use Rattle.jc_base.specs.Signature.{return_map}
use Rattle.jc_base.specs.declared.declared_type.DeclaredType.TheVariants as types
use Rattle.jc_base.specs.declared.declared_type.ReturnType.{ReturnType}
use Rattle.jc_base.specs.declared.declared_type.ReturnType.TheVariants.{Void, Value}
use Rattle.jc_firewall.specs.declared.access.Verdict.{Verdict}
use Rattle.jc_machine.specs.Machine.{ByRuntime, NativeAnswer}
use Rattle.jc_machine.specs.Lookup.{is_given, is_throwable}
use Rattle.jc_machine.specs.Natives.{EndsFit, IsFitCallback, IsThrown, KeepsObjects}
use Rattle.jc_machine.specs.Typed.{HeapTyped}
use Rattle.jc_names.specs.declared.name.ClassName.{ClassName}
use Rattle.jc_natives.specs.MemberTypes.{counted_name}
use Rattle.jc_natives.proofs.Facts.{own_object}
use Rattle.jc_natives.proofs.FitWrites.{Known, Writes, index_thrown, null_thrown, security_thrown, system_leads}
use Rattle.jc_natives.proofs.FitWrites.{system_reason, system_thrown}
use Rattle.jc_natives.proofs.Guarding.{keeps_new, keeps_written}
use Rattle.jc_natives.proofs.Keeping.{array_typed, kept_fits_still, type_still, write_typed}
use Rattle.jc_natives.proofs.Takes as suits
use Rattle.jc_natives.proofs.Takes.{Gives, is_word_type}
use Rattle.jc_natives.specs.Cells.{Write, has_room, written}
use Rattle.jc_natives.specs.Kept.{Kept}
use Rattle.jc_natives.specs.Meaning.{array_or_refusal, asked, did, done, end_of, fits_kept, new_array, reference}
use Rattle.jc_natives.specs.Meaning.{with_room}
use Rattle.jc_natives.specs.PrivateMeaning.{ended_on_words}
use Rattle.jc_natives.specs.PrivateSeen.{NativeInput}
use Rattle.jc_natives.specs.PrivateTests.{Tested, by_verdict, followed, on_object, ranged, test, tested, used}
use Rattle.jc_natives.specs.Work.{Asks, Does, Ending, GivesReference, GivesWord, Makes, NoResult, Throws, Work}
use Rattle.jc_natives.specs.declared.ended.Question.{Question}
use Rattle.jc_natives.specs.declared.row.Range.{Range}
use Rattle.jc_natives.specs.declared.row.MemberRow.{MemberRow}
use Rattle.jc_natives.specs.declared.row.Test.{Test}
use Rattle.jc_natives.specs.declared.row.Use.{Use}
use Rattle.jc_store.specs.Heap.{Heap, Object, next_number, object_at, with_new}
use Rattle.jc_store.specs.declared.kind.ObjectKind.{ObjectKind}
use Rattle.jc_words.specs.Values.{Null, Ref, TaggedValue, Word}

module _ (known : Known) where
  open known use {w, call, there, supers, fit, given}

  -- ---- what a work is to keep to

  abbrev Ends : Ending → Type 0
  Ends NoResult = is_given w.shapes call.heap given.result None ≡ true
  Ends (GivesWord n) = is_given w.shapes call.heap given.result (Some (Word n)) ≡ true
  Ends (GivesReference n) = is_given w.shapes call.heap given.result (Some (reference n)) ≡ true
  Ends (Throws object) = IsThrown w call.heap object

  -- the question is a call that fits
  abbrev pub AsksWell : Question → Type 0
  AsksWell q = IsFitCallback w call (asked call [] q) given
      (record { member = 40; object = q.object; arguments = reference q.aid ∷ Word q.word ∷ [] })

  abbrev pub Fits : Work → Type 0
  Fits (Does writes k ending) = Writes known writes × ((fits_kept w call.heap k ≡ true) × Ends ending)
  Fits (Makes array) = (array.size < 65536)
      × (is_given w.shapes (with_new call.heap (new_array call.active array)) given.result
      (Some (Ref (next_number call.heap))) ≡ true)
  Fits (Asks q) = AsksWell q

  pub either_fits : (b : Bool) (x y : Work) → (b ≡ true → Fits x) → Fits y → Fits (cond b x y)
  either_fits b x y h1 h2 = grind arith

  -- ---- an answer

  abbrev pub Answers : NativeAnswer Kept → Type 0
  Answers a = HeapTyped w.shapes a.heap × ((fits_kept w a.heap a.runtime ≡ true) × EndsFit w call a given a.ends)

  thrown_still : (after : Heap TaggedValue) (object : ℕ) → KeepsObjects call.heap after → IsThrown w call.heap object
      → IsThrown w after object
  thrown_still after object stay thrown =
      let s = stay object thrown.object thrown.found in
      record {
        object = s.object;
        found = s.found;
        throwable = ap (λ (kind : ObjectKind). is_throwable w.shapes kind.object_type) s.kind ∙ thrown.throwable;
      }

  given_still : (after : Heap TaggedValue) (r : ReturnType ClassName) (v : Option TaggedValue)
      → KeepsObjects call.heap after → is_given w.shapes call.heap r v ≡ true → is_given w.shapes after r v ≡ true
  given_still after r v h1 h2 = grind (arith, type_still)

  ending_still : (a : NativeAnswer Kept) (ending : Ending) → KeepsObjects call.heap a.heap → Ends ending
      → EndsFit w call a given (end_of ending)
  ending_still a ending h1 h2 = grind (arith, given_still, thrown_still)

  writes_typed : (writes : List Write) → Writes known writes → HeapTyped w.shapes (written Word call.heap writes)
  writes_typed writes h1 = grind (arith, write_typed)

  no_space : Fits (Does (record { by = ByRuntime; object = 9; from = 0; words = 2 ∷ [] } ∷ []) call.runtime (Throws 9))
  no_space = (system_reason known 9 2 (system_leads known) (omega arith), (fit.fits, system_thrown known))

  done_fits : (touches : List _) (work : Work) → Fits work → Answers (done call touches work)
  done_fits touches (Does writes k ending) fits = (
    writes_typed writes fits.0,
    (
      kept_fits_still w call.heap (written Word call.heap writes) k (keeps_written call.heap writes) (fits.1).0,
      ending_still (did call touches writes k ending) ending (keeps_written call.heap writes) (fits.1).1,
    ),
  )
  done_fits touches (Makes array) fits = (
    array_typed w.shapes call.heap call.active array fits.0 fit.heap,
    (
      kept_fits_still w call.heap (with_new call.heap (new_array call.active array)) call.runtime
          (keeps_new call.heap (new_array call.active array)) fit.fits,
      fits.1,
    ),
  )
  done_fits touches (Asks q) fits = (
    fit.heap,
    (
      fit.fits,
      record {
        caller = fits.caller;
        caller_is = fits.caller_is;
        static = fits.static;
        shareable = fits.shareable;
        member = fits.member;
        member_is = fits.member_is;
        virtual = fits.virtual;
        object = fits.object;
        there = fits.there;
        below = fits.below;
        signature = fits.signature;
        declared = fits.declared;
        arguments = fits.arguments;
        result = fits.result;
      },
    ),
  )

  roomy_fits : (touches : List _) (work : Work) → Fits work
      → Answers (done call touches (with_room call.limits.objects call.limits.cells call.heap call.runtime work))
  roomy_fits touches (Does writes k ending) fits = done_fits touches (Does writes k ending) fits
  roomy_fits touches (Makes array) fits = by_room (has_room call.limits.objects call.limits.cells call.heap array.size)
    where
      by_room : (b : Bool) → Answers (done call touches (array_or_refusal b array call.runtime))
      by_room b = grind (arith, done_fits, no_space)
  roomy_fits touches (Asks q) fits = done_fits touches (Asks q) fits

  -- ---- what tests throw

  abbrev Thrown : Option ℕ → Type 0
  Thrown None = ⊤
  Thrown (Some object) = IsThrown w call.heap object

  verdict_thrown : (s : NativeInput) (way : Use) (number : ℕ) (v : Verdict) → Thrown (by_verdict s way number v).thrown
  verdict_thrown s way number v = grind (arith, security_thrown)

  object_thrown : (s : NativeInput) (way : Use) (number : ℕ) (o : Option (Object ℕ)) → Thrown (on_object s way number o).thrown
  object_thrown s way number o = grind (arith, null_thrown, verdict_thrown)

  either_thrown : (b : Bool) (t u : Tested) → Thrown t.thrown → Thrown u.thrown → Thrown (cond b t u).thrown
  either_thrown b t u h1 h2 = grind arith

  used_thrown : (s : NativeInput) (way : Use) (number : ℕ) → Thrown (used s way number).thrown
  used_thrown s way number = object_thrown s way number (object_at s.objects number)

  test_thrown : (s : NativeInput) (arguments : List ℕ) (one : Test) → Thrown (test s arguments one).thrown
  test_thrown s arguments one = grind (arith, used_thrown, either_thrown)

  range_thrown : (s : NativeInput) (arguments : List ℕ) (r : Option Range) → Thrown (ranged s arguments r).thrown
  range_thrown s arguments r = grind (arith, either_thrown, index_thrown)

  followed_thrown : (t u : Tested) → Thrown t.thrown → Thrown u.thrown → Thrown (followed t u).thrown
  followed_thrown t u p q = grind arith

  pub tested_thrown : (s : NativeInput) (arguments : List ℕ) (row : MemberRow) → Thrown (tested s arguments row).thrown
  tested_thrown s arguments row = grind (arith, followed_thrown, test_thrown, range_thrown)

  pub ended_fits : (touches : List _) (thrown : Option ℕ) (work : Work) → Thrown thrown → Fits work
      → Answers (ended_on_words call touches thrown work)
  ended_fits touches thrown work h1 h2 = grind (arith, roomy_fits)

  -- ---- what members give

  module _ (r : ReturnType ApiClass) (is : given.result ≡ return_map counted_name r) where
    pub gives_as : (s : ReturnType ApiClass) → r ≡ s → (v : Option TaggedValue) (heap : Heap TaggedValue)
        → is_given w.shapes heap (return_map counted_name s) v ≡ true → is_given w.shapes heap given.result v ≡ true
    gives_as s e v heap f = grind arith

    pub void_ends : Gives suits.nothing r → Ends NoResult
    void_ends g = gives_as Void g None call.heap refl

    pub word_ends : (n : ℕ) → n < 65536 → Gives suits.a_word r → Ends (GivesWord n)
    word_ends n small g = grind (arith, gives_as, is_word_type, lt-ltb)

    pub null_ends : Gives suits.shareable r → Ends (GivesReference 0)
    null_ends g = gives_as (Value (types.Reference api.Shareable)) g (Some Null) call.heap refl

    pub buffer_ends : Gives suits.some_bytes r → Ends (GivesReference 12)
    buffer_ends g = grind (arith, own_object, gives_as)
