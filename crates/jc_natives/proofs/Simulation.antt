-- What is done on words is what members mean on tagged values.
use Rattle.std.proofs.Common.{◌≡◌, ℕ, zero, suc, Bool, true, false, cond, List, [], ◌∷◌, ◌++◌, length, map}
use Rattle.std.proofs.Common.{replicate, slice_get, Option, Some, None, refl, sym, ap, subst, ◌∙◌, arith}
use Rattle.std.proofs.lemmas.Bool.{eqb-true}
use Rattle.std.proofs.lemmas.Option.{none-some}
use Rattle.std.specs.Option.{option_map_or}
use Rattle.jc_api.specs.Member.{ApiMember, member_of, members}
use Rattle.jc_api.specs.Numbered.{numbered}
use Rattle.jc_base.specs.Signature.{Signature}
use Rattle.jc_classes.specs.Members.{DeclaredMethod, method_at}
use Rattle.jc_cap_desc.specs.Shape.{Shape}
use Rattle.jc_link.specs.Linked.{World}
use Rattle.jc_link.specs.Named.{is_concrete}
use Rattle.jc_machine.specs.Reading.{HeapReads, Pointwise, Reads}
use Rattle.jc_machine.specs.Lookup.{are_of_instance, may_begin_with}
use Rattle.jc_machine.specs.Guarded.{are_allowed}
use Rattle.jc_machine.specs.Machine.{Calls, Gives, IsStuck, NativeAnswer, NativeCall, ThrowsObject, Touch, last_denied}
use Rattle.jc_machine.specs.Natives.{IsFitCall}
use Rattle.jc_machine.specs.Runtime.{security_exception}
use Rattle.jc_machine.specs.WordNatives.{AnswerAgrees, CallAgrees, ReadsEnd, WordState, denied_of}
use Rattle.jc_machine.specs.declared.natives.WordCall.{WordCall}
use Rattle.jc_machine.specs.declared.natives.WordOutcome.{WordOutcome}
use Rattle.jc_machine.specs.declared.stop.DeniedAccess.{DeniedAccess}
use Rattle.jc_machine.specs.Calls.{native_may_begin}
use Rattle.jc_names.specs.declared.name.ClassName.{ClassName}
use Rattle.jc_names.specs.declared.name.MethodName.TheVariants.{Api}
use Rattle.jc_names.specs.declared.owner.Owner.{Owner}
use Rattle.jc_natives.proofs.Bare.{argument_bits, bare_laid, bare_length, bare_new, bare_room, both, heap_bits}
use Rattle.jc_natives.proofs.Bare.{reads_heap, receiver_bits}
use Rattle.jc_natives.proofs.Guarding.{own_allowed}
use Rattle.jc_natives.proofs.Refusing.{AreDecided, allowed_both, denied_throws, none_denied, passed_allowed}
use Rattle.jc_natives.proofs.Refusing.{tested_decided}
use Rattle.jc_natives.specs.Cells.{bits, written}
use Rattle.jc_natives.specs.Kept.{Kept}
use Rattle.jc_natives.specs.Meaning.{answer_of, blank_of, done, end_of, meaning, new_array, own_touches, reference}
use Rattle.jc_natives.specs.Meaning.{unchanged, with_room}
use Rattle.jc_natives.specs.Members.{natives}
use Rattle.jc_natives.specs.PrivateCells.{bare, bared}
use Rattle.jc_natives.specs.PrivateMeaning.{answer_on_words, begun_on_words, ended_on_words}
use Rattle.jc_natives.specs.PrivateSeen.{arguments_of, seen_of}
use Rattle.jc_natives.specs.PrivateTests.{refusal_by, refused_end}
use Rattle.jc_natives.specs.PrivateWords.{Done, TellsEnd, did_on_words, done_of, ended_of, kind_of, laid, native_done}
use Rattle.jc_natives.specs.PrivateWords.{seen_in, unless_refused, word_done}
use Rattle.jc_natives.specs.Work.{Asks, Does, Ending, Makes, NewArray, Work}
use Rattle.jc_natives.specs.declared.ended.Ended.{Ended}
use Rattle.jc_natives.specs.declared.ended.Ended.TheVariants as ends
use Rattle.jc_natives.specs.declared.ended.Question.{Question}
use Rattle.jc_natives.specs.declared.native.Elements.{Elements}
use Rattle.jc_natives.specs.declared.native.Native.{Native}
use Rattle.jc_store.specs.Heap.{Heap, next_number, with_new}
use Rattle.jc_store.specs.Store.{Store, fresh}
use Rattle.jc_words.specs.Values.{Ref, TaggedValue, Word}

-- ---- the arguments of a call that may begin

pub passed_some : {A : Type 0} (test : A → Bool) (o : Option A) → option_map_or test o false ≡ true
    → (x : A) × (o ≡ Some x) × (test x ≡ true)
passed_some test o h1 = grind arith

instance_bits : (w : World) (call : NativeCall Kept) (class : ClassName) (s : Signature ClassName) (ws : List ℕ)
    (vs : List TaggedValue) → Pointwise Reads ws vs
    → are_of_instance w.shapes call.heap class s.parameters vs ≡ true → ws ≡ map bits vs
instance_bits w call class s [] [] r e = refl
instance_bits w call class s [] (v ∷ vs) r e = absurd r
instance_bits w call class s (x ∷ ws) [] r e = absurd r
instance_bits w call class s (x ∷ ws) (v ∷ vs) r e = grind (arith, both, receiver_bits, argument_bits)

arguments_are : (w : World) (call : NativeCall Kept) (ws : List ℕ) → Pointwise Reads ws call.arguments
    → IsFitCall meaning w call → ws ≡ arguments_of call
arguments_are w call ws r fit = grind (arith, both, passed_some, argument_bits, instance_bits)

-- ---- how a work ends

reads_reference : (number : ℕ) → Reads number (reference number)
reads_reference number = grind (arith, eqb-true)

reads_end : (outcome : WordOutcome) (ending : Ending) → TellsEnd outcome (ended_of ending)
    → ReadsEnd outcome (end_of ending)
reads_end outcome ending h1 = grind (arith, reads_reference)

reads_made : (outcome : WordOutcome) (n m : ℕ) → n ≡ m → TellsEnd outcome (ends.Returned (Some n))
    → ReadsEnd outcome (Gives (Some (Ref m)))
reads_made outcome n m h1 h2 = grind arith

reads_question : (outcome : WordOutcome) (q : Question) → TellsEnd outcome (ends.Asks q)
    → ReadsEnd outcome (Calls
    (record { member = 40; object = q.object; arguments = reference q.aid ∷ Word q.word ∷ [] }))
reads_question outcome q h1 = grind (arith, reads_reference)

reads_refusal : (outcome : WordOutcome) (object : ℕ) (denied : Option DeniedAccess)
    → ((access : DeniedAccess) → denied ≡ Some access → object ≡ security_exception)
    → TellsEnd outcome (refused_end object denied) → ReadsEnd outcome (ThrowsObject object)
reads_refusal outcome object denied h1 h2 = grind arith

-- ---- the access that was denied, if one was

abbrev denied_in : Ended → Option DeniedAccess
denied_in (ends.Returned word) = None
denied_in (ends.Thrown object) = None
denied_in (ends.AccessDenied access) = Some access
denied_in (ends.Asks question) = None

tells_denied : (outcome : WordOutcome) (ended : Ended) → TellsEnd outcome ended → denied_of outcome ≡ denied_in ended
tells_denied outcome ended h1 = grind arith

of_refusal : (object : ℕ) (denied : Option DeniedAccess) → denied_in (refused_end object denied) ≡ denied
of_refusal object denied = grind arith

of_ending : (ending : Ending) → denied_in (ended_of ending) ≡ None
of_ending ending = grind arith

-- ---- a work

bare_blank : (elements : Elements) (n : ℕ) → map bits (replicate n (blank_of elements)) ≡ replicate n 0
bare_blank elements zero = refl
bare_blank elements (suc n) = grind (arith, replicate, bare_blank elements n)

bare_array : (owner : Owner) (array : NewArray) → fresh (kind_of array) owner array.size ≡ bare (new_array owner array)
bare_array owner array = grind (arith, bare_blank)

-- the same state in the words of a call that agrees
abbrev state_of : Done → WordState Kept
state_of d = record { store = d.store; runtime = d.kept }

module _ (w : World) (call : NativeCall Kept) (touches : List Touch) (fine : are_allowed touches ≡ true) where
  did_agrees : (s : Store) (k : Kept) (work : Work) (outcome : WordOutcome)
      → s.objects ≡ bared call.heap → k ≡ call.runtime
      → TellsEnd outcome (did_on_words call.active s k work).ended
      → AnswerAgrees (state_of (did_on_words call.active s k work)) outcome (done call touches work)
  did_agrees s k (Does writes runtime ending) outcome objects same told = record {
    heap = subst (λ h. HeapReads h (written Word call.heap writes))
        (sym (ap (λ h. laid h writes) objects ∙ bare_laid call.heap writes))
        (reads_heap (written Word call.heap writes));
    runtime = refl;
    ends = reads_end outcome ending told;
    denied = tells_denied outcome (ended_of ending) told ∙ of_ending ending
        ∙ sym (none_denied (touches ++ own_touches call.heap writes)
        (allowed_both touches (own_touches call.heap writes) fine (own_allowed w call writes)));
  }
  did_agrees s k (Makes array) outcome objects same told = record {
    heap = subst (λ h. HeapReads h (with_new call.heap (new_array call.active array)))
        (sym (ap (λ h. h ++ fresh (kind_of array) call.active array.size ∷ []) objects
        ∙ ap (λ o. bared call.heap ++ o ∷ []) (bare_array call.active array)
        ∙ bare_new call.heap (new_array call.active array)))
        (reads_heap (with_new call.heap (new_array call.active array)));
    runtime = same;
    ends = reads_made outcome (next_number s.objects) (next_number call.heap)
        (ap (λ (h : Heap ℕ). suc (length h)) objects ∙ ap suc (bare_length call.heap)) told;
    denied = tells_denied outcome (ends.Returned (Some (next_number s.objects))) told ∙ sym (none_denied touches fine);
  }
  did_agrees s k (Asks q) outcome objects same told =
      grind (arith, reads_heap, reads_question, tells_denied, none_denied)

-- room is the same with tags and without
same_room : (call : NativeCall Kept) (s : Store) (work : Work) → s.objects ≡ bared call.heap
    → s.most_objects ≡ call.limits.objects → s.most_cells ≡ call.limits.cells
    → with_room s.most_objects s.most_cells s.objects call.runtime work
    ≡ with_room call.limits.objects call.limits.cells call.heap call.runtime work
same_room call s work h1 h2 h3 = grind (arith, bare_room)

-- ---- a call

-- what is thrown by a test
thrown_agrees : (call : NativeCall Kept) (touches : List Touch) (s : Store) (object : ℕ) (outcome : WordOutcome)
    → ((access : DeniedAccess) → last_denied touches ≡ Some access → object ≡ security_exception)
    → s.objects ≡ bared call.heap → TellsEnd outcome (refused_end object (last_denied touches))
    → AnswerAgrees (record { store = s; runtime = call.runtime }) outcome (unchanged call touches (ThrowsObject object))
thrown_agrees call touches s object outcome throws objects told =
    grind (arith, reads_heap, reads_refusal, tells_denied, of_refusal)

ended_agrees : (w : World) (call : NativeCall Kept) (touches : List Touch) (thrown : Option ℕ)
    → AreDecided (record { touches = touches; thrown = thrown }) → (s : Store) (work : Work)
    (outcome : WordOutcome) → s.objects ≡ bared call.heap
    → s.most_objects ≡ call.limits.objects → s.most_cells ≡ call.limits.cells
    → TellsEnd outcome (unless_refused s call.runtime (refusal_by touches thrown)
    (done_of call.active s call.runtime work)).ended
    → AnswerAgrees (state_of (unless_refused s call.runtime (refusal_by touches thrown)
    (done_of call.active s call.runtime work))) outcome (ended_on_words call touches thrown work)
ended_agrees w call touches (Some object) decided s work outcome objects most cells told =
    thrown_agrees call touches s object outcome
    (λ access. denied_throws (record { touches = touches; thrown = Some object }) decided object access refl)
    objects told
ended_agrees w call touches None decided s work outcome objects most cells told =
    let P : Work → Type 0 = λ x. TellsEnd outcome (did_on_words call.active s call.runtime x).ended
    → AnswerAgrees (state_of (did_on_words call.active s call.runtime x)) outcome
    (done call touches (with_room call.limits.objects call.limits.cells call.heap call.runtime work)) in
    subst P (sym (same_room call s work objects most cells))
    (did_agrees w call touches (passed_allowed (record { touches = touches; thrown = None }) decided refl)
    s call.runtime (with_room call.limits.objects call.limits.cells call.heap call.runtime work) outcome objects refl)
    told

-- what a call shows is the same
same_seen : (s : Store) (word : WordCall) (call : NativeCall Kept) → s.objects ≡ bared call.heap
    → word.active ≡ call.active → word.previous ≡ call.previous → word.selected ≡ call.selected
    → s.most_objects ≡ call.limits.objects → s.most_cells ≡ call.limits.cells
    → seen_in s word ≡ seen_of word.world.now call
same_seen s word call objects active previous selected most cells = grind arith

-- without a member the meaning is stuck, which the law excludes of calls that fit: a member has a number up to 55
begun_agrees : (w : World) (s : Store) (call : NativeCall Kept) (native : Native) (outcome : WordOutcome)
    → s.objects ≡ bared call.heap
    → s.most_objects ≡ call.limits.objects → s.most_cells ≡ call.limits.cells
    → TellsEnd outcome
    (native_done call.active s call.runtime (seen_of w call) (arguments_of call) native).ended
    → AnswerAgrees (state_of (native_done call.active s call.runtime (seen_of w call) (arguments_of call) native))
    outcome (begun_on_words w call (Some native))
begun_agrees w s call native outcome objects most cells told = grind (arith, ended_agrees, tested_decided)

-- a member that may begin has a number up to 55, and is a native member
listed : {A B : Type 0} (xs : List A) (ys : List B) (n : ℕ) (x : A) → length xs ≡ length ys → slice_get xs n ≡ Some x
    → (y : B) × (slice_get ys n ≡ Some y)
listed [] ys n x e f = absurd (none-some x f)
listed (z ∷ xs) [] n x e f = absurd (omega (arith, e))
listed (z ∷ xs) (y ∷ ys) zero x e f = (y, refl)
listed (z ∷ xs) (y ∷ ys) (suc n) x e f = listed xs ys n x (omega (arith, e)) f

numbered_native : (n : ℕ) (m : ApiMember) → member_of n ≡ Some m
    → (native : Native) × (numbered natives n ≡ Some native)
numbered_native zero m e = absurd (none-some m e)
numbered_native (suc n) m e = listed members natives n m refl e

member_there : (n : ℕ) (world : List Shape) (d : DeclaredMethod) → method_at world (Api n) ≡ Some d
    → (m : ApiMember) × (member_of n ≡ Some m)
member_there n world d e = grind (arith, none-some)

-- of a call that fits the member, and where it is declared
pub record Begins (w : World) (call : NativeCall Kept) : Type 0 where
  pub concrete : is_concrete w.shapes (Api call.member) ≡ true
  pub method : DeclaredMethod
  pub found : method_at w.shapes (Api call.member) ≡ Some method
  pub begins : may_begin_with w.shapes call.heap method call.arguments ≡ true
  pub member : ApiMember
  pub is : member_of call.member ≡ Some member
  pub native : Native
  pub numbered : numbered natives call.member ≡ Some native

pub begins_of : (w : World) (call : NativeCall Kept) → native_may_begin w.shapes call.heap call.member call.arguments
    ≡ true
    → Begins w call
begins_of w call e =
    let a = both (is_concrete w.shapes (Api call.member))
    (option_map_or (λ d. may_begin_with w.shapes call.heap d call.arguments) (method_at w.shapes (Api call.member))
    false) e in
    let d = passed_some (λ d. may_begin_with w.shapes call.heap d call.arguments)
    (method_at w.shapes (Api call.member)) a.1 in
    let m = member_there call.member w.shapes d.0 d.1 in
    let n = numbered_native call.member m.0 m.1 in
    record {
      concrete = a.0;
      method = d.0;
      found = d.1;
      begins = d.2;
      member = m.0;
      is = m.1;
      native = n.0;
      numbered = n.1;
    }

abbrev answers : World → NativeCall Kept → Bool → Option Native → NativeAnswer Kept
answers w call b o = cond b (begun_on_words w call o) (unchanged call [] IsStuck)

-- what the code did is what the member means
pub answered : (s : Store) (k : Kept) (word : WordCall) (d : Done) (outcome : WordOutcome)
    → d ≡ word_done word.active s k (seen_in s word) word.arguments.now (numbered natives word.member)
    → TellsEnd outcome d.ended → (call : NativeCall Kept) → CallAgrees (record { store = s; runtime = k }) word call
    → IsFitCall meaning word.world.now call → answer_of word.world.now call ≡ answer_on_words word.world.now call
    → AnswerAgrees (state_of d) outcome (answer_of word.world.now call)
answered s k word d outcome is told call agrees fit means =
    let w = word.world.now in
    let objects = heap_bits w.shapes call.heap s.objects call.heap agrees.heap fit.heap in
    let arguments = arguments_are w call word.arguments.now agrees.arguments fit in
    let seen = same_seen s word call objects agrees.active agrees.previous agrees.selected agrees.most_objects
    agrees.most_cells in
    let b = begins_of w call fit.begins in
    let whole : d ≡ native_done call.active s call.runtime (seen_of w call) (arguments_of call) b.native = is
    ∙ ap (λ x. word_done x s k (seen_in s word) word.arguments.now (numbered natives word.member)) agrees.active
    ∙ ap (λ x. word_done call.active s x (seen_in s word) word.arguments.now (numbered natives word.member))
    agrees.runtime
    ∙ ap (λ x. word_done call.active s call.runtime x word.arguments.now (numbered natives word.member)) seen
    ∙ ap (λ x. word_done call.active s call.runtime (seen_of w call) x (numbered natives word.member)) arguments
    ∙ ap (λ x. word_done call.active s call.runtime (seen_of w call) (arguments_of call) (numbered natives x))
    agrees.member
    ∙ ap (word_done call.active s call.runtime (seen_of w call) (arguments_of call)) b.numbered in
    let answer : answer_of w call ≡ begun_on_words w call (Some b.native) = means
    ∙ ap (λ x. answers w call x (numbered natives call.member)) fit.begins
    ∙ ap (λ o. answers w call true o) b.numbered in
    let P : Done → NativeAnswer Kept → Type 0 = λ d a. TellsEnd outcome d.ended → AnswerAgrees (state_of d) outcome a in
    subst (λ a. P d a) (sym answer)
    (subst (λ x. P x (begun_on_words w call (Some b.native))) (sym whole)
    (begun_agrees w s call b.native outcome objects agrees.most_objects agrees.most_cells)) told
