-- Arrays that are cleared on words are zero or null on the defensive machine's card.
use Rattle.std.proofs.Common.{◌≡◌, ◌==◌, ◌&&◌, ℕ, zero, suc, List, [], ◌∷◌, map, Bool, true, false, cond, Option, arith}
use Rattle.std.proofs.Common.{Some, slice_get, refl, sym, ap, ◌∙◌, subst}
use Rattle.std.specs.Option.{option_map_or}
use Rattle.jc_interp.specs.Agree.{AreNumbered, IsNumbered}
use Rattle.jc_machine.specs.Lookup.{class_of}
use Rattle.jc_machine.specs.Natives.{IsLawful}
use Rattle.jc_machine.specs.Reading.{HeapReads, Pointwise, Reads, ReadsObject}
use Rattle.jc_names.specs.declared.name.ClassName.{ClassName}
use Rattle.jc_names.specs.declared.owner.Owner.{Owner}
use Rattle.jc_natives.specs.Meaning.{meaning}
use Rattle.jc_safety.specs.Zeroing.{zero_or_null, zeroed, zeroed_where}
use Rattle.jc_store.specs.Heap.{Heap, Object, blanked, cleared, is_cleared_by, is_same_event}
use Rattle.jc_store.specs.Store.{Store, with_objects}
use Rattle.jc_store.specs.declared.kind.ClearingEvent.{ClearingEvent}
use Rattle.jc_store.specs.declared.kind.ObjectKind.{ObjectKind}
use Rattle.jc_words.specs.Values.{TaggedValue}
use Rattle.jc_card.proofs.TypedCards.{cleared_typed}
use Rattle.jc_card.specs.PrivateTyped.{ZeroedTyped}
use Rattle.jc_card.specs.Card.{CardState}
use Rattle.jc_card.specs.Parts.{clear}
use Rattle.jc_card.specs.Reads.{CardWords, GivesNothing, Holds, IsDone}

zero_reads : (v : TaggedValue) → Reads 0 (zero_or_null v)
zero_reads v = grind arith

zeros_read : (ws : List ℕ) (vs : List TaggedValue) → Pointwise Reads ws vs
    → Pointwise Reads (map (λ w. 0) ws) (map zero_or_null vs)
zeros_read [] [] r = tt
zeros_read [] (v ∷ vs) r = absurd r
zeros_read (w ∷ ws) [] r = absurd r
zeros_read (w ∷ ws) (v ∷ vs) r = (zero_reads v, zeros_read ws vs r.1)

module _ (event : ClearingEvent) (context : Option ℕ) where
  abbrev test : {V : Type 0} → Object V → Bool
  test object = is_cleared_by event context object

  abbrev by_kind : ObjectKind → Owner → Bool
  by_kind kind owner =
      option_map_or (is_same_event event) kind.clears false && option_map_or (λ c. c == owner.context) context true

  same_test : (o : Object ℕ) (p : Object TaggedValue) → ReadsObject o p → test o ≡ test p
  same_test o p r = ap (λ (k : ObjectKind). by_kind k o.owner) r.kind ∙ ap (by_kind p.kind) r.owner

  abbrev one : Bool → Object ℕ → Object ℕ
  one b o = cond b (blanked (λ kind. 0) o) o

  abbrev other : Bool → Object TaggedValue → Object TaggedValue
  other b p = cond b (zeroed p) p

  one_reads : (b : Bool) (o : Object ℕ) (p : Object TaggedValue) → ReadsObject o p → ReadsObject (one b o) (other b p)
  one_reads b o p h1 = grind (arith, zeros_read)

  all_read : (os : Heap ℕ) (ps : Heap TaggedValue) → HeapReads os ps
      → HeapReads (cleared (λ kind. 0) event context os) (zeroed_where test ps)
  all_read [] [] r = tt
  all_read [] (p ∷ ps) r = absurd r
  all_read (o ∷ os) [] r = absurd r
  all_read (o ∷ os) (p ∷ ps) r = (
    subst (λ (b : Bool). ReadsObject (one (test o) o) (other b p)) (same_test o p r.0) (one_reads (test o) o p r.0),
    all_read os ps r.1,
  )

  -- an object keeps its kind
  one_kind : (b : Bool) (o : Object ℕ) → (one b o).kind ≡ o.kind
  one_kind b o = grind arith

  record Was (os : Heap ℕ) (n : ℕ) (x : Object ℕ) : Type 0 where
    object : Object ℕ
    found : slice_get os n ≡ Some object
    kind : x.kind ≡ object.kind

  was : (os : Heap ℕ) (n : ℕ) (x : Object ℕ) → slice_get (cleared (λ kind. 0) event context os) n ≡ Some x → Was os n x
  was [] n x e = absurd cc
  was (o ∷ os) zero x e =
      let same : one (test o) o ≡ x = cc in
      record { object = o; found = refl; kind = sym (ap (λ (y : Object ℕ). y.kind) same) ∙ one_kind (test o) o }
  was (o ∷ os) (suc n) x e =
      let w = was os n x e in
      record { object = w.object; found = w.found; kind = w.kind }

  abbrev after_in : Store → Store
  after_in store = with_objects store (cleared (λ kind. 0) event context store.objects)

  numbered_still : (names : List ClassName) (store : Store) → AreNumbered names store
      → AreNumbered names (after_in store)
  numbered_still names store h zero x e = absurd cc
  numbered_still names store h (suc n) x e =
      let w = was store.objects n x e in
      let k = h (suc n) w.object w.found in
      subst (λ (kind : ObjectKind). IsNumbered names (after_in store) (suc n) (class_of kind.object_type)) (sym w.kind)
      (record { named = k.named; kept = k.kept })

  -- ---- the card

  module _ (lawful : IsLawful meaning) (stays : ZeroedTyped) (k : CardWords) (c : CardState) (h : Holds k c) where
    abbrev after : CardWords
    after = record k {
      machine = record {
        store = after_in k.machine.store;
        frames = k.machine.frames;
        statics = k.machine.statics;
      };
    }

    pub clear_done : IsDone after GivesNothing (clear event context c)
    clear_done = grind (arith, cleared_typed, all_read, numbered_still)
