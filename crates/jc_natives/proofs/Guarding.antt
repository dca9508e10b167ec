-- The law of accesses: what members access is judged, and only what was accessed changes.
use Rattle.std.proofs.Common.{◌≡◌, ◌≢◌, ◌⊎◌, inl, inr, ℕ, zero, suc, ◌+◌, ◌==◌, ◌&&◌, ◌||◌, Bool, true, false, cond}
use Rattle.std.proofs.Common.{List, [], ◌∷◌, ◌++◌, length, map, set, slice_get, nat_le, nat_lt, Option, Some, None}
use Rattle.std.proofs.Common.{refl, sym, ap, subst, ◌∙◌, arith, length-append, replicate}
use Rattle.std.proofs.lemmas.Bool.{eq-eqb, eqb-true, leb-true, ltb-true}
use Rattle.std.proofs.lemmas.List.{length-set}
use Rattle.std.proofs.lemmas.Option.{none-some, same_Some}
use Rattle.std.specs.List.{AllByRecursion, list_any}
use Rattle.jc_firewall.specs.Verdict.{is_allowed, is_own, runtime, runtime_context, verdict_of}
use Rattle.jc_firewall.specs.declared.access.Access.TheVariants.{PutField, StoreComponent}
use Rattle.jc_firewall.specs.declared.access.Facts.{Facts}
use Rattle.jc_firewall.specs.declared.access.Rule.TheVariants as rules
use Rattle.jc_firewall.specs.declared.access.Verdict.{Verdict}
use Rattle.jc_firewall.specs.declared.access.Verdict.TheVariants.{Allowed, AllowedSwitch, Denied}
use Rattle.jc_link.specs.Linked.{World}
use Rattle.jc_machine.specs.Going.{facts_in}
use Rattle.jc_machine.specs.Guarded.{ChangesAccessed, IsAccessed, are_allowed}
use Rattle.jc_machine.specs.Guarded.{IsJudged, is_runtimes, may_change}
use Rattle.jc_machine.specs.Lookup.{is_array}
use Rattle.jc_machine.specs.Machine.{By, ByCode, ByRuntime, Limits, NativeCall, Touch}
use Rattle.jc_machine.specs.Natives.{IsStill, IsWithin, KeepsObjects, setting_for}
use Rattle.jc_natives.proofs.Bare.{bare_object, both}
use Rattle.jc_natives.proofs.Getting.{new_object, other_object}
use Rattle.jc_natives.proofs.Putting.{put_none, put_some, same_or_not}
use Rattle.jc_natives.proofs.Refusing.{allowed_both}
use Rattle.jc_natives.specs.Cells.{Write, has_room, put, put_all, written}
use Rattle.jc_natives.specs.Checks.{access_of}
use Rattle.jc_natives.specs.Kept.{Kept}
use Rattle.jc_natives.specs.Meaning.{has_words, meaning, own_touch, own_touch_of, own_touches, registering, touch_by}
use Rattle.jc_natives.specs.PrivateCells.{bare}
use Rattle.jc_natives.specs.PrivateSeen.{seen_of}
use Rattle.jc_natives.specs.PrivateTests.{Tested, by_verdict, facts_of, followed, ranged, test, tested, touch_of, used}
use Rattle.jc_natives.specs.declared.row.Range.{Range}
use Rattle.jc_natives.specs.declared.row.MemberRow.{MemberRow}
use Rattle.jc_natives.specs.declared.row.Test.{Test}
use Rattle.jc_natives.specs.declared.row.Use.{Use}
use Rattle.jc_names.specs.declared.owner.Owner.{Owner}
use Rattle.jc_store.specs.Heap.{Heap, Object, cells_in, object_at, with_cell, with_new, with_object}
use Rattle.jc_store.specs.declared.kind.Mark.TheVariants.{Plain}
use Rattle.jc_words.specs.Values.{TaggedValue, Word}
use Rattle.jc_natives.proofs.Changed.{either_is, is_change_of, is_changed}

-- ---- lists of accesses

pub all_replicate : {A : Type 0} (P : A → Type 0) (count : ℕ) (x : A) → P x → AllByRecursion P (replicate count x)
all_replicate P zero x p = tt
all_replicate P (suc n) x p = (p, all_replicate P n x p)

pub all_both : {A : Type 0} (P : A → Type 0) (xs ys : List A) → AllByRecursion P xs → AllByRecursion P ys
    → AllByRecursion P (xs ++ ys)
all_both P [] ys a b = b
all_both P (x ∷ xs) ys a b = (a.0, all_both P xs ys a.1 b)

pub got_front : {A : Type 0} (xs ys : List A) (n : ℕ) (x : A) → slice_get xs n ≡ Some x
    → slice_get (xs ++ ys) n ≡ Some x
got_front [] ys n x e = absurd (none-some x e)
got_front (y ∷ xs) ys zero x e = e
got_front (y ∷ xs) ys (suc n) x e = got_front xs ys n x e

got_back : {A : Type 0} (xs ys : List A) (n : ℕ) → slice_get (xs ++ ys) (length xs + n) ≡ slice_get ys n
got_back [] ys n = let e : 0 + n ≡ n = omega arith in ap (slice_get ys) e
got_back (x ∷ xs) ys n = grind (arith, got_back xs ys n)

-- ---- what the tests access

-- an access of the caller's, by one of the ways in which members use objects
pub record IsUse (w : World) (call : NativeCall Kept) (touch : Touch) : Type 0 where
  pub native : IsJudged (setting_for meaning w call) touch
  pub way : Use
  pub access : touch.access ≡ access_of way
  pub active : touch.active ≡ call.active.context

pub record AreUses (w : World) (call : NativeCall Kept) (t : Tested) : Type 0 where
  pub uses : AllByRecursion (IsUse w call) t.touches

module _ (w : World) (call : NativeCall Kept) where
  no_use : (thrown : Option ℕ) → AreUses w call (record { touches = []; thrown = thrown })
  no_use thrown = record { uses = tt }

  -- the verdict on such an access hangs on no interface
  same_verdict : (way : Use) (o : Object TaggedValue)
      → verdict_of (access_of way) call.active.context (facts_of (seen_of w call) (bare o))
      ≡ verdict_of (access_of way) call.active.context (facts_in w.shapes call.selected o None false)
  same_verdict way o = grind arith

  use_of : (way : Use) (number : ℕ) (o : Object TaggedValue) (v : Verdict) → object_at call.heap number ≡ Some o
      → verdict_of (access_of way) call.active.context (facts_of (seen_of w call) (bare o)) ≡ v
      → IsUse w call (touch_of (seen_of w call) way number v)
  use_of way number o v found is = grind (arith, same_verdict)

  by_verdict_uses : (way : Use) (number : ℕ) (o : Object TaggedValue) (v : Verdict) → object_at call.heap number
      ≡ Some o
      → verdict_of (access_of way) call.active.context (facts_of (seen_of w call) (bare o)) ≡ v
      → AreUses w call (by_verdict (seen_of w call) way number v)
  by_verdict_uses way number o v h1 h2 = grind (arith, use_of)

  used_uses : (way : Use) (number : ℕ) → AreUses w call (used (seen_of w call) way number)
  used_uses way number = grind (arith, bare_object, no_use, by_verdict_uses)

  either_uses : (b : Bool) (t u : Tested) → AreUses w call t → AreUses w call u → AreUses w call (cond b t u)
  either_uses b t u h1 h2 = grind arith

  test_uses : (arguments : List ℕ) (one : Test) → AreUses w call (test (seen_of w call) arguments one)
  test_uses arguments one = grind (arith, no_use, used_uses, either_uses)

  ranged_uses : (arguments : List ℕ) (r : Option Range) → AreUses w call (ranged (seen_of w call) arguments r)
  ranged_uses arguments r = grind (arith, no_use, either_uses)

  followed_uses : (t u : Tested) → AreUses w call t → AreUses w call u → AreUses w call (followed t u)
  followed_uses t u a b = grind (arith, all_both)

  pub tested_uses : (arguments : List ℕ) (row : MemberRow) → AreUses w call (tested (seen_of w call) arguments row)
  tested_uses arguments row = grind (arith, followed_uses, test_uses, ranged_uses)

  pub natives_of : (touches : List Touch) → AllByRecursion (IsUse w call) touches
      → AllByRecursion (IsJudged (setting_for meaning w call)) touches
  natives_of [] uses = tt
  natives_of (t ∷ touches) uses = ((uses.0).native, natives_of touches uses.1)

-- ---- objects that are written

pub same_found : {V : Type 0} (found : Option (Object V)) (o p : Object V) → found ≡ Some o → found ≡ Some p → p ≡ o
same_found found o p e f = same_Some p o (sym f ∙ e)

pub keeps_itself : (heap : Heap TaggedValue) → KeepsObjects heap heap
keeps_itself heap number o found = record { object = o; found = found; kind = refl; owner = refl; size = refl }

keeps_on : (one two three : Heap TaggedValue) → KeepsObjects one two → KeepsObjects two three → KeepsObjects one three
keeps_on one two three a b number o found =
    let p = a number o found in
    let q = b number p.object p.found in
    record {
      object = q.object;
      found = q.found;
      kind = q.kind ∙ p.kind;
      owner = q.owner ∙ p.owner;
      size = q.size ∙ p.size;
    }

pub keeps_put : (heap : Heap TaggedValue) (number index : ℕ) (value : TaggedValue)
    → KeepsObjects heap (put heap number index value)
keeps_put heap number index value = by_object (object_at heap number) refl
  where
    written_one : (o : Object TaggedValue) → object_at heap number ≡ Some o
        → KeepsObjects heap (with_object heap number (with_cell o index value))
    written_one o e n p found = by_number (same_or_not number n)
      where
        by_number : (number ≢ n) ⊎ (number ≡ n) → IsStill (with_object heap number (with_cell o index value)) n p
        by_number (inl h) = record {
          object = p;
          found = other_object heap number n (with_cell o index value) h ∙ found;
          kind = refl;
          owner = refl;
          size = refl;
        }
        by_number (inr h) =
            let same = same_found (object_at heap number) o p e (ap (object_at heap) h ∙ found) in
            record {
              object = with_cell o index value;
              found = ap (object_at (with_object heap number (with_cell o index value))) (sym h)
                  ∙ new_object heap number o (with_cell o index value) e;
              kind = ap (λ (x : Object TaggedValue). x.kind) (sym same);
              owner = ap (λ (x : Object TaggedValue). x.owner) (sym same);
              size = length-set o.cells index value ∙ ap (λ (x : Object TaggedValue). length x.cells) (sym same);
            }

    by_object : (o : Option (Object TaggedValue)) → object_at heap number ≡ o
        → KeepsObjects heap (put heap number index value)
    by_object o h1 = grind (arith, put_none, keeps_itself, put_some, written_one)

keeps_put_all : (heap : Heap TaggedValue) (number from : ℕ) (values : List TaggedValue)
    → KeepsObjects heap (put_all heap number from values)
keeps_put_all heap number from [] = keeps_itself heap
keeps_put_all heap number from (v ∷ values) =
    keeps_on heap (put heap number from v) (put_all heap number from (v ∷ values)) (keeps_put heap number from v)
    (keeps_put_all (put heap number from v) number (from + 1) values)

pub keeps_written : (heap : Heap TaggedValue) (writes : List Write) → KeepsObjects heap (written Word heap writes)
keeps_written heap [] = keeps_itself heap
keeps_written heap (x ∷ writes) =
    keeps_on heap (put_all heap x.object x.from (map Word x.words)) (written Word heap (x ∷ writes))
    (keeps_put_all heap x.object x.from (map Word x.words))
    (keeps_written (put_all heap x.object x.from (map Word x.words)) writes)

pub keeps_new : (heap : Heap TaggedValue) (object : Object TaggedValue) → KeepsObjects heap (with_new heap object)
keeps_new heap object zero o found = absurd (none-some o found)
keeps_new heap object (suc n) o found = record {
  object = o;
  found = got_front heap (object ∷ []) n o found;
  kind = refl;
  owner = refl;
  size = refl;
}

-- objects that aren't written are as they were
put_apart : (heap : Heap TaggedValue) (number index other : ℕ) (value : TaggedValue) → number ≢ other
    → object_at (put heap number index value) other ≡ object_at heap other
put_apart heap number index other value h = grind (arith, put_none, put_some, other_object)

put_all_apart : (heap : Heap TaggedValue) (number from other : ℕ) (values : List TaggedValue) → number ≢ other
    → object_at (put_all heap number from values) other ≡ object_at heap other
put_all_apart heap number from other [] h = refl
put_all_apart heap number from other (v ∷ values) h =
    put_all_apart (put heap number from v) number (from + 1) other values h ∙ put_apart heap number from other v h

-- words are written to an object
abbrev pub is_write_to : ℕ → Write → Bool
is_write_to number x = has_words x.words && x.object == number

abbrev pub is_written_in : List Write → ℕ → Bool
is_written_in writes number = list_any (is_write_to number) writes

neither : (a b : Bool) → (a || b) ≡ false → (a ≡ false) × (b ≡ false)
neither a b h1 = grind arith

unequal : false ≡ true → ⊥
unequal g = cc

-- where no words are, none is written
put_elsewhere : (heap : Heap TaggedValue) (object from number : ℕ) (words : List ℕ)
    → (has_words words && object == number) ≡ false
    → object_at (put_all heap object from (map Word words)) number ≡ object_at heap number
put_elsewhere heap object from number words h1 = grind (arith, put_all_apart, unequal, eq-eqb)

written_apart : (heap : Heap TaggedValue) (writes : List Write) (number : ℕ) → is_written_in writes number ≡ false
    → object_at (written Word heap writes) number ≡ object_at heap number
written_apart heap [] number e = refl
written_apart heap (x ∷ writes) number e =
    let b = neither (is_write_to number x) (is_written_in writes number) e in
    written_apart (put_all heap x.object x.from (map Word x.words)) writes number b.1
    ∙ put_elsewhere heap x.object x.from number x.words b.0

-- ---- what is written was accessed

-- a plain object that a member may use is its context's own, or the runtime uses it
by_fields : (by_runtime own : Bool) → is_allowed (cond by_runtime Allowed (cond own Allowed (Denied rules.Fields)))
    ≡ true
    → (own ≡ true) ⊎ (by_runtime ≡ true)
by_fields by_runtime own h1 = grind arith

by_components : (by_runtime out own global : Bool)
    → is_allowed (cond by_runtime Allowed
    (cond out (Denied rules.Selection) (cond (own || global) Allowed (Denied rules.Components)))) ≡ true
    → global ≡ false → (own ≡ true) ⊎ (by_runtime ≡ true)
by_components by_runtime out own global h1 h2 = grind arith

by_calls : (by_runtime own entry global : Bool) (owner : Owner)
    → is_allowed (cond by_runtime (AllowedSwitch owner)
    (cond own Allowed (cond (entry || global) (AllowedSwitch runtime) (Denied rules.Calls)))) ≡ true
    → entry ≡ false → global ≡ false → (own ≡ true) ⊎ (by_runtime ≡ true)
by_calls by_runtime own entry global owner h1 h2 h3 = grind arith

whose : (active : ℕ) (f : Facts) → (is_own active f ≡ true) ⊎ ((active == runtime_context) ≡ true)
    → (active ≡ f.owner.context) ⊎ (active ≡ runtime_context)
whose active f h1 = grind (arith, eqb-true)

pub own_use : (way : Use) (active : ℕ) (f : Facts) → is_allowed (verdict_of (access_of way) active f) ≡ true
    → f.mark ≡ Plain → (active ≡ f.owner.context) ⊎ (active ≡ runtime_context)
own_use way active f h1 h2 = grind (arith, whose, by_fields, by_components, by_calls)

-- what is written was tested, where the caller writes, and is named, where the runtime does
pub record IsPlaced (registers : Option ℕ) (touches : List Touch) (by : By) (number : ℕ) : Type 0 where
  pub code : by ≡ ByCode → is_changed touches number ≡ true
  pub runtime : by ≡ ByRuntime → is_runtimes registers number ≡ true

abbrev pub ArePlaced : Option ℕ → List Touch → List Write → Type 0
ArePlaced registers touches writes = AllByRecursion (λ (x : Write). IsPlaced registers touches x.by x.object) writes

module _ (w : World) (call : NativeCall Kept) where
  abbrev active : ℕ
  active = call.active.context

  abbrev Judged : Touch → Type 0
  Judged = IsJudged (setting_for meaning w call)

  -- an object that was tested
  tested_access : (touches : List Touch) → AllByRecursion (IsUse w call) touches → are_allowed touches ≡ true
      → (number : ℕ) (o : Object TaggedValue) → object_at call.heap number ≡ Some o
      → is_changed touches number ≡ true → IsAccessed active touches number o
  tested_access [] uses fine number o found e = absurd cc
  tested_access (t ∷ touches) uses fine number o found e =
      by_first (tested_access touches uses.1 (both (is_allowed t.verdict) (are_allowed touches) fine).1 number o found)
      (either_is (is_change_of number t) (is_changed touches number) e)
    where
      parts : (is_allowed t.verdict ≡ true) × (are_allowed touches ≡ true)
      parts = both (is_allowed t.verdict) (are_allowed touches) fine

      own_of : (u : IsUse w call t) → u.native.object ≡ o → o.kind.mark ≡ Plain
          → (active ≡ o.owner.context) ⊎ (t.active ≡ runtime_context)
      own_of u same plain = grind (arith, own_use, parts)

      by_first : (is_changed touches number ≡ true → IsAccessed active touches number o)
          → (is_change_of number t ≡ true) ⊎ (is_changed touches number ≡ true)
          → IsAccessed active (t ∷ touches) number o
      by_first rest (inl f) =
          let u = uses.0 in
          let g = both (t.object == number) (may_change t.access) f in
          let same = same_found (object_at call.heap number) o u.native.object found
          (ap (object_at call.heap) (sym (eqb-true t.object number g.0)) ∙ u.native.found) in
          record {
            place = 0;
            touch = t;
            listed = refl;
            is = eqb-true t.object number g.0;
            changes = g.1;
            allowed = parts.0;
            who = inl u.active;
            own = λ plain. own_of u same plain;
          }
      by_first rest (inr f) =
          let later = rest f in
          record {
            place = suc later.place;
            touch = later.touch;
            listed = later.listed;
            is = later.is;
            changes = later.changes;
            allowed = later.allowed;
            who = later.who;
            own = later.own;
          }

  accessed_in_front : (xs ys : List Touch) (number : ℕ) (o : Object TaggedValue) → IsAccessed active xs number o
      → IsAccessed active (xs ++ ys) number o
  accessed_in_front xs ys number o a = grind (arith, got_front)

  accessed_behind : (xs ys : List Touch) (number : ℕ) (o : Object TaggedValue) → IsAccessed active ys number o
      → IsAccessed active (xs ++ ys) number o
  accessed_behind xs ys number o a = grind (arith, got_back)

  -- an object that is written
  module _ (touches : List Touch) (uses : AllByRecursion (IsUse w call) touches)
      (fine : are_allowed touches ≡ true) (number : ℕ) (o : Object TaggedValue)
      (found : object_at call.heap number ≡ Some o) where
    may_change_so : (array : Bool) → may_change (cond array StoreComponent PutField) ≡ true
    may_change_so array = grind arith

    own_accessed : (ts : List Touch) → IsAccessed active (own_touch number o ∷ ts) number o
    own_accessed ts = record {
      place = 0;
      touch = own_touch number o;
      listed = refl;
      is = refl;
      changes = may_change_so (is_array o.kind.object_type);
      allowed = refl;
      who = inr refl;
      own = λ plain. inr refl;
    }

    abbrev Either : List Write → Type 0
    Either writes = IsAccessed active touches number o ⊎ IsAccessed active (own_touches call.heap writes) number o

    later_access : (x : Write) (writes : List Write) → Either writes → Either (x ∷ writes)
    later_access x writes h1 = grind (arith, accessed_behind)

    first_access : (by : By) (from : ℕ) (words : List ℕ) (writes : List Write)
        → IsPlaced (registering call.runtime) touches by number → has_words words ≡ true
        → Either (record { by = by; object = number; from = from; words = words } ∷ writes)
    first_access by from words writes h1 h2 = grind (arith, tested_access, own_accessed)

    write_access_of : (writes : List Write) → ArePlaced (registering call.runtime) touches writes
        → is_written_in writes number ≡ true → Either writes
    write_access_of [] placed e = absurd cc
    write_access_of (x ∷ writes) placed e =
        by_first (write_access_of writes placed.1) (either_is (is_write_to number x) (is_written_in writes number) e)
      where
        by_first : (is_written_in writes number ≡ true → Either writes)
            → (is_write_to number x ≡ true) ⊎ (is_written_in writes number ≡ true) → Either (x ∷ writes)
        by_first rest (inl f) =
            let g = both (has_words x.words) (x.object == number) f in
            let same : number ≡ x.object = sym (eqb-true x.object number g.1) in
            subst (λ (n : ℕ). Either (record { by = x.by; object = n; from = x.from; words = x.words } ∷ writes)) same
            (first_access x.by x.from x.words writes
            (subst (λ (n : ℕ). IsPlaced (registering call.runtime) touches x.by n) (sym same) placed.0) g.0)
        by_first rest (inr f) = later_access x writes (rest f)

  pub changes_accessed : (touches : List Touch) (writes : List Write) → AllByRecursion (IsUse w call) touches
      → are_allowed touches ≡ true → ArePlaced (registering call.runtime) touches writes
      → ChangesAccessed active (touches ++ own_touches call.heap writes) call.heap (written Word call.heap writes)
  changes_accessed touches writes uses fine placed number o p before after =
      by_written (is_written_in writes number) refl
    where
      either_list : IsAccessed active touches number o ⊎ IsAccessed active (own_touches call.heap writes) number o
          → IsAccessed active (touches ++ own_touches call.heap writes) number o
      either_list h1 = grind (arith, accessed_in_front, accessed_behind)

      by_written : (b : Bool) → is_written_in writes number ≡ b
          → (p.cells ≡ o.cells) ⊎ IsAccessed active (touches ++ own_touches call.heap writes) number o
      by_written b h1 = grind (arith, same_found, written_apart, either_list, write_access_of)

  -- the runtime's own accesses
  own_judged : (number : ℕ) (o : Object TaggedValue) → object_at call.heap number ≡ Some o
      → is_runtimes (registering call.runtime) number ≡ true → Judged (own_touch number o)
  own_judged number o found named = grind arith

  touch_judged : (by : By) (number : ℕ) → (by ≡ ByRuntime → is_runtimes (registering call.runtime) number ≡ true)
      → AllByRecursion Judged (touch_by by call.heap number)
  touch_judged by number h1 = grind (arith, own_judged)

  if_words : (P : List Touch → Type 0) (b : Bool) (ts : List Touch) → P ts → P [] → P (cond b ts [])
  if_words P b ts h1 h2 = grind arith

  pub own_natives : (touches : List Touch) (writes : List Write)
      → ArePlaced (registering call.runtime) touches writes
      → AllByRecursion Judged (own_touches call.heap writes)
  own_natives touches [] placed = tt
  own_natives touches (x ∷ writes) placed =
      all_both Judged (own_touch_of call.heap x) (own_touches call.heap writes)
      (if_words (AllByRecursion Judged) (has_words x.words) (touch_by x.by call.heap x.object)
      (touch_judged x.by x.object (placed.0).runtime) tt) (own_natives touches writes placed.1)

  touch_allowed : (by : By) (number : ℕ) → are_allowed (touch_by by call.heap number) ≡ true
  touch_allowed by number = grind arith

  pub own_allowed : (writes : List Write) → are_allowed (own_touches call.heap writes) ≡ true
  own_allowed [] = refl
  own_allowed (x ∷ writes) = search (arith, allowed_both, if_words, touch_allowed, own_allowed writes)

-- ---- room

sums_set : (heap : Heap TaggedValue) (n : ℕ) (before after : Object TaggedValue) → slice_get heap n ≡ Some before
    → length after.cells ≡ length before.cells → cells_in (set heap n after) ≡ cells_in heap
sums_set [] n before after e same = refl
sums_set (o ∷ heap) zero before after e same = grind (arith, same, same_Some)
sums_set (o ∷ heap) (suc n) before after e same = grind (arith, same, sums_set heap n before after e same)

pub record IsAsLarge (before after : Heap TaggedValue) : Type 0 where
  pub objects : length after ≡ length before
  pub cells : cells_in after ≡ cells_in before

put_as_large : (heap : Heap TaggedValue) (number index : ℕ) (value : TaggedValue)
    → IsAsLarge heap (put heap number index value)
put_as_large heap number index value = by_object (object_at heap number) refl
  where
    large : (n : ℕ) (o : Object TaggedValue) → object_at heap n ≡ Some o
        → IsAsLarge heap (with_object heap n (with_cell o index value))
    large zero o e = absurd (none-some o e)
    large (suc n) o e = search (arith, none-some, length-set, sums_set)

    by_object : (o : Option (Object TaggedValue)) → object_at heap number ≡ o
        → IsAsLarge heap (put heap number index value)
    by_object o h1 = grind (arith, put_none, put_some, large)

put_all_as_large : (heap : Heap TaggedValue) (number from : ℕ) (values : List TaggedValue)
    → IsAsLarge heap (put_all heap number from values)
put_all_as_large heap number from [] = record { objects = refl; cells = refl }
put_all_as_large heap number from (v ∷ values) =
    let one = put_as_large heap number from v in
    let more = put_all_as_large (put heap number from v) number (from + 1) values in
    record { objects = more.objects ∙ one.objects; cells = more.cells ∙ one.cells }

pub written_as_large : (heap : Heap TaggedValue) (writes : List Write) → IsAsLarge heap (written Word heap writes)
written_as_large heap [] = record { objects = refl; cells = refl }
written_as_large heap (x ∷ writes) =
    let one = put_all_as_large heap x.object x.from (map Word x.words) in
    let more = written_as_large (put_all heap x.object x.from (map Word x.words)) writes in
    record { objects = more.objects ∙ one.objects; cells = more.cells ∙ one.cells }

cells_of_new : (heap : Heap TaggedValue) (object : Object TaggedValue)
    → cells_in (heap ++ object ∷ []) ≡ cells_in heap + 1 + length object.cells
cells_of_new [] object = omega arith
cells_of_new (o ∷ heap) object = let e = cells_of_new heap object in omega (arith, e)

pub made_within : (limits : Limits) (heap : Heap TaggedValue) (object : Object TaggedValue) (size : ℕ)
    → length object.cells ≡ size → has_room limits.objects limits.cells heap size ≡ true
    → IsWithin limits (with_new heap object)
made_within limits heap object size count room =
    let b = both (nat_lt (length heap) limits.objects) (nat_le (cells_in heap + 1 + size) limits.cells) room in
    let objects = ltb-true (length heap) limits.objects b.0 in
    let cells = leb-true (cells_in heap + 1 + size) limits.cells b.1 in
    let one = length-append heap (object ∷ []) in
    let two = cells_of_new heap object in
    record { objects = omega (arith, objects, one); cells = omega (arith, cells, two, count) }
