-- Methods and entries of a world with one package more.
use Rattle.std.proofs.Common.{◌≡◌, ◌⊎◌, inl, inr, ℕ, zero, suc, ◌+◌, ◌<◌, ◌≤◌, Bool, List, [], ◌∷◌, ◌++◌, length}
use Rattle.std.proofs.Common.{map, Option, Some, None, slice_get, refl, sym, ap, subst, ◌∙◌, arith}
use Rattle.std.proofs.Common.{append_assoc, append-nil, length-append}
use Rattle.std.proofs.Math.Path.{fun_ext}
use Rattle.std.proofs.lemmas.Bool.{cases_lt}
use Rattle.std.proofs.lemmas.Option.{same_Some, slice_get-map, slice_get_past, slice_get_within}
use Rattle.std.specs.Option.{option_and_then, option_map}
use Rattle.jc_base.specs.Signature.{Signature}
use Rattle.jc_cap.specs.declared.entry.PoolEntry.{PoolEntry}
use Rattle.jc_cap.specs.declared.handler.Handler.{Handler}
use Rattle.jc_cap.specs.declared.method_header.MethodHeader.{MethodHeader}
use Rattle.jc_cap_desc.specs.Shape.{MethodBody, Shape}
use Rattle.jc_classes.specs.Growth.{IsMethodWithin, KeepsAllLookups, StandWithin, grown}
use Rattle.jc_classes.specs.Members.{DeclaredMethod, method_at}
use Rattle.jc_link.specs.Growth.{KeepsAllLinking}
use Rattle.jc_link.specs.Linked.{IsResolved, LinkedBody, World}
use Rattle.jc_link.specs.MemberType.{declared_type_of, method_type_of}
use Rattle.jc_link.specs.Named.{named_by}
use Rattle.jc_link.specs.Target.{cell_of, instance_type_of, pool_target_of, static_type_of, target_of}
use Rattle.jc_link.specs.Target.{target_of_declared}
use Rattle.jc_link.specs.declared.named.Named.{Named}
use Rattle.jc_link.specs.declared.named.Named.TheVariants as Names
use Rattle.jc_link.specs.declared.target.PoolTarget.{PoolTarget}
use Rattle.jc_link.specs.declared.target.PoolTarget.TheVariants as To
use Rattle.jc_names.specs.Names.{home_at}
use Rattle.jc_names.specs.declared.name.ClassName.{ClassName}
use Rattle.jc_names.specs.declared.name.MethodName.{MethodName}
use Rattle.jc_names.specs.declared.name.MethodName.TheVariants.{Loaded}
use Rattle.jc_program.specs.Classes.{HaveWordOffsets}
use Rattle.jc_program.specs.Entries.{AreEntries, entry_at, entry_of, method_entry, target_in}
use Rattle.jc_program.specs.Methods.{AreLoaded, LoadedMethod, caught_by, entry_target, header_at, loaded_handler}
use Rattle.jc_program.specs.Methods.{loaded_method, methods_from, methods_of}
use Rattle.jc_program.specs.PrivateClasses.{HaveLastWordOffsets}
use Rattle.jc_program.specs.PrivateEntries.{pool_of}
use Rattle.jc_entries.specs.declared.entry.Entry.{Entry}
use Rattle.jc_program.proofs.Calling.{get_last}
use Rattle.jc_program.proofs.Catching.{target_there}
use Rattle.jc_program.proofs.Counting.{get_front}
use Rattle.jc_program.proofs.Finding.{head_of, tail_of, with_header}

-- ---- methods of packages one behind the other

from_more : (world : List Shape) (number : ℕ) (bodies : List LinkedBody) (body : LinkedBody)
    → methods_from world number (bodies ++ body ∷ [])
    ≡ methods_from world number bodies ++ methods_of world (number + length bodies) body
from_more world number [] body =
    let none : number ≡ number + 0 = omega arith in
    append-nil (methods_of world number body) ∙ ap (λ k. methods_of world k body) none
from_more world number (b ∷ bodies) body =
    let next : suc number + length bodies ≡ number + suc (length bodies) = omega arith in
    ap (λ ms. methods_of world number b ++ ms) (from_more world (suc number) bodies body
    ∙ ap (λ k. methods_from world (suc number) bodies ++ methods_of world k body) next)
    ∙ sym (append_assoc (methods_of world number b) (methods_from world (suc number) bodies)
    (methods_of world (number + suc (length bodies)) body))

-- ---- what stays

module _ (before after : List Shape) (keeps : KeepsAllLookups before after) (linking : KeepsAllLinking before after)
    (stand : StandWithin before) (two : 2 ≤ length before) where
  target_stays : (number index : ℕ) (body : LinkedBody) → suc number < length before
      → entry_target after number body index ≡ entry_target before number body index
  target_stays number index body low = by_entry (slice_get body.kept.pool index)
    where
      by_entry : (o : Option PoolEntry) → option_and_then (pool_target_of after (home_at number)) o
          ≡ option_and_then (pool_target_of before (home_at number)) o
      by_entry o = grind (arith, None, Some)

  name_within : (number offset : ℕ) → suc number < length before → IsMethodWithin before (Loaded number offset)
  name_within number offset h1 = grind (arith, same_Some)

  caught_stays : (number index : ℕ) (body : LinkedBody) → suc number < length before
      → caught_by after number body index ≡ caught_by before number body index
  caught_stays number index body low = rw (target_stays number index body low) refl

  handler_stays : (number code_offset : ℕ) (body : LinkedBody) (h : Handler) → suc number < length before
      → loaded_handler after number body code_offset h ≡ loaded_handler before number body code_offset h
  handler_stays number code_offset body h low = rw (caught_stays number h.catch_type body low) refl

  method_stays : (number : ℕ) (body : LinkedBody) (m : MethodBody) → suc number < length before
      → loaded_method after number body m ≡ loaded_method before number body m
  method_stays number body m low = grind (arith, fun_ext, handler_stays, name_within)

  from_stays : (number : ℕ) (bodies : List LinkedBody) → number + length bodies < length before
      → methods_from after number bodies ≡ methods_from before number bodies
  from_stays number [] low = refl
  from_stays number (b ∷ bodies) low =
      let own : loaded_method after number b ≡ loaded_method before number b =
      fun_ext (λ m. method_stays number b m (omega (arith, low))) in
      rw (own, from_stays (suc number) bodies (omega (arith, low))) refl

  -- ---- what an entry calls is of a package of the world before

  -- the method that is called as it stands there
  abbrev called_in : PoolTarget → Option MethodName
  called_in (To.Class c) = None
  called_in (To.InstanceField c cell declared) = None
  called_in (To.StaticField place declared) = None
  called_in (To.VirtualMethod c token signature) = None
  called_in (To.SuperMethod c m signature) = Some m
  called_in (To.StaticMethod c m is_static signature) = Some m

  there_within : (m : MethodName) (o : Option DeclaredMethod) (s : Signature ClassName) → method_at before m ≡ o
      → option_and_then (declared_type_of before) o ≡ Some s → IsMethodWithin before m
  there_within m None s at e = absurd cc
  there_within m (Some d) s at e = stand.methods m d at

  typed_within : (m : MethodName) (f : Signature ClassName → PoolTarget) (o : Option (Signature ClassName))
      (t : PoolTarget) → method_type_of before m ≡ o → option_map f o ≡ Some t → IsMethodWithin before m
  typed_within m f None t at e = absurd cc
  typed_within m f (Some s) t at e = there_within m (method_at before m) s refl at

  static_within : (m : MethodName) (o : Option DeclaredMethod) (t : PoolTarget) → method_at before m ≡ o
      → option_and_then (target_of_declared before m) o ≡ Some t → IsMethodWithin before m
  static_within m None t at e = absurd cc
  static_within m (Some d) t at e = stand.methods m d at

  -- of targets that are made of one name, all call the same
  same_call : {A : Type 0} (f : A → PoolTarget) (n : Option MethodName) → ((a : A) → called_in (f a) ≡ n)
      → (o : Option A) (t : PoolTarget) → option_map f o ≡ Some t → called_in t ≡ n
  same_call f n h1 o t h2 = grind (arith, None, Some, same_Some)

  static_call : (m : MethodName) (o : Option DeclaredMethod) (t : PoolTarget)
      → option_and_then (target_of_declared before m) o ≡ Some t → called_in t ≡ Some m
  static_call m None t e = absurd cc
  static_call m (Some d) t e = search (arith, same_call)

  no_call : {P : Type 0} (o : Option MethodName) (m : MethodName) → o ≡ None → o ≡ Some m → P
  no_call o m h1 h2 = grind (arith, None, Some)

  called_within : (n : Named) (t : PoolTarget) (m : MethodName) → target_of before n ≡ Some t → called_in t ≡ Some m
      → IsMethodWithin before m
  called_within (Names.Class c) t m e is = no_call (called_in t) m (ap called_in (sym (same_Some (To.Class c) t e))) is
  called_within (Names.InstanceField c token) t m e is =
      no_call (called_in t) m (same_call (To.InstanceField c (cell_of before c token)) None (λ a. refl)
      (instance_type_of before c token) t e) is
  called_within (Names.StaticField place) t m e is =
      no_call (called_in t) m (same_call (To.StaticField place) None (λ a. refl) (static_type_of before place) t e) is
  called_within (Names.VirtualMethod c token v) t m e is =
      no_call (called_in t) m (same_call (To.VirtualMethod c token) None (λ a. refl) (method_type_of before v) t e) is
  called_within (Names.SuperMethod c v) t m e is =
      subst (IsMethodWithin before)
      (same_Some v m (sym (same_call (To.SuperMethod c v) (Some v) (λ a. refl) (method_type_of before v) t e) ∙ is))
      (typed_within v (To.SuperMethod c v) (method_type_of before v) t refl e)
  called_within (Names.StaticMethod v) t m e is =
      subst (IsMethodWithin before) (same_Some v m (sym (static_call v (method_at before v) t e) ∙ is))
      (static_within v (method_at before v) t refl e)

  target_within : (home : ℕ) (entry : PoolEntry) (t : PoolTarget) (m : MethodName)
      → pool_target_of before home entry ≡ Some t → called_in t ≡ Some m → IsMethodWithin before m
  target_within home entry t m e is = by_name (named_by before home entry) e
    where
      by_name : (o : Option Named) → option_and_then (target_of before) o ≡ Some t → IsMethodWithin before m
      by_name None e = absurd cc
      by_name (Some n) e = called_within n t m e is

  -- ---- entries

  module _ (ms later : List LoadedMethod)
      (same : (is_static : Bool) (signature : Signature ClassName) (m : MethodName) → IsMethodWithin before m
      → method_entry later is_static signature m ≡ method_entry ms is_static signature m) where
    entry_stays : (t : PoolTarget) → ((m : MethodName) → called_in t ≡ Some m → IsMethodWithin before m)
        → entry_of later t ≡ entry_of ms t
    entry_stays t h1 = grind arith

    entries_stay : (number index : ℕ) (body : LinkedBody) → suc number < length before
        → option_map (entry_of ms) (entry_target before number body index)
        ≡ option_map (entry_of later) (entry_target after number body index)
    entries_stay number index body low =
        by_entry (slice_get body.kept.pool index)
        ∙ ap (option_map (entry_of later)) (sym (target_stays number index body low))
      where
        by_target : (entry : PoolEntry) (o : Option PoolTarget) → pool_target_of before (home_at number) entry ≡ o
            → option_map (entry_of ms) o ≡ option_map (entry_of later) o
        by_target entry None e = refl
        by_target entry (Some t) e = search (arith, Some, entry_stays, target_within)

        by_entry : (o : Option PoolEntry)
            → option_map (entry_of ms) (option_and_then (pool_target_of before (home_at number)) o)
            ≡ option_map (entry_of later) (option_and_then (pool_target_of before (home_at number)) o)
        by_entry None = refl
        by_entry (Some entry) = by_target entry (pool_target_of before (home_at number) entry) refl

    module _ (bodies : List LinkedBody) (last : LinkedBody) (pools : List (List Entry))
        (w_is : 2 + length bodies ≡ length before)
        (entries : AreEntries (record { shapes = before; bodies = bodies }) ms pools)
        (count : length pools ≡ suc (length bodies))
        (resolved : IsResolved after (suc (suc (length bodies))) last) where
      abbrev grown_world : World
      grown_world = record { shapes = after; bodies = bodies ++ last ∷ [] }

      targets_stay : (number index : ℕ) → number < suc (length bodies)
          → option_map (entry_of ms) (target_in (record { shapes = before; bodies = bodies }) number index)
          ≡ option_map (entry_of later) (target_in grown_world number index)
      targets_stay zero index low = refl
      targets_stay (suc n) index low =
          by_body (slice_get bodies n)
          ∙ ap (λ o. option_map (entry_of later) (option_and_then (λ b. entry_target after (suc n) b index) o))
          (sym (get_front bodies (last ∷ []) n (omega (arith, low))))
        where
          by_body : (o : Option LinkedBody)
              → option_map (entry_of ms) (option_and_then (λ b. entry_target before (suc n) b index) o)
              ≡ option_map (entry_of later) (option_and_then (λ b. entry_target after (suc n) b index) o)
          by_body o = grind (arith, None, Some, entries_stay)

      last_entry : (index : ℕ) → slice_get (pool_of later last) index
          ≡ option_map (entry_of later) (entry_target after (suc (length bodies)) last index)
      last_entry index = grind (arith, slice_get-map, target_there, length)

      pub entries_grown : AreEntries grown_world later (pools ++ pool_of later last ∷ [])
      entries_grown number index = by_order (cases_lt number (length pools))
        where
          by_number : (n : ℕ) → n ≡ number → suc (length bodies) ≤ n
              → option_and_then (λ es. slice_get es index) (slice_get (pools ++ pool_of later last ∷ []) n)
              ≡ option_map (entry_of later) (target_in grown_world n index)
          by_number zero is past = absurd (omega (arith, past))
          by_number (suc n) is past = by_last (cases_lt (length bodies) n)
            where
              by_last : (length bodies < n) ⊎ (n ≤ length bodies)
                  → option_and_then (λ es. slice_get es index) (slice_get (pools ++ pool_of later last ∷ []) (suc n))
                  ≡ option_map (entry_of later) (target_in grown_world (suc n) index)
              by_last (inl behind) =
                  let a = length-append pools (pool_of later last ∷ []) in
                  let b = length-append bodies (last ∷ []) in
                  rw (
                    slice_get_past (pools ++ pool_of later last ∷ []) (suc n) (omega (arith, a, count, behind)),
                    slice_get_past (bodies ++ last ∷ []) n (omega (arith, b, behind)),
                  ) refl
              by_last (inr not) =
                  let same : n ≡ length bodies = omega (arith, not, past) in
                  let place : suc n ≡ length pools = omega (arith, same, count) in
                  ap (λ k. option_and_then (λ es. slice_get es index) (slice_get (pools ++ pool_of later last ∷ []) k))
                  place
                  ∙ ap (option_and_then (λ es. slice_get es index)) (get_last pools (pool_of later last))
                  ∙ last_entry index
                  ∙ ap (λ o. option_map (entry_of later)
                  (option_and_then (λ b. entry_target after (suc (length bodies)) b index) o))
                  (sym (get_last bodies last))
                  ∙ ap (λ k. option_map (entry_of later) (target_in grown_world (suc k) index)) (sym same)

          by_order : (number < length pools) ⊎ (length pools ≤ number)
              → entry_at (pools ++ pool_of later last ∷ []) number index
              ≡ option_map (entry_of later) (target_in grown_world number index)
          by_order h1 = grind (arith, slice_get, get_front, targets_stay, by_number)

  -- ---- methods

  pub loaded_grown : (bodies : List LinkedBody) (last : LinkedBody) (ms later : List LoadedMethod)
      → 2 + length bodies ≡ length before
      → AreLoaded (record { shapes = before; bodies = bodies }) ms
      → map Some later ≡ map Some ms ++ methods_of after (suc (length bodies)) last
      → AreLoaded (record { shapes = after; bodies = bodies ++ last ∷ [] }) later
  loaded_grown bodies last ms later count loaded more = grind (arith, length, from_stays, from_more)

-- ---- those of a package more have its number

module _ (world : List Shape) (k : ℕ) (body : LinkedBody) where
  one_number : (b : MethodBody) (m : LoadedMethod) (o : Option MethodHeader)
      → Some m ≡ option_map (with_header world k body b) o → m.number ≡ k
  one_number b m o h1 = grind (arith, None, Some, same_Some, with_header)

  own_number : (bs : List MethodBody) (later : List LoadedMethod) → map Some later ≡ map (loaded_method world k body) bs
      → (n : ℕ) (m : LoadedMethod) → slice_get later n ≡ Some m → m.number ≡ k
  own_number [] [] e n m at = absurd cc
  own_number [] (x ∷ later) e n m at = absurd cc
  own_number (b ∷ bs) [] e n m at = absurd cc
  own_number (b ∷ bs) (x ∷ later) e zero m at =
      ap (λ (x : LoadedMethod). x.number) (sym (same_Some x m at))
      ∙ one_number b x (header_at world k b.offset)
      (head_of (Some x) (map Some later) (loaded_method world k body b) (map (loaded_method world k body) bs) e)
  own_number (b ∷ bs) (x ∷ later) e (suc n) m at =
      own_number bs later
      (tail_of (Some x) (map Some later) (loaded_method world k body b) (map (loaded_method world k body) bs) e) n m at

  pub number_behind : (ms later : List LoadedMethod) → map Some later ≡ map Some ms ++ methods_of world k body
      → (n : ℕ) (m : LoadedMethod) → length ms ≤ n → slice_get later n ≡ Some m → m.number ≡ k
  number_behind [] later e n m past at = own_number body.kept.methods later e n m at
  number_behind (y ∷ ms) [] e n m past at = absurd cc
  number_behind (y ∷ ms) (x ∷ later) e zero m past at = absurd (omega (arith, past))
  number_behind (y ∷ ms) (x ∷ later) e (suc n) m past at =
      number_behind ms later
      (tail_of (Some x) (map Some later) (Some y) (map Some ms ++ methods_of world k body) e) n m
      (omega (arith, past)) at

-- ---- offsets

pub words_grown : (before : List Shape) (more : Shape) → HaveWordOffsets before
    → HaveLastWordOffsets (grown before more)
    → HaveWordOffsets (grown before more)
words_grown before more words last home place shape k at there = by_order (cases_lt home (length before))
  where
    by_order : (home < length before) ⊎ (length before ≤ home) → k.offset < 0x10000
    by_order h1 = grind (arith, get_front, slice_get_within, length-append, length, slice_get)
