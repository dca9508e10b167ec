-- How often places are followed: each is once more only where it has changed, and what may still rise falls with that.
use Rattle.std.proofs.Common.{◌≡◌, ◌⊎◌, inl, inr, ℕ, zero, suc, ◌+◌, ◌*◌, ◌-◌, ◌^◌, ◌<◌, ◌≤◌, Bool, true, false, List}
use Rattle.std.proofs.Common.{[], ◌∷◌, length, Option, Some, None, slice_get, slice_set, refl, sym, ap, subst, ◌∙◌}
use Rattle.std.proofs.Common.{arith}
use Rattle.std.proofs.Math.Nat.{mul-le-mul_right, suc-mul, zero-mul}
use Rattle.std.specs.Io.Iter.{u64_saturate}
use Rattle.std.specs.List.{AllByRecursion, sum_by}
use Rattle.std.specs.List.Sorted.{IsPermutation}
use Rattle.std.specs.Option.{option_map_or}
use Rattle.std.proofs.lemmas.List.Sorted.{sum_by-IsPermutation}
use Rattle.std.proofs.lemmas.List.Sums.{sum_by-cons, sum_by_push}
use Rattle.std.proofs.lemmas.Option.{none-some, same_Some}
use Rattle.jc_cap_desc.specs.Shape.{Shape}
use Rattle.jc_cert.specs.Cert.{IsCert, IsRow, IsStated, Row, Stated}
use Rattle.jc_cert.specs.declared.stated_type.SpelledClass.{SpelledClass}
use Rattle.jc_check.specs.Method.{CheckedMethod}
use Rattle.jc_classes.specs.Subtype.{IsClassLattice, classes_above, common_class, is_class_below}
use Rattle.jc_classes.specs.Walk.{most_classes}
use Rattle.jc_link.specs.Linked.{Linked}
use Rattle.jc_names.specs.declared.name.ClassName.{ClassName}
use Rattle.jc_types.specs.State.{StateWithRoom, Types, height_of_types, types_below}
use Rattle.jc_verify.specs.PrivateFlow.{AreRaised, HasLaws, Places, below_in, height_in, most_height, types_held}
use Rattle.jc_verify.specs.PrivateGathered.{IsPut}
use Rattle.jc_verify.specs.PrivatePlaces.{IsRaised, IsStep}
use Rattle.jc_verify.specs.PrivateSettled.{settled_place}
use Rattle.jc_verify.specs.PrivateStated.{AreStateRows, RowIf}
use Rattle.jc_verify.specs.PrivateTurns.{AreCounted, IsCounted, IsCountedIn, in_all, least_of, most_of}
use Rattle.jc_verify.specs.PrivateTurns.{once_if, owed_of, still_of}
use Rattle.jc_verify.specs.Visits.{HasBoundedCount, IsDepth, most_changes, most_in_row, states_in_row}
use Rattle.jc_verify.specs.declared.package.Inferred.{Inferred}
use Rattle.jc_verify.specs.declared.place.Place.{Place}
use Rattle.jc_verify.proofs.Arriving.{below_lengths}
use Rattle.jc_verify.proofs.Stepping.{tails}

once_at_most : (b : Bool) → once_if b ≤ 1
once_at_most true = omega arith
once_at_most false = omega arith

once_is : (b : Bool) → b ≡ true → once_if b ≡ 1
once_is b is = rw is refl

-- a lattice of classes within the depth of its world
pub to_depth : (world : List Shape) (depth : ℕ) → IsDepth world depth
    → IsClassLattice (is_class_below world) (common_class world) (classes_above world) most_classes
    → IsClassLattice (is_class_below world) (common_class world) (classes_above world) depth
to_depth world depth deep lattice = record {
  order = lattice.order;
  object = lattice.object;
  first = lattice.first;
  second = lattice.second;
  least = lattice.least;
  falls = lattice.falls;
  bounded = deep;
}

pub not_true : (b : Bool) → (b ≡ true → ⊥) → b ≡ false
not_true true h = absurd (h refl)
not_true false h = refl

-- one place in place of another
set_all : (of : Place StateWithRoom → ℕ) (p q : Place StateWithRoom) (ps : Places) (n : ℕ) → slice_get ps n ≡ Some p
    → in_all of (slice_set ps n q) + of p ≡ in_all of ps + of q
set_all of p q [] n e = absurd (none-some p e)
set_all of p q (x ∷ ps) zero e = let same = ap of (same_Some x p e) in omega (arith, same)
set_all of p q (x ∷ ps) (suc n) e = let rest = set_all of p q ps n e in omega (arith, rest)

module _ (l : Linked) where
  pub counted_none : (places : Places) (count : ℕ) → IsCounted l 0 places places count count
  counted_none places count = record { most = λ depth deep. omega arith; exact = λ lt. lt; least = λ lt. omega arith }

  pub counted_through : (e d : ℕ) (a b c : Places) (i j k : ℕ) → IsCounted l e a b i j → IsCounted l d b c j k
      → IsCounted l (e + d) a c i k
  counted_through e d a b c i j k g h = record {
    most = λ depth deep. let x = g.most depth deep in let y = h.most depth deep in omega (arith, x, y);
    exact = λ lt. g.exact (h.exact lt);
    least = λ lt. let x = g.least (h.exact lt) in let y = h.least lt in omega (arith, x, y);
  }

  -- ---- places that are raised

  module _ (laws : HasLaws l) (m : CheckedMethod) where
    abbrev IsRise : Place StateWithRoom → Place StateWithRoom → Type 0
    IsRise p q = IsRaised (below_in l.world) (height_in l.world) (most_height m) p q

    abbrev IsStepOn : Place StateWithRoom → Place StateWithRoom → Type 0
    IsStepOn p q = IsStep (below_in l.world) (height_in l.world) (most_height m) p q

    -- what never grows beside something else with any step
    all_steps : (f g : Place StateWithRoom → ℕ) → ((p q : Place StateWithRoom) → IsRise p q → f q + g p ≤ f p + g q)
        → (a b : Places) → AreRaised l m a b → in_all f b + in_all g a ≤ in_all f a + in_all g b
    all_steps f g rise [] [] h = omega arith
    all_steps f g rise (p ∷ ps) (q ∷ qs) h =
        let one = by (h.each 0 p q refl refl) in
        let behind = tails (below_in l.world) (height_in l.world) (most_height m) p q ps qs h in
        let rest = all_steps f g rise ps qs behind in
        omega (arith, one, rest)
      where
        by : IsStepOn p q → f q + g p ≤ f p + g q
        by (inl same) = rw same (omega arith)
        by (inr raised) = rise p q raised
    all_steps f g rise t u h = absurd (omega (arith, h.len))

    -- by what a place held, and what it holds
    owed_more : (p q : Place StateWithRoom) (o u : Option StateWithRoom) → p.held ≡ o → q.held ≡ u → IsRise p q
        → least_of q + owed_of p ≤ least_of p + owed_of q
    owed_more p q None None e f r = absurd (omega (arith, rw (e, f) at r.less))
    owed_more p q None (Some t) e f r = rw (e, f) (let k = once_is q.changed r.changed in omega (arith, k))
    owed_more p q (Some s) None e f r = absurd (none-some (r.above s e).value (sym f ∙ (r.above s e).held))
    owed_more p q (Some s) (Some t) e f r =
        rw (e, f) (let k = once_is q.changed r.changed in let o = once_at_most p.changed in omega (arith, k, o))

    module _ (depth : ℕ) (deep : IsDepth l.world depth) where
      words : (s t : StateWithRoom) → length s.types.locals ≡ length t.types.locals
          → length s.types.operands ≡ length t.types.operands
          → length s.types.locals + length s.types.operands ≡ length t.types.locals + length t.types.operands
      words s t locals operands = omega (arith, locals, operands)

      still_less : (p q : Place StateWithRoom) (o u : Option StateWithRoom) → p.held ≡ o → q.held ≡ u → IsRise p q
          → still_of l.world depth q + most_of depth p ≤ still_of l.world depth p + most_of depth q
      still_less p q None None e f r = absurd (omega (arith, rw (e, f) at r.less))
      still_less p q None (Some t) e f r =
          rw (e, f) (let b = laws.within depth deep t.types in let o = once_at_most q.changed in omega (arith, b, o))
      still_less p q (Some s) None e f r = absurd (none-some (r.above s e).value (sym f ∙ (r.above s e).held))
      still_less p q (Some s) (Some t) e f r =
          let h = r.above s e in
          let same : t ≡ h.value = same_Some t h.value (sym f ∙ h.held) in
          let order = types_below (is_class_below l.world) in
          let below = subst (λ (x : StateWithRoom). order s.types x.types ≡ true) (sym same) h.above in
          let lengths = below_lengths (is_class_below l.world) s.types t.types below in
          let rooms = ap (λ k. k * (3 + depth)) (words s t lengths.0 lengths.1) in
          let less : height_in l.world t < height_in l.world s = rw (e, f) at r.less in
          let other : s.types ≡ t.types → ⊥ = λ is.
          let k = ap (λ (x : Types). height_in l.world (record { types = x; room = 0 })) is in omega (arith, less, k) in
          let falls = laws.falls depth deep s.types t.types below other in
          let o = once_at_most q.changed in
          rw (e, f) (omega (arith, rooms, falls, o))

    pub grown_counted : (entries : ℕ) (a b : Places) (count : ℕ) → AreRaised l m a b
        → IsCounted l entries a b count count
    grown_counted entries a b count g = record {
      most = λ depth deep.
          let k = all_steps (still_of l.world depth) (most_of depth)
          (λ p q r. still_less depth deep p q p.held q.held refl refl r) a b g in
          omega (arith, k);
      exact = λ lt. lt;
      least = λ lt.
          let k = all_steps least_of owed_of (λ p q r. owed_more p q p.held q.held refl refl r) a b g in
          omega (arith, k);
    }

    -- once more from the entry
    pub once_counted : (a b : Places) (count counted : ℕ) → AreRaised l m a b → counted ≡ u64_saturate (count + 1)
        → IsCounted l 1 a b count counted
    once_counted a b count counted g is = let h = grown_counted 0 a b count g in record {
      most = λ depth deep. let k = h.most depth deep in omega (arith, k, is);
      exact = λ lt. omega (arith, lt, is);
      least = λ lt. let k = h.least (omega (arith, lt, is)) in omega (arith, k, is, lt);
    }

  -- ---- a place that is taken up

  module _ (p : Place StateWithRoom) where
    -- what it may still be, and what is owed, falls by one, and the rest is the same
    record IsOnceLess (depth : ℕ) : Type 0 where
      still : still_of l.world depth p ≡ still_of l.world depth (settled_place p) + 1
      most : most_of depth (settled_place p) ≡ most_of depth p
      owed : owed_of p ≡ owed_of (settled_place p) + 1
      least : least_of (settled_place p) ≡ least_of p

    once_less : (depth : ℕ) (t : Types) → p.changed ≡ true → types_held p ≡ Some t → IsOnceLess depth
    once_less depth t changed held = by p.held refl
      where
        by : (o : Option StateWithRoom) → p.held ≡ o → IsOnceLess depth
        by None e = absurd (none-some t (rw e at held))
        by (Some s) e = record {
          still = rw (e, changed) (omega arith);
          most = rw e refl;
          owed = rw (e, changed) (omega arith);
          least = rw e refl;
        }

    -- from a place that has changed control flow is followed, once more
    pub followed_counted : (laws : HasLaws l) (m : CheckedMethod) (ps : Places) (n : ℕ) (q : Place StateWithRoom) (t : Types)
        → slice_get ps n ≡ Some p → p.changed ≡ true → q ≡ settled_place p → types_held p ≡ Some t → (after : Places)
        (count counted : ℕ) → AreRaised l m (slice_set ps n q) after → counted ≡ u64_saturate (count + 1)
        → IsCounted l 0 ps after count counted
    followed_counted laws m ps n q t at changed taken held after count counted g is =
        let raised = subst (λ (x : Place StateWithRoom). AreRaised l m (slice_set ps n x) after) taken g in
        let h = grown_counted laws m 0 (slice_set ps n (settled_place p)) after count raised in
        record {
          most = λ depth deep.
              let k = h.most depth deep in
              let less = once_less depth t changed held in
              let still = set_all (still_of l.world depth) p (settled_place p) ps n at in
              let most = set_all (most_of depth) p (settled_place p) ps n at in
              omega (arith, k, is, less.still, less.most, still, most);
          exact = λ lt. omega (arith, lt, is);
          least = λ lt.
              let k = h.least (omega (arith, lt, is)) in
              let less = once_less 0 t changed held in
              let owed = set_all owed_of p (settled_place p) ps n at in
              let least = set_all least_of p (settled_place p) ps n at in
              omega (arith, k, is, lt, less.owed, less.least, owed, least);
        }

    -- one that hasn't, or that holds nothing, isn't followed
    record IsNoLess (q : Place StateWithRoom) (depth : ℕ) : Type 0 where
      still : still_of l.world depth q ≡ still_of l.world depth p
      most : most_of depth q ≡ most_of depth p
      owed : owed_of q ≡ owed_of p
      least : least_of q ≡ least_of p

    no_less : (q : Place StateWithRoom) (depth : ℕ)
        → (q ≡ p × (p.changed ≡ false)) ⊎ (q ≡ settled_place p × (types_held p ≡ None)) → IsNoLess q depth
    no_less q depth (inl (same, unchanged)) = rw same (record { still = refl; most = refl; owed = refl; least = refl })
    no_less q depth (inr (same, none)) = rw same (by p.held refl)
      where
        by : (o : Option StateWithRoom) → p.held ≡ o → IsNoLess (settled_place p) depth
        by None e = record { still = rw e refl; most = rw e refl; owed = rw e refl; least = rw e refl }
        by (Some s) e = absurd (none-some s.types (sym (rw e at none)))

    pub none_counted : (ps : Places) (n : ℕ) (q : Place StateWithRoom) → slice_get ps n ≡ Some p
        → (q ≡ p × (p.changed ≡ false)) ⊎ (q ≡ settled_place p × (types_held p ≡ None)) → (count : ℕ)
        → IsCounted l 0 ps (slice_set ps n q) count count
    none_counted ps n q at left count = record {
      most = λ depth deep.
          let same = no_less q depth left in
          let still = set_all (still_of l.world depth) p q ps n at in
          let most = set_all (most_of depth) p q ps n at in
          omega (arith, same.still, same.most, still, most);
      exact = λ lt. lt;
      least = λ lt.
          let same = no_less q 0 left in
          let owed = set_all owed_of p q ps n at in
          let least = set_all least_of p q ps n at in
          omega (arith, same.owed, same.least, owed, least);
    }

  -- ---- places that held nothing before

  empty_all : (f : Bool → StateWithRoom → ℕ) (places : Places)
      → ((n : ℕ) (p : Place StateWithRoom) → slice_get places n ≡ Some p → p.held ≡ None)
      → in_all (λ p. option_map_or (f p.changed) p.held 0) places ≡ 0
  empty_all f [] empty = refl
  empty_all f (p ∷ places) empty =
      let none = ap (λ (o : Option StateWithRoom). option_map_or (f p.changed) o 0) (empty 0 p refl) in
      let rest = empty_all f places (λ n q e. empty (suc n) q e) in
      omega (arith, none, rest)

  -- nothing is owed where no place has changed
  pub none_owed : (places : Places)
      → ((n : ℕ) (p : Place StateWithRoom) → slice_get places n ≡ Some p → p.changed ≡ false)
      → in_all owed_of places ≡ 0
  none_owed [] none = refl
  none_owed (p ∷ places) none =
      let one = by p.changed (none 0 p refl) p.held in
      let rest = none_owed places (λ n q e. none (suc n) q e) in
      omega (arith, one, rest)
    where
      by : (b : Bool) → b ≡ false → (o : Option StateWithRoom)
          → option_map_or (λ (s : StateWithRoom). once_if b) o 0 ≡ 0
      by b e None = refl
      by b e (Some s) = rw e refl

  -- rows of what is held have a place each, and allow as many changes
  module _ (class_of : SpelledClass → Option ClassName) (of : Place StateWithRoom → ℕ) (row_of : Stated → ℕ)
      (none : (p : Place StateWithRoom) → p.held ≡ None → of p ≡ 0)
      (some : (p : Place StateWithRoom) (s : StateWithRoom) (c : Stated) → p.held ≡ Some s
      → length c.locals + length c.operands ≡ length s.types.locals + length s.types.operands → of p ≡ row_of c) where
    stated_all : (places : Places) (cs : List Stated) → AreStateRows class_of places cs
        → in_all of places ≡ sum_by row_of cs
    stated_all [] cs h = ap (sum_by row_of) (sym h)
    stated_all (p ∷ places) cs h = by p.held refl h (λ ds k. stated_all places ds k)
      where
        by : (o : Option StateWithRoom) → p.held ≡ o → RowIf class_of p.pc o (AreStateRows class_of places) cs
            → ((ds : List Stated) → AreStateRows class_of places ds → in_all of places ≡ sum_by row_of ds)
            → of p + in_all of places ≡ sum_by row_of cs
        by None e h on = let one = none p e in let rest = on cs h in omega (arith, one, rest)
        by (Some s) e h on =
            let words : length h.row.locals + length h.row.operands ≡ length s.types.locals + length s.types.operands =
            omega (arith, h.states.local_count, h.states.depth) in
            let one = some p s h.row e words in
            let rest = on h.rest h.behind in
            let sum = ap (sum_by row_of) h.are ∙ sum_by-cons row_of h.row h.rest in
            omega (arith, one, rest, sum)

  pub counted_in : (class_of : SpelledClass → Option ClassName) (before after : Places) (cs : List Stated)
      (count counted : ℕ) → ((n : ℕ) (p : Place StateWithRoom) → slice_get before n ≡ Some p → p.held ≡ None)
      → IsCounted l 1 before after count counted → in_all owed_of after ≡ 0 → AreStateRows class_of after cs
      → IsCountedIn l cs count counted
  counted_in class_of before after cs count counted empty h done are = record {
    most = λ depth deep.
        let k = h.most depth deep in
        let none = empty_all
        (λ changed s. once_if changed + height_of_types (classes_above l.world) depth s.types) before empty in
        let most = stated_all class_of (most_of depth) (most_changes depth) (λ p e. rw e refl)
        (λ p s c e words. rw e (let rooms = ap (λ j. j * (3 + depth)) words in omega (arith, rooms))) after cs are in
        omega (arith, k, none, most);
    exact = h.exact;
    least = λ lt.
        let k = h.least lt in
        let none = empty_all (λ changed s. 1) before empty in
        let least = stated_all class_of least_of (λ c. 1) (λ p e. rw e refl) (λ p s c e words. rw e refl)
        after cs are in
        let ones = sum_ones cs in
        omega (arith, k, none, least, done, ones);
  }
    where
      sum_ones : (ds : List Stated) → sum_by (λ c. 1) ds ≡ length ds
      sum_ones [] = refl
      sum_ones (d ∷ ds) =
          let rest = sum_ones ds in
          let sum = sum_by-cons (λ (c : Stated). 1) d ds in
          omega (arith, rest, sum)

  -- ---- the methods of a package, one more

  pub counted_put : (n offset : ℕ) (states : List Stated) (before after : List Row) (count counted : ℕ)
      → AreCounted l n before count → IsCountedIn l states count counted → IsPut offset states before after
      → AreCounted l (n + 1) after counted
  counted_put n offset states before after count counted h one (inl (none, same)) = record {
    most = λ depth deep.
        let k = h.most depth deep in
        let j = one.most depth deep in
        let empty = ap (sum_by (most_changes depth)) none in
        let sum = ap (sum_by (most_in_row depth)) same in
        omega (arith, k, j, empty, sum);
    least = λ lt.
        let k = h.least (one.exact lt) in
        let j = one.least lt in
        let sum = ap (sum_by states_in_row) same in
        omega (arith, k, j, sum);
  }
  counted_put n offset states before after count counted h one (inr (some, same)) = record {
    most = λ depth deep.
        let k = h.most depth deep in
        let j = one.most depth deep in
        let sum = ap (sum_by (most_in_row depth)) same
        ∙ sum_by_push (most_in_row depth) before (record { offset = offset; states = states }) in
        omega (arith, k, j, sum);
    least = λ lt.
        let k = h.least (one.exact lt) in
        let j = one.least lt in
        let sum = ap (sum_by states_in_row) same
        ∙ sum_by_push states_in_row before (record { offset = offset; states = states }) in
        omega (arith, k, j, sum);
  }

  -- in whatever order the rows are
  pub counted_permuted : (n : ℕ) (before after : List Row) (count : ℕ) → IsPermutation before after
      → AreCounted l n before count → AreCounted l n after count
  counted_permuted n before after count order h = record {
    most = λ depth deep.
        let k = h.most depth deep in
        let same = sum_by-IsPermutation (most_in_row depth) before after order in
        omega (arith, k, same);
    least = λ lt.
        let k = h.least lt in
        let same = sum_by-IsPermutation states_in_row before after order in
        omega (arith, k, same);
  }

-- ---- so few that all are counted

sums_few : {A : Type 0} (f : A → ℕ) (most : ℕ) (P : A → Type 0) → ((x : A) → P x → f x ≤ most) → (xs : List A)
    → AllByRecursion P xs → sum_by f xs ≤ length xs * most
sums_few f most P few [] h = omega (arith, zero-mul most)
sums_few f most P few (x ∷ xs) h =
    let one = few x h.0 in
    let rest = sums_few f most P few xs h.1 in
    let sum = sum_by-cons f x xs in
    let more = suc-mul (length xs) most in
    omega (arith, one, rest, sum, more)

classes_are : most_classes ≡ 17_085
unfolding most_classes
classes_are = refl

few_changes : (s : Stated) → IsStated s → most_changes most_classes s ≤ 1_124_219_521
few_changes s is =
    let words : length s.locals + length s.operands ≤ 65_790 = omega (arith, is.locals, is.depth) in
    let k = mul-le-mul_right (3 + most_classes) words in
    omega (arith, k, classes_are)

few_in_row : (r : Row) → IsRow r → most_in_row most_classes r ≤ 73_675_726_308_735
few_in_row r is =
    let k = sums_few (most_changes most_classes) 1_124_219_521 IsStated few_changes r.states is.each in
    let states : length r.states ≤ 65_535 = omega (arith, is.count) in
    let j = mul-le-mul_right 1_124_219_521 states in
    omega (arith, k, j)

pub few_followed : (l : Linked) → HasLaws l → length l.body.kept.methods < 2 ^ 16 → (rows : List Row) (count : ℕ)
    → IsCert rows → AreCounted l (length l.body.kept.methods) rows count → count < 2 ^ 64 - 1
few_followed l laws methods rows count cert counted =
    let k = sums_few (most_in_row most_classes) 73_675_726_308_735 IsRow few_in_row rows cert.each in
    let few : length rows ≤ 65_535 = omega (arith, cert.count) in
    let j = mul-le-mul_right 73_675_726_308_735 few in
    let h = counted.most most_classes laws.classes.bounded in
    omega (arith, k, j, h, methods)

pub bounded : (l : Linked) → HasLaws l → length l.body.kept.methods < 2 ^ 16 → (i : Inferred) → IsCert i.cert
    → AreCounted l (length l.body.kept.methods) i.cert i.followed → HasBoundedCount l i
bounded l laws methods i cert counted =
    record { most = counted.most; least = counted.least (few_followed l laws methods i.cert i.followed cert counted) }
