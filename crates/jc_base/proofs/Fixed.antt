-- Rows that all take so many bytes, found in one step.
use Rattle.std.proofs.Common.{◌≡◌, ℕ, zero, suc, ◌+◌, ◌-◌, ◌*◌, ◌<◌, ◌≤◌, ltb, false, List, [], ◌∷◌, ◌++◌, length, take, drop, Some, None, Result, Ok, refl, sym, ap, ◌∙◌, arith}
use Rattle.std.specs.List.{slice_get}
use Rattle.std.proofs.lemmas.List.{take_at, drop_at}
use Rattle.std.proofs.lemmas.Bool.{lt-ltb, le-ltb}
use Rattle.std.specs.Result.{result_ok}
use Rattle.std.proofs.Math.Seq.{drop-nil}
use Rattle.jc_base.specs.Cursor.{Read, Gives}
use Rattle.jc_base.specs.PrivateRows.{rows_of, rest_of}
use Rattle.jc_base.specs.Rows.{repeat, part, HasSize}
use Rattle.jc_base.proofs.Binding.{the_ok}
use Rattle.jc_base.proofs.Repeats.{parts, all_of, length-rows, look_up, joined}

pub drop_more : (m n : ℕ) (bytes : List ℕ) → drop n (drop m bytes) ≡ drop (m + n) bytes
drop_more zero n bytes = let e : 0 + n ≡ n = omega arith in rw e refl
drop_more (suc m) n [] = drop-nil n ∙ sym (drop-nil (suc m + n))
drop_more (suc m) n (b ∷ bytes) = let e : suc m + n ≡ suc (m + n) = omega arith in rw e (drop_more m n bytes)

module _ {A E : Type 0} (next_row : List ℕ → Result (Read A) E) where
  -- so many rows, and then so many more
  record Split (k m : ℕ) (bytes : List ℕ) (all : Read (List A)) : Type 0 where
    pub front : Read (List A)
    pub behind : Read (List A)
    pub here : repeat next_row k bytes ≡ Ok front
    pub there : repeat next_row m front.rest ≡ Ok behind
    pub rows : front.value ++ behind.value ≡ all.value

  split : (k m : ℕ) (bytes : List ℕ) (all : Read (List A)) → repeat next_row (k + m) bytes ≡ Ok all → Split k m bytes all
  unfolding repeat
  split zero m bytes all e =
      let z : 0 + m ≡ m = omega arith in
      record { front = record { value = []; rest = bytes }; behind = all; here = refl; there = rw z at e; rows = refl }
  split (suc k) m bytes all e =
      let z : suc k + m ≡ suc (k + m) = omega arith in
      let p = parts next_row (k + m) bytes all (rw z at e) in
      let q = split k m p.first.rest p.more p.there in
      record {
        front = record { value = p.first.value ∷ q.front.value; rest = q.front.rest };
        behind = q.behind;
        here = joined next_row k bytes p.first q.front p.here q.here;
        there = q.there;
        rows = ap (λ (w : List A). p.first.value ∷ w) q.rows ∙ p.rows;
      }

  module _ (size : ℕ) (sized : HasSize size next_row) where
    -- where rows leave off
    passed_is : (k : ℕ) (bytes : List ℕ) (front : Read (List A)) → repeat next_row k bytes ≡ Ok front → front.rest ≡ drop (size * k) bytes
    unfolding repeat
    passed_is zero bytes front e = let z : size * 0 ≡ 0 = omega arith in rw z (ap (λ (w : Read (List A)). w.rest) (sym (the_ok _ _ e)))
    passed_is (suc k) bytes front e =
        let z : size * suc k ≡ size + size * k = omega arith in
        let p = parts next_row k bytes front e in
        sym p.left ∙ passed_is k p.first.rest p.more p.there ∙ ap (λ (w : List ℕ). drop (size * k) w) (sized bytes p.first p.here).0 ∙ drop_more size (size * k) bytes ∙ ap (λ n. drop n bytes) (sym z)

    -- one of the rows, where it stands
    pub row_there : (n k : ℕ) (rows rest place new : List ℕ) (r : Result A E) → rest_of (repeat next_row n rows) ≡ Ok rest → k < n
        → place ≡ drop (size * k) rows → Gives (λ x. x) r new (next_row place) → result_ok r ≡ slice_get (rows_of (repeat next_row n rows)) k
    row_there n k rows rest place new r e lt at reads =
        let a = all_of next_row (repeat next_row n rows) rest e in
        let z : n ≡ k + (n - k) = omega arith in
        let s = split k (n - k) rows a.0 (ap (λ m. repeat next_row m rows) (sym z) ∙ a.1) in
        let here : Ok place ≡ rest_of (repeat next_row k rows) = ap (λ (w : List ℕ). Ok w) (at ∙ sym (passed_is k rows s.front s.here)) ∙ ap (λ w. rest_of w) (sym s.here) in
        look_up next_row n k rows rows rest place new r refl e lt here reads

    -- some of the rows, where they stand
    pub record IsPart (first count n : ℕ) (bytes : List ℕ) : Type 0 where
      pub rest : List ℕ
      pub all : rest_of (repeat next_row count (drop (size * first) bytes)) ≡ Ok rest
      pub rows : Some (rows_of (repeat next_row count (drop (size * first) bytes))) ≡ part first count (rows_of (repeat next_row n bytes))

    pub part_there : (first count n : ℕ) (rows rest : List ℕ) → rest_of (repeat next_row n rows) ≡ Ok rest → first + count ≤ n → IsPart first count n rows
    part_there first count n rows rest e le =
        let a = all_of next_row (repeat next_row n rows) rest e in
        let z : n ≡ first + (count + (n - first - count)) = omega arith in
        let s = split first (count + (n - first - count)) rows a.0 (ap (λ m. repeat next_row m rows) (sym z) ∙ a.1) in
        let t = split count (n - first - count) s.front.rest s.behind s.there in
        let at : repeat next_row count (drop (size * first) rows) ≡ Ok t.front = ap (λ (w : List ℕ). repeat next_row count w) (sym (passed_is first rows s.front s.here)) ∙ t.here in
        let len : length s.front.value ≡ first = length-rows next_row first rows s.front s.here in
        let counted : length t.front.value ≡ count = length-rows next_row count s.front.rest t.front t.here in
        let all : length a.0.value ≡ n = length-rows next_row n rows a.0 a.1 in
        let behind : drop first a.0.value ≡ t.front.value ++ t.behind.value = ap (λ (w : List A). drop first w) (sym s.rows) ∙ drop_at s.front.value s.behind.value first len ∙ sym t.rows in
        let some : take count (drop first a.0.value) ≡ t.front.value = ap (λ (w : List A). take count w) behind ∙ take_at t.front.value t.behind.value count counted in
        let test : ltb (length a.0.value) (first + count) ≡ false = le-ltb _ _ (omega arith) in
        record {
          rest = t.front.rest;
          all = ap (λ w. rest_of w) at;
          rows = ap (λ w. Some (rows_of w)) at ∙ ap (λ (w : List A). Some w) (sym some) ∙ within first count a.0.value test ∙ ap (λ (w : List A). part first count w) a.2;
        }
      where
        within : (first count : ℕ) (xs : List A) → ltb (length xs) (first + count) ≡ false → Some (take count (drop first xs)) ≡ part first count xs
        within first count xs test = rw test refl

  -- they run past the last
  pub part_past : (first count n : ℕ) (rows rest : List ℕ) → rest_of (repeat next_row n rows) ≡ Ok rest → n < first + count → None ≡ part first count (rows_of (repeat next_row n rows))
  part_past first count n rows rest h1 h2 = grind (arith, all_of, repeat, length-rows, ltb, lt-ltb, part)

pub times : (a b c d : ℕ) → a ≡ c → b ≡ d → a * b ≡ c * d
times a b c d e f = rw (e, f) refl
