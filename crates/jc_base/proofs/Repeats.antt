-- Rows one behind the other: passing over them, and finding one of them.
use Rattle.std.proofs.Common.{◌≡◌, ℕ, zero, suc, ◌<◌, ◌≤◌, ◌+◌, List, [], ◌∷◌, ◌++◌, length, Some, None, Result, Ok, Err, refl, sym, ap, ◌∙◌, arith}
use Rattle.std.specs.List.{slice_get}
use Rattle.std.proofs.lemmas.Option.{slice_get_past}
use Rattle.std.specs.Result.{result_ok}
use Rattle.jc_base.specs.Cursor.{Read, Gives}
use Rattle.jc_base.specs.Results.{◌>>=◌}
use Rattle.jc_base.specs.PrivateRows.{rows_of, rest_of}
use Rattle.jc_base.specs.Rows.{repeat}
use Rattle.jc_base.proofs.Binding.{bind_ok, the_ok, ok_err}

rest_bind : {A B E : Type 0} (r : Result (Read A) E) (f : Read A → Read B) → ((x : Read A) → (f x).rest ≡ x.rest) → rest_of (r >>= λ x. Ok (f x)) ≡ rest_of r
rest_bind r f h1 = grind arith

-- a value that was read, with what is behind it
abbrev pub reading : {A : Type 0} → A → List ℕ → Read A
reading v bytes = record { value = v; rest = bytes }

module _ {A E : Type 0} (next_row : List ℕ → Result (Read A) E) where
  -- one row is passed over
  pub one_passed : (n : ℕ) (bytes : List ℕ) (x : Read A) → next_row bytes ≡ Ok x → rest_of (repeat next_row (suc n) bytes) ≡ rest_of (repeat next_row n x.rest)
  unfolding repeat
  one_passed n bytes x e = rw e (rest_bind (repeat next_row n x.rest) (λ more. record { value = x.value ∷ more.value; rest = more.rest }) (λ y. refl))

  -- a row isn't there
  pub none_there : (n : ℕ) (bytes : List ℕ) (fault : E) → next_row bytes ≡ Err fault → rest_of (repeat next_row (suc n) bytes) ≡ Err fault
  unfolding repeat
  none_there n bytes fault e = rw e refl

  pub nothing_passed : (bytes : List ℕ) → rest_of (repeat next_row zero bytes) ≡ Ok bytes
  unfolding repeat
  nothing_passed bytes = refl

  -- a loop that passes over rows: so many are left, and passing over them gives what passing over all gives
  pub goes_on : (n m : ℕ) (bytes : List ℕ) (x : Read A) (total : Result (List ℕ) E) → n ≡ m + 1 → next_row bytes ≡ Ok x
      → rest_of (repeat next_row n bytes) ≡ total → rest_of (repeat next_row m x.rest) ≡ total
  goes_on zero m bytes x total e here so_far = absurd (omega arith)
  goes_on (suc n) m bytes x total e here so_far =
      let same : m ≡ n = omega arith in
      rw same (sym (one_passed n bytes x here) ∙ so_far)

  pub stops : (n : ℕ) (bytes : List ℕ) (fault : E) (total : Result (List ℕ) E) → 0 < n → next_row bytes ≡ Err fault
      → rest_of (repeat next_row n bytes) ≡ total → Err fault ≡ total
  stops zero bytes fault total more here so_far = absurd (omega arith)
  stops (suc n) bytes fault total more here so_far = sym (none_there n bytes fault here) ∙ so_far

  pub ends : (n : ℕ) (bytes : List ℕ) (total : Result (List ℕ) E) → n ≡ 0 → rest_of (repeat next_row n bytes) ≡ total → Ok bytes ≡ total
  ends n bytes total e so_far = sym (nothing_passed bytes) ∙ ap (λ k. rest_of (repeat next_row k bytes)) (sym e) ∙ so_far

  -- what rows are made of
  pub record Parts (n : ℕ) (bytes : List ℕ) (all : Read (List A)) : Type 0 where
    pub first : Read A
    pub more : Read (List A)
    pub here : next_row bytes ≡ Ok first
    pub there : repeat next_row n first.rest ≡ Ok more
    pub rows : first.value ∷ more.value ≡ all.value
    pub left : more.rest ≡ all.rest

  pub parts : (n : ℕ) (bytes : List ℕ) (all : Read (List A)) → repeat next_row (suc n) bytes ≡ Ok all → Parts n bytes all
  unfolding repeat
  parts n bytes all e =
      let a = bind_ok (next_row bytes) _ all e in
      let b = bind_ok (repeat next_row n a.0.rest) _ all a.2 in
      record { first = a.0; more = b.0; here = a.1; there = b.1; rows = ap (λ (w : Read (List A)). w.value) (the_ok _ _ b.2); left = ap (λ (w : Read (List A)). w.rest) (the_ok _ _ b.2) }

  -- one row in front of others
  pub joined : (n : ℕ) (bytes : List ℕ) (x : Read A) (more : Read (List A)) → next_row bytes ≡ Ok x → repeat next_row n x.rest ≡ Ok more
      → repeat next_row (suc n) bytes ≡ Ok (record { value = x.value ∷ more.value; rest = more.rest })
  unfolding repeat
  joined n bytes x more here there = rw (here, there) refl

  pub nothing_read : (bytes : List ℕ) → repeat next_row zero bytes ≡ Ok (reading [] bytes)
  unfolding repeat
  nothing_read bytes = refl

  -- one row behind others
  pub one_behind : (n : ℕ) (bytes : List ℕ) (front : Read (List A)) (x : Read A) → repeat next_row n bytes ≡ Ok front → next_row front.rest ≡ Ok x
      → repeat next_row (suc n) bytes ≡ Ok (reading (front.value ++ x.value ∷ []) x.rest)
  one_behind zero bytes front x e f =
      let same = the_ok _ front (sym (nothing_read bytes) ∙ e) in
      let here : next_row bytes ≡ Ok x = ap (λ (w : Read (List A)). next_row w.rest) same ∙ f in
      joined zero bytes x (reading [] x.rest) here (nothing_read x.rest) ∙ ap (λ (w : Read (List A)). Ok (reading (w.value ++ x.value ∷ []) x.rest)) same
  one_behind (suc n) bytes front x e f =
      let p = parts n bytes front e in
      let there : next_row p.more.rest ≡ Ok x = ap next_row p.left ∙ f in
      joined (suc n) bytes p.first _ p.here (one_behind n p.first.rest p.more x p.there there)
      ∙ ap (λ (w : List A). Ok (reading (w ++ x.value ∷ []) x.rest)) p.rows

  pub length-rows : (n : ℕ) (bytes : List ℕ) (all : Read (List A)) → repeat next_row n bytes ≡ Ok all → length all.value ≡ n
  unfolding repeat
  length-rows zero bytes all e = ap (λ (w : Read (List A)). length w.value) (sym (the_ok _ _ e))
  length-rows (suc n) bytes all e =
      let p = parts n bytes all e in
      let h = length-rows n p.first.rest p.more p.there in
      let k = ap length p.rows in
      omega arith

  -- one of the rows: where it stands, and what stands there
  pub record IsAt (k : ℕ) (bytes : List ℕ) (all : Read (List A)) : Type 0 where
    pub place : List ℕ
    pub passed : rest_of (repeat next_row k bytes) ≡ Ok place
    pub row : Read A
    pub here : next_row place ≡ Ok row
    pub found : slice_get all.value k ≡ Some row.value

  pub is_at : (n k : ℕ) (bytes : List ℕ) (all : Read (List A)) → repeat next_row n bytes ≡ Ok all → k < n → IsAt k bytes all
  is_at zero k bytes all e lt = absurd (omega arith)
  is_at (suc n) zero bytes all e lt =
      let p = parts n bytes all e in
      record { place = bytes; passed = nothing_passed bytes; row = p.first; here = p.here; found = ap (λ (w : List A). slice_get w 0) (sym p.rows) }
  is_at (suc n) (suc k) bytes all e lt =
      let p = parts n bytes all e in
      let q = is_at n k p.first.rest p.more p.there (omega arith) in
      record {
        place = q.place;
        passed = one_passed k bytes p.first p.here ∙ q.passed;
        row = q.row;
        here = q.here;
        found = ap (λ (w : List A). slice_get w (suc k)) (sym p.rows) ∙ q.found;
      }

  pub all_of : (r : Result (Read (List A)) E) (rest : List ℕ) → rest_of r ≡ Ok rest → (all : Read (List A)) × (r ≡ Ok all) × (all.value ≡ rows_of r)
  all_of r rest h1 = grind arith

  pub count_is : (n : ℕ) (bytes rest : List ℕ) → rest_of (repeat next_row n bytes) ≡ Ok rest → length (rows_of (repeat next_row n bytes)) ≡ n
  count_is n bytes rest h1 = grind (arith, all_of, repeat, length-rows)

  pub past_rows : (n k : ℕ) (bytes rest : List ℕ) → rest_of (repeat next_row n bytes) ≡ Ok rest → n ≤ k → None ≡ slice_get (rows_of (repeat next_row n bytes)) k
  past_rows n k bytes rest h1 h2 = grind (arith, count_is, slice_get_past, rows_of, repeat)

  -- a look-up: the rows before the one that is asked for are passed over, and it is read
  pub look_up : (n k : ℕ) (rows start rest place new : List ℕ) (r : Result A E) → start ≡ rows → rest_of (repeat next_row n rows) ≡ Ok rest → k < n
      → Ok place ≡ rest_of (repeat next_row k start) → Gives (λ x. x) r new (next_row place) → result_ok r ≡ slice_get (rows_of (repeat next_row n rows)) k
  look_up n k rows start rest place new r begins e lt passed reads =
      let a = all_of (repeat next_row n rows) rest e in
      let q = is_at n k rows a.0 a.1 lt in
      let there : Ok place ≡ rest_of (repeat next_row k rows) = passed ∙ ap (λ w. rest_of (repeat next_row k w)) begins in
      let same : q.place ≡ place = the_ok _ _ (sym q.passed ∙ sym there) in
      let here : next_row place ≡ Ok q.row = ap next_row (sym same) ∙ q.here in
      read r here reads ∙ sym q.found ∙ ap (λ (w : List A). slice_get w k) a.2
    where
      read : {row : Read A} (r : Result A E) → next_row place ≡ Ok row → Gives (λ x. x) r new (next_row place) → result_ok r ≡ Some row.value
      read r h1 h2 = grind (arith, the_ok, ok_err)

  pub not_stuck : (n k : ℕ) (rows start rest : List ℕ) (fault : E) → start ≡ rows → rest_of (repeat next_row n rows) ≡ Ok rest → k < n
      → Err fault ≡ rest_of (repeat next_row k start) → ⊥
  not_stuck n k rows start rest fault begins e lt stuck =
      let a = all_of (repeat next_row n rows) rest e in
      let q = is_at n k rows a.0 a.1 lt in
      ok_err _ _ (sym q.passed ∙ sym (stuck ∙ ap (λ w. rest_of (repeat next_row k w)) begins))

  -- the first of the rows that are left, and those behind it
  pub first_left : (n m : ℕ) (rows rest : List ℕ) (x : Read A) → n ≡ m + 1 → next_row rows ≡ Ok x
      → rest_of (repeat next_row n rows) ≡ Ok rest → rest_of (repeat next_row m x.rest) ≡ Ok rest
  first_left n m rows rest x e here whole = goes_on n m rows x (Ok rest) e here whole

  pub first_of : (n m : ℕ) (rows rest : List ℕ) (x : Read A) → n ≡ m + 1 → next_row rows ≡ Ok x
      → rest_of (repeat next_row n rows) ≡ Ok rest → rows_of (repeat next_row n rows) ≡ x.value ∷ rows_of (repeat next_row m x.rest)
  first_of zero m rows rest x e here whole = absurd (omega arith)
  first_of (suc n) m rows rest x e here whole =
      let same : m ≡ n = omega arith in
      let a = all_of (repeat next_row (suc n) rows) rest whole in
      let p = parts n rows a.0 a.1 in
      let first : p.first ≡ x = the_ok _ _ (sym p.here ∙ here) in
      let more : repeat next_row m x.rest ≡ Ok p.more = ap (λ k. repeat next_row k x.rest) same ∙ ap (λ (w : Read A). repeat next_row n w.rest) (sym first) ∙ p.there in
      sym a.2 ∙ sym p.rows ∙ ap (λ (w : Read A). w.value ∷ p.more.value) first ∙ ap (λ (w : Result (Read (List A)) E). x.value ∷ rows_of w) (sym more)

  pub none_left : (n : ℕ) (rows : List ℕ) → n ≡ 0 → rows_of (repeat next_row n rows) ≡ []
  unfolding repeat
  none_left n rows h1 = grind arith

  pub first_there : (n : ℕ) (rows rest : List ℕ) (fault : E) → 0 < n → rest_of (repeat next_row n rows) ≡ Ok rest → next_row rows ≡ Err fault → ⊥
  first_there n rows rest fault more whole missing = ok_err _ _ (sym (stops n rows fault (Ok rest) more missing whole))
