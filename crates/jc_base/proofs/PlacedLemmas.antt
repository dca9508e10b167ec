-- Rows until nothing is left.
use Rattle.std.proofs.Common.{◌≡◌, ◌↔◌, subst, drop, length-drop, ℕ, zero, suc, ◌-◌, ◌<◌, ◌≤◌, ◌+◌, Bool, true, false, eqb, cond, List, [], ◌∷◌, length, Some, None, Result, Ok, Err, refl, sym, ap, ◌∙◌, arith}
use Rattle.std.proofs.lemmas.List.{drop-drop}
use Rattle.std.proofs.lemmas.Bool.{eq-eqb, eqb-true, ne_eqb}
use Rattle.jc_base.specs.Cursor.{Read}
use Rattle.jc_base.specs.Results.{◌>>=◌}
use Rattle.jc_base.specs.declared.placed_rows.Placed.{Placed}
use Rattle.jc_base.specs.PlacedRows.{Shrinks, IsInFront, ArePlaced, placed_in, placed_rows, row_at}
use Rattle.jc_base.proofs.Binding.{the_ok, the_some, bind_ok}
use Rattle.jc_base.specs.PrivatePlacedRows.{listed, done}

pub done_ok : {A E : Type 0} (r : Result (List A) E) → Ok tt ≡ done r → Ok (listed r) ≡ r
done_ok r h1 = grind arith

module _ {A E : Type 0} (next_row : List ℕ → Result (Read A) E) (some : Shrinks next_row) where
  -- a row in front of others
  abbrev pub in_front : ℕ → Read A → Result (List (Placed A)) E → Result (List (Placed A)) E
  in_front offset first more = more >>= λ rows. Ok (record { offset = offset; row = first.value } ∷ rows)

  -- any number of steps that is enough gives the same
  enough : (total s t : ℕ) (bytes : List ℕ) → length bytes ≤ s → length bytes ≤ t → placed_in next_row total s bytes ≡ placed_in next_row total t bytes
  enough total s t [] le more = refl
  enough total zero t (b ∷ bytes) le more = absurd (omega arith)
  enough total s zero (b ∷ bytes) le more = absurd (omega arith)
  enough total (suc s) (suc t) (b ∷ bytes) le more = behind (λ n. placed_in next_row total s n) (λ n. placed_in next_row total t n) (next_row (b ∷ bytes)) (λ x is. let less = some (b ∷ bytes) x is in enough total s t x.rest (omega arith) (omega arith))
    where
      behind : (f g : List ℕ → Result (List (Placed A)) E) (r : Result (Read A) E) → ((x : Read A) → r ≡ Ok x → f x.rest ≡ g x.rest)
          → (r >>= λ first. in_front (total - length (b ∷ bytes)) first (f first.rest)) ≡ (r >>= λ first. in_front (total - length (b ∷ bytes)) first (g first.rest))
      behind f g r h1 = grind arith

  -- one row on
  pub one_on : (total : ℕ) (bytes : List ℕ) (x : Read A) → length bytes ≤ total → next_row bytes ≡ Ok x → placed_in next_row total total bytes ≡ in_front (total - length bytes) x (placed_in next_row total total x.rest)
  one_on total bytes x h1 h2 = grind (arith, placed_in, enough)

  -- no row there
  pub none_on : (total : ℕ) (bytes : List ℕ) (fault : E) → 0 < length bytes → length bytes ≤ total → next_row bytes ≡ Err fault → placed_in next_row total total bytes ≡ Err fault
  none_on total bytes fault h1 h2 h3 = grind (arith, placed_in)

  pub no_more : (total s : ℕ) (bytes : List ℕ) → length bytes ≡ 0 → placed_in next_row total s bytes ≡ Ok []
  no_more total s bytes h1 = grind arith

  done_front : (offset : ℕ) (x : Read A) (r : Result (List (Placed A)) E) → done (in_front offset x r) ≡ done r
  done_front offset x r = grind arith

  -- what is left of rows that are all there
  pub record IsLeft (total : ℕ) (bytes : List ℕ) : Type 0 where
    pub within : length bytes ≤ total
    pub all : done (placed_in next_row total total bytes) ≡ Ok tt

  -- a loop that looks at each row
  pub record Decides (total : ℕ) (left bytes : List ℕ) : Type 0 where
    pub within : length bytes ≤ total
    pub same : done (placed_in next_row total total bytes) ≡ done (placed_in next_row total total left)

  pub decides_first : (total : ℕ) (left source : List ℕ) → source ≡ left → length left ≤ total → Decides total left source
  decides_first total left source is le = rw is (record { within = le; same = refl })

  pub decides_on : (total : ℕ) (left bytes : List ℕ) (x : Read A) → Decides total left bytes → next_row bytes ≡ Ok x → Decides total left x.rest
  decides_on total left bytes x d e =
      let w = d.within in
      let less = some bytes x e in
      record {
        within = omega arith;
        same = sym (ap (λ w. done w) (one_on total bytes x d.within e) ∙ done_front _ x _) ∙ d.same;
      }

  pub decides_not : (total : ℕ) (left bytes : List ℕ) (fault : E) → Decides total left bytes → 0 < length bytes → next_row bytes ≡ Err fault → Err fault ≡ done (placed_in next_row total total left)
  decides_not total left bytes fault d more e = ap (λ w. done w) (sym (none_on total bytes fault more d.within e)) ∙ d.same

  pub decides_all : (total : ℕ) (left bytes : List ℕ) → Decides total left bytes → length bytes ≡ 0 → Ok tt ≡ done (placed_in next_row total total left)
  decides_all total left bytes d end = ap (λ w. done w) (sym (no_more total total bytes end)) ∙ d.same

  -- the first of the rows that are left, and those behind it
  pub record HasFirst (total : ℕ) (bytes : List ℕ) (x : Read A) : Type 0 where
    pub within : length x.rest ≤ total
    pub all : done (placed_in next_row total total x.rest) ≡ Ok tt
    pub rows : listed (placed_in next_row total total bytes) ≡ record { offset = total - length bytes; row = x.value } ∷ listed (placed_in next_row total total x.rest)

  pub has_first : (total : ℕ) (bytes : List ℕ) (x : Read A) → length bytes ≤ total → done (placed_in next_row total total bytes) ≡ Ok tt → next_row bytes ≡ Ok x → HasFirst total bytes x
  has_first total bytes x le all e =
      let less = some bytes x e in
      let on = one_on total bytes x le e in
      let there : done (placed_in next_row total total x.rest) ≡ Ok tt = sym (ap (λ w. done w) on ∙ done_front _ x _) ∙ all in
      record { within = omega arith; all = there; rows = ap (λ w. listed w) on ∙ front (placed_in next_row total total x.rest) there }
    where
      front : (r : Result (List (Placed A)) E) → done r ≡ Ok tt → listed (in_front (total - length bytes) x r) ≡ record { offset = total - length bytes; row = x.value } ∷ listed r
      front r h1 = grind arith

  pub is_there : (total : ℕ) (bytes : List ℕ) (fault : E) → 0 < length bytes → length bytes ≤ total → done (placed_in next_row total total bytes) ≡ Ok tt → next_row bytes ≡ Err fault → ⊥
  is_there total bytes fault h1 h2 h3 h4 = grind (arith, done, none_on)

  -- a look-up: the row isn't among those before
  pub record Seeks (total offset : ℕ) (rows : List (Placed A)) (bytes : List ℕ) : Type 0 where
    pub within : length bytes ≤ total
    pub all : done (placed_in next_row total total bytes) ≡ Ok tt
    pub same : row_at offset (listed (placed_in next_row total total bytes)) ≡ row_at offset rows

  pub seeks_first : (total offset : ℕ) (bytes source : List ℕ) (rows : List (Placed A)) → source ≡ bytes → length bytes ≤ total → done (placed_in next_row total total bytes) ≡ Ok tt
      → listed (placed_in next_row total total bytes) ≡ rows → Seeks total offset rows source
  seeks_first total offset bytes source rows is le all e = rw is (record { within = le; all = all; same = ap (λ w. row_at offset w) e })

  pub found_here : (total offset : ℕ) (rows : List (Placed A)) (bytes : List ℕ) (x : Read A) → Seeks total offset rows bytes → next_row bytes ≡ Ok x → total - length bytes ≡ offset → Some x.value ≡ row_at offset rows
  found_here total offset rows bytes x s e here =
      let t : eqb (total - length bytes) offset ≡ true = eq-eqb _ _ here in
      rw t at (sym (ap (λ w. row_at offset w) (has_first total bytes x s.within s.all e).rows) ∙ s.same)

  pub seeks_on : (total offset : ℕ) (rows : List (Placed A)) (bytes : List ℕ) (x : Read A) → Seeks total offset rows bytes → next_row bytes ≡ Ok x → (total - length bytes ≡ offset → ⊥) → Seeks total offset rows x.rest
  seeks_on total offset rows bytes x s e other =
      let h = has_first total bytes x s.within s.all e in
      let t : eqb (total - length bytes) offset ≡ false = ne_eqb _ _ other in
      record { within = h.within; all = h.all; same = rw t at (sym (ap (λ w. row_at offset w) h.rows) ∙ s.same) }

  pub seeks_there : (total offset : ℕ) (rows : List (Placed A)) (bytes : List ℕ) (fault : E) → Seeks total offset rows bytes → 0 < length bytes → next_row bytes ≡ Err fault → ⊥
  seeks_there total offset rows bytes fault s more e = is_there total bytes fault more s.within s.all e

  pub not_found : (total offset : ℕ) (rows : List (Placed A)) (bytes : List ℕ) → Seeks total offset rows bytes → length bytes ≡ 0 → None ≡ row_at offset rows
  not_found total offset rows bytes s end = ap (λ w. row_at offset (listed w)) (sym (no_more total total bytes end)) ∙ s.same

  -- what is read is placed
  placed : (total s : ℕ) (bytes : List ℕ) (rows : List (Placed A)) → length bytes ≤ s → length bytes ≤ total → placed_in next_row total s bytes ≡ Ok rows → ArePlaced next_row total bytes rows
  placed total s [] rows le within e = let P : List (Placed A) → Type 0 = λ w. ArePlaced next_row total [] w in subst P (the_ok _ _ e) refl
  placed total zero (b ∷ bytes) rows le within e = absurd (omega arith)
  placed total (suc s) (b ∷ bytes) rows le within e =
      let x = bind_ok (next_row (b ∷ bytes)) _ rows e in
      let y = bind_ok (placed_in next_row total s x.0.rest) _ rows x.2 in
      let less = some (b ∷ bytes) x.0 x.1 in
      let more = placed total s x.0.rest y.0 (omega arith) (omega arith) y.1 in
      let P : List (Placed A) → Type 0 = λ w. ArePlaced next_row total (b ∷ bytes) w in
      subst P (the_ok _ _ y.2) (x.0.rest, omega arith, x.1, more)

  -- what is placed is read
  read_again : (total s : ℕ) (bytes : List ℕ) (rows : List (Placed A)) → length bytes ≤ s → ArePlaced next_row total bytes rows → placed_in next_row total s bytes ≡ Ok rows
  read_again total s bytes [] le is = no_more total s bytes (ap length is)
  read_again total s [] (p ∷ rows) le is = let less = some [] _ is.2 in absurd (omega arith)
  read_again total zero (b ∷ bytes) (p ∷ rows) le is = absurd (omega arith)
  read_again total (suc s) (b ∷ bytes) (p ∷ rows) le is =
      let less = some (b ∷ bytes) _ is.2 in
      let at = is.1 in
      let offset : total - length (b ∷ bytes) ≡ p.offset = omega arith in
      rw (is.2, read_again total s is.0 rows (omega arith) is.3) (ap (λ n. Ok (record { offset = n; row = p.row } ∷ rows)) offset)

  pub read_placed : (first : ℕ) (bytes : List ℕ) (rows : List (Placed A)) → (placed_rows next_row first bytes ≡ Ok rows) ↔ ArePlaced next_row (length bytes) (drop first bytes) rows
  unfolding placed_rows
  read_placed first bytes rows = grind (arith, drop, length-drop, placed, read_again)

  -- where a row is known to begin, it is read
  pub record IsKnown (total : ℕ) (bytes : List ℕ) (offset : ℕ) (row : A) : Type 0 where
    pub behind : total - length bytes ≤ offset
    pub rest : List ℕ
    pub read : next_row (drop (offset - (total - length bytes)) bytes) ≡ Ok (record { value = row; rest = rest })

  pub known : (front : IsInFront next_row) (total offset : ℕ) (row : A) (bytes : List ℕ) (rows : List (Placed A)) → ArePlaced next_row total bytes rows
      → row_at offset rows ≡ Some row → IsKnown total bytes offset row
  known front total offset row bytes [] is at = absurd cc
  known front total offset row bytes (p ∷ rows) is at = by_place (eqb p.offset offset) (eqb-true p.offset offset) (λ there. known front total offset row is.0 rows is.3 there) at
    where
      by_place : (b : Bool) → (b ≡ true → p.offset ≡ offset) → (row_at offset rows ≡ Some row → IsKnown total is.0 offset row) → cond b (Some p.row) (row_at offset rows) ≡ Some row
          → IsKnown total bytes offset row
      by_place true same more there =
          let here = same refl in
          let place = is.1 in
          let none : offset - (total - length bytes) ≡ 0 = omega arith in
          let first : p.row ≡ row = the_some p.row row there in
          record { behind = omega arith; rest = is.0; read = ap (λ n. next_row (drop n bytes)) none ∙ is.2 ∙ ap (λ r. Ok (record { value = r; rest = is.0 })) first }
      by_place false same more there =
          let k = more there in
          let place = is.1 in
          let less = some bytes _ is.2 in
          let low = k.behind in
          let sum : (length bytes - length is.0) + (offset - (total - length is.0)) ≡ offset - (total - length bytes) = omega arith in
          record {
            behind = omega arith;
            rest = k.rest;
            read =
                ap (λ n. next_row (drop n bytes)) (sym sum)
                ∙ ap (λ b. next_row b) (sym (drop-drop (offset - (total - length is.0)) (length bytes - length is.0) bytes))
                ∙ ap (λ b. next_row (drop (offset - (total - length is.0)) b)) (sym (front bytes _ is.2)) ∙ k.read;
          }

  pub known_left : (front : IsInFront next_row) (total offset : ℕ) (row : A) (bytes : List ℕ) (rows : List (Placed A)) → length bytes ≤ total
      → done (placed_in next_row total total bytes) ≡ Ok tt → listed (placed_in next_row total total bytes) ≡ rows → row_at offset rows ≡ Some row → IsKnown total bytes offset row
  known_left front total offset row bytes rows le all is at =
      known front total offset row bytes (listed (placed_in next_row total total bytes))
      (placed total total bytes (listed (placed_in next_row total total bytes)) le le (sym (done_ok (placed_in next_row total total bytes) (sym all)))) (ap (row_at offset) is ∙ at)

pub done_err : {A E : Type 0} (r : Result (List A) E) (fault : E) → Err fault ≡ done r → Err fault ≡ r
done_err r fault h1 = grind arith
