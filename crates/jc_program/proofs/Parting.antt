-- Rows that stand for parts of an array.
use Rattle.std.proofs.Common.{◌≡◌, ℕ, zero, suc, ◌+◌, ◌-◌, ◌≤◌, List, [], ◌∷◌, ◌++◌, length, take, drop, map, Some}
use Rattle.std.proofs.Common.{slice_get, refl, ap, ◌∙◌, arith}
use Rattle.std.proofs.lemmas.List.{drop-take, take-map, take-take}
use Rattle.jc_program.specs.PrivateLaid.{part}
use Rattle.jc_program.proofs.Laying.{part_before, part_behind}

pub take_get_at : {A : Type 0} (len : ℕ) (xs : List A) (n : ℕ) (x : A) → slice_get (take len xs) n ≡ Some x
    → slice_get xs n ≡ Some x
take_get_at zero xs n x at = absurd cc
take_get_at (suc len) [] n x at = absurd cc
take_get_at (suc len) (y ∷ xs) zero x at = at
take_get_at (suc len) (y ∷ xs) (suc n) x at = take_get_at len xs n x at

-- a part of the first items is that part of all
pub part_first : {A : Type 0} (items : List A) (start len end : ℕ) → start + len ≤ end
    → part (take end items) start len ≡ part items start len
part_first items start len end fits =
    let all : end ≡ start + (end - start) = omega (arith, fits) in
    ap (λ k. take len (drop start (take k items))) all
    ∙ ap (take len) (drop-take start (end - start) items)
    ∙ take-take len (end - start) (drop start items) (omega (arith, fits))

-- rows tell where their parts begin, how many items these have, and what is made of them
module _ {R A B : Type 0} (start len : R → ℕ) (make : R → List A → B) where
  abbrev pub parts_in : List A → List R → List B
  parts_in items rows = map (λ r. make r (part items (start r) (len r))) rows

  abbrev pub LieIn : ℕ → List R → Type 0
  LieIn count rows = (n : ℕ) (r : R) → slice_get rows n ≡ Some r → start r + len r ≤ count

  -- one more
  pub parts_more : (items more : List A) (rows : List R) (r : R) → LieIn (length items) rows
      → start r ≡ length items → len r ≡ length more
      → parts_in (items ++ more) (rows ++ r ∷ []) ≡ parts_in items rows ++ make r more ∷ []
  parts_more items more [] r within begins count =
      ap (λ k. make r (part (items ++ more) k (len r)) ∷ []) begins
      ∙ ap (λ k. make r (part (items ++ more) (length items) k) ∷ []) count
      ∙ ap (λ k. make r k ∷ []) (part_behind items more)
  parts_more items more (x ∷ rows) r within begins count =
      ap (λ k. make x k ∷ parts_in (items ++ more) (rows ++ r ∷ []))
      (part_before items more (start x) (len x) (within zero x refl))
      ∙ ap (λ ks. make x (part items (start x) (len x)) ∷ ks)
      (parts_more items more rows r (λ n. within (suc n)) begins count)

  -- the same of the first items, if the parts lie within these
  pub parts_within : (items : List A) (end : ℕ) (rows : List R) → LieIn end rows
      → parts_in (take end items) rows ≡ parts_in items rows
  parts_within items end [] within = refl
  parts_within items end (x ∷ rows) within =
      ap (λ k. make x k ∷ parts_in (take end items) rows)
      (part_first items (start x) (len x) end (within zero x refl))
      ∙ ap (λ ks. make x (part items (start x) (len x)) ∷ ks) (parts_within items end rows (λ n. within (suc n)))

  -- the first rows alone
  pub parts_kept : (items : List A) (rows : List R) (end count : ℕ) → LieIn end (take count rows)
      → parts_in (take end items) (take count rows) ≡ take count (parts_in items rows)
  parts_kept items rows end count within = grind (arith, parts_within, take-map)

  -- items that begin with others
  pub parts_begin : (old items : List A) (rows : List R) → LieIn (length old) rows → take (length old) items ≡ old
      → parts_in items rows ≡ parts_in old rows
  parts_begin old items rows within begins = grind (arith, parts_within)
