-- Rows that carry a package's methods are a certificate that carries the package, in whatever order.
use Rattle.std.proofs.Common.{◌≡◌, ◌⊎◌, inl, inr, ℕ, zero, suc, ◌==◌, ◌||◌, not, Bool, true, false, cond, List, [], ◌∷◌, length, Option, Some, None, slice_get, refl, sym, ap, subst, ◌∙◌, arith}
use Rattle.std.specs.Prelude.{Contains}
use Rattle.std.specs.List.{find, list_any}
use Rattle.std.specs.List.Sorted.{IsPermutation}
use Rattle.std.specs.Option.{option_map, option_map_or}
use Rattle.std.proofs.lemmas.Bool.{eq-eqb, eqb-true}
use Rattle.std.proofs.lemmas.List.Sorted.{Contains-permutation, IsPermutation-sym}
use Rattle.std.proofs.lemmas.Option.{none-some, same_Some, slice_get-get_or, slice_get_within}
use Rattle.jc_cap_desc.specs.Shape.{MethodBody, StandApart}
use Rattle.jc_cert.specs.Cert.{Row}
use Rattle.jc_link.specs.Linked.{Linked}
use Rattle.jc_check.specs.Checked.{CarriesPackage, has_code_at, stated_for, stray_offset}
use Rattle.jc_check.specs.Package.{method_of}
use Rattle.jc_verify.specs.PrivateGathered.{AreGathered, HasRow, IsInferred, IsRowOf, Stands}
use Rattle.jc_verify.specs.Inferred.{HasLeastStates, HasStatesWhereEntered}
use Rattle.jc_verify.proofs.Passing.{contains_at}

-- ---- what is found

record IsFoundAt {A : Type 0} (test : A → Bool) (xs : List A) (x : A) : Type 0 where
  place : ℕ
  is : slice_get xs place ≡ Some x
  holds : test x ≡ true

found_at : {A : Type 0} (test : A → Bool) (xs : List A) (x : A) → find test xs ≡ Some x → IsFoundAt test xs x
found_at test [] x e = absurd (none-some x e)
found_at test (y ∷ xs) x e = by_test (test y) refl (λ k. found_at test xs x k) e
  where
    by_test : (b : Bool) → test y ≡ b → (find test xs ≡ Some x → IsFoundAt test xs x) → cond b (Some y) (find test xs) ≡ Some x → IsFoundAt test (y ∷ xs) x
    by_test true t later k = record { place = 0; is = k; holds = subst (λ z. test z ≡ true) (same_Some y x k) t }
    by_test false t later k = let h = later k in record { place = suc h.place; is = h.is; holds = h.holds }

found_none : {A : Type 0} (test : A → Bool) (xs : List A) → find test xs ≡ None → (k : ℕ) (x : A) → slice_get xs k ≡ Some x → test x ≡ true → ⊥
found_none test [] e k x at h = none-some x at
found_none test (y ∷ xs) e k x at h = by_test (test y) refl (λ n f i. found_none test xs n f x i h) e k at
  where
    by_test : (b : Bool) → test y ≡ b → (find test xs ≡ None → (j : ℕ) → slice_get xs j ≡ Some x → ⊥) → cond b (Some y) (find test xs) ≡ None → (k : ℕ) → slice_get (y ∷ xs) k ≡ Some x → ⊥
    by_test b h1 h2 h3 k h4 = grind (arith, none-some, same_Some)

any_at : {A : Type 0} (test : A → Bool) (xs : List A) (k : ℕ) (x : A) → slice_get xs k ≡ Some x → test x ≡ true → list_any test xs ≡ true
any_at test [] k x at h = absurd (none-some x at)
any_at test (y ∷ xs) zero x at h = ap (λ b. b || list_any test xs) (ap test (same_Some y x at) ∙ h)
any_at test (y ∷ xs) (suc k) x at h = ap (λ b. test y || b) (any_at test xs k x at h) ∙ or_true (test y)
  where
    or_true : (b : Bool) → b || true ≡ true
    or_true b = grind arith

-- what stands in one list stands in the other one in another order
pub moved : {A : Type 0} (xs ys : List A) → IsPermutation xs ys → (k : ℕ) (x : A) → slice_get xs k ≡ Some x → (j : ℕ) × (slice_get ys j ≡ Some x)
moved xs ys p k x at =
    let c : Contains ys x = Contains-permutation xs ys x p (contains_at xs k x at) in
    (c.0, slice_get-get_or ys c.0 x c.1 ∙ ap Some c.2)

-- ---- the package is carried

module _ (l : Linked) (apart : StandApart l.body.kept.methods) (of seen_rows : List Row) (p : IsPermutation of seen_rows) (gathered : AreGathered l (length l.body.kept.methods) of) where
  methods : List MethodBody
  methods = l.body.kept.methods

  come : (k : ℕ) (r : Row) → slice_get seen_rows k ≡ Some r → IsRowOf l (length l.body.kept.methods) r
  come k r at = let j = moved seen_rows of (IsPermutation-sym of seen_rows p) k r at in gathered.come j.0 r j.1

  no_stray : stray_offset l.body.kept.methods seen_rows ≡ None
  no_stray = by_found (find (λ (r : Row). not (has_code_at l.body.kept.methods r.offset)) seen_rows) refl
    where
      by_found : (o : Option Row) → find (λ (r : Row). not (has_code_at l.body.kept.methods r.offset)) seen_rows ≡ o → option_map (λ (r : Row). r.offset) o ≡ None
      by_found None e = refl
      by_found (Some r) e =
          let f = found_at (λ (r : Row). not (has_code_at l.body.kept.methods r.offset)) seen_rows r e in
          let row = come f.place r f.is in
          let any : has_code_at l.body.kept.methods r.offset ≡ true = any_at (λ b. r.offset == b.offset) l.body.kept.methods row.place row.method row.stands.is (eq-eqb r.offset row.method.offset row.offset) in
          let u : false ≡ true = ap not (sym any) ∙ f.holds in
          absurd cc

  each : (n : ℕ) (b : MethodBody) → slice_get l.body.kept.methods n ≡ Some b → IsInferred l (method_of l b) (stated_for seen_rows b.offset)
  each n b at = by_found (find (λ (r : Row). r.offset == b.offset) seen_rows) refl
    where
      stands : Stands l (length l.body.kept.methods) n b
      stands = record { first = slice_get_within l.body.kept.methods n b at; is = at }

      of_row : find (λ (r : Row). r.offset == b.offset) seen_rows ≡ None → IsInferred l (method_of l b) [] ⊎ HasRow of b.offset → IsInferred l (method_of l b) []
      of_row e (inl h) = h
      of_row e (inr h) =
          let j = moved of seen_rows p h.place h.row h.is in
          absurd (found_none (λ (r : Row). r.offset == b.offset) seen_rows e j.0 h.row j.1 (eq-eqb h.row.offset b.offset h.for))

      by_found : (o : Option Row) → find (λ (r : Row). r.offset == b.offset) seen_rows ≡ o → IsInferred l (method_of l b) (option_map_or (λ (r : Row). r.states) o [])
      by_found None e = of_row e (gathered.each n b stands)
      by_found (Some r) e =
          let f = found_at (λ (r : Row). r.offset == b.offset) seen_rows r e in
          let row = come f.place r f.is in
          let place = apart.differ row.place n row.method b row.stands.is at (sym row.offset ∙ eqb-true r.offset b.offset f.holds) in
          let same : row.method ≡ b = same_Some row.method b (sym row.stands.is ∙ ap (slice_get l.body.kept.methods) place ∙ at) in
          subst (λ x. IsInferred l (method_of l x) r.states) same row.inferred

  pub certified : CarriesPackage l seen_rows
  certified = record { no_stray = no_stray; methods = λ n b at. (each n b at).carried }

  pub where_entered : HasStatesWhereEntered l seen_rows
  where_entered = record { each = λ n b at. (each n b at).entered }

  pub least_states : HasLeastStates l seen_rows
  least_states = record { each = λ n b at. (each n b at).least }
