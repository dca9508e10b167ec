-- Statements, as they are taken up, apart from lines.
use Rattle.std.proofs.Common.{◌≡◌, ℕ, suc, not, Bool, true, false, cond, List, [], ◌∷◌, map, Option, Some, None, Ok, Err, refl, ap, ◌∙◌, sym, subst, slice_get, zero}
use Rattle.jc_base.specs.Results.{◌>>=◌}
use Rattle.jc_base.proofs.Binding.{the_some, the_ok, bind_ok}
use Rattle.jc_api.specs.Text.{is_skipped}
use Rattle.jc_api.specs.Statement.{statement_of}
use Rattle.jc_api.specs.Draft.{is_repeated, clashes, drafted}
use Rattle.jc_api.specs.Binding.{with_statement, with_line, with_lines}
use Rattle.jc_api.specs.Meaning.{told}
use Rattle.jc_api.specs.declared.fault.BindingFault.{BindingFault}
use Rattle.jc_api.specs.declared.fault.BindingFault.TheVariants.{Repeated, Clash}
use Rattle.jc_api.specs.declared.statement.Statement.{Statement}
use Rattle.jc_api.specs.declared.draft.Draft.{Draft}
use Rattle.jc_api.proofs.Stated.{IsStated, statement_kept}

-- a draft takes statements up, none of them repeated and none with a clash, and is another one then
pub data Takes (last : Draft) : Draft → List Statement → Type 0 where
  done : (draft : Draft) → draft ≡ last → Takes last draft []
  take : (draft : Draft) (s : Statement) (more : List Statement) → is_repeated draft s ≡ false → clashes draft s ≡ false → Takes last (drafted draft s) more → Takes last draft (s ∷ more)

-- what a line said
line_said : (n : ℕ) (draft more : Draft) (line : List ℕ) → is_skipped line ≡ false → with_line n draft line ≡ Ok more → (s : Statement) × (statement_of line ≡ Some s) × (is_repeated draft s ≡ false) × (clashes draft s ≡ false) × (drafted draft s ≡ more)
unfolding with_line
line_said n draft more line loud h = say (statement_of line) refl (ap (λ b. cond b (Ok draft) (with_statement n draft (statement_of line))) (sym loud) ∙ h)
  where
    clash : (s : Statement) → statement_of line ≡ Some s → is_repeated draft s ≡ false → (b : Bool) → clashes draft s ≡ b → cond b (Err (Clash n)) (Ok (drafted draft s)) ≡ Ok more → (s : Statement) × (statement_of line ≡ Some s) × (is_repeated draft s ≡ false) × (clashes draft s ≡ false) × (drafted draft s ≡ more)
    clash s said r true c e = absurd cc
    clash s said r false c e = (s, said, r, c, the_ok {E = BindingFault} (drafted draft s) more e)

    repeated : (s : Statement) → statement_of line ≡ Some s → (b : Bool) → is_repeated draft s ≡ b → cond b (Err (Repeated n)) (cond (clashes draft s) (Err (Clash n)) (Ok (drafted draft s))) ≡ Ok more → (s : Statement) × (statement_of line ≡ Some s) × (is_repeated draft s ≡ false) × (clashes draft s ≡ false) × (drafted draft s ≡ more)
    repeated s said true r e = absurd cc
    repeated s said false r e = clash s said r (clashes draft s) refl e

    say : (o : Option Statement) → statement_of line ≡ o → with_statement n draft o ≡ Ok more → (s : Statement) × (statement_of line ≡ Some s) × (is_repeated draft s ≡ false) × (clashes draft s ≡ false) × (drafted draft s ≡ more)
    say None said e = absurd cc
    say (Some s) said e = repeated s said (is_repeated draft s) refl e

line_skipped : (n : ℕ) (draft more : Draft) (line : List ℕ) → is_skipped line ≡ true → with_line n draft line ≡ Ok more → draft ≡ more
unfolding with_line
line_skipped n draft more line quiet h = the_ok {E = BindingFault} draft more (ap (λ b. cond b (Ok draft) (with_statement n draft (statement_of line))) (sym quiet) ∙ h)

told_quiet : (line : List ℕ) (lines : List (List ℕ)) → is_skipped line ≡ true → told (line ∷ lines) ≡ told lines
told_quiet line lines h = ap (λ b. cond (not b) (line ∷ told lines) (told lines)) h

told_loud : (line : List ℕ) (lines : List (List ℕ)) → is_skipped line ≡ false → told (line ∷ lines) ≡ line ∷ told lines
told_loud line lines h = ap (λ b. cond (not b) (line ∷ told lines) (told lines)) h

-- what lines make of a draft, their statements do
pub lines_take : (n : ℕ) (draft last : Draft) (lines : List (List ℕ)) → with_lines n draft lines ≡ Ok last → (all : List Statement) × (map statement_of (told lines) ≡ map Some all) × Takes last draft all
unfolding with_lines
lines_take n draft last [] h = ([], refl, done draft (the_ok {E = BindingFault} draft last h))
lines_take n draft last (line ∷ lines) h =
    let step = bind_ok (with_line n draft line) (λ d. with_lines (suc n) d lines) last h in
    part (is_skipped line) refl step.0 step.1 (lines_take (suc n) step.0 last lines step.2)
  where
    part : (b : Bool) → is_skipped line ≡ b → (more : Draft) → with_line n draft line ≡ Ok more → (all : List Statement) × (map statement_of (told lines) ≡ map Some all) × Takes last more all → (all : List Statement) × (map statement_of (told (line ∷ lines)) ≡ map Some all) × Takes last draft all
    part true quiet more e r = (r.0, ap (map statement_of) (told_quiet line lines quiet) ∙ r.1, subst (λ d. Takes last d r.0) (sym (line_skipped n draft more line quiet e)) r.2)
    part false loud more e r =
        let said = line_said n draft more line loud e in (
          said.0 ∷ r.0,
          ap (map statement_of) (told_loud line lines loud) ∙ ap (λ o. o ∷ map statement_of (told lines)) said.1 ∙ ap (λ os. Some said.0 ∷ os) r.1,
          take draft said.0 r.0 said.2 said.3 (subst (λ d. Takes last d r.0) (sym said.4) r.2),
        )

same_head : (a b : Option Statement) (xs ys : List (Option Statement)) → a ∷ xs ≡ b ∷ ys → a ≡ b
same_head a b xs ys h = cc

same_tail : (a b : Option Statement) (xs ys : List (Option Statement)) → a ∷ xs ≡ b ∷ ys → xs ≡ ys
same_tail a b xs ys h = cc

line_taken : (n : ℕ) (draft : Draft) (line : List ℕ) (s : Statement) → is_skipped line ≡ false → statement_of line ≡ Some s → is_repeated draft s ≡ false → clashes draft s ≡ false → with_line n draft line ≡ Ok (drafted draft s)
unfolding with_line
line_taken n draft line s loud said r c =
    ap (λ b. cond b (Ok draft) (with_statement n draft (statement_of line))) loud
    ∙ ap (with_statement n draft) said
    ∙ ap (λ b. cond b (Err (Repeated n)) (cond (clashes draft s) (Err (Clash n)) (Ok (drafted draft s)))) r
    ∙ ap (λ b. cond b (Err (Clash n)) (Ok (drafted draft s))) c

line_passed : (n : ℕ) (draft : Draft) (line : List ℕ) → is_skipped line ≡ true → with_line n draft line ≡ Ok draft
unfolding with_line
line_passed n draft line quiet = ap (λ b. cond b (Ok draft) (with_statement n draft (statement_of line))) quiet

-- and the other way round
pub take_lines : (n : ℕ) (draft last : Draft) (lines : List (List ℕ)) (all : List Statement) → map statement_of (told lines) ≡ map Some all → Takes last draft all → with_lines n draft lines ≡ Ok last
unfolding with_lines
take_lines n draft last [] [] e (done d h) = ap Ok h
take_lines n draft last [] (s ∷ all) e t = absurd cc
take_lines n draft last (line ∷ lines) all e t = part (is_skipped line) refl (λ d more f u. take_lines (suc n) d last lines more f u)
  where
    next : (d : Draft) → with_line n draft line ≡ Ok d → with_lines (suc n) d lines ≡ Ok last → (with_line n draft line >>= λ d. with_lines (suc n) d lines) ≡ Ok last
    next d f g = ap (λ r. r >>= λ d. with_lines (suc n) d lines) f ∙ g

    loudly : is_skipped line ≡ false → ((d : Draft) (more : List Statement) → map statement_of (told lines) ≡ map Some more → Takes last d more → with_lines (suc n) d lines ≡ Ok last) → (all : List Statement) → statement_of line ∷ map statement_of (told lines) ≡ map Some all → Takes last draft all → (with_line n draft line >>= λ d. with_lines (suc n) d lines) ≡ Ok last
    loudly loud on [] f u = absurd cc
    loudly loud on (s ∷ more) f (take d s' more' r c u) = next (drafted draft s) (line_taken n draft line s loud (same_head _ _ _ _ f) r c) (on (drafted draft s) more (same_tail _ _ _ _ f) u)

    part : (b : Bool) → is_skipped line ≡ b → ((d : Draft) (more : List Statement) → map statement_of (told lines) ≡ map Some more → Takes last d more → with_lines (suc n) d lines ≡ Ok last) → (with_line n draft line >>= λ d. with_lines (suc n) d lines) ≡ Ok last
    part true quiet on = next draft (line_passed n draft line quiet) (on draft all (sym (ap (map statement_of) (told_quiet line lines quiet)) ∙ e) t)
    part false loud on = loudly loud on all (sym (ap (map statement_of) (told_loud line lines loud)) ∙ e) t

-- the statements of lines are in range
pub told_stated : (lines : List (List ℕ)) (all : List Statement) → map statement_of lines ≡ map Some all → (i : ℕ) (s : Statement) → slice_get all i ≡ Some s → IsStated s
told_stated [] [] e i s h = absurd cc
told_stated [] (t ∷ all) e i s h = absurd cc
told_stated (line ∷ lines) [] e i s h = absurd cc
told_stated (line ∷ lines) (t ∷ all) e zero s h = subst IsStated (the_some t s h) (statement_kept line t (same_head _ _ _ _ e))
told_stated (line ∷ lines) (t ∷ all) e (suc i) s h = told_stated lines all (same_tail _ _ _ _ e) i s h
