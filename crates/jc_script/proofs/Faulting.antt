-- The fault of words, one more at a time.
use Rattle.std.proofs.Common.{◌≡◌, ℕ, ◌+◌, ◌-◌, ◌<◌, ◌≤◌, List, [], ◌∷◌, length, drop, get_or, Option, Some, None, ap}
use Rattle.std.proofs.Common.{refl, sym, ◌∙◌, true, false, Bool, arith, cond}
use Rattle.std.specs.List.{onto_first}
use Rattle.std.specs.Option.{is_some, option_map_or}
use Rattle.std.proofs.lemmas.List.{drop_all, drop_more}
use Rattle.jc_api.specs.Text.{words_of}
use Rattle.jc_script.specs.Faults.{extra_fault, missing_fault, spread, word_fault, words_fault}
use Rattle.jc_script.specs.declared.fault.LineFault.{LineFault}
use Rattle.jc_script.specs.declared.finding.Form.{Form}

-- ---- a form more

module _ (forms : List Form) (i : ℕ) (d : Form) (less : i < length forms) (needed column : ℕ) where
  pub none_left : (words : List (List ℕ)) → words ≡ []
      → words_fault (drop i forms) needed column words ≡ missing_fault needed column
  unfolding words_fault
  none_left words none = rw (drop_more forms i d less, none) refl

  stops : (word : List ℕ) (o : Option LineFault) (rest : Option LineFault) → is_some o ≡ true
      → option_map_or Some o rest ≡ o
  stops word (Some fault) rest e = refl
  stops word None rest e = absurd cc

  pub fault_here : (words : List (List ℕ)) (word : List ℕ) (more : List (List ℕ)) (o : Option LineFault)
      → words ≡ word ∷ more → o ≡ word_fault (get_or forms i d) column word → true ≡ is_some o
      → words_fault (drop i forms) needed column words ≡ o
  unfolding words_fault
  fault_here words word more o are is some =
      rw (drop_more forms i d less, are)
      (stops word (word_fault (get_or forms i d) column word)
      (words_fault (drop (i + 1) forms) (needed - 1) (column + (length word + 1)) more)
      (ap is_some (sym is) ∙ sym some) ∙ sym is)

  passes : (o rest : Option LineFault) → is_some o ≡ false → option_map_or Some o rest ≡ rest
  passes (Some fault) rest e = absurd cc
  passes None rest e = refl

  pub goes_on : (words : List (List ℕ)) (word : List ℕ) (more : List (List ℕ)) (fewer : ℕ) (o : Option LineFault)
      → words ≡ word ∷ more → fewer ≡ needed - 1 → o ≡ word_fault (get_or forms i d) column word → false ≡ is_some o
      → words_fault (drop i forms) needed column words
      ≡ words_fault (drop (i + 1) forms) fewer (column + (length word + 1)) more
  unfolding words_fault
  goes_on words word more fewer o are less_one is none =
      rw (drop_more forms i d less, are, less_one)
      (passes (word_fault (get_or forms i d) column word)
      (words_fault (drop (i + 1) forms) (needed - 1) (column + (length word + 1)) more)
      (ap is_some (sym is) ∙ sym none))

-- ---- behind the last form

module _ (forms : List Form) (i : ℕ) (past : length forms ≤ i) (needed column : ℕ) where
  pub one_too_many : (words : List (List ℕ)) (word : List ℕ) (more : List (List ℕ)) → words ≡ word ∷ more
      → words_fault (drop i forms) needed column words ≡ Some (extra_fault column word)
  unfolding words_fault
  one_too_many words word more are = rw (drop_all i forms past, are) refl

  pub no_more : (words : List (List ℕ)) → words ≡ [] → words_fault (drop i forms) needed column words ≡ None
  unfolding words_fault
  no_more words none = rw (drop_all i forms past, none) refl

-- ---- how many bytes words take

pub record IsSpread (words : List (List ℕ)) (size : ℕ) : Type 0 where
  pub first : List ℕ
  pub others : List (List ℕ)
  pub are : words ≡ first ∷ others
  pub size_is : spread words ≡ size + 1

-- the words of a line and the spaces between them take its bytes
pub words_spread : (line : List ℕ) → IsSpread (words_of line) (length line)
words_spread [] = record { first = []; others = []; are = refl; size_is = refl }
words_spread (b ∷ line) = part (words_of line) (words_spread line) _ refl
  where
    part : (words : List (List ℕ)) → IsSpread words (length line) → (space : Bool) → Unit {0} ≡ Unit {0}
        → IsSpread (cond space ([] ∷ words) (onto_first b words)) (length (b ∷ line))
    part words h true e = record { first = []; others = words; are = refl; size_is = grind (arith, h.size_is) }
    part words h false e = rw h.are (record {
      first = b ∷ h.first;
      others = h.others;
      are = refl;
      size_is = grind (arith, h.size_is, h.are);
    })
