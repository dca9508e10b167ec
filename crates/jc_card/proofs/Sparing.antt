-- Plain objects are kept where accesses in the runtime's name spare them.
use Rattle.std.proofs.Common.{◌≡◌, ◌⊎◌, ℕ, zero, suc, List, [], ◌∷◌, Some, inl, inr, ap, ◌∙◌, subst, slice_get}
use Rattle.std.proofs.lemmas.Option.{same_Some}
use Rattle.std.specs.List.{AllByRecursion}
use Rattle.jc_firewall.specs.Verdict.{runtime_context}
use Rattle.jc_machine.specs.Apart.{SparesPlain}
use Rattle.jc_machine.specs.Guarded.{ChangesAccessed, IsAccessed, KeepsPlain}
use Rattle.jc_machine.specs.Machine.{Touch}
use Rattle.jc_store.specs.Heap.{Heap, object_at}
use Rattle.jc_words.specs.Values.{TaggedValue}

all_at : {A : Type 0} (P : A → Type 0) (xs : List A) (k : ℕ) (x : A) → AllByRecursion P xs → slice_get xs k ≡ Some x
    → P x
all_at P [] k x h e = absurd cc
all_at P (y ∷ xs) zero x h e = subst P (same_Some y x e) h.0
all_at P (y ∷ xs) (suc k) x h e = all_at P xs k x h.1 e

pub spared : (active : ℕ) (touches : List Touch) (before after : Heap TaggedValue)
    → ChangesAccessed active touches before after → AllByRecursion (SparesPlain before) touches
    → KeepsPlain active before after
spared active touches before after changes spares n o p e f plain =
    elim (changes n o p e f) [ inl same ↦ inl same | inr a ↦ inr (own_of a (a.own plain)) ]
  where
    own_of : (a : IsAccessed active touches n o)
        → (active ≡ o.owner.context) ⊎ (a.touch.active ≡ runtime_context) → active ≡ o.owner.context
    own_of a (inl own) = own
    own_of a (inr runtime) =
        absurd (all_at (SparesPlain before) touches a.place a.touch spares a.listed runtime o
        (ap (object_at before) a.is ∙ e) plain)
