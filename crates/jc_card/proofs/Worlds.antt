-- What a part of a command leaves as it was: the packages, and how many instance numbers were given out.
use Rattle.std.proofs.Common.{◌≡◌, ℕ, List, ◌∷◌, Option, Some, None, arith}
use Rattle.std.specs.Prelude.{⊤}
use Rattle.std.specs.Option.{option_and_then, option_map}
use Rattle.jc_machine.specs.Machine.{Touch}
use Rattle.jc_machine.specs.Step.{CallEnd, Called}
use Rattle.jc_names.specs.declared.name.MethodName.{MethodName}
use Rattle.jc_natives.specs.Counted.{LeavesNumbers}
use Rattle.jc_natives.specs.Kept.{Kept}
use Rattle.jc_natives.specs.declared.kept.Instance.{Instance}
use Rattle.jc_words.specs.Values.{Ref}
use Rattle.jc_card.specs.Card.{CardState}
use Rattle.jc_card.specs.Commands.{deselect, unselect}
use Rattle.jc_card.specs.Parts.{Left, and_then, arguments_of, behind, call_applet, call_method}
use Rattle.jc_card.specs.Parts.{call_selected, ended_call}
use Rattle.jc_card.specs.PrivateTyped.{KeepNumbers}
use Rattle.jc_card.specs.Reads.{CardWords, Holds, IsDone}
use Rattle.jc_card.specs.declared.calls.AppletCall.{AppletCall}

pub record Stays (before after : CardState) : Type 0 where
  pub world : after.world ≡ before.world
  pub numbers : after.kept.numbers ≡ before.kept.numbers

abbrev pub StaysIn : {A : Type 0} → CardState → Option (Left A) → Type 0
StaysIn c None = ⊤
StaysIn c (Some l) = Stays c l.card

stays_behind : {A : Type 0} (c d : CardState) (touches : List Touch) (ran : List ℕ) (o : Option (Left A))
    → Stays c d → StaysIn d o → StaysIn c (option_map (behind touches ran) o)
stays_behind c d touches ran o h1 h2 = grind arith

stays_then : {A B : Type 0} (c : CardState) (o : Option (Left A)) (next : CardState → A → Option (Left B))
    → StaysIn c o → ((d : CardState) (value : A) → StaysIn d (next d value)) → StaysIn c (and_then o next)
stays_then c o next h1 h2 = grind (arith, stays_behind)

module _ (keep : KeepNumbers) where
  call_stays : (c : CardState) (called : Called Kept) (e : CallEnd Kept) → LeavesNumbers c.kept.numbers e
      → StaysIn c (ended_call c called e)
  call_stays c called e h1 = grind arith

  method_stays : (c : CardState) (i : Instance) (call : AppletCall) (o : Option MethodName)
      → StaysIn c (option_and_then (λ method. call_method c i.owner.context i.owner method (Ref i.object
      ∷ arguments_of call)) o)
  method_stays c i call o = grind (arith, call_stays)

  applet_stays : (c : CardState) (i : Instance) (call : AppletCall) → StaysIn c (call_applet c i call)
  applet_stays c i call = grind (arith, method_stays)

  selected_stays : (c : CardState) (call : AppletCall) → StaysIn c (call_selected c call)
  selected_stays c call = grind (arith, applet_stays)

  unselect_stays : (c : CardState) → StaysIn c (unselect c)
  unselect_stays c = grind arith

  pub deselect_stays : (c : CardState) → StaysIn c (deselect c)
  deselect_stays c = grind (arith, stays_then, selected_stays, unselect_stays)

-- so it is of the card on words
pub words_stay : {A : Type 0} (k after : CardWords) (reads : A → Type 0) (c : CardState) → Holds k c
    → (o : Option (Left A)) → IsDone after reads o → StaysIn c o
    → (after.world ≡ k.world) × (after.kept.numbers ≡ k.kept.numbers)
words_stay k after reads c h1 o h2 h3 = grind arith

abbrev pub KeepsWorld : {A : Type 0} → CardState → Option (Left A) → Type 0
KeepsWorld c None = ⊤
KeepsWorld c (Some l) = l.card.world ≡ c.world

pub world_stays : {A : Type 0} (k after : CardWords) (reads : A → Type 0) (c : CardState) → Holds k c
    → (o : Option (Left A)) → IsDone after reads o → KeepsWorld c o → after.world ≡ k.world
world_stays k after reads c h1 o h2 h3 = grind arith
