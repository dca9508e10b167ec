-- A card that is new holds the new card of the defensive machine.
use Rattle.std.proofs.Common.{◌≡◌, ◌<◌, ℕ, List, [], None, true, sym, ap, ◌∙◌, subst, arith}
use Rattle.std.proofs.lemmas.Bool.Decides.{leb_tells}
use Rattle.jc_api.specs.declared.class.ApiClass.{ApiClass}
use Rattle.jc_api.specs.Bound.{Bound}
use Rattle.jc_cap_desc.specs.Shape.{Shape}
use Rattle.jc_frames.specs.Frames.{Frames}
use Rattle.jc_interp.specs.Agree.{HoldsFields}
use Rattle.jc_link.specs.ApiClasses.{StandsThere}
use Rattle.jc_link.specs.Built.{IsBuilt}
use Rattle.jc_link.specs.Linked.{World}
use Rattle.jc_program.specs.Program.{AnswersFor, IsProgramOf}
use Rattle.jc_program.specs.declared.program.Program.{Program}
use Rattle.jc_machine.specs.Accepted.{IsAccepted, api_alone}
use Rattle.jc_machine.specs.Machine.{Frame}
use Rattle.jc_machine.specs.Reading.{Pointwise}
use Rattle.jc_machine.specs.Typed.{IsTypedBeside}
use Rattle.jc_machine.specs.Runtime.{new_heap}
use Rattle.jc_machine.specs.TypedExamples.{idle_in, new_machine}
use Rattle.jc_natives.specs.Kept.{nothing_kept}
use Rattle.jc_natives.specs.Meaning.{meaning}
use Rattle.jc_names.specs.declared.name.ClassName.TheVariants.{Api}
use Rattle.jc_store.specs.Store.{Store}
use Rattle.jc_card.specs.New.{new_card}
use Rattle.jc_machine.specs.Limits.{are_limits}
use Rattle.jc_card.specs.PrivateNew.{HasOwn, HasOwnRoom, HaveApiNumbers}
use Rattle.jc_card.specs.Reads.{CardWords, Holds}
use Rattle.jc_machine.specs.declared.limits.Limits.{Limits}
use Rattle.jc_card.proofs.Making.{own_read}
use Rattle.jc_card.proofs.TypedCards.{new_typed}

-- what is known of it
pub record IsNew (l : Limits) (bound : Bound) (before : Store) (k : CardWords) : Type 0 where
  pub world : k.world ≡ api_alone bound
  pub program : IsProgramOf k.world k.program
  pub own : HasOwn k.program.classes before k.machine.store 45
  pub objects : before.most_objects ≡ l.objects
  pub cells : before.most_cells ≡ l.cells
  pub frames : k.machine.frames ≡ record { frames = []; most_frames = l.frames; most_words = l.frame_words }
  pub statics : k.machine.statics ≡ []
  pub kept : k.kept ≡ nothing_kept
  pub selected : k.selected ≡ None
  pub most_objects : k.most_objects ≡ l.objects
  pub most_cells : k.most_cells ≡ l.cells
  pub steps : k.steps ≡ l.steps

-- in the world of the API alone each of its classes has a number
pub api_numbers : (bound : Bound) (w : World) (p : Program) → w ≡ api_alone bound → IsAccepted (api_alone bound)
    → IsProgramOf w p → ((v : World) (q : Program) → IsProgramOf v q → AnswersFor v q)
    → ((shapes : List Shape) → IsBuilt shapes → (c : ApiClass) → StandsThere shapes c) → HaveApiNumbers p.classes
api_numbers bound w p is accepted program answers stands c =
    let built = (subst IsAccepted (sym is) accepted).world.built in
    let there = stands w.shapes built c in
    (answers w p program).numbers (Api c) there.shape there.there

-- a store within the limits has room for the runtime's own objects
pub own_room : (l : Limits) (s : Store) → are_limits l ≡ true → s.most_objects ≡ l.objects → s.most_cells ≡ l.cells
    → HasOwnRoom s
own_room l s are objects cells = grind (arith, leb_tells)

pub holds_new : (l : Limits) → l.cells < 65536 → (bound : Bound) (before : Store) (k : CardWords)
    → IsNew l bound before k → IsAccepted (api_alone bound) → (frame : Frame)
    → IsTypedBeside (idle_in (api_alone bound)) (new_machine [] frame)
    → meaning.fits (api_alone bound) new_heap nothing_kept ≡ true → Holds k (new_card l bound)
holds_new l cells bound before k n accepted frame typed fits = record {
  typed = new_typed l cells bound accepted frame typed fits;
  world = n.world;
  program = n.program;
  beside = record {
    heap = own_read k.program.classes before k.machine.store n.own;
    numbered = n.own.numbered;
    statics = none;
    runtime = n.kept;
    most_objects = n.own.most_objects ∙ n.objects;
    most_cells = n.own.most_cells ∙ n.cells;
    most_frames = ap (λ (f : Frames). f.most_frames) n.frames;
    most_words = ap (λ (f : Frames). f.most_words) n.frames;
  };
  frames = ap (λ (f : Frames). f.frames) n.frames;
  selected = n.selected;
  most_objects = n.most_objects;
  most_cells = n.most_cells;
  steps = n.steps;
}
  where
    none : Pointwise HoldsFields k.machine.statics []
    none = subst (λ (images : List (List ℕ)). Pointwise HoldsFields images []) (sym n.statics) tt
