-- Private. The arguments of the runtime's calls of applets, on words; the conditions of its writes and installs.
use Rattle.std.specs.Prelude.{◌≡◌, ℕ, ◌≤◌, List, [], ◌∷◌, length, Some}
use Rattle.jc_link.specs.Linked.{HasInstall, IsKnown, LinkedBody, World}
use Rattle.jc_machine.specs.Lookup.{body_at}
use Rattle.jc_machine.specs.Runtime.{apdu_object, install_array}
use Rattle.jc_names.specs.Names.{home_at}
use Rattle.jc_store.specs.Heap.{Heap, Object, object_at}
use Rattle.jc_store.specs.declared.kind.ObjectType.TheVariants.{ByteArray}
use Rattle.jc_words.specs.Values.{TaggedValue}
use Rattle.jc_card.specs.declared.calls.AppletCall.{AppletCall}
use Rattle.jc_card.specs.declared.calls.AppletCall.TheVariants.{Select, Deselect, Process}
use Rattle.jc_card.specs.declared.places.AppletPlace.{AppletPlace}

abbrev pub words_taken : AppletCall → List ℕ
words_taken Select = []
words_taken Deselect = []
words_taken Process = apdu_object ∷ []

-- the arguments of an install method: the array, an offset of 0, and a length
abbrev pub install_words : ℕ → List ℕ
install_words size = install_array ∷ 0 ∷ size ∷ []

-- there is an array of bytes with at least this many components
pub record HasBytes (heap : Heap TaggedValue) (number count : ℕ) : Type 0 where
  pub object : Object TaggedValue
  pub there : object_at heap number ≡ Some object
  pub bytes : object.kind.object_type ≡ ByteArray
  pub within : count ≤ length object.cells

-- there is a loaded package with this number, and an install method at the offset
pub record IsInstallPlace (w : World) (place : AppletPlace) : Type 0 where
  pub body : LinkedBody
  pub there : body_at w place.number ≡ Some body
  pub known : IsKnown w.shapes (home_at place.number) body
  pub method : HasInstall w.shapes (home_at place.number) body.kept.methods place.install
