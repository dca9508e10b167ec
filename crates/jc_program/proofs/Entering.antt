-- Entries by number and index.
use Rattle.std.proofs.Common.{◌≡◌, ℕ, suc, List, [], ◌∷◌, map, Option, Some, None, slice_get, refl}
use Rattle.std.proofs.Common.{ap, subst, ◌∙◌, arith}
use Rattle.std.proofs.lemmas.Option.{slice_get-map}
use Rattle.std.specs.Option.{option_and_then, option_map}
use Rattle.jc_link.specs.Linked.{IsResolved, IsWorld, LinkedBody, World}
use Rattle.jc_names.specs.Names.{home_at}
use Rattle.jc_program.specs.Entries.{AreEntries, entry_at, entry_of, target_in}
use Rattle.jc_program.specs.Methods.{LoadedMethod, entry_target}
use Rattle.jc_program.specs.PrivateEntries.{ArePools, pool_of}
use Rattle.jc_entries.specs.declared.entry.Entry.{Entry}
use Rattle.jc_program.proofs.Catching.{target_there}

-- an entry of one package
entry_there : (w : World) (methods : List LoadedMethod) (n index : ℕ) (body : LinkedBody)
    → IsResolved w.shapes (home_at (suc n)) body
    → slice_get (pool_of methods body) index ≡ option_map (entry_of methods) (entry_target w.shapes (suc n) body index)
entry_there w methods n index body resolved = grind (arith, slice_get-map, target_there)

pub are_entries : (w : World) (methods : List LoadedMethod) (pools : List (List Entry)) → IsWorld w
    → ArePools methods w.bodies pools → AreEntries w methods pools
are_entries w methods pools world are number index = ap (λ ps. entry_at ps number index) are ∙ by_number number
  where
    by_body : (n : ℕ) (o : Option LinkedBody) → slice_get w.bodies n ≡ o
        → option_and_then (λ entries. slice_get entries index) (option_map (pool_of methods) o)
        ≡ option_map (entry_of methods) (option_and_then (λ body. entry_target w.shapes (suc n) body index) o)
    by_body n None at = refl
    by_body n (Some body) at =
        entry_there w methods n index body (subst (λ h. IsResolved w.shapes h body) (omega arith)
        (world.known n body at).resolved)

    by_number : (number : ℕ) → entry_at ([] ∷ map (pool_of methods) w.bodies) number index
        ≡ option_map (entry_of methods) (target_in w number index)
    by_number number = grind (arith, slice_get, slice_get-map, by_body)
