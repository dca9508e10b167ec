-- The tables of a world, put together of those before it and of what a package more brings.
use Rattle.std.proofs.Common.{◌≡◌, ℕ, suc, ◌+◌, ◌-◌, ◌≤◌, List, [], ◌∷◌, ◌++◌, length, map, take, Some}
use Rattle.std.proofs.Common.{slice_get, get_or, sym, ap, subst, ◌∙◌, arith, length-append}
use Rattle.std.proofs.Math.Seq.{get_or-append_seam}
use Rattle.jc_cap_desc.specs.Shape.{Shape}
use Rattle.jc_classes.specs.Growth.{KeepsAllLookups, LiesWithin, StandWithin, grown}
use Rattle.jc_classes.specs.Limits.{IsSmall}
use Rattle.jc_link.specs.Built.{IsBuilt}
use Rattle.jc_link.specs.Growth.{KeepsAllLinking}
use Rattle.jc_link.specs.Linked.{IsKnown, IsWorld, LinkedBody, World}
use Rattle.jc_link.specs.Sound.{IsSound}
use Rattle.jc_names.specs.Names.{home_at}
use Rattle.jc_names.specs.declared.name.ClassName.{ClassName}
use Rattle.jc_program.specs.Called.{AreCalled, AreVisible}
use Rattle.jc_program.specs.Classes.{HaveWordOffsets, class_names}
use Rattle.jc_program.specs.Entries.{AreEntries}
use Rattle.jc_program.specs.InterfaceRows.{class_interfaces}
use Rattle.jc_program.specs.MemberTokens.{AreMemberTokens}
use Rattle.jc_program.specs.Methods.{AreLoaded, LoadedMethod, methods_of}
use Rattle.jc_program.specs.PrivateCalled.{AreListed, HasCalled, HasVisible}
use Rattle.jc_program.specs.PrivateClassRows.{HaveRows}
use Rattle.jc_program.specs.PrivateClasses.{HaveLastWordOffsets}
use Rattle.jc_program.specs.PrivateEntries.{pool_of}
use Rattle.jc_program.specs.Program.{IsGrownFrom}
use Rattle.jc_program.specs.declared.program.Program.{Program}
use Rattle.jc_program.proofs.Calling.{get_last}
use Rattle.jc_program.proofs.Enlarging.{lies_behind}
use Rattle.jc_program.proofs.Extending.{entries_grown, loaded_grown, number_behind, words_grown}
use Rattle.jc_program.proofs.Growing.{entry_stays, interface_rows_stay, rows_stay, tokens_stay, virtual_lists}
use Rattle.jc_program.proofs.Growing.{visible_lists}

-- the last of bodies with one more
last_of : (bodies all : List LinkedBody) (body d : LinkedBody) → all ≡ bodies ++ body ∷ []
    → get_or all (length all - 1) d ≡ body
last_of bodies all body d is =
    let size = ap length is ∙ length-append bodies (body ∷ []) in
    let place : length all - 1 ≡ length bodies = omega (arith, size) in
    ap (λ i. get_or all i d) place ∙ ap (λ xs. get_or xs (length bodies) d) is
    ∙ get_or-append_seam bodies body [] d

-- what tables of the world before, and of a package's methods and classes, are in the world with it
pub record Composed (p : Program) (world : World) (shapes : List Shape) (body : LinkedBody) (ms : List LoadedMethod)
    (names : List ClassName) : Type 0 where
  pub loaded : AreLoaded world ms
  pub entries : AreEntries world ms (p.entries ++ pool_of ms body ∷ [])
  pub pools : length (p.entries ++ pool_of ms body ∷ []) ≡ suc (length world.bodies)
  pub names_now : names ≡ class_names world.shapes
  pub words : HaveLastWordOffsets shapes → HaveWordOffsets world.shapes
  pub virtual : AreListed (HasCalled shapes ms 0 0 128) names (length p.virtual_methods) p.virtual_methods
  pub visible : AreListed (HasVisible shapes ms) names (length p.visible_methods) p.visible_methods
  pub interfaces : p.interface_methods
      ≡ map (class_interfaces shapes names) (take (length p.interface_methods) names)
  pub rows : HaveRows shapes names (length p.rows) p.rows
  pub tokens : AreMemberTokens world.shapes p.member_tokens

module _ (all_lookups : (before after : List Shape) → LiesWithin before after → KeepsAllLookups before after)
    (all_linking : (before after : List Shape) → LiesWithin before after → KeepsAllLinking before after)
    (stands : (world : List Shape) → StandWithin world)
    (are_small : (before after : List Shape) → LiesWithin before after → IsSmall after → IsSmall before)
    (are_built : (world : List Shape) (count : ℕ) → IsBuilt world → 2 ≤ count → IsBuilt (take count world))
    (are_sound : (world : List Shape) → IsSmall world → IsBuilt world → IsSound world)
    (p : Program) (world : World) (is : IsGrownFrom p world) (world_is : IsWorld world) (shapes : List Shape)
    (same : shapes ≡ world.shapes) (small : IsSmall shapes) where
  abbrev before : List Shape
  before = is.before.shapes

  abbrev later : List Shape
  later = grown before is.bound.0

  abbrev bodies : List LinkedBody
  bodies = is.before.bodies

  abbrev last : LinkedBody
  last = is.linked.body

  world_same : world ≡ record { shapes = later; bodies = bodies ++ last ∷ [] }
  world_same = is.world_is ∙ ap (λ (s : List Shape). with_shapes s) is.bound.1
    where
      with_shapes : List Shape → World
      with_shapes s = record { shapes = s; bodies = bodies ++ last ∷ [] }

  shapes_are : shapes ≡ later
  shapes_are = same ∙ ap (λ (w : World). w.shapes) world_same

  bodies_are : world.bodies ≡ bodies ++ last ∷ []
  bodies_are = ap (λ (w : World). w.bodies) world_same

  -- how many there are
  counts : 2 + length bodies ≡ length before
  counts = grind (arith, length, world_same, length-append, bodies_are)

  keeps : KeepsAllLookups before later
  keeps = all_lookups before later (lies_behind before is.bound.0)

  linking : KeepsAllLinking before later
  linking = all_linking before later (lies_behind before is.bound.0)

  two : 2 ≤ length before
  two = let c = counts in omega (arith, c)

  small_later : IsSmall later
  small_later = subst IsSmall shapes_are small

  sound_before : IsSound before
  sound_before =
      let lies = lies_behind before is.bound.0 in
      let built = subst IsBuilt (ap (λ (w : World). w.shapes) world_same) world_is.built in
      are_sound before (are_small before later lies small_later)
      (subst IsBuilt lies (are_built later (length before) built two))

  -- ---- the package itself

  module _ (body : LinkedBody) (all : List LinkedBody) (all_is : all ≡ world.bodies)
      (body_is : body ≡ get_or all (length all - 1) body) where
    body_same : body ≡ last
    body_same = body_is ∙ last_of bodies all last body (all_is ∙ bodies_are)

    number_is : length all ≡ suc (length bodies)
    number_is = let d = ap length (all_is ∙ bodies_are) ∙ length-append bodies (last ∷ []) in omega (arith, d)

    last_known : IsKnown later (suc (suc (length bodies))) last
    last_known =
        let there = ap (λ bs. slice_get bs (length bodies)) bodies_are ∙ get_last bodies last in
        let known = world_is.known (length bodies) last there in
        let place : 2 + length bodies ≡ suc (suc (length bodies)) = omega arith in
        subst (λ s. IsKnown s (suc (suc (length bodies))) last) (ap (λ (w : World). w.shapes) world_same)
        (subst (λ h. IsKnown world.shapes h last) place known)

    pub body_known : IsKnown shapes (home_at (length all)) body
    body_known = grind (arith, length, number_is, body_same, shapes_are, last_known)

    -- ---- with its methods

    module _ (ms : List LoadedMethod) (more : map Some ms ≡ map Some p.methods ++ methods_of shapes (length all) body)
        (begins : take (length p.methods) ms ≡ p.methods) where
      abbrev k : ℕ
      k = suc (length bodies)

      more_later : map Some ms ≡ map Some p.methods ++ methods_of later k last
      more_later = grind (arith, length, number_is, map, Some, shapes_are, body_same)

      home : length before ≡ suc k
      home = let c = counts in omega (arith, c)

      behind : (i : ℕ) (m : LoadedMethod) → length p.methods ≤ i → slice_get ms i ≡ Some m → m.number ≡ k
      behind = number_behind later k last p.methods ms more_later

      loaded_here : AreLoaded world ms
      loaded_here = grind (arith, world_same, loaded_grown, keeps, linking, two, counts, more_later)

      entries_here : AreEntries world ms (p.entries ++ pool_of ms body ∷ [])
      entries_here =
          subst (λ b. AreEntries world ms (p.entries ++ pool_of ms b ∷ [])) (sym body_same)
          (subst (λ w. AreEntries w ms (p.entries ++ pool_of ms last ∷ [])) (sym world_same)
          (entries_grown before later keeps linking (stands before) two p.methods ms
          (entry_stays before is.bound.0 keeps (stands before) sound_before two p.methods ms k home begins behind)
          bodies last p.entries counts is.tables.entries is.tables.pools last_known.resolved))

      pools_here : length (p.entries ++ pool_of ms body ∷ []) ≡ suc (length world.bodies)
      pools_here = grind (arith, length-append, length, bodies_are)

      -- ---- with its classes

      module _ (names : List ClassName) (names_are : names ≡ class_names shapes) where
        moved : (P : List Shape → List ClassName → Type 0) → P later (class_names later) → P shapes names
        moved P x = subst (P shapes) (sym names_are) (subst (λ s. P s (class_names s)) (sym shapes_are) x)

        words_here : HaveLastWordOffsets shapes → HaveWordOffsets world.shapes
        words_here of_last = grind (arith, shapes_are, words_grown)

        virtual_here : AreListed (HasCalled shapes ms 0 0 128) names (length p.virtual_methods) p.virtual_methods
        virtual_here =
            moved (λ s ns. AreListed (HasCalled s ms 0 0 128) ns (length p.virtual_methods) p.virtual_methods)
            (virtual_lists before is.bound.0 keeps (stands before) sound_before two p.methods ms k home begins behind
            p.virtual_methods (is.tables.counts.virtual_methods ∙ ap length is.tables.classes)
            (subst (λ ns. AreCalled before p.methods ns p.virtual_methods) is.tables.classes is.tables.virtual_methods))

        visible_here : AreListed (HasVisible shapes ms) names (length p.visible_methods) p.visible_methods
        visible_here =
            moved (λ s ns. AreListed (HasVisible s ms) ns (length p.visible_methods) p.visible_methods)
            (visible_lists before is.bound.0 keeps (stands before) sound_before two p.methods ms k home begins behind
            p.visible_methods (is.tables.counts.visible_methods ∙ ap length is.tables.classes)
            (subst (λ ns. AreVisible before p.methods ns p.visible_methods) is.tables.classes
            is.tables.visible_methods))

        interfaces_here : p.interface_methods
            ≡ map (class_interfaces shapes names) (take (length p.interface_methods) names)
        interfaces_here = grind (arith, moved, interface_rows_stay, keeps, sound_before, two, counts)

        rows_here : HaveRows shapes names (length p.rows) p.rows
        rows_here = grind (arith, moved, rows_stay, keeps, sound_before, two, linking, counts)

        tokens_here : AreMemberTokens world.shapes p.member_tokens
        tokens_here = grind (arith, shapes_are, tokens_stay, keeps, sound_before, two)

        pub composed : Composed p world shapes body ms names
        composed = record {
          loaded = loaded_here;
          entries = entries_here;
          pools = pools_here;
          names_now = names_are ∙ ap class_names same;
          words = words_here;
          virtual = virtual_here;
          visible = visible_here;
          interfaces = interfaces_here;
          rows = rows_here;
          tokens = tokens_here;
        }
