-- What holds while the places of a method are raised.
use Rattle.std.proofs.Common.{ℕ, List, Option}
use Rattle.jc_check.specs.Method.{CheckedMethod}
use Rattle.jc_check.specs.Package.{package_rules}
use Rattle.jc_check.specs.Typing.{Leads}
use Rattle.jc_link.specs.Linked.{Linked}
use Rattle.jc_types.specs.State.{Types}
use Rattle.jc_verify.specs.PrivateFlow.{Grown, HasLaws, Places, Risen, below_in, held_at, height_in, most_height}
use Rattle.jc_verify.proofs.Stepping.{steps_none, steps_through}

module _ (l : Linked) (laws : HasLaws l) (m : CheckedMethod) (numbers : List (Option ℕ)) where
  pub risen_self : (places : Places) → Risen l m numbers places places
  risen_self places = record {
    rises = λ pc s e. record { state = s; typed = e; below = laws.itself s };
    numbered = λ h. h;
    shaped = λ h. h;
  }

  pub leads_on : (before after : Places) → Risen l m numbers before after → (t : Types) (pc : ℕ)
      → Leads (package_rules l) (held_at numbers before) t pc → Leads (package_rules l) (held_at numbers after) t pc
  leads_on before after g t pc h =
      let k = g.rises pc h.state h.typed in
      record { state = k.state; typed = k.typed; below = laws.through t h.state k.state h.below k.below }

  pub risen_through : (a b c : Places) → Risen l m numbers a b → Risen l m numbers b c → Risen l m numbers a c
  risen_through a b c g h = record {
    rises = λ pc s e. leads_on b c h s pc (g.rises pc s e);
    numbered = λ k. h.numbered (g.numbered k);
    shaped = λ k. h.shaped (g.shaped k);
  }

  pub grown_self : (places : Places) → Grown l m numbers places places
  grown_self places = record { risen = risen_self places; steps = steps_none (below_in l.world) (height_in l.world) (most_height m) places }

  pub grown_through : (a b c : Places) → Grown l m numbers a b → Grown l m numbers b c → Grown l m numbers a c
  grown_through a b c g h = record {
    risen = risen_through a b c g.risen h.risen;
    steps = steps_through (below_in l.world) (height_in l.world) (most_height m) (λ x y z. laws.through x.types y.types z.types) a b c g.steps h.steps;
  }
