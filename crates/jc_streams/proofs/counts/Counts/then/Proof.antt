-- `then` picks the counts of its result. Assumes `Logic`.
use Rattle.std.proofs.Common.{◌+◌, suc, List, [], ◌∷◌, ◌++◌, refl}
use seplogic.Ra.Ura.{Ura}
use mir.Syntax.{Fn}
use mir.Val.{Val, vptr}
use base.Logic.{SProp, ent}
use prog.Memory.{Memory}
use prog.Routine.{Routine}
use prog.Wp.{Calls, Loops, WpFn, Tables}
use contract.Monad.{Fun}
use contract.Running.{tables, tables_of}
use sound.WpLaws.{WpFn-mono}
use types.Logic.{Logic}
use types.Kit.{‵, raw, ◌⊛◌, prop, ◌$◌, ◌∵◌, !, qed, move, keep, drop, split}
use types.Kit.{fsplit, fjoin, feq_l, regoal, suffices, done}
use types.Part.{agg}
use types.Run.{enter, returns, no_more}
use types.ByLocal.{alloc_all, pass_all, free_all, look_at, sets}
use denote.Exit.{yes}
use denote.RattleType.{owns}
use denote.Builtin.{RefOf}
use denote.Signature.{plain, types_at}
use denote.Steps.{nothing}
use denote.Triple.Clauses.{Clauses, Ended, closing}
use denote.Triple.Entry.{alive}
use denote.Triple.Spec.{Meets, triple_of}
use denote.Triple.Table.{entered}
use denote.Triple.Walked.{Stays, stay_dropped, walk_of, ends_at, walk_Meets, Goes-dropped}
use Rattle.jc_streams.proofs.Walks.{none, none_made, says_both}
use Rattle.jc_streams.specs.contracts.counts.Counts as Counts
use Rattle.jc_streams.specs.contracts.outcome.Outcome as Outcome
use Rattle.jc_streams.specs.Streams.{faults_in}
use Rattle.jc_streams.specs.contracts.counts.Counts.then as F
use Rattle.jc_streams.specs.contracts.counts.Counts.then.Key.{name as #self}
use Rattle.jc_streams.proofs.counts.Counts.then.Statement as stated
use Rattle.jc_streams.proofs.counts.Counts.then.Code as code

abbrev function : Fn
function = code.function

abbrev ended : Ended
ended = F.ended

abbrev stayed : Stays ended.signature.params ended.kept
stayed = (stay_dropped _ yes, (stay_dropped _ yes, tt))

module _ {M : Type 1} {𝓤 : Ura M} (𝓛 : Logic 𝓤) (at_mem : Memory → SProp 𝓤) (run : Routine → Fun 𝓤) where
  open 𝓛 use {H}

  abbrev held : Clauses 𝓤 ended
  held = F.clauses 𝓛 at_mem run

  module _ (C : Calls 𝓤 H) (Λ : Loops 𝓤 H) (z : (walk_of 𝓛 ended stayed held).Ghost) where
    abbrev Post : Val → SProp 𝓤
    Post = (walk_of 𝓛 ended stayed held).post z

    abbrev toks : SProp 𝓤
    toks = alive 𝓛 ended.signature z.0.0 z.0.1

    walks : ent 𝓤 ((walk_of 𝓛 ended stayed held).pre z)
        (WpFn 𝓤 H C Λ function ((walk_of 𝓛 ended stayed held).args z) Post)
    walks =
        let a = z.0.3 in
        let vss = z.0.4 in
        let u : Val = vptr a.0.ref_ptr.0 a.0.ref_ptr.1 in
        let v : Val = vptr a.1.0.ref_ptr.0 a.1.0.ref_ptr.1 in
        let counts : (Counts.the_row).Denot = record {
          calls = suc a.0.now.calls;
          faults = a.0.now.faults + faults_in a.1.0.now;
        } in
        qed 𝓛 ((raw toks ⊛ ‵ (owns (types_at ended.signature.params z.0.0) a vss))
        ∷ raw ((held z.0.0 a).requires z.1) ∷ []) ∵
        keep ! (0 ∷ []) $ split ! $ move ! (1 ∷ []) $ fsplit ! $ fsplit ! $ feq_l ! (λ is₀.
        drop ! $ fsplit ! $ fsplit ! $ feq_l ! (λ is₁. drop ! $ drop ! $
        regoal ! (λ (us : List Val). prop (WpFn 𝓤 H C Λ function (us ++ (vss.1.0 ++ [])) Post)) is₀ refl $
        regoal ! (λ (us : List Val). prop (WpFn 𝓤 H C Λ function ((u ∷ []) ++ (us ++ [])) Post)) is₁ refl $
        enter ! C Λ function (u ∷ v ∷ []) Post $ alloc_all ! (λ l. pass_all ! refl ((tt, tt), ((tt, tt), tt)) $
        sets ! (agg ! (no_more !)) refl (tt, tt) $
        nothing ! $ none_made ! $ fjoin ! $
        returns ! (look_at ! 0 refl) $ free_all ! refl $
        suffices ! _ (ends_at 𝓛 ended stayed held z none counts (tt, (tt, tt)) (tt, (tt, tt))) $
        says_both ! refl refl $
        nothing ! $ nothing ! $ fjoin ! $ nothing ! $ fjoin ! $ move ! (2 ∷ 0 ∷ 1 ∷ []) $ done !)))

  meets : (𝓣 : Tables 𝓤 H) → Meets 𝓛 ended.signature (WpFn 𝓤 H 𝓣.C 𝓣.Λ function) (closing 𝓛 ended held)
  meets 𝓣 =
      walk_Meets 𝓛 ended stayed (
        Goes-dropped 𝓛 2 (RefOf (0 ∷ []) tt (plain (λ _. Counts.the_row)) (λ _. tt)) yes (λ κs x f. refl),
        (Goes-dropped 𝓛 2 (RefOf (1 ∷ []) tt (plain (λ _. Outcome.the_row)) (λ _. tt)) yes (λ κs x f. refl), tt),
      ) held
      (WpFn 𝓤 H 𝓣.C 𝓣.Λ function) (WpFn-mono 𝓤 H 𝓛.laws 𝓣 function) (walks 𝓣.C 𝓣.Λ)

pub then_spec : {M : Type 1} → stated.statement M
unfolding tables_of
then_spec 𝓤 𝓛 𝓜 𝓡 wired =
    let 𝓣 : Tables 𝓤 𝓛.H = tables_of 𝓤 𝓛.H 𝓜 (tables 𝓤 𝓛.H 𝓜 𝓡 𝓡.env) in
    entered 𝓤 𝓛.H (triple_of 𝓛 ended.signature (closing 𝓛 ended (held 𝓛 𝓜.mem 𝓡.returns))) 𝓣.C 𝓣.Λ #self function
    (code.unfolded 𝓤 𝓛.H 𝓜 𝓡 wired) (meets 𝓛 𝓜.mem 𝓡.returns 𝓣)
