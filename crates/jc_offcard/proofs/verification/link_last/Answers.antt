use Rattle.std.proofs.Common.{◌++◌, ◌∷◌, [], subst, map}
use Rattle.std.proofs.lemmas.Result.{IfErr-weaker, err_from_is_err_and}
use Rattle.jc_classes.specs.Api.{api_world}
use Rattle.jc_offcard.specs.PrivateVerify.{IsStopped}
use Rattle.jc_offcard.specs.Verify.{AreLoaded}
use Rattle.jc_offcard.proofs.Verifying.{last_stopped}
use Rattle.jc_offcard.proofs.verification.link_last.Goals as goal

pub returns-in_err-world-clause-stopped : goal.returns-in_err-world-clause-stopped
returns-in_err-world-clause-stopped c =
    let image = c.args.image.now in
    let images = map (λ image. image.items) c.args.earlier.now ++ image ∷ [] in
    let why = c.in_err-world.field-0.0 in
    let stopped : IsStopped (api_world c.args.binding.now) images why
    = subst (λ first. IsStopped first images why) c.in_ok-first.ensures.made (c.in_err-world.ensures.unloaded image) in
    let told = err_from_is_err_and c.from_residual-in_err-world.result c.from_residual-in_err-world.ensures.1 in
    rw (told.1, told.2) stopped

pub returns-clause-stopped : goal.returns-clause-stopped
returns-clause-stopped c =
    let earlier = map (λ image. image.items) c.args.earlier.now in
    let world = c.in_ok-world.world.shapes in
    let loaded : AreLoaded (api_world c.args.binding.now) earlier world
    = subst (λ first. AreLoaded first earlier world) c.in_ok-first.ensures.made c.in_ok-world.ensures.loaded in
    IfErr-weaker c.link_image.result _ _ (λ why unlinked. last_stopped _ world earlier _ why loaded unlinked) c.link_image.ensures.unlinked
