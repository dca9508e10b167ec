use Rattle.jc_natives.proofs.laws.members_are_declared.Goals as goal

pub returns : goal.returns
returns c = λ world built. (c.built_worlds_stand_on_the_api.ensures world built).types
