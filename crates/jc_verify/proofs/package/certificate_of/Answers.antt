use Rattle.std.proofs.Common.{rules, length, subst, sym}
use Rattle.std.proofs.lemmas.List.Sorted.{IsNonDecreasingBy-from_sort_by_key, IsPermutation-map}
use Rattle.jc_cert.specs.Cert.{IsCert, row, rows}
use Rattle.jc_cert.specs.declared.cert.MethodStates.{MethodStates}
use Rattle.jc_check.specs.Checked.{CarriesPackage}
use Rattle.jc_verify.specs.Inferred.{HasLeastStates, HasStatesWhereEntered}
use Rattle.jc_verify.proofs.Certifying.{is_cert}
use Rattle.jc_verify.proofs.Certified.{certified, least_states, where_entered}
use Rattle.jc_verify.proofs.Fewer.{fewer}
use Rattle.jc_verify.proofs.Visiting.{holds, is_some_unless}
use Rattle.jc_verify.specs.PrivateTurns.{AreCounted}
use Rattle.jc_verify.proofs.Tallying.{counted_permuted}
use Rattle.jc_verify.proofs.package.certificate_of.Goals as goal

pub unwrap-requires : goal.unwrap-requires
unwrap-requires c =
    let order = IsPermutation-map row c.args.methods.items c.sort_unstable_by_key.new.self.items c.sort_unstable_by_key.ensures.permutation in
    let ascend = IsNonDecreasingBy-from_sort_by_key (λ (m : MethodStates). m.offset) _ c.sort_unstable_by_key.ensures.sorted (λ a r q k. search rules) in
    let few = fewer c.args.linked.now.body.kept.methods c.requires.fit.apart in
    is_some_unless c.new.result _ c.new.ensures.none (is_cert c.args.linked.now (rows c.args.methods.items) c.sort_unstable_by_key.new.self.items c.requires.gathered order ascend c.requires.fit few)

pub returns-clause-carried : goal.returns-clause-carried
returns-clause-carried c =
    let order = IsPermutation-map row c.args.methods.items c.sort_unstable_by_key.new.self.items c.sort_unstable_by_key.ensures.permutation in
    let made = holds c.new.result _ c.unwrap.result c.unwrap.ensures c.new.ensures.made in
    subst (CarriesPackage c.args.linked.now) (sym made) (certified c.args.linked.now c.requires.fit.apart (rows c.args.methods.items) (rows c.sort_unstable_by_key.new.self.items) order c.requires.gathered)

pub returns-clause-entered : goal.returns-clause-entered
returns-clause-entered c =
    let order = IsPermutation-map row c.args.methods.items c.sort_unstable_by_key.new.self.items c.sort_unstable_by_key.ensures.permutation in
    let made = holds c.new.result _ c.unwrap.result c.unwrap.ensures c.new.ensures.made in
    subst (HasStatesWhereEntered c.args.linked.now) (sym made) (where_entered c.args.linked.now c.requires.fit.apart (rows c.args.methods.items) (rows c.sort_unstable_by_key.new.self.items) order c.requires.gathered)

pub returns-clause-least : goal.returns-clause-least
returns-clause-least c =
    let order = IsPermutation-map row c.args.methods.items c.sort_unstable_by_key.new.self.items c.sort_unstable_by_key.ensures.permutation in
    let made = holds c.new.result _ c.unwrap.result c.unwrap.ensures c.new.ensures.made in
    subst (HasLeastStates c.args.linked.now) (sym made) (least_states c.args.linked.now c.requires.fit.apart (rows c.args.methods.items) (rows c.sort_unstable_by_key.new.self.items) order c.requires.gathered)

pub returns-clause-counted : goal.returns-clause-counted
returns-clause-counted c count counted =
    let l = c.args.linked.now in
    let before = c.args.methods.items in
    let put = c.sort_unstable_by_key.new.self.items in
    let order = IsPermutation-map row before put c.sort_unstable_by_key.ensures.permutation in
    let made = holds c.new.result _ c.unwrap.result c.unwrap.ensures c.new.ensures.made in
    let n = length l.body.kept.methods in
    subst (λ rs. AreCounted l n rs count) (sym made) (counted_permuted l n (rows before) (rows put) count order counted)

pub returns-clause-cert : goal.returns-clause-cert
returns-clause-cert c =
    let l = c.args.linked.now in
    let before = c.args.methods.items in
    let put = c.sort_unstable_by_key.new.self.items in
    let sorted = c.sort_unstable_by_key.ensures in
    let order = IsPermutation-map row before put sorted.permutation in
    let by_offset = λ (m : MethodStates). m.offset in
    let ascend = IsNonDecreasingBy-from_sort_by_key by_offset _ sorted.sorted (λ a r q k. search rules) in
    let few = fewer l.body.kept.methods c.requires.fit.apart in
    let made = holds c.new.result _ c.unwrap.result c.unwrap.ensures c.new.ensures.made in
    subst IsCert (sym made) (is_cert l (rows before) put c.requires.gathered order ascend c.requires.fit few)
